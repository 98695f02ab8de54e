-- What a text is read as: a derivation, or its first fault.
use Rattle.std.specs.Prelude.{◌≡◌, ℕ, zero, suc, ◌+◌, ◌<◌, ◌^◌, Bool, true, false, ◌==◌, List, [], ◌∷◌, ◌++◌, length, map, All, Option, Some, None}
use Rattle.std.specs.Prelude.{if◌then◌else◌, IsTrue, ◌⊎◌, codes, decimal, ℤ, FitsSigned}
use Rattle.std.specs.Fmt.{signed_decimal}
use Rattle.std.specs.Int.{w64}
use Rattle.std.specs.List.{list_all}
use Rattle.std.specs.Str.{bytes_eq}
use Rattle.ll_bank.specs.declared.Head.{Head}
use Rattle.ll_bank.specs.Term.{Term, is_closed}
use Rattle.ll_lexer.specs.declared.Fault.{Fault}
use Rattle.ll_lexer.specs.declared.TextFault.{TextFault}
use Rattle.ll_lexer.specs.declared.TextFault.TheVariants as fault
use Rattle.ll_lexer.specs.Reading.{place_at}
use Rattle.ll_laws.specs.Output.{head_text, has_arguments, term_text, argument_text}
use Rattle.ll_laws.specs.Line.{Line, OneLine, EraseLine, TensorLine, WithLine, LeftLine, RightLine, BangLine, LolliLine, ImpLine, ForallLine, ExistsLine}
use Rattle.ll_laws.specs.Line.{UseLine, NumLine, ClauseLine, DerivationLines, rises, is_line}
use Rattle.ll_laws.specs.ProofText.{term_field, set_text, node_text, proof_text}
use Rattle.ll_prooftext.specs.Admitted.{AreLabels, IsPlainHead, IsSpelledTerm, IsSpelledLine, IsSpelled}

-- ---- the texts of derivations

-- the text of the derivation, with or without the last LF
pub record IsTextOf (names : List (List ℕ)) (text : List ℕ) (d : DerivationLines) : Type 0 where
  pub spelled : IsSpelled names d
  pub is : (text ≡ proof_text names d) ⊎ (text ++ 10 ∷ [] ≡ proof_text names d)

-- ---- lines

-- a byte in front of a first line
abbrev pub add_byte : ℕ → List (List ℕ) → List (List ℕ)
add_byte b [] = (b ∷ []) ∷ []
add_byte b (l ∷ ls) = (b ∷ l) ∷ ls

-- the lines of a text, without LF: each ends with one, which the last may lack
abbrev pub text_lines : List ℕ → List (List ℕ)
text_lines [] = []
text_lines (b ∷ bs) = if b == 10 then [] ∷ text_lines bs else add_byte b (text_lines bs)

-- the first word of a line: its bytes up to the first space or the end
abbrev pub first_word : List ℕ → List ℕ
first_word [] = []
first_word (b ∷ bs) = if b == 32 then [] else b ∷ first_word bs

-- ---- fields

-- the kinds of fields: a number, a set of labels, a term, and the mark of an unbounded premise; and, where a table of terms stands in front,
-- a term without arguments or a row below a number, a head, and the sign `::`
pub data Kind : Type 0 where
  Number Set Argument Mark Plain Sign : Kind
  Cell : ℕ → Kind

-- a number of so many bits, in decimal and without leading zeros
pub record IsDecimal (bits : ℕ) (text : List ℕ) : Type 0 where
  pub number : ℕ
  pub small : number < 2 ^ bits
  pub is : text ≡ decimal number

-- a label, a leaf, or the number of an eigenvariable
abbrev pub IsNumber : List ℕ → Type 0
IsNumber text = IsDecimal 32 text

-- a whole number as it is printed
pub record IsInteger (text : List ℕ) : Type 0 where
  pub value : ℤ
  pub fits : FitsSigned w64 value
  pub is : text ≡ signed_decimal value

-- a set of labels
pub record IsSet (text : List ℕ) : Type 0 where
  pub labels : List ℕ
  pub small : AreLabels labels
  pub rising : IsTrue (rises labels)
  pub is : text ≡ set_text labels

-- a term as it is printed as an argument, with some names
pub record IsArgument (text : List ℕ) : Type 0 where
  pub names : List (List ℕ)
  pub term : Term
  pub spelled : IsSpelledTerm names term
  pub closed : IsTrue (is_closed term)
  pub is : text ≡ argument_text term (term_text names term)

-- a term without arguments, with some names
pub record IsBare (text : List ℕ) : Type 0 where
  pub names : List (List ℕ)
  pub term : Term
  pub spelled : IsSpelledTerm names term
  pub bare : has_arguments term ≡ false
  pub is : text ≡ term_text names term

-- the number of a row below this one
pub record IsRowBelow (rows : ℕ) (text : List ℕ) : Type 0 where
  pub number : ℕ
  pub below : number < rows
  pub is : text ≡ codes "@" ++ decimal number

-- a head that may stand in front of any number of arguments, with some names
pub record IsPlain (text : List ℕ) : Type 0 where
  pub names : List (List ℕ)
  pub head : Head
  pub plain : IsPlainHead names head
  pub is : text ≡ head_text names head

-- the text of a field of this kind
abbrev pub IsField : Kind → List ℕ → Type 0
IsField Number text = IsNumber text
IsField Set text = IsSet text
IsField Argument text = IsArgument text
IsField Mark text = text ≡ codes "!"
IsField Plain text = IsPlain text
IsField Sign text = text ≡ codes "::"
IsField (Cell rows) text = IsBare text ⊎ IsRowBelow rows text

-- ---- what a line asks for

-- what may still follow in a line: nothing, a field and more, any number of terms and then of premises, any number of premises; and, behind
-- so many rows of a table, a head with its arguments, any number of arguments, and any number of terms and then of premises
pub data Want : Type 0 where
  Nothing Arguments Premises : Want
  Row More Cells : ℕ → Want
  Then : Kind → Want → Want

-- the words of nodes, and what follows each
abbrev pub node_words : List (List ℕ × Want)
node_words =
    (codes "true", Nothing) ∷ (codes "erase", Nothing) ∷ (codes "tensor", Then Set (Then Set Nothing)) ∷ (codes "with", Nothing)
    ∷ (codes "left", Nothing) ∷ (codes "right", Nothing) ∷ (codes "bang", Nothing) ∷ (codes "lolli", Then Number Nothing) ∷ (codes "imp", Then Number Nothing)
    ∷ (codes "forall", Then Number Nothing) ∷ (codes "exists", Then Argument Nothing) ∷ (codes "use", Nothing) ∷ (codes "num", Nothing)
    ∷ (codes "clause", Then Number (Then Number Arguments)) ∷ []

-- what follows a word by a list of words
abbrev pub listed : List (List ℕ × Want) → List ℕ → Option Want
listed [] w = None
listed (entry ∷ more) w = if bytes_eq entry.0 w then Some entry.1 else listed more w

-- what follows a word; `let` is one before the first node
abbrev pub want : Bool → List ℕ → Option Want
want true w = listed ((codes "let", Then Argument Nothing) ∷ node_words) w
want false w = listed node_words w

-- what may follow a field of this kind, if it may stand there
abbrev pub after_field : Want → Kind → Option Want
after_field Nothing k = None
after_field Arguments Number = None
after_field Arguments Set = Some Premises
after_field Arguments Argument = Some Arguments
after_field Arguments Mark = Some Premises
after_field Arguments Plain = None
after_field Arguments Sign = None
after_field Arguments (Cell j) = None
after_field Premises Number = None
after_field Premises Set = Some Premises
after_field Premises Argument = None
after_field Premises Mark = Some Premises
after_field Premises Plain = None
after_field Premises Sign = None
after_field Premises (Cell j) = None
after_field (Row n) Number = None
after_field (Row n) Set = None
after_field (Row n) Argument = None
after_field (Row n) Mark = None
after_field (Row n) Plain = Some (Then (Cell n) (More n))
after_field (Row n) Sign = Some (Then (Cell n) (Then (Cell n) Nothing))
after_field (Row n) (Cell j) = None
after_field (More n) Number = None
after_field (More n) Set = None
after_field (More n) Argument = None
after_field (More n) Mark = None
after_field (More n) Plain = None
after_field (More n) Sign = None
after_field (More n) (Cell j) = if n == j then Some (More n) else None
after_field (Cells n) Number = None
after_field (Cells n) Set = Some Premises
after_field (Cells n) Argument = None
after_field (Cells n) Mark = Some Premises
after_field (Cells n) Plain = None
after_field (Cells n) Sign = None
after_field (Cells n) (Cell j) = if n == j then Some (Cells n) else None
after_field (Then Number v) Number = Some v
after_field (Then Set v) Set = Some v
after_field (Then Argument v) Argument = Some v
after_field (Then Mark v) Mark = Some v
after_field (Then Plain v) Plain = Some v
after_field (Then Sign v) Sign = Some v
after_field (Then (Cell n) v) (Cell j) = if n == j then Some v else None
after_field (Then k v) j = None

-- the line may end here
abbrev pub may_end : Want → Bool
may_end (Then k v) = false
may_end (Row n) = false
may_end _ = true

-- these bytes are fields, a space before each, and leave this to follow
pub data Fields : Want → List ℕ → Want → Type 0 where
  none : {v : Want} → Fields v [] v
  one : {v : Want} {rest : List ℕ} {u : Want} → (k : Kind) (field : List ℕ) (next : Want) → after_field v k ≡ Some next → IsField k field → Fields next rest u
      → Fields v (32 ∷ field ++ rest) u

-- a field ends here: at the end of the line or at a space
pub data IsAtEnd : List ℕ → Type 0 where
  line_end : IsAtEnd []
  space : {rest : List ℕ} → IsAtEnd (32 ∷ rest)

-- no field that may stand here begins these bytes
abbrev pub HasNoField : Want → List ℕ → Type 0
HasNoField v bytes = (k : Kind) (field rest : List ℕ) (next : Want) → after_field v k ≡ Some next → IsField k field → bytes ≡ field ++ rest → IsAtEnd rest → ⊥

-- what is wrong behind n bytes of good fields: a field lacks, or what stands there is none; and the column of the fault
pub data IsStop : Want → ℕ → List ℕ → ℕ → Type 0 where
  lacks : {v : Want} {n : ℕ} → may_end v ≡ false → IsStop v n [] (n + 1)
  no_field : {v : Want} {n : ℕ} {bytes : List ℕ} → HasNoField v bytes → IsStop v n (32 ∷ bytes) (n + 2)

-- the fields of the line are wrong, first at this column, where these are the first words and what follows them
pub record HasBadField (wants : List ℕ → Option Want) (bytes : List ℕ) (column : ℕ) : Type 0 where
  pub word : List ℕ
  pub good : List ℕ
  pub rest : List ℕ
  pub asked : Want
  pub left : Want
  pub is : bytes ≡ word ++ (good ++ rest)
  pub known : wants word ≡ Some asked
  pub fields : Fields asked good left
  pub stop : IsStop left (length word + length good) rest column

-- ---- whole texts

-- how many nodes stand under a node
abbrev pub children : Line → ℕ
children OneLine = 0
children EraseLine = 0
children NumLine = 0
children (TensorLine s t) = 2
children WithLine = 2
children (ClauseLine n k ts ps) = length ps
children LeftLine = 1
children RightLine = 1
children BangLine = 1
children UseLine = 1
children (LolliLine n) = 1
children (ImpLine n) = 1
children (ForallLine c) = 1
children (ExistsLine t) = 1

-- how many nodes are still missing behind nodes, where so many were before them; none where a node was left over
abbrev pub missing : ℕ → List Line → Option ℕ
missing k [] = Some k
missing zero (n ∷ ns) = None
missing (suc k) (n ∷ ns) = missing (children n + k) ns

-- the first lines are those of a derivation that lacks so many nodes
pub record Begins (lines rest : List (List ℕ)) (lacking : ℕ) : Type 0 where
  pub names : List (List ℕ)
  pub asked : List Term
  pub nodes : List Line
  pub is : lines ≡ codes "proof 1" ∷ (map (λ t. codes "let" ++ term_field names t) asked ++ (map (node_text names) nodes ++ rest))
  pub closed : IsTrue (list_all is_closed asked)
  pub ordered : IsTrue (list_all is_line nodes)
  pub spelled_terms : All (IsSpelledTerm names) asked
  pub spelled_nodes : All (IsSpelledLine names) nodes
  pub still : missing 1 nodes ≡ Some lacking

-- the list is empty
abbrev pub is_none : {X : Type 0} → List X → Bool
is_none [] = true
is_none (x ∷ xs) = false

-- the number of the line behind these first lines
abbrev pub next_line : {lines rest : List (List ℕ)} {k : ℕ} → Begins lines rest k → ℕ
next_line b = length b.asked + length b.nodes + 2

-- no first line, or another one
abbrev pub HasNoVersion : List ℕ → List (List ℕ) → Type 0
HasNoVersion first lines = (rest : List (List ℕ)) → lines ≡ first ∷ rest → ⊥

-- the first fault of the text: line by line, and in a line from its front
pub data HasFault (text : List ℕ) : Fault → Type 0 where
  version : HasNoVersion (codes "proof 1") (text_lines text) → HasFault text (record { at = record { line = 1; column = 1 }; kind = 14 })
  unknown_word : (bytes : List ℕ) (more : List (List ℕ)) (k : ℕ) (b : Begins (text_lines text) (bytes ∷ more) (suc k))
      → want (is_none b.nodes) (first_word bytes) ≡ None
      → HasFault text (record { at = record { line = next_line b; column = 1 }; kind = 13 })
  bad_field : (bytes : List ℕ) (more : List (List ℕ)) (k column : ℕ) (b : Begins (text_lines text) (bytes ∷ more) (suc k))
      → HasBadField (want (is_none b.nodes)) bytes column
      → HasFault text (record { at = record { line = next_line b; column = column }; kind = 14 })
  nodes_missing : (k : ℕ) → Begins (text_lines text) [] (suc k) → HasFault text (record { at = place_at text (length text); kind = 15 })
  left_over : (bytes : List ℕ) (more : List (List ℕ)) (b : Begins (text_lines text) (bytes ∷ more) 0)
      → HasFault text (record { at = record { line = next_line b; column = 1 }; kind = 16 })

-- why the text was not read: its first fault, or that memory ran out
abbrev pub IsCause : List ℕ → TextFault → Type 0
IsCause text (fault.Text f) = HasFault text f
IsCause text fault.OutOfMemory = Unit {0}
