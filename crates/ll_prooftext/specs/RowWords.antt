-- The first words of lines, and what a line behind the first one says.
use Rattle.std.specs.Prelude.{◌≡◌, ℕ, ◌+◌, ◌-◌, ◌<◌, ◌≤◌, ◌^◌, Bool, true, false, List, ◌++◌, length, map, All, IsTrue, Option, Some, None, codes, decimal}
use Rattle.std.specs.Prelude.{if◌then◌else◌, ◌==◌}
use Rattle.std.specs.List.{list_all}
use Rattle.ll_bank.specs.Nodes.{Nodes, term_tree}
use Rattle.ll_laws.specs.Line.{rises, part_rises}
use Rattle.ll_laws.specs.ProofText.{field, term_field, node_text}
use Rattle.ll_laws.specs.ShownLines.{line_of, part_line}
use Rattle.ll_laws.specs.declared.Rule.{Rule}
use Rattle.ll_laws.specs.declared.Rule.TheVariants as rule
use Rattle.ll_prooftext.specs.declared.rows.NodeWord.{NodeWord}
use Rattle.ll_prooftext.specs.declared.rows.NodeWord.TheVariants as word
use Rattle.ll_prooftext.specs.declared.rows.RowWord.{RowWord}
use Rattle.ll_prooftext.specs.declared.rows.RowWord.TheVariants as first
use Rattle.ll_prooftext.specs.declared.rows.Row.{Row}
use Rattle.ll_prooftext.specs.declared.rows.Row.TheVariants as row
use Rattle.ll_prooftext.specs.declared.rows.Refusal.{Refusal}
use Rattle.ll_prooftext.specs.declared.rows.Refusal.TheVariants as refusal
use Rattle.ll_prooftext.specs.Admitted.{AreLabels, IsSpelledPart}
use Rattle.ll_prooftext.specs.Reading.{Want, Nothing, Then, Arguments, Set, Number, Argument, listed, node_words, want, first_word, HasBadField}
use Rattle.ll_prooftext.specs.Terms.{MovesLine, IsSpelledAt}

-- ---- first words

-- how the first word of a node's line is spelled
abbrev pub spelling : NodeWord → List ℕ
spelling word.True = codes "true"
spelling word.Erase = codes "erase"
spelling word.Tensor = codes "tensor"
spelling word.With = codes "with"
spelling word.Left = codes "left"
spelling word.Right = codes "right"
spelling word.Bang = codes "bang"
spelling word.Lolli = codes "lolli"
spelling word.Imp = codes "imp"
spelling word.Forall = codes "forall"
spelling word.Exists = codes "exists"
spelling word.Use = codes "use"
spelling word.Num = codes "num"
spelling word.Clause = codes "clause"

-- what follows it
abbrev pub asks : NodeWord → Want
asks word.Tensor = Then Set (Then Set Nothing)
asks word.Lolli = Then Number Nothing
asks word.Imp = Then Number Nothing
asks word.Forall = Then Number Nothing
asks word.Exists = Then Argument Nothing
asks word.Clause = Then Number (Then Number Arguments)
asks word.True = Nothing
asks word.Erase = Nothing
asks word.With = Nothing
asks word.Left = Nothing
asks word.Right = Nothing
asks word.Bang = Nothing
asks word.Use = Nothing
asks word.Num = Nothing

-- at most a number follows the first word
abbrev pub is_short : NodeWord → Bool
is_short word.Tensor = false
is_short word.Exists = false
is_short word.Clause = false
is_short _ = true

-- the first word of a node's line
pub record IsNodeWord (w : List ℕ) (k : NodeWord) : Type 0 where
  pub is : w ≡ spelling k
  pub known : listed node_words w ≡ Some (asks k)

-- how a first word is spelled, and what follows it
abbrev pub row_spelling : RowWord → List ℕ
row_spelling first.Let = codes "let"
row_spelling (first.Node k) = spelling k

abbrev pub row_asks : RowWord → Want
row_asks first.Let = Then Argument Nothing
row_asks (first.Node k) = asks k

-- a first word that may stand here
pub record IsRowWord (lets : Bool) (w : List ℕ) (k : RowWord) : Type 0 where
  pub is : w ≡ row_spelling k
  pub known : want lets w ≡ Some (row_asks k)

-- ---- lines

-- the rule, with its places in the bank, is one that a text can spell
abbrev pub IsGoodRule : List (List ℕ) → Nodes → Rule → Type 0
IsGoodRule names bank (rule.Tensor s t) = (AreLabels s.items × AreLabels t.items) × (IsTrue (rises s.items) × IsTrue (rises t.items))
IsGoodRule names bank (rule.Lolli n) = n < 2 ^ 32
IsGoodRule names bank (rule.Imp n) = n < 2 ^ 32
IsGoodRule names bank (rule.Forall n) = n < 2 ^ 32
IsGoodRule names bank (rule.Exists t) = IsSpelledAt names bank t.0
IsGoodRule names bank (rule.Clause n k ts ps) =
    ((n < 2 ^ 32) × (k < 2 ^ 32)) × (All (λ a. IsSpelledAt names bank a.0) ts.items
    × (All IsSpelledPart (map part_line ps.items) × (list_all part_rises (map part_line ps.items) ≡ true)))
IsGoodRule names bank rule.One = Unit {0}
IsGoodRule names bank rule.Erase = Unit {0}
IsGoodRule names bank rule.With = Unit {0}
IsGoodRule names bank rule.Left = Unit {0}
IsGoodRule names bank rule.Right = Unit {0}
IsGoodRule names bank rule.Bang = Unit {0}
IsGoodRule names bank rule.Use = Unit {0}
IsGoodRule names bank rule.Num = Unit {0}

-- the line of a node
pub record IsNodeRow (names : List (List ℕ)) (bank : Nodes) (bytes : List ℕ) (new : List (List ℕ)) (over : Nodes) (r : Rule) : Type 0 where
  pub good : IsGoodRule new over r
  pub is : bytes ≡ node_text new (line_of over r)
  pub moves : MovesLine names bank bytes new over

-- the line of a node without terms, over any names and terms
abbrev pub IsShortRow : List ℕ → Rule → Type 0
IsShortRow bytes r = (names : List (List ℕ)) (bank : Nodes) → IsNodeRow names bank bytes names bank r

-- the rule of a first word and the number behind it
pub record IsNumberedRule (k : NodeWord) (n : ℕ) (r : Rule) : Type 0 where
  pub good : (names : List (List ℕ)) (bank : Nodes) → n < 2 ^ 32 → IsGoodRule names bank r
  pub is : (names : List (List ℕ)) (bank : Nodes) → node_text names (line_of bank r) ≡ spelling k ++ field (decimal n)

-- the rule of a first word behind which nothing stands
pub record IsBareRule (k : NodeWord) (r : Rule) : Type 0 where
  pub good : (names : List (List ℕ)) (bank : Nodes) → IsGoodRule names bank r
  pub is : (names : List (List ℕ)) (bank : Nodes) → spelling k ≡ node_text names (line_of bank r)

-- the line of a variable of the query, where it may stand
pub record IsLetRow (names : List (List ℕ)) (bank : Nodes) (bytes : List ℕ) (lets : Bool) (new : List (List ℕ)) (over : Nodes) (at : ℕ) : Type 0 where
  pub may : lets ≡ true
  pub good : IsSpelledAt new over at
  pub is : bytes ≡ codes "let" ++ term_field new (term_tree over at)
  pub moves : MovesLine names bank bytes new over

-- what a line says
abbrev pub IsRow : List (List ℕ) → Nodes → List ℕ → Bool → List (List ℕ) → Nodes → Row → Type 0
IsRow names bank bytes lets new over (row.Let at) = IsLetRow names bank bytes lets new over at.0
IsRow names bank bytes lets new over (row.Node r) = IsNodeRow names bank bytes new over r

-- ---- refusals

-- the column of a wrong or lacking field in a line of so many bytes, of which so many are left behind the good fields
abbrev pub bad_column : ℕ → ℕ → ℕ
bad_column all left = all - left + (if left == 0 then 1 else 2)

-- a field is wrong or lacks, where so many bytes are left
pub record HasBadLeft (wants : List ℕ → Option Want) (bytes : List ℕ) (left : ℕ) : Type 0 where
  pub within : left ≤ length bytes
  pub bad : HasBadField wants bytes (bad_column (length bytes) left)

-- why a line was refused, where these are the first words and what follows them
abbrev pub IsRefused : (List ℕ → Option Want) → List ℕ → Refusal → Type 0
IsRefused wants bytes refusal.Word = wants (first_word bytes) ≡ None
IsRefused wants bytes (refusal.Field left) = HasBadLeft wants bytes left
IsRefused wants bytes refusal.OutOfMemory = Unit {0}
