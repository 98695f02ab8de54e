-- What a line says over a table of shared terms, as it is read.
use Rattle.std.specs.Prelude.{◌≡◌, ℕ, Bool, true, false, List, [], ◌∷◌, ◌++◌, length, Option, Some, codes}
use Rattle.ll_bank.specs.declared.Head.{Head}
use Rattle.ll_bank.specs.Term.{Term, app}
use Rattle.ll_bank.specs.Nodes.{Nodes, term_tree}
use Rattle.ll_laws.specs.ShownLines.{line_of}
use Rattle.ll_laws.specs.declared.Rule.{Rule}
use Rattle.ll_prooftext.specs.declared.rows.NodeWord.{NodeWord}
use Rattle.ll_prooftext.specs.declared.rows.NodeWord.TheVariants as word
use Rattle.ll_prooftext.specs.declared.shared_lines.LineWord.{LineWord}
use Rattle.ll_prooftext.specs.declared.shared_lines.LineWord.TheVariants as first
use Rattle.ll_prooftext.specs.declared.shared_lines.Line.{Line}
use Rattle.ll_prooftext.specs.declared.shared_lines.Line.TheVariants as line
use Rattle.ll_prooftext.specs.declared.shared_lines.Stage.{Stage}
use Rattle.ll_prooftext.specs.Reading.{Want, Nothing, Then, Number, Set, Cell, Row, Cells, listed}
use Rattle.ll_prooftext.specs.RowWords.{spelling, asks, IsGoodRule}
use Rattle.ll_prooftext.specs.Terms.{Moves, MovesLine, IsSpelledAt}
use Rattle.ll_prooftext.specs.Cells.{Stays}
use Rattle.ll_prooftext.specs.Sharing.{AreCells, IsShare, IsLet, IsStep}

-- ---- first words

-- the words of nodes behind so many rows, and what follows each
abbrev pub node_words_over : ℕ → List (List ℕ × Want)
node_words_over n =
    (codes "true", Nothing) ∷ (codes "erase", Nothing) ∷ (codes "tensor", Then Set (Then Set Nothing)) ∷ (codes "with", Nothing)
    ∷ (codes "left", Nothing) ∷ (codes "right", Nothing) ∷ (codes "bang", Nothing) ∷ (codes "lolli", Then Number Nothing) ∷ (codes "imp", Then Number Nothing)
    ∷ (codes "forall", Then Number Nothing) ∷ (codes "exists", Then (Cell n) Nothing) ∷ (codes "use", Nothing) ∷ (codes "num", Nothing)
    ∷ (codes "clause", Then Number (Then Number (Cells n))) ∷ []

-- `let` is one before the first node
abbrev pub let_words_over : ℕ → Bool → List (List ℕ × Want)
let_words_over n true = (codes "let", Then (Cell n) Nothing) ∷ node_words_over n
let_words_over n false = node_words_over n

-- what follows a word behind so many rows; `share` is one before the first `let` and the first node
abbrev pub want_over : ℕ → Bool → Bool → List ℕ → Option Want
want_over n true lets w = listed ((codes "share", Row n) ∷ let_words_over n lets) w
want_over n false lets w = listed (let_words_over n lets) w

-- what follows the first word of a node's line
abbrev pub asks_over : ℕ → NodeWord → Want
asks_over n word.Exists = Then (Cell n) Nothing
asks_over n word.Clause = Then Number (Then Number (Cells n))
asks_over n k = asks k

-- how a first word is spelled, and what follows it
abbrev pub line_spelling : LineWord → List ℕ
line_spelling first.Share = codes "share"
line_spelling first.Let = codes "let"
line_spelling (first.Node k) = spelling k

abbrev pub line_asks : ℕ → LineWord → Want
line_asks n first.Share = Row n
line_asks n first.Let = Then (Cell n) Nothing
line_asks n (first.Node k) = asks_over n k

-- the line may stand here
abbrev pub may_stand : Stage → LineWord → Type 0
may_stand stage first.Share = stage.shares ≡ true
may_stand stage first.Let = stage.lets ≡ true
may_stand stage (first.Node k) = Unit {0}

-- a first word that may stand here
pub record IsLineWord (stage : Stage) (w : List ℕ) (k : LineWord) : Type 0 where
  pub is : w ≡ line_spelling k
  pub may : may_stand stage k
  pub known : (n : ℕ) → want_over n stage.shares stage.lets w ≡ Some (line_asks n k)

-- ---- rows

-- the term of a head and the fields behind it
pub record IsSpineOver (rows : List Term) (names : List (List ℕ)) (bank : Nodes) (bytes : List ℕ) (head : Head) (new : List (List ℕ)) (over : Nodes) (at : ℕ) :
    Type 0 where
  pub good : IsSpelledAt new over at
  pub first : Term
  pub others : List Term
  pub tree : term_tree over at ≡ app head (first ∷ others)
  pub shown : Stays new (λ ns. AreCells ns rows (first ∷ others) bytes)
  pub moves : Moves names bank bytes new over []

-- the same where there are two fields
pub record IsPairOver (rows : List Term) (names : List (List ℕ)) (bank : Nodes) (bytes : List ℕ) (head : Head) (new : List (List ℕ)) (over : Nodes) (at : ℕ) :
    Type 0 where
  pub spine : IsSpineOver rows names bank bytes head new over at
  pub two : length spine.others ≡ 1

-- the term of a row, whose line has these fields
pub record IsShareOver (rows : List Term) (names : List (List ℕ)) (bank : Nodes) (bytes : List ℕ) (new : List (List ℕ)) (over : Nodes) (at : ℕ) : Type 0 where
  pub good : IsSpelledAt new over at
  pub shown : Stays new (λ ns. IsShare ns rows (term_tree over at) (codes "share" ++ bytes))
  pub moves : Moves names bank bytes new over []

-- ---- nodes

-- the rule of a node's line
pub record IsStepOver (rows : List Term) (names : List (List ℕ)) (bank : Nodes) (bytes : List ℕ) (new : List (List ℕ)) (over : Nodes) (r : Rule) : Type 0 where
  pub good : IsGoodRule new over r
  pub shown : Stays new (λ ns. IsStep ns rows (line_of over r) bytes)
  pub moves : MovesLine names bank bytes new over

-- what a clause step says in its fields
abbrev pub IsClauseOver : List Term → List (List ℕ) → Nodes → List ℕ → List (List ℕ) → Nodes → Rule → Type 0
IsClauseOver rows names bank bytes new over r = IsStepOver rows names bank (codes "clause" ++ bytes) new over r

-- ---- lines

pub record IsShareRow (rows : List Term) (names : List (List ℕ)) (bank : Nodes) (bytes : List ℕ) (new : List (List ℕ)) (over : Nodes) (at : ℕ) : Type 0 where
  pub good : IsSpelledAt new over at
  pub shown : Stays new (λ ns. IsShare ns rows (term_tree over at) bytes)
  pub moves : MovesLine names bank bytes new over

pub record IsLetOver (rows : List Term) (names : List (List ℕ)) (bank : Nodes) (bytes : List ℕ) (new : List (List ℕ)) (over : Nodes) (at : ℕ) : Type 0 where
  pub good : IsSpelledAt new over at
  pub shown : Stays new (λ ns. IsLet ns rows (term_tree over at) bytes)
  pub moves : MovesLine names bank bytes new over

-- what a line says where it may stand
abbrev pub IsLineOver : List Term → Stage → List (List ℕ) → Nodes → List ℕ → List (List ℕ) → Nodes → Line → Type 0
IsLineOver rows stage names bank bytes new over (line.Share at) = (stage.shares ≡ true) × IsShareRow rows names bank bytes new over at.0
IsLineOver rows stage names bank bytes new over (line.Let at) = (stage.lets ≡ true) × IsLetOver rows names bank bytes new over at.0
IsLineOver rows stage names bank bytes new over (line.Node r) = IsStepOver rows names bank bytes new over r
