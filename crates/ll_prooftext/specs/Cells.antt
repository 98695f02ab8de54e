-- Fields over a table of shared terms, as they are read.
use Rattle.std.specs.Prelude.{◌≡◌, ℕ, List, ◌∷◌, ◌++◌, length, All, Some, IsTrue, codes}
use Rattle.ll_bank.specs.declared.At.{At}
use Rattle.ll_bank.specs.declared.Head.{Head}
use Rattle.ll_bank.specs.Term.{Term}
use Rattle.ll_bank.specs.Nodes.{Nodes, term_tree, term_trees}
use Rattle.ll_laws.specs.Output.{head_text, is_cons_head}
use Rattle.ll_prooftext.specs.declared.cells.Front.{Front}
use Rattle.ll_prooftext.specs.declared.cells.Front.TheVariants as front
use Rattle.ll_prooftext.specs.Admitted.{IsPlainHead}
use Rattle.ll_prooftext.specs.Reading.{Want, Cell, Plain, Sign, after_field, Fields, IsAtEnd}
use Rattle.ll_prooftext.specs.Terms.{Grows, Moves, IsSpelledAt}
use Rattle.ll_prooftext.specs.Fields.{IsMissing, LacksField, HasNoTerm}
use Rattle.ll_prooftext.specs.Sharing.{StandsFor, AreCells}

-- it holds over the names, and over more
abbrev pub Stays : List (List ℕ) → (List (List ℕ) → Type 0) → Type 0
Stays names P = (new : List (List ℕ)) → Grows names new → P new

-- names and terms were added while a word was read that ends a field
abbrev pub MovesBy : List (List ℕ) → Nodes → List ℕ → List (List ℕ) → Nodes → Type 0
MovesBy names bank word new over = (rest : List ℕ) → IsAtEnd rest → Moves names bank (word ++ rest) new over rest

-- the place of the term that a word stands for
pub record IsCellOf (rows : List Term) (word : List ℕ) (names : List (List ℕ)) (bank : Nodes) (at : ℕ) : Type 0 where
  pub good : IsSpelledAt names bank at
  pub stands : Stays names (λ ns. StandsFor ns rows (term_tree bank at) word)

-- the term of a field at the front of the bytes, and what stands behind it
pub record IsCellField (rows : List Term) (names : List (List ℕ)) (bank : Nodes) (bytes : List ℕ) (new : List (List ℕ)) (over : Nodes) (at : ℕ) (rest : List ℕ)
    : Type 0 where
  pub text : List ℕ
  pub cell : IsCellOf rows text new over at
  pub is : bytes ≡ 32 ∷ text ++ rest
  pub end : IsAtEnd rest
  pub moves : Moves names bank bytes new over rest

-- the terms of fields up to here
pub record AreCellFields (rows : List Term) (names : List (List ℕ)) (bank : Nodes) (bytes : List ℕ) (new : List (List ℕ)) (over : Nodes) (terms : List At)
    (rest : List ℕ) : Type 0 where
  pub text : List ℕ
  pub good : All (λ a. IsSpelledAt new over a.0) terms
  pub cells : Stays new (λ ns. AreCells ns rows (term_trees over terms) text)
  pub fields : (v : Want) → after_field v (Cell (length rows)) ≡ Some v → Fields v text v
  pub is : bytes ≡ text ++ rest
  pub end : IsAtEnd rest
  pub moves : Moves names bank bytes new over rest

-- behind good fields, and where neither the line ends nor a premise begins, one is no term and no row
pub record StopsAtCell (rows : ℕ) (bytes : List ℕ) (left : ℕ) : Type 0 where
  pub good : List ℕ
  pub rest : List ℕ
  pub is : bytes ≡ good ++ rest
  pub fields : (v : Want) → after_field v (Cell rows) ≡ Some v → Fields v good v
  pub goes_on : HasNoTerm rest → ⊥
  pub lacks : LacksField (Cell rows) rest left

-- the head is the sign `::`
pub record IsSignHead (names : List (List ℕ)) (h : Head) : Type 0 where
  pub cons : IsTrue (is_cons_head names h)
  pub text : head_text names h ≡ codes "::"

-- the head that is spelled so
abbrev pub IsFrontOf : List ℕ → List (List ℕ) → Front → Type 0
IsFrontOf word names (front.Plain h) = IsPlainHead names h × (head_text names h ≡ word)
IsFrontOf word names (front.Sign h) = (word ≡ codes "::") × Stays names (λ ns. IsSignHead ns h)

-- a head at the front of the bytes, and what stands behind it
pub record IsFrontField (names : List (List ℕ)) (bank : Nodes) (bytes : List ℕ) (new : List (List ℕ)) (over : Nodes) (f : Front) (rest : List ℕ) : Type 0 where
  pub text : List ℕ
  pub front : IsFrontOf text new f
  pub is : bytes ≡ 32 ∷ text ++ rest
  pub end : IsAtEnd rest
  pub moves : Moves names bank bytes new over rest

-- no head stands behind a space
pub record LacksFront (bytes : List ℕ) (left : ℕ) : Type 0 where
  pub left_is : left ≡ length bytes
  pub plain : IsMissing Plain bytes
  pub sign : IsMissing Sign bytes
