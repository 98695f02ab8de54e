-- The lines of a text with a table of shared terms: what they say over the rows that stand in front.
use Rattle.std.specs.Prelude.{◌≡◌, ℕ, false, List, [], ◌∷◌, ◌++◌, length, IsTrue, Some, ◌⊎◌, slice_get, flat_map, codes, decimal}
use Rattle.ll_bank.specs.declared.Head.{Head}
use Rattle.ll_bank.specs.Term.{Term, app}
use Rattle.ll_laws.specs.Line.{Line, OneLine, EraseLine, TensorLine, WithLine, LeftLine, RightLine, BangLine, LolliLine, ImpLine, ForallLine, ExistsLine}
use Rattle.ll_laws.specs.Line.{UseLine, NumLine, ClauseLine}
use Rattle.ll_laws.specs.Output.{head_text, has_arguments, is_cons_head, term_text}
use Rattle.ll_laws.specs.ProofText.{field, part_field, node_text}
use Rattle.ll_prooftext.specs.Admitted.{IsPlainHead}

-- ---- fields

-- the text of a field stands for this term: one without arguments as it is printed, or a row by its number
pub data StandsFor (names : List (List ℕ)) (rows : List Term) (t : Term) (text : List ℕ) : Type 0 where
  itself : has_arguments t ≡ false → text ≡ term_text names t → StandsFor names rows t text
  by_row : (k : ℕ) → slice_get rows k ≡ Some t → text ≡ codes "@" ++ decimal k → StandsFor names rows t text

-- fields, a space before each, stand for these terms
pub data AreCells (names : List (List ℕ)) (rows : List Term) : List Term → List ℕ → Type 0 where
  no_cells : AreCells names rows [] []
  next_cell : {t : Term} {ts : List Term} {text rest : List ℕ} → StandsFor names rows t text → AreCells names rows ts rest
      → AreCells names rows (t ∷ ts) (32 ∷ text ++ rest)

-- ---- lines

-- the line of a row behind others: a head with arguments, of which `::` takes two
pub record IsShare (names : List (List ℕ)) (rows : List Term) (t : Term) (line : List ℕ) : Type 0 where
  pub head : Head
  pub first : Term
  pub others : List Term
  pub cells : List ℕ
  pub is : t ≡ app head (first ∷ others)
  pub fits : IsPlainHead names head ⊎ (IsTrue (is_cons_head names head) × (length others ≡ 1))
  pub shown : AreCells names rows (first ∷ others) cells
  pub text : line ≡ codes "share" ++ (field (head_text names head) ++ cells)

-- the lines of rows, each over those before it
pub data AreShares (names : List (List ℕ)) : List Term → List (List ℕ) → Type 0 where
  no_shares : {rows : List Term} {lines : List (List ℕ)} → rows ≡ [] → lines ≡ [] → AreShares names rows lines
  next_share : {rows : List Term} {lines : List (List ℕ)} → (before : List Term) (above : List (List ℕ)) (t : Term) (line : List ℕ)
      → AreShares names before above → IsShare names before t line → rows ≡ before ++ t ∷ [] → lines ≡ above ++ line ∷ [] → AreShares names rows lines

-- the line of a variable of the query
pub record IsLet (names : List (List ℕ)) (rows : List Term) (t : Term) (line : List ℕ) : Type 0 where
  pub text : List ℕ
  pub stands : StandsFor names rows t text
  pub is : line ≡ codes "let" ++ field text

pub record IsExists (names : List (List ℕ)) (rows : List Term) (t : Term) (line : List ℕ) : Type 0 where
  pub text : List ℕ
  pub stands : StandsFor names rows t text
  pub is : line ≡ codes "exists" ++ field text

-- a label, a leaf, terms, and the text of the premises
pub record IsClauseStep (names : List (List ℕ)) (rows : List Term) (label leaf : ℕ) (ts : List Term) (parts line : List ℕ) : Type 0 where
  pub cells : List ℕ
  pub shown : AreCells names rows ts cells
  pub is : line ≡ codes "clause" ++ (field (decimal label) ++ (field (decimal leaf) ++ (cells ++ parts)))

-- the line of a node
abbrev pub IsStep : List (List ℕ) → List Term → Line → List ℕ → Type 0
IsStep names rows (ExistsLine t) line = IsExists names rows t line
IsStep names rows (ClauseLine n k ts ps) line = IsClauseStep names rows n k ts (flat_map part_field ps) line
IsStep names rows OneLine line = line ≡ node_text [] OneLine
IsStep names rows EraseLine line = line ≡ node_text [] EraseLine
IsStep names rows (TensorLine s t) line = line ≡ node_text [] (TensorLine s t)
IsStep names rows WithLine line = line ≡ node_text [] WithLine
IsStep names rows LeftLine line = line ≡ node_text [] LeftLine
IsStep names rows RightLine line = line ≡ node_text [] RightLine
IsStep names rows BangLine line = line ≡ node_text [] BangLine
IsStep names rows (LolliLine n) line = line ≡ node_text [] (LolliLine n)
IsStep names rows (ImpLine n) line = line ≡ node_text [] (ImpLine n)
IsStep names rows (ForallLine c) line = line ≡ node_text [] (ForallLine c)
IsStep names rows UseLine line = line ≡ node_text [] UseLine
IsStep names rows NumLine line = line ≡ node_text [] NumLine

-- these lines are those of these things, one by one
abbrev pub AreEach : {X : Type 0} → (X → List ℕ → Type 0) → List X → List (List ℕ) → Type 0
AreEach P [] [] = Unit {0}
AreEach P (x ∷ xs) (l ∷ ls) = P x l × AreEach P xs ls
AreEach P [] (l ∷ ls) = ⊥
AreEach P (x ∷ xs) [] = ⊥
