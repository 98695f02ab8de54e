-- Derivations whose names have other numbers, and those that have the same texts over other names.
use Rattle.std.specs.Prelude.{◌≡◌, ◌<◌, ℕ, List, ◌++◌, length, map, Contains, All}
use Rattle.ll_bank.specs.declared.Head.{Head}
use Rattle.ll_bank.specs.declared.Head.TheVariants.{Name, Eigen, Bound}
use Rattle.ll_bank.specs.Term.{Term, Var, Int, Con, Ap}
use Rattle.ll_laws.specs.Line.{Line, OneLine, EraseLine, TensorLine, WithLine, LeftLine, RightLine, BangLine, UseLine, LolliLine}
use Rattle.ll_laws.specs.Line.{ImpLine, ForallLine, ExistsLine, ClauseLine, DerivationLines, NumLine}
use Rattle.ll_laws.specs.ProofText.{proof_text}
use Rattle.ll_laws.specs.Shows.{Tree, OneNode, EraseNode, TensorNode, WithNode, LeftNode, RightNode, BangNode, LolliNode, ImpNode, ForallNode, ExistsNode}
use Rattle.ll_laws.specs.Shows.{UseNode, ClauseNode, NumNode, Parts, NoParts, BoundedPart, UnboundedPart}
use Rattle.ll_prooftext.specs.Admitted.{IsSpelled}
use Rattle.ll_prooftext.specs.ProofText2.{proof_text2}

-- ---- other numbers

-- the numbers that names get
abbrev pub Numbers : Type 0
Numbers = ℕ → ℕ

-- a head, a term, a node and a derivation with these numbers for their names
abbrev pub moved_head : Numbers → Head → Head
moved_head r (Name n) = Name (r n)
moved_head r (Eigen n) = Eigen n
moved_head r (Bound n) = Bound n

abbrev pub moved : Numbers → Term → Term
moved r (Var n) = Var n
moved r (Int z) = Int z
moved r (Con h) = Con (moved_head r h)
moved r (Ap f a) = Ap (moved r f) (moved r a)

abbrev pub moved_line : Numbers → Line → Line
moved_line r (ExistsLine t) = ExistsLine (moved r t)
moved_line r (ClauseLine n k ts ps) = ClauseLine n k (map (moved r) ts) ps
moved_line r OneLine = OneLine
moved_line r EraseLine = EraseLine
moved_line r (TensorLine s t) = TensorLine s t
moved_line r WithLine = WithLine
moved_line r LeftLine = LeftLine
moved_line r RightLine = RightLine
moved_line r BangLine = BangLine
moved_line r (LolliLine n) = LolliLine n
moved_line r (ImpLine n) = ImpLine n
moved_line r (ForallLine c) = ForallLine c
moved_line r UseLine = UseLine
moved_line r NumLine = NumLine

abbrev pub moved_derivation : Numbers → DerivationLines → DerivationLines
moved_derivation r d = record { asked = map (moved r) d.asked; nodes = map (moved_line r) d.nodes }

-- a tree with these numbers for its names
abbrev mutual
  pub moved_tree : Numbers → Tree → Tree
  moved_tree r OneNode = OneNode
  moved_tree r EraseNode = EraseNode
  moved_tree r NumNode = NumNode
  moved_tree r (TensorNode s t x y) = TensorNode s t (moved_tree r x) (moved_tree r y)
  moved_tree r (WithNode x y) = WithNode (moved_tree r x) (moved_tree r y)
  moved_tree r (LeftNode x) = LeftNode (moved_tree r x)
  moved_tree r (RightNode x) = RightNode (moved_tree r x)
  moved_tree r (BangNode x) = BangNode (moved_tree r x)
  moved_tree r (LolliNode n x) = LolliNode n (moved_tree r x)
  moved_tree r (ImpNode n x) = ImpNode n (moved_tree r x)
  moved_tree r (ForallNode c x) = ForallNode c (moved_tree r x)
  moved_tree r (ExistsNode t x) = ExistsNode (moved r t) (moved_tree r x)
  moved_tree r (UseNode x) = UseNode (moved_tree r x)
  moved_tree r (ClauseNode n k ts ps) = ClauseNode n k (map (moved r) ts) (moved_parts r ps)

  pub moved_parts : Numbers → Parts → Parts
  moved_parts r NoParts = NoParts
  moved_parts r (BoundedPart s x ps) = BoundedPart s (moved_tree r x) (moved_parts r ps)
  moved_parts r (UnboundedPart x ps) = UnboundedPart (moved_tree r x) (moved_parts r ps)

-- ---- other names

-- each of the names is one of the others
abbrev pub AreAmong : List (List ℕ) → List (List ℕ) → Type 0
AreAmong names others = All (λ w. Contains others w) names

-- Some derivation has over the others the texts that this one has over its names. It is this one with other numbers for its names; no two numbers
-- become one, and those of names that stand in front of both lists stay.
pub record HasTwin (names others : List (List ℕ)) (d : DerivationLines) : Type 0 where
  pub numbers : Numbers
  pub apart : (m n : ℕ) → numbers m ≡ numbers n → m ≡ n
  pub stay : (front more rest : List (List ℕ)) → names ≡ front ++ more → others ≡ front ++ rest → (n : ℕ) → n < length front → numbers n ≡ n
  pub twin : DerivationLines
  pub is : twin ≡ moved_derivation numbers d
  pub spelled : IsSpelled others twin
  pub text : proof_text others twin ≡ proof_text names d
  pub text2 : proof_text2 others twin ≡ proof_text2 names d
