-- A derivation as it is kept: its nodes in prefix order, and the tree that they are.
use Rattle.std.specs.Prelude.{◌≡◌, ℕ, Bool, true, false, ◌&&◌, List, [], ◌∷◌, ◌++◌, nat_lt, Option, Some, None, option_and_then}
use Rattle.std.specs.List.{list_all}
use Rattle.ll_bank.specs.Term.{Term, is_closed}
use Rattle.ll_laws.specs.Leaf.{Premise, Needs, NeedsFree}
use Rattle.ll_laws.specs.Shows.{Tree, OneNode, EraseNode, TensorNode, WithNode, LeftNode, RightNode, BangNode, LolliNode, ImpNode, ForallNode, ExistsNode}
use Rattle.ll_laws.specs.Shows.{UseNode, ClauseNode, Parts, NoParts, BoundedPart, UnboundedPart, NumNode}

-- what a clause node says of one premise: the labels of a bounded one, or that it is unbounded
pub data PartLine : Type 0 where
  Labels : List ℕ → PartLine
  Free : PartLine

-- one node: its rule, and what the rule chooses
pub data Line : Type 0 where
  OneLine EraseLine WithLine LeftLine RightLine BangLine UseLine NumLine : Line
  TensorLine : List ℕ → List ℕ → Line
  LolliLine ImpLine ForallLine : ℕ → Line
  ExistsLine : Term → Line
  ClauseLine : ℕ → ℕ → List Term → List PartLine → Line

-- the trees of the first premises, and the trees left; or too few trees
pub data Cut : Type 0 where
  Short : Cut
  Cuts : Parts → List Tree → Cut

-- one premise more in front
abbrev pub add_part : PartLine → Tree → Cut → Cut
add_part p x Short = Short
add_part (Labels s) x (Cuts ps ts) = Cuts (BoundedPart s x ps) ts
add_part Free x (Cuts ps ts) = Cuts (UnboundedPart x ps) ts

-- the first trees taken as those of the premises
abbrev pub cut_parts : List PartLine → List Tree → Cut
cut_parts [] ts = Cuts NoParts ts
cut_parts (p ∷ ps) [] = Short
cut_parts (p ∷ ps) (t ∷ ts) = add_part p t (cut_parts ps ts)

-- a clause node over the trees of its premises
abbrev pub put_clause : ℕ → ℕ → List Term → Cut → Option (List Tree)
put_clause n k us Short = None
put_clause n k us (Cuts ps ts) = Some (ClauseNode n k us ps ∷ ts)

-- a node over the trees that come after it
abbrev pub put : Line → List Tree → Option (List Tree)
put OneLine ts = Some (OneNode ∷ ts)
put EraseLine ts = Some (EraseNode ∷ ts)
put NumLine ts = Some (NumNode ∷ ts)
put (TensorLine s t) (x ∷ y ∷ ts) = Some (TensorNode s t x y ∷ ts)
put WithLine (x ∷ y ∷ ts) = Some (WithNode x y ∷ ts)
put LeftLine (x ∷ ts) = Some (LeftNode x ∷ ts)
put RightLine (x ∷ ts) = Some (RightNode x ∷ ts)
put BangLine (x ∷ ts) = Some (BangNode x ∷ ts)
put UseLine (x ∷ ts) = Some (UseNode x ∷ ts)
put (LolliLine n) (x ∷ ts) = Some (LolliNode n x ∷ ts)
put (ImpLine n) (x ∷ ts) = Some (ImpNode n x ∷ ts)
put (ForallLine c) (x ∷ ts) = Some (ForallNode c x ∷ ts)
put (ExistsLine t) (x ∷ ts) = Some (ExistsNode t x ∷ ts)
put (ClauseLine n k us ps) ts = put_clause n k us (cut_parts ps ts)
put _ ts = None

-- the trees that a list of nodes in prefix order makes
abbrev pub trees_of : List Line → Option (List Tree)
trees_of [] = Some []
trees_of (n ∷ ns) = option_and_then (put n) (trees_of ns)

-- the labels rise strictly
abbrev pub rises : List ℕ → Bool
rises [] = true
rises (m ∷ []) = true
rises (m ∷ n ∷ ns) = nat_lt m n && rises (n ∷ ns)

-- the labels of a premise, if it has any, rise strictly
abbrev pub part_rises : PartLine → Bool
part_rises (Labels s) = rises s
part_rises Free = true

-- the terms of the node have no free bound places, and its lists of labels rise strictly
abbrev pub is_line : Line → Bool
is_line (TensorLine s t) = rises s && rises t
is_line (ExistsLine t) = is_closed t
is_line (ClauseLine n k us ps) = list_all is_closed us && list_all part_rises ps
is_line _ = true

-- a derivation: the terms for the query's variables, and the nodes in prefix order
pub record DerivationLines : Type 0 where
  pub asked : List Term
  pub nodes : List Line

-- the derivation is one whole tree, and each of its nodes and terms is well formed
pub record IsWhole (d : DerivationLines) : Type 0 where
  pub tree : Tree
  pub is_tree : trees_of d.nodes ≡ Some (tree ∷ [])
  pub asked : list_all is_closed d.asked ≡ true
  pub nodes : list_all is_line d.nodes ≡ true

-- what a clause node says of a premise before labels are dealt out
abbrev pub part_line : Premise → PartLine
part_line (Needs g) = Labels []
part_line (NeedsFree g) = Free

abbrev mutual
  -- the nodes of a tree in prefix order
  pub lines : Tree → List Line
  lines OneNode = OneLine ∷ []
  lines EraseNode = EraseLine ∷ []
  lines NumNode = NumLine ∷ []
  lines (TensorNode s t x y) = TensorLine s t ∷ (lines x ++ lines y)
  lines (WithNode x y) = WithLine ∷ (lines x ++ lines y)
  lines (LeftNode x) = LeftLine ∷ lines x
  lines (RightNode x) = RightLine ∷ lines x
  lines (BangNode x) = BangLine ∷ lines x
  lines (LolliNode n x) = LolliLine n ∷ lines x
  lines (ImpNode n x) = ImpLine n ∷ lines x
  lines (ForallNode c x) = ForallLine c ∷ lines x
  lines (ExistsNode t x) = ExistsLine t ∷ lines x
  lines (UseNode x) = UseLine ∷ lines x
  lines (ClauseNode n k us ps) = ClauseLine n k us (part_lines ps) ∷ lines_of_parts ps

  -- the nodes of all parts
  pub lines_of_parts : Parts → List Line
  lines_of_parts NoParts = []
  lines_of_parts (BoundedPart s x ps) = lines x ++ lines_of_parts ps
  lines_of_parts (UnboundedPart x ps) = lines x ++ lines_of_parts ps

  -- what a clause node says of its parts
  pub part_lines : Parts → List PartLine
  part_lines NoParts = []
  part_lines (BoundedPart s x ps) = Labels s ∷ part_lines ps
  part_lines (UnboundedPart x ps) = Free ∷ part_lines ps

-- the node is that of a whole-number goal
abbrev pub counts_numbers : Line → Bool
counts_numbers NumLine = true
counts_numbers _ = false
