-- How the labels of bounded clauses are dealt out to the nodes of a tree: to the node that uses a label, and otherwise to one that can
-- erase it.
use Rattle.std.specs.Prelude.{ℕ, Bool, true, false, ◌||◌, ◌&&◌, not, List, [], ◌∷◌, ◌++◌, filter, nat_eq}
use Rattle.ll_laws.specs.Shows.{Tree, OneNode, EraseNode, TensorNode, WithNode, LeftNode, RightNode, BangNode, LolliNode, ImpNode, ForallNode, ExistsNode}
use Rattle.ll_laws.specs.Shows.{UseNode, ClauseNode, Parts, NoParts, BoundedPart, UnboundedPart, NumNode}

abbrev mutual
  -- a clause step in the tree picks the label of a linear clause; below a bang none can be picked
  pub uses : ℕ → Tree → Bool
  uses n OneNode = false
  uses n EraseNode = false
  uses n NumNode = false
  uses n (TensorNode s t x y) = uses n x || uses n y
  uses n (WithNode x y) = uses n x || uses n y
  uses n (LeftNode x) = uses n x
  uses n (RightNode x) = uses n x
  uses n (BangNode x) = false
  uses n (LolliNode m x) = uses n x
  uses n (ImpNode m x) = uses n x
  uses n (ForallNode c x) = uses n x
  uses n (ExistsNode t x) = uses n x
  uses n (UseNode x) = uses n x
  uses n (ClauseNode m k ts ps) = nat_eq n m || uses_part n ps

  pub uses_part : ℕ → Parts → Bool
  uses_part n NoParts = false
  uses_part n (BoundedPart s x ps) = uses n x || uses_part n ps
  uses_part n (UnboundedPart x ps) = uses_part n ps

abbrev mutual
  -- the tree can take what is left over
  pub erases : Tree → Bool
  erases OneNode = false
  erases EraseNode = true
  erases NumNode = false
  erases (TensorNode s t x y) = erases x || erases y
  erases (WithNode x y) = erases x && erases y
  erases (LeftNode x) = erases x
  erases (RightNode x) = erases x
  erases (BangNode x) = false
  erases (LolliNode m x) = erases x
  erases (ImpNode m x) = erases x
  erases (ForallNode c x) = erases x
  erases (ExistsNode t x) = erases x
  erases (UseNode x) = erases x
  erases (ClauseNode m k ts ps) = erases_part ps

  pub erases_part : Parts → Bool
  erases_part NoParts = false
  erases_part (BoundedPart s x ps) = erases x || erases_part ps
  erases_part (UnboundedPart x ps) = erases_part ps

-- whether a label goes to this tree rather than to those after it
abbrev pub goes_to : Bool → Bool → Bool → Bool
goes_to mine later erasing = mine || (not later && erasing)

abbrev pub without : ℕ → List ℕ → List ℕ
without n s = filter (λ m. not (nat_eq n m)) s

abbrev mutual
  -- the labels dealt out to the nodes of the tree
  pub deal : List ℕ → Tree → Tree
  deal d OneNode = OneNode
  deal d EraseNode = EraseNode
  deal d NumNode = NumNode
  deal d (TensorNode s t x y) =
      TensorNode (filter (λ n. goes_to (uses n x) (uses n y) (erases x)) d) (filter (λ n. not (goes_to (uses n x) (uses n y) (erases x))) d)
      (deal (filter (λ n. goes_to (uses n x) (uses n y) (erases x)) d) x) (deal (filter (λ n. not (goes_to (uses n x) (uses n y) (erases x))) d) y)
  deal d (WithNode x y) = WithNode (deal d x) (deal d y)
  deal d (LeftNode x) = LeftNode (deal d x)
  deal d (RightNode x) = RightNode (deal d x)
  deal d (BangNode x) = BangNode (deal [] x)
  deal d (LolliNode n x) = LolliNode n (deal (d ++ n ∷ []) x)
  deal d (ImpNode n x) = ImpNode n (deal d x)
  deal d (ForallNode c x) = ForallNode c (deal d x)
  deal d (ExistsNode t x) = ExistsNode t (deal d x)
  deal d (UseNode x) = UseNode (deal d x)
  deal d (ClauseNode n k ts ps) = ClauseNode n k ts (deal_parts (without n d) ps)

  pub deal_parts : List ℕ → Parts → Parts
  deal_parts d NoParts = NoParts
  deal_parts d (BoundedPart s x ps) =
      BoundedPart (filter (λ n. goes_to (uses n x) (uses_part n ps) (erases x)) d) (deal (filter (λ n. goes_to (uses n x) (uses_part n ps) (erases x)) d) x)
      (deal_parts (filter (λ n. not (goes_to (uses n x) (uses_part n ps) (erases x))) d) ps)
  deal_parts d (UnboundedPart x ps) = UnboundedPart (deal [] x) (deal_parts d ps)
