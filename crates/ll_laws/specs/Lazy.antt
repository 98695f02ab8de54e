-- Trees with leftovers: a tree takes what it uses of what is live, and hands the rest on.
use Rattle.std.specs.Prelude.{◌≡◌, ℕ, true, false, ◌||◌, not, List, [], ◌∷◌, ◌++◌, filter, Some, slice_get}
use Rattle.ll_bank.specs.declared.Head.TheVariants.{Eigen}
use Rattle.ll_bank.specs.Term.{Con, is_closed}
use Rattle.ll_bank.specs.Form.{Form, Top, One, Atom, With, Tensor, Plus, Bang, Lolli, Imp, Forall, Exists, Use, instantiate, Num}
use Rattle.ll_laws.specs.Leaf.{Needs, NeedsFree, Premise, leaf}
use Rattle.ll_laws.specs.Module.{Setting, ModuleTree, unfold_load}
use Rattle.ll_laws.specs.Derive.{AreClosed, IsNew}
use Rattle.ll_laws.specs.Shows.{Tree, OneNode, EraseNode, TensorNode, WithNode, LeftNode, RightNode, BangNode, LolliNode, ImpNode, ForallNode, ExistsNode}
use Rattle.ll_laws.specs.Shows.{UseNode, ClauseNode, Parts, NoParts, BoundedPart, UnboundedPart, Labelled, clauses, has_label, Took, pick, NumNode}
use Rattle.ll_laws.specs.Dealing.{uses, erases}
use Rattle.ll_laws.specs.Number.{holds}

abbrev pub unused : Tree → List Labelled → List Labelled
unused x i = filter (λ l. not (uses l.label x)) i

-- what one take_side uses and the other does not, the other can erase
abbrev pub Agree : Tree → Tree → List Labelled → Type 0
Agree x y i = (n : ℕ) → has_label i n ≡ true → (uses n x ≡ true → uses n y || erases y ≡ true) × (uses n y ≡ true → uses n x || erases x ≡ true)

abbrev mutual
  -- the tree shows the goal from the unbounded clauses c and some of the live clauses i
  pub Lazy : Setting → Tree → List Labelled → List Labelled → Form → Type 0
  Lazy beside OneNode c i One = Unit {0}
  Lazy beside EraseNode c i Top = Unit {0}
  Lazy beside (TensorNode s t x y) c i (Tensor g h) = Lazy beside x c i g × Lazy beside y c (unused x i) h
  Lazy beside (WithNode x y) c i (With g h) = Lazy beside x c i g × Lazy beside y c i h × Agree x y i
  Lazy beside (LeftNode x) c i (Plus g h) = Lazy beside x c i g
  Lazy beside (RightNode x) c i (Plus g h) = Lazy beside x c i h
  Lazy beside (BangNode x) c i (Bang g) = Lazy beside x c [] g
  Lazy beside (LolliNode n x) c i (Lolli r g) =
      (has_label c n || has_label i n ≡ false) × (uses n x || erases x ≡ true) × Lazy beside x c (i ++ record { label = n; clause = r } ∷ []) g
  Lazy beside (ImpNode n x) c i (Imp r g) = (has_label c n || has_label i n ≡ false) × Lazy beside x (record { label = n; clause = r } ∷ c) i g
  Lazy beside (ForallNode k x) c i (Forall g) = IsNew k (g ∷ (clauses c ++ clauses i)) × Lazy beside x c i (instantiate g (Con (Eigen k)))
  Lazy beside (ExistsNode t x) c i (Exists g) = (is_closed t ≡ true) × Lazy beside x c i (instantiate g t)
  Lazy beside (UseNode x) c i (Use k ts g) = (l : ModuleTree) × (slice_get beside.modules k ≡ Some l) × Lazy beside x c i (unfold_load l ts g)
  Lazy beside NumNode c i (Num r t u) = holds beside.operators r t u ≡ true
  Lazy beside (ClauseNode n k ts ps) c i (Atom a) =
      (r : Form) × (e : List Labelled) × (gs : List Premise) × (pick n c i ≡ Took r e) × AreClosed ts
      × (leaf r k ts ≡ Some (record { premises = gs; head = a })) × LazyParts beside ps c e gs
  Lazy beside _ c i _ = ⊥

  pub LazyParts : Setting → Parts → List Labelled → List Labelled → List Premise → Type 0
  LazyParts beside NoParts c i [] = Unit {0}
  LazyParts beside (BoundedPart s x ps) c i (Needs g ∷ gs) = Lazy beside x c i g × LazyParts beside ps c (unused x i) gs
  LazyParts beside (UnboundedPart x ps) c i (NeedsFree g ∷ gs) = Lazy beside x c [] (Bang g) × LazyParts beside ps c i gs
  LazyParts beside _ c i _ = ⊥
