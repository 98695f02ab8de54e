-- Derivation trees, whose bounded clauses are told apart by labels, and what it is for one to show a goal.
use Rattle.std.specs.Prelude.{◌≡◌, ℕ, suc, ◌+◌, Bool, true, false, ◌&&◌, ◌||◌, not, if◌then◌else◌, List, [], ◌∷◌, ◌++◌, map, nat_eq, Some, slice_get, filter}
use Rattle.std.specs.List.{list_any, list_all}
use Rattle.ll_bank.specs.declared.Head.TheVariants.{Eigen}
use Rattle.ll_bank.specs.Term.{Term, Con, is_closed}
use Rattle.ll_bank.specs.Form.{Form, Top, One, Atom, With, Tensor, Plus, Bang, Lolli, Imp, Forall, Exists, Use, instantiate, Num}
use Rattle.ll_laws.specs.Leaf.{Premise, Needs, NeedsFree, leaf}
use Rattle.ll_laws.specs.Module.{Setting, ModuleTree, unfold_load}
use Rattle.ll_laws.specs.Derive.{AreClosed, IsNew}
use Rattle.ll_laws.specs.Number.{holds}

mutual
  -- A node has its rule's name. A tensor node has the labels of each side; a node for `-o` or `=>` the label of what it loads; one for
  -- `forall` its eigenvariable, and for `exists` its term; a clause node its label, its leaf, the terms on the way to it, and its parts.
  pub data Tree : Type 0 where
    OneNode : Tree
    EraseNode : Tree
    TensorNode : List ℕ → List ℕ → Tree → Tree → Tree
    WithNode : Tree → Tree → Tree
    LeftNode : Tree → Tree
    RightNode : Tree → Tree
    BangNode : Tree → Tree
    LolliNode : ℕ → Tree → Tree
    ImpNode : ℕ → Tree → Tree
    ForallNode : ℕ → Tree → Tree
    ExistsNode : Term → Tree → Tree
    UseNode : Tree → Tree
    NumNode : Tree
    ClauseNode : ℕ → ℕ → List Term → Parts → Tree

  -- one part for each premise of a clause: a bounded one with its labels
  pub data Parts : Type 0 where
    NoParts : Parts
    BoundedPart : List ℕ → Tree → Parts → Parts
    UnboundedPart : Tree → Parts → Parts

abbrev mutual
  -- the number of nodes
  pub nodes : Tree → ℕ
  nodes OneNode = 1
  nodes EraseNode = 1
  nodes (TensorNode s t d e) = suc (nodes d + nodes e)
  nodes (WithNode d e) = suc (nodes d + nodes e)
  nodes (LeftNode d) = suc (nodes d)
  nodes (RightNode d) = suc (nodes d)
  nodes (BangNode d) = suc (nodes d)
  nodes (LolliNode n d) = suc (nodes d)
  nodes (ImpNode n d) = suc (nodes d)
  nodes (ForallNode c d) = suc (nodes d)
  nodes (ExistsNode t d) = suc (nodes d)
  nodes (UseNode d) = suc (nodes d)
  nodes NumNode = 1
  nodes (ClauseNode n k ts ps) = suc (part_nodes ps)

  -- the number of nodes of all parts
  pub part_nodes : Parts → ℕ
  part_nodes NoParts = 0
  part_nodes (BoundedPart s d ps) = nodes d + part_nodes ps
  part_nodes (UnboundedPart d ps) = nodes d + part_nodes ps

abbrev mutual
  -- the terms of the tree have no free bound places
  pub HasClosedTerms : Tree → Type 0
  HasClosedTerms (TensorNode s t x y) = HasClosedTerms x × HasClosedTerms y
  HasClosedTerms (WithNode x y) = HasClosedTerms x × HasClosedTerms y
  HasClosedTerms (LeftNode x) = HasClosedTerms x
  HasClosedTerms (RightNode x) = HasClosedTerms x
  HasClosedTerms (BangNode x) = HasClosedTerms x
  HasClosedTerms (LolliNode n x) = HasClosedTerms x
  HasClosedTerms (ImpNode n x) = HasClosedTerms x
  HasClosedTerms (ForallNode c x) = HasClosedTerms x
  HasClosedTerms (ExistsNode t x) = (is_closed t ≡ true) × HasClosedTerms x
  HasClosedTerms (UseNode x) = HasClosedTerms x
  HasClosedTerms (ClauseNode n k ts ps) = AreClosed ts × HaveClosedTerms ps
  HasClosedTerms _ = Unit {0}

  -- the terms of each part have no free bound places
  pub HaveClosedTerms : Parts → Type 0
  HaveClosedTerms NoParts = Unit {0}
  HaveClosedTerms (BoundedPart s x ps) = HasClosedTerms x × HaveClosedTerms ps
  HaveClosedTerms (UnboundedPart x ps) = HasClosedTerms x × HaveClosedTerms ps

-- a clause with its label; a list of them is a finite map from labels to clauses
pub record Labelled : Type 0 where
  pub label : ℕ
  pub clause : Form

-- the clauses of the map
abbrev pub clauses : List Labelled → List Form
clauses d = map (λ l. l.clause) d

-- the label is one of the set
abbrev pub has : List ℕ → ℕ → Bool
has s n = list_any (nat_eq n) s

-- the map has the label
abbrev pub has_label : List Labelled → ℕ → Bool
has_label d n = list_any (λ l. nat_eq n l.label) d

-- the part of the map with these labels
abbrev pub part : List ℕ → List Labelled → List Labelled
part s d = filter (λ l. has s l.label) d

-- the part without them
abbrev pub rest : List ℕ → List Labelled → List Labelled
rest s d = filter (λ l. not (has s l.label)) d

-- each label of the set is one of the map
abbrev pub all_in : List ℕ → List Labelled → Bool
all_in s d = list_all (has_label d) s

-- whether a clause was found: it, and what is left
pub data Found : Type 0 where
  Missing : Found
  Took : Form → List Labelled → Found

-- a clause in front of what is left
abbrev pub behind : Labelled → Found → Found
behind l Missing = Missing
behind l (Took r e) = Took r (l ∷ e)

-- the clause with this label, and the map without it
abbrev pub take_label : ℕ → List Labelled → Found
take_label n [] = Missing
take_label n (l ∷ ls) = if nat_eq n l.label then Took l.clause ls else behind l (take_label n ls)

-- what was found among the unbounded clauses, with d left as it is, or else what was found among the bounded ones
abbrev pub pick_of : List Labelled → Found → Found → Found
pick_of d (Took r e) q = Took r d
pick_of d Missing q = q

-- label n among the unbounded clauses, with d left as it is, or among the bounded ones, with d without it
abbrev pub pick : ℕ → List Labelled → List Labelled → Found
pick n c d = pick_of d (take_label n c) (take_label n d)

-- exactly one of the two holds
abbrev pub one_of : Bool → Bool → Bool
one_of true b = not b
one_of false b = b

-- the two sets hold each label of the map exactly once, and no other
abbrev pub splits : List ℕ → List ℕ → List Labelled → Bool
splits s t d = all_in s d && all_in t d && list_all (λ l. one_of (has s l.label) (has t l.label)) d

abbrev mutual
  -- the tree shows the goal from the unbounded clauses c and the bounded clauses d
  pub Shows : Setting → Tree → List Labelled → List Labelled → Form → Type 0
  Shows beside OneNode c d One = d ≡ []
  Shows beside EraseNode c d Top = Unit {0}
  Shows beside (TensorNode s t x y) c d (Tensor g h) = (splits s t d ≡ true) × Shows beside x c (part s d) g × Shows beside y c (part t d) h
  Shows beside (WithNode x y) c d (With g h) = Shows beside x c d g × Shows beside y c d h
  Shows beside (LeftNode x) c d (Plus g h) = Shows beside x c d g
  Shows beside (RightNode x) c d (Plus g h) = Shows beside x c d h
  Shows beside (BangNode x) c d (Bang g) = (d ≡ []) × Shows beside x c d g
  Shows beside (LolliNode n x) c d (Lolli r g) = (has_label c n || has_label d n ≡ false) × Shows beside x c (d ++ record { label = n; clause = r } ∷ []) g
  Shows beside (ImpNode n x) c d (Imp r g) = (has_label c n || has_label d n ≡ false) × Shows beside x (record { label = n; clause = r } ∷ c) d g
  Shows beside (ForallNode k x) c d (Forall g) = IsNew k (g ∷ (clauses c ++ clauses d)) × Shows beside x c d (instantiate g (Con (Eigen k)))
  Shows beside (ExistsNode t x) c d (Exists g) = (is_closed t ≡ true) × Shows beside x c d (instantiate g t)
  Shows beside (UseNode x) c d (Use k ts g) = (l : ModuleTree) × (slice_get beside.modules k ≡ Some l) × Shows beside x c d (unfold_load l ts g)
  Shows beside NumNode c d (Num r t u) = (d ≡ []) × (holds beside.operators r t u ≡ true)
  Shows beside (ClauseNode n k ts ps) c d (Atom a) =
      (r : Form) × (e : List Labelled) × (gs : List Premise) × (pick n c d ≡ Took r e) × AreClosed ts
      × (leaf r k ts ≡ Some (record { premises = gs; head = a })) × ShowsParts beside ps c e gs
  Shows beside _ c d _ = ⊥

  -- the parts show the premises, and d is dealt out to the bounded ones
  pub ShowsParts : Setting → Parts → List Labelled → List Labelled → List Premise → Type 0
  ShowsParts beside NoParts c d [] = d ≡ []
  ShowsParts beside (BoundedPart s x ps) c d (Needs g ∷ gs) = (all_in s d ≡ true) × Shows beside x c (part s d) g × ShowsParts beside ps c (rest s d) gs
  ShowsParts beside (UnboundedPart x ps) c d (NeedsFree g ∷ gs) = Shows beside x c [] (Bang g) × ShowsParts beside ps c d gs
  ShowsParts beside _ c d _ = ⊥
