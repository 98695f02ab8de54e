-- The labels that the clause steps of a tree pick, each with its level: how many times a `bang` or an unbounded premise lies above.
use Rattle.std.specs.Prelude.{◌≡◌, ℕ, suc, ◌+◌, ◌-◌, Bool, false, ◌&&◌, nat_eq, List, [], ◌∷◌, ◌++◌, map, take, drop, reverse, length, Option, Some, None}
use Rattle.std.specs.List.{list_any}
use Rattle.ll_bank.specs.Nodes.{Nodes}
use Rattle.ll_laws.specs.declared.Part.{Part}
use Rattle.ll_laws.specs.declared.Part.TheVariants.{Bounded, Unbounded}
use Rattle.ll_laws.specs.declared.Rule.{Rule}
use Rattle.ll_laws.specs.Line.{trees_of, put}
use Rattle.ll_laws.specs.Shows.{Tree, OneNode, EraseNode, TensorNode, WithNode, LeftNode, RightNode, BangNode, LolliNode, ImpNode, ForallNode, ExistsNode}
use Rattle.ll_laws.specs.Shows.{UseNode, ClauseNode, Parts, NoParts, BoundedPart, UnboundedPart, NumNode}
use Rattle.ll_laws.specs.ShownLines.{line_of}
use Rattle.ll_trace.specs.declared.picks.Pick.{Pick}

abbrev mutual
  -- what the nodes of a tree pick, in prefix order, where its root has a level
  pub picks_of : ℕ → Tree → List (Option Pick)
  picks_of b OneNode = None ∷ []
  picks_of b EraseNode = None ∷ []
  picks_of b NumNode = None ∷ []
  picks_of b (TensorNode s t x y) = None ∷ (picks_of b x ++ picks_of b y)
  picks_of b (WithNode x y) = None ∷ (picks_of b x ++ picks_of b y)
  picks_of b (LeftNode x) = None ∷ picks_of b x
  picks_of b (RightNode x) = None ∷ picks_of b x
  picks_of b (BangNode x) = None ∷ picks_of (b + 1) x
  picks_of b (LolliNode n x) = None ∷ picks_of b x
  picks_of b (ImpNode n x) = None ∷ picks_of b x
  picks_of b (ForallNode c x) = None ∷ picks_of b x
  picks_of b (ExistsNode t x) = None ∷ picks_of b x
  picks_of b (UseNode x) = None ∷ picks_of b x
  picks_of b (ClauseNode n k ts ps) = Some (record { label = n; level = b }) ∷ picks_of_parts b ps

  -- what the nodes of all premises' trees pick
  pub picks_of_parts : ℕ → Parts → List (Option Pick)
  picks_of_parts b NoParts = []
  picks_of_parts b (BoundedPart s x ps) = picks_of b x ++ picks_of_parts b ps
  picks_of_parts b (UnboundedPart x ps) = picks_of (b + 1) x ++ picks_of_parts b ps

-- what the nodes of trees pick, whose roots have these levels
abbrev pub all_picks : List ℕ → List Tree → List (Option Pick)
all_picks (b ∷ bs) (x ∷ xs) = picks_of b x ++ all_picks bs xs
all_picks _ _ = []

-- these are the picks of the tree that the nodes make
abbrev pub ArePicks : List Rule → List (Option Pick) → Type 0
ArePicks rules picks = (bank : Nodes) (x : Tree) → trees_of (map (line_of bank) rules) ≡ Some (x ∷ []) → picks ≡ picks_of 0 x

-- a node picks the label at the level
abbrev pub is_pick : ℕ → ℕ → Option Pick → Bool
is_pick n b None = false
is_pick n b (Some p) = nat_eq n p.label && nat_eq b p.level

-- a node between two places picks the label at the level
abbrev pub is_used_between : List (Option Pick) → ℕ → ℕ → ℕ → ℕ → Bool
is_used_between picks n b from to = list_any (is_pick n b) (take (to - from) (drop from picks))

-- the level of a premise's tree, where the clause node has level b
abbrev pub level_of_part : ℕ → Part → ℕ
level_of_part b (Bounded s) = b
level_of_part b Unbounded = b + 1

-- what is left to pick before and after a node: its pick is the first, and its children's levels come in place of its own
pub record IsPickStep (b : ℕ) (old new : List ℕ) (pick : Option Pick) (ts vs : List Tree) : Type 0 where
  pub same : all_picks (b ∷ reverse old) vs ≡ pick ∷ all_picks (reverse new) ts
  pub count : suc (length old) ≡ length vs → length new ≡ length ts

-- a rule's pick, and the levels of the trees to come
abbrev pub GivesPick : Rule → ℕ → List ℕ → List ℕ → Option Pick → Type 0
GivesPick rule b old new pick = (bank : Nodes) (ts vs : List Tree) → put (line_of bank rule) ts ≡ Some vs → IsPickStep b old new pick ts vs
