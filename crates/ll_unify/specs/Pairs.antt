-- Pairs of applications whose arguments are compared.
use Rattle.std.specs.Prelude.{◌≡◌, ◌<◌, ◌≤◌, ℕ, ◌+◌, ◌++◌, true, false, List, [], ◌∷◌, map, length, drop, All, sum_by, slice_index}
use Rattle.ll_bank.specs.declared.At.{At}
use Rattle.ll_bank.specs.Term.{Term, sub, is_spine, same_predicate}
use Rattle.ll_bank.specs.Nodes.{Nodes, term_tree}
use Rattle.ll_laws.specs.Unify.{Clash, diff, diff_lists}
use Rattle.ll_unify.specs.declared.meet.Pair.{Pair}
use Rattle.ll_unify.specs.declared.meet.Compared.{Compared}
use Rattle.ll_unify.specs.declared.meet.Compared.TheVariants.{Same as SameTerms, Clash as ClashTerms, Meet as MeetTerms, Open as OpenTerms}
use Rattle.ll_unify.specs.declared.meet.Difference.{Difference}
use Rattle.ll_unify.specs.declared.meet.Difference.TheVariants.{Same as SameLists, Clash as ClashLists, Meet as MeetLists}
use Rattle.ll_unify.specs.Spines.{args_in, arg, rest_weight}
use Rattle.ll_unify.specs.Stacks.{Waits, Stack}
use Rattle.ll_unify.specs.Bindings.{Table, HasCells, IsPlaceOf, Obeys, AreSame, IsMeeting, found}
use Rattle.ll_unify.specs.Fresh.{AreClear}

-- two terms
pub record Two : Type 0 where
  pub left : Term
  pub right : Term

-- the two terms of a pair
abbrev pub pair_trees : Nodes → Pair → Two
pair_trees nodes p = record { left = term_tree nodes p.left.0; right = term_tree nodes p.right.0 }

-- the left sides that are still to be compared, the last pair's first
abbrev pub lefts : Nodes → List Pair → List Term
lefts nodes [] = []
lefts nodes (p ∷ ps) = lefts nodes ps ++ drop p.next (args_in (term_tree nodes p.left.0))

-- and the right sides
abbrev pub rights : Nodes → List Pair → List Term
rights nodes [] = []
rights nodes (p ∷ ps) = rights nodes ps ++ drop p.next (args_in (term_tree nodes p.right.0))

-- under a substitution the arguments before the next ones are equal
abbrev pub AreEqual : Nodes → Pair → (ℕ → Term) → Type 0
AreEqual nodes p s = (k : ℕ) → k < p.next → sub s (arg (term_tree nodes p.left.0) k) ≡ sub s (arg (term_tree nodes p.right.0) k)

-- they are so where two other terms are equal
abbrev pub AwaitsEqual : Nodes → Table → Pair → Two → Type 0
AwaitsEqual nodes t p c = (s : ℕ → Term) → Obeys nodes t s → sub s c.left ≡ sub s c.right → AreEqual nodes p s

-- two places with one head and as many arguments
pub record IsPair (nodes : Nodes) (t : Table) (p : Pair) : Type 0 where
  pub left_place : IsPlaceOf nodes t p.left.0
  pub right_place : IsPlaceOf nodes t p.right.0
  pub shape : same_predicate (term_tree nodes p.left.0) (term_tree nodes p.right.0) ≡ true

-- the arguments of the last pair are equal so far, and the pairs below wait for it
pub record IsComparing (nodes : Nodes) (t : Table) (ps : List Pair) (p : Pair) : Type 0 where
  pub top : (s : ℕ → Term) → Obeys nodes t s → AreEqual nodes p s
  pub waits : Waits (pair_trees nodes) (AwaitsEqual nodes t) ps (pair_trees nodes p)
  pub pair : IsPair nodes t p
  pub pairs : All (IsPair nodes t) ps

-- the stack of pairs
abbrev pub ArePairs : Nodes → Table → List Pair → Type 0
ArePairs nodes t items = Stack (Unit {0}) (IsComparing nodes t) items

-- the pairs wait for two terms
pub record Awaits (nodes : Nodes) (t : Table) (ps : List Pair) (c : Two) : Type 0 where
  pub waits : Waits (pair_trees nodes) (AwaitsEqual nodes t) ps c
  pub pairs : All (IsPair nodes t) ps

-- a place at or below another that shows the same application
pub record IsClass (nodes : Nodes) (t : Table) (at up : ℕ) : Type 0 where
  pub below : up ≤ at
  pub vars : HasCells nodes t (term_tree nodes at) → HasCells nodes t (term_tree nodes up)
  pub spine : is_spine (term_tree nodes at) ≡ true → is_spine (term_tree nodes up) ≡ true
  pub same : AreSame nodes t (term_tree nodes up) (term_tree nodes at)

-- each of the first places has one
abbrev pub AreClasses : Nodes → Table → List ℕ → Type 0
AreClasses nodes t ups = (at : ℕ) → at < length ups → IsClass nodes t at (slice_index ups at)

-- each place has one at or below it
abbrev pub AreBelow : List ℕ → Type 0
AreBelow ups = (at : ℕ) → at < length ups → slice_index ups at ≤ at

-- two lists first differ in the same way as two others, under each substitution that goes along with the bindings
abbrev pub Alike : Nodes → Table → List Term → List Term → List Term → List Term → Type 0
Alike nodes t ls rs ls2 rs2 = (s : ℕ → Term) → Obeys nodes t s → diff_lists (map (sub s) ls) (map (sub s) rs) ≡ diff_lists (map (sub s) ls2) (map (sub s) rs2)

-- two places that show the terms and have one head and as many arguments
pub record Opens (nodes : Nodes) (t : Table) (u v : Term) (a b : At) : Type 0 where
  pub left_place : IsPlaceOf nodes t a.0
  pub right_place : IsPlaceOf nodes t b.0
  pub shape : same_predicate (term_tree nodes a.0) (term_tree nodes b.0) ≡ true
  pub left : AreSame nodes t (term_tree nodes a.0) u
  pub right : AreSame nodes t (term_tree nodes b.0) v

-- two places that show the terms, at one of which an unbound variable stands
pub record MeetsAt (nodes : Nodes) (t : Table) (u v : Term) (a b : At) : Type 0 where
  pub meeting : IsMeeting nodes t a.0 b.0
  pub left : AreSame nodes t (term_tree nodes a.0) u
  pub right : AreSame nodes t (term_tree nodes b.0) v

-- how two terms compare
abbrev pub IsCompared : Nodes → Table → Term → Term → Compared → Type 0
IsCompared nodes t u v SameTerms = AreSame nodes t u v
IsCompared nodes t u v ClashTerms = (s : ℕ → Term) → Obeys nodes t s → diff (sub s u) (sub s v) ≡ Clash
IsCompared nodes t u v (MeetTerms a b) = MeetsAt nodes t u v a b
IsCompared nodes t u v (OpenTerms a b) = Opens nodes t u v a b

-- a variable and a term, then what is left
pub record MeetsFirst (nodes : Nodes) (t : Table) (old new : List Pair) (a b : At) : Type 0 where
  pub meeting : IsMeeting nodes t a.0 b.0
  pub alike : Alike nodes t (lefts nodes old) (rights nodes old) (term_tree nodes a.0 ∷ lefts nodes new) (term_tree nodes b.0 ∷ rights nodes new)
  pub rest : Awaits nodes t new (record { left = term_tree nodes a.0; right = term_tree nodes b.0 })
  -- what stands in none of the left sides stands in none of those that are left
  pub clear : (x l : ℕ) → AreClear (found nodes t) x l (lefts nodes old) → AreClear (found nodes t) x l (term_tree nodes a.0 ∷ lefts nodes new)

-- where the pairs first differ
abbrev pub IsDifference : Nodes → Table → List Pair → List Pair → Difference → Type 0
IsDifference nodes t old new SameLists = Alike nodes t (lefts nodes old) (rights nodes old) [] []
IsDifference nodes t old new ClashLists = (s : ℕ → Term) → Obeys nodes t s → diff_lists (map (sub s) (lefts nodes old)) (map (sub s) (rights nodes old)) ≡ Clash
IsDifference nodes t old new (MeetLists a b) = MeetsFirst nodes t old new a b

-- two applications that are the same, each over variables with levels
pub record AreJoined (nodes : Nodes) (t : Table) (a b : ℕ) : Type 0 where
  pub same : AreSame nodes t (term_tree nodes a) (term_tree nodes b)
  pub vars_left : HasCells nodes t (term_tree nodes a)
  pub vars_right : HasCells nodes t (term_tree nodes b)
  pub left_spine : is_spine (term_tree nodes a) ≡ true
  pub right_spine : is_spine (term_tree nodes b) ≡ true

-- how two applications at places compare by their places and signs
abbrev pub ComparesApplied : Nodes → At → At → Compared → Type 0
ComparesApplied nodes a b SameTerms = a.0 ≡ b.0
ComparesApplied nodes a b ClashTerms = same_predicate (term_tree nodes a.0) (term_tree nodes b.0) ≡ false
ComparesApplied nodes a b (MeetTerms c d) = ⊥
ComparesApplied nodes a b (OpenTerms c d) = (c ≡ a) × (d ≡ b) × (same_predicate (term_tree nodes a.0) (term_tree nodes b.0) ≡ true)

-- the weight of what is left to compare
abbrev pub pairs_weight : Nodes → (ℕ → Term) → List Pair → ℕ
pairs_weight nodes s items = sum_by (λ p. 1 + rest_weight s (term_tree nodes p.left.0) p.next) items
