-- Patterns with their bound places closed, and terms that are the same as these under bindings.
use Rattle.std.specs.Prelude.{◌≡◌, ◌≤◌, ℕ, Bool, true, false, List, [], ◌∷◌, length, nat_lt, All, Some}
use Rattle.ll_bank.specs.declared.At.{At}
use Rattle.ll_bank.specs.declared.Head.{Head}
use Rattle.ll_bank.specs.declared.Head.TheVariants.{Bound}
use Rattle.ll_bank.specs.Term.{Term, Var, Int, Con, Ap, Env, close, head_of, not_bound}
use Rattle.ll_bank.specs.Nodes.{Nodes, term_tree}
use Rattle.ll_unify.specs.Bindings.{Table, IsPlaceOf, AreSame}
use Rattle.ll_unify.specs.Spines.{args_in}
use Rattle.ll_bind.specs.declared.build.Shape.{Shape}
use Rattle.ll_bind.specs.declared.build.Shape.TheVariants.{Kept, Bare, Flat, Deep}

-- the variables of the place's term have cells, and under the bindings it is the same as this term
pub record ShowsSame (nodes : Nodes) (t : Table) (at : ℕ) (u : Term) : Type 0 where
  pub place : IsPlaceOf nodes t at
  pub same : AreSame nodes t (term_tree nodes at) u

-- a place for each pattern, the same as it is with its bound places closed
abbrev pub AreBuilt : Nodes → Table → Env → List Term → List At → Type 0
AreBuilt nodes t env [] [] = Unit {0}
AreBuilt nodes t env (u ∷ us) (a ∷ ats) = ShowsSame nodes t a.0 (close env u) × AreBuilt nodes t env us ats
AreBuilt nodes t env _ _ = ⊥

-- the term has no arguments, and is no bound place past so many
abbrev pub is_bare : ℕ → Term → Bool
is_bare count (Var x) = true
is_bare count (Int z) = true
is_bare count (Con (Bound k)) = nat_lt k count
is_bare count (Con h) = true
is_bare count (Ap f a) = false

-- the term begins with a sign that is no bound place
abbrev pub begins_fixed : Term → Bool
begins_fixed (Var x) = false
begins_fixed (Int z) = false
begins_fixed (Con h) = not_bound h
begins_fixed (Ap f a) = begins_fixed f

-- the head is no bound place, and there are few arguments, each of which is bare
pub record IsFlat (count : ℕ) (u : Term) : Type 0 where
  pub fixed : (h : Head) → head_of u ≡ Some h → not_bound h ≡ true
  pub few : length (args_in u) ≤ 8
  pub bare : All (λ a. is_bare count a ≡ true) (args_in u)

-- what a term without arguments looks like: no bound place, or one of so many
abbrev pub IsBareShape : ℕ → Term → Shape → Type 0
IsBareShape count u Kept = is_bare 0 u ≡ true
IsBareShape count u Bare = is_bare count u ≡ true
IsBareShape count u Flat = ⊥
IsBareShape count u Deep = Unit {0}

-- what terms look like together: each is no bound place, or one of so many
abbrev pub AreShapes : ℕ → List Term → Shape → Type 0
AreShapes count us Kept = All (λ u. is_bare 0 u ≡ true) us
AreShapes count us Bare = ⊥
AreShapes count us Flat = All (λ u. is_bare count u ≡ true) us
AreShapes count us Deep = Unit {0}

-- what a term looks like: one that is kept is the same whatever its bound places stand for
abbrev pub IsShape : ℕ → Term → Shape → Type 0
IsShape count u Kept = (env : Env) → close env u ≡ u
IsShape count u Bare = is_bare count u ≡ true
IsShape count u Flat = IsFlat count u
IsShape count u Deep = Unit {0}
