-- What unification on the terms of a bank answers.
use Rattle.std.specs.Prelude.{◌≡◌, ◌≢◌, ◌<◌, ◌≤◌, ℕ, List, length, Option, Some, None, slice_index, slice_index_or}
use Rattle.ll_bank.specs.declared.At.{At}
use Rattle.ll_bank.specs.Term.{Term, Var}
use Rattle.ll_bank.specs.Nodes.{Nodes, HasTerm, term_tree}
use Rattle.ll_laws.specs.Unify.{Solved, IsUnifier, IsMostGeneral}
use Rattle.ll_unify.specs.declared.Subst.{Subst}

-- what stands for a variable whose entry is this
abbrev pub shown : Nodes → ℕ → Option At → Term
shown nodes x None = Var x
shown nodes x (Some at) = term_tree nodes at.0

-- a substitution with its levels, as trees of the bank
abbrev pub solved_of : Nodes → Subst → Solved
solved_of nodes u = record { subst = λ x. shown nodes x (slice_index_or u.bound.items x None); levels = u.levels.items }

-- an entry names a place of the bank, which shows another term than the variable itself
abbrev pub IsEntry : Nodes → ℕ → Option At → Type 0
IsEntry nodes x None = Unit {0}
IsEntry nodes x (Some at) = HasTerm nodes at.0 × (term_tree nodes at.0 ≢ Var x)

-- a substitution has an entry for each of n variables
pub record HasEntries (nodes : Nodes) (n : ℕ) (u : Subst) : Type 0 where
  pub count : length u.bound.items ≡ n
  pub each : (x : ℕ) → x < n → IsEntry nodes x (slice_index_or u.bound.items x None)

-- a unifier that respects the levels, raises none, and is most general
pub record IsBestUnifier (ls rs : List Term) (levels : List ℕ) (v : Solved) : Type 0 where
  pub unifier : IsUnifier ls rs levels v.subst v.levels
  pub lowers : (x : ℕ) → slice_index v.levels x ≤ slice_index levels x
  pub most_general : IsMostGeneral ls rs levels v

-- the best unifier, or none where no unifier respects the levels
abbrev pub IsBest : List Term → List Term → List ℕ → Option Solved → Type 0
IsBest ls rs levels None = (s : ℕ → Term) (new : List ℕ) → IsUnifier ls rs levels s new → ⊥
IsBest ls rs levels (Some v) = IsBestUnifier ls rs levels v
