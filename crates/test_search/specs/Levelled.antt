-- Terms whose variables all have levels.
use Rattle.std.specs.Prelude.{◌≡◌, ℕ, true, List, All}
use Rattle.ll_bank.specs.declared.At.{At}
use Rattle.ll_bank.specs.Nodes.{Nodes, HasTerm, term_tree}
use Rattle.ll_laws.specs.Unify.{vars_below}

-- the place shows a term whose variables are below n
pub record IsLevelled (nodes : Nodes) (n at : ℕ) : Type 0 where
  pub inside : HasTerm nodes at
  pub vars : vars_below n (term_tree nodes at) ≡ true

-- each place does
abbrev pub AreLevelled : Nodes → ℕ → List At → Type 0
AreLevelled nodes n ats = All (λ (a : At). IsLevelled nodes n a.0) ats
