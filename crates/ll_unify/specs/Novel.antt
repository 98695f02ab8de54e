-- New variables where they are met for the first time.
use Rattle.std.specs.Prelude.{◌≡◌, ◌<◌, ℕ, None}
use Rattle.ll_bank.specs.Term.{Var}
use Rattle.ll_bank.specs.Nodes.{Nodes, term_tree}
use Rattle.ll_unify.specs.declared.fresh.Fresh.{Fresh}
use Rattle.ll_unify.specs.Bindings.{Table, cell}
use Rattle.ll_unify.specs.Fresh.{IsFresh}

-- the variable is unbound, and one of the new ones that were not met, and neither it nor a variable with a greater number stands at the place
pub record IsNew (nodes : Nodes) (t : Table) (f : Fresh) (at x : ℕ) : Type 0 where
  pub free : cell t x ≡ None
  pub is : IsFresh f x
  pub before : (y : ℕ) → term_tree nodes at ≡ Var y → y < x
