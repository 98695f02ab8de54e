use Rattle.std.proofs.Common.{◌≡◌, ℕ, length, slice_index_or}
use Rattle.std.specs.Prelude.{None}
use Rattle.ll_unify.proofs.mgu_table.Table.new.Given as goal

abbrev pub invariant-loop-level : goal.invariant-loop-level
invariant-loop-level l = (length l.bound.items ≡ l._level-index) × ((x : ℕ) → slice_index_or l.bound.items x None ≡ None)
