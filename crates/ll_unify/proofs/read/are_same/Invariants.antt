use Rattle.std.proofs.Common.{◌≡◌, ◌<◌, ℕ}
use Rattle.std.specs.Prelude.{slice_index_or}
use Rattle.ll_unify.proofs.read.are_same.Given as goal

abbrev pub invariant-loop-index : goal.invariant-loop-index
invariant-loop-index l = (k : ℕ) → k < l.index → (slice_index_or l.left k (record { 0 = 0 })).0 ≡ (slice_index_or l.right k (record { 0 = 0 })).0
