use Rattle.std.proofs.Common.{◌≡◌}
use Rattle.test_shared.proofs.order.shared.Given as goal

abbrev pub invariant-loop-label : goal.invariant-loop-label
invariant-loop-label g l = l.pool.workers ≡ 2
