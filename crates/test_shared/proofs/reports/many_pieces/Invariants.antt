use Rattle.std.proofs.Common.{◌≡◌}
use Rattle.test_shared.proofs.reports.many_pieces.Given as goal

abbrev pub invariant-loop-i : goal.invariant-loop-i
invariant-loop-i g l = l.pool.workers ≡ 1
