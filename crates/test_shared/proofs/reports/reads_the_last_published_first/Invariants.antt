use Rattle.std.proofs.Common.{◌≡◌}
use Rattle.test_shared.proofs.reports.reads_the_last_published_first.Given as goal

abbrev pub invariant-loop-want : goal.invariant-loop-want
invariant-loop-want g l = l.pool.workers ≡ 2

abbrev pub invariant-loop-want-2 : goal.invariant-loop-want-2
invariant-loop-want-2 g l = l.pool.workers ≡ 2
