use Rattle.ll_order.specs.Drained.{Drained, StillWelcome, count_untaken}
use Rattle.ll_order.proofs.order.drain.Given as goal

abbrev pub invariant-loop-report : goal.invariant-loop-report
invariant-loop-report g l =
    Drained g.N.Batch.alternatives g.O.Outlet.takes l.initial.pool l.initial.out l.pool l.out l.counts
    × StillWelcome g.N.Batch.alternatives g.O.Outlet.welcome g.O.Outlet.faults l.initial.out l.pool l.out

abbrev pub decreases-loop-report : goal.decreases-loop-report
decreases-loop-report g l = count_untaken l.pool.pieces
