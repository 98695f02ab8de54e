use Rattle.ll_crew.proofs.Gathering.{Begun}
use Rattle.ll_crew.proofs.pool.seats.Given as goal

abbrev pub invariant-loop-worker : goal.invariant-loop-worker
invariant-loop-worker g l = Begun l.pool l.initial.first.problem l.initial.first.mine.seen l.worker l.first l.all.items
