use Rattle.std.specs.Prelude.{map}
use Rattle.std.specs.Arc.{arc_value}
use Rattle.ll_freeze.specs.Frozen.{alternatives_in}
use Rattle.ll_crew.specs.Pieces.{IsKeptOf}
use Rattle.ll_crew.specs.Runs.{RunsFirst}
use Rattle.ll_crew.specs.Workers.{Holds, Standing}
use Rattle.ll_crew.proofs.piece.run_batch.Given as goal

abbrev pub invariant-loop-k : goal.invariant-loop-k
invariant-loop-k g l =
    Holds l.initial.worker l.worker
    × IsKeptOf l.job.problem.now l.worker.kept.now
    × RunsFirst (Standing g.O.Outlet l.job l.worker)
    l.initial.worker.seat.now l.worker.seat.now
    (map g.O.Found.Notice.stands_for l.initial.events.items) l.initial.inferences (alternatives_in (arc_value l.rest.batch)) l.k
    (map g.O.Found.Notice.stands_for l.events.items) l.inferences
