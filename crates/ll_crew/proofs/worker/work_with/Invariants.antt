use Rattle.std.proofs.Common.{◌≡◌, None}
use Rattle.ll_crew.specs.Turns.{Stays}
use Rattle.ll_crew.specs.Pieces.{IsKeptOf}
use Rattle.ll_crew.specs.Workers.{Holds, Standing}
use Rattle.ll_crew.proofs.worker.work_with.Given as goal

abbrev pub invariant-claims : goal.invariant-claims
invariant-claims g l =
    Holds l.initial.worker l.worker
    × Stays (Standing g.O.Outlet l.job l.worker)
    l.initial.worker.seat.now l.worker.seat.now
    × (l.worker.seat.now.mine.piece ≡ None)
    × IsKeptOf l.job.problem.now l.worker.kept.now
