use Rattle.std.proofs.Common.{◌≡◌, ◌≤◌, List, []}
use Rattle.ll_laws.specs.declared.Event.{Event}
use Rattle.ll_crew.specs.Seats.{Calm}
use Rattle.ll_crew.specs.Pieces.{OwesAll}
use Rattle.ll_crew.proofs.piece.share.Given as goal

abbrev pub invariant-points : goal.invariant-points
invariant-points g l =
    Calm l.initial.seat l.seat
    × (l.engine.problem ≡ l.initial.engine.problem)
    × (l.engine.work ≤ l.initial.engine.work)
    × ((found : List Event) → OwesAll l.initial.seat.mine.piece found l.initial.engine [] → OwesAll l.seat.mine.piece found l.engine [])

abbrev pub decreases-points : goal.decreases-points
decreases-points g l = l.engine.points
