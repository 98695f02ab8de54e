use Rattle.std.proofs.Common.{◌≡◌, ◌≤◌, true}
use Rattle.ll_crew.specs.Turns.{KeepsPiece}
use Rattle.ll_crew.specs.Leading.{Stands}
use Rattle.ll_crew.proofs.lead.tell_all.Given as goal

abbrev pub invariant-loop : goal.invariant-loop
invariant-loop g l =
    (l.told.leads ≡ true)
    × KeepsPiece (Stands g.O.Outlet l.job l.seat l.out l.told)
    l.initial.seat l.seat
    × (l.initial.seat.mine.turns ≤ l.seat.mine.turns)
