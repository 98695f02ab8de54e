use Rattle.std.proofs.Common.{◌≡◌, length, ◌-◌}
use Rattle.ll_edge.proofs.Writing.{IsTakenUpTo}
use Rattle.ll_edge.proofs.sink.write_all.Given as goal

abbrev pub invariant-loop-done : goal.invariant-loop-done
invariant-loop-done g l =
    IsTakenUpTo (g.O.Sink.taken l.initial.sink) (g.O.Sink.taken l.sink) l.piece l.done × (g.O.Sink.faults l.sink ≡ g.O.Sink.faults l.initial.sink)

abbrev pub decreases-loop-done : goal.decreases-loop-done
decreases-loop-done g l = length l.piece - l.done
