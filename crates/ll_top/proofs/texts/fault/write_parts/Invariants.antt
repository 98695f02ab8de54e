use Rattle.std.proofs.Common.{◌≡◌, Some}
use Rattle.ll_top.proofs.judging.PartsLemmas.{AreWritten}
use Rattle.ll_top.proofs.texts.fault.write_parts.Given as goal

abbrev pub invariant-loop-part : goal.invariant-loop-part
invariant-loop-part g l =
    record {
      parts : AreWritten (Some (g.O.Sink.taken l.initial.sink)) (Some (g.O.Sink.taken l.sink)) l.parts l.part-index;
      faults : g.O.Sink.faults l.sink ≡ g.O.Sink.faults l.initial.sink;
    }
