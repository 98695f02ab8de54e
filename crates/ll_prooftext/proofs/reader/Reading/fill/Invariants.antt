use Rattle.std.proofs.Common.{length}
use Rattle.ll_prooftext.proofs.reading.SoFar.{IsSoFar}
use Rattle.ll_prooftext.proofs.reader.Reading.fill.Given as goal

abbrev pub invariant-loop-line : goal.invariant-loop-line
invariant-loop-line l = IsSoFar l.text l.initial.names l.names l.self l.lines

abbrev pub decreases-loop-line : goal.decreases-loop-line
decreases-loop-line l = length l.lines.rest.now
