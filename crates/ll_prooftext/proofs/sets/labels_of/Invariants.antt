use Rattle.std.proofs.Common.{length}
use Rattle.ll_prooftext.proofs.reading.Labels.{IsReadTo}
use Rattle.ll_prooftext.proofs.sets.labels_of.Given as goal

abbrev pub invariant-loop-label : goal.invariant-loop-label
invariant-loop-label l = IsReadTo l.body l.labels.items l.rest l.least

abbrev pub decreases-loop-label : goal.decreases-loop-label
decreases-loop-label l = length l.rest
