use Rattle.std.proofs.Common.{length}
use Rattle.ll_prooftext.proofs.reading.Rest.{ArePartsTo}
use Rattle.ll_prooftext.proofs.rows.part_fields.Given as goal

abbrev pub invariant-loop-rest : goal.invariant-loop-rest
invariant-loop-rest l = ArePartsTo l.bytes l.parts.items l.rest

abbrev pub decreases-loop-rest : goal.decreases-loop-rest
decreases-loop-rest l = length l.rest
