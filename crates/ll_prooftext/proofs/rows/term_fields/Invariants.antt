use Rattle.std.proofs.Common.{length}
use Rattle.ll_prooftext.specs.Fields.{AreTermFields}
use Rattle.ll_prooftext.proofs.rows.term_fields.Given as goal

abbrev pub invariant-loop-alloc : goal.invariant-loop-alloc
invariant-loop-alloc l = AreTermFields l.initial.names l.initial.bank l.bytes l.names l.bank l.terms.items l.rest

abbrev pub decreases-loop-alloc : goal.decreases-loop-alloc
decreases-loop-alloc l = length l.rest
