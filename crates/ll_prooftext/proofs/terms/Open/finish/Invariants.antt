use Rattle.std.proofs.Common.{length}
use Rattle.ll_prooftext.proofs.spelling.Arguments.{IsReading}
use Rattle.ll_prooftext.proofs.terms.Open.finish.Given as goal

abbrev pub invariant-steps : goal.invariant-steps
invariant-steps l = IsReading l.initial.names l.initial.bank l.inside l.names l.bank l.self l.rest

abbrev pub decreases-steps : goal.decreases-steps
decreases-steps l = length l.rest
