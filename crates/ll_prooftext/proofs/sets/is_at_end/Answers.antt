use Rattle.ll_prooftext.proofs.reading.Labels.{end_of_line, end_at_byte}
use Rattle.ll_prooftext.proofs.sets.is_at_end.Goals as goal

pub returns : goal.returns
returns c = end_at_byte c.args.rest.now c.in-Some.first.now _ c.in-Some.ensures.cases.0

pub returns-in_default : goal.returns-in_default
returns-in_default c = end_of_line c.args.rest.now c.in_default.ensures.cases
