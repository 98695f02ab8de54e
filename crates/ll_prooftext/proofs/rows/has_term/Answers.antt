use Rattle.ll_prooftext.proofs.reading.Rest.{no_term_brace, no_term_mark}
use Rattle.ll_prooftext.proofs.rows.has_term.Goals as goal

pub returns-in-Some-behind : goal.returns-in-Some-behind
returns-in-Some-behind c = no_term_brace c.args.bytes.now c.in-Some.field.now c.in-Some-behind.field-0.now c.in-Some.ensures c.in-Some-behind.ensures

pub returns-in-Some-behind-2 : goal.returns-in-Some-behind-2
returns-in-Some-behind-2 c = no_term_mark c.args.bytes.now c.in-Some.field.now c.in-Some-behind-2.field-0.now c.in-Some.ensures c.in-Some-behind-2.ensures
