use Rattle.ll_prooftext.proofs.spelling.Numerals.{no_integer, its_integer, not_failed}
use Rattle.ll_prooftext.proofs.numbers.integer_in.Goals as goal

pub returns-else-spells_integer : goal.returns-else-spells_integer
returns-else-spells_integer c = λ h. not_failed c.if-spells_integer.ensures.1 (its_integer c.args.text.now c.in-Ok.value c.in-Ok.ensures.value.0 h)

pub returns-in-Err : goal.returns-in-Err
returns-in-Err c = λ h. no_integer c.args.text.now c.in-Err.field-0 c.in-Err.ensures.value.0 h
