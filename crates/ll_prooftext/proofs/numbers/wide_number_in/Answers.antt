use Rattle.ll_prooftext.proofs.spelling.Numerals.{no_wide, its_wide, not_failed}
use Rattle.ll_prooftext.proofs.numbers.wide_number_in.Goals as goal

pub returns-else-spells : goal.returns-else-spells
returns-else-spells c = λ h. not_failed c.if-spells.ensures.1 (its_wide c.args.text.now c.in-Ok.number c.in-Ok.ensures.value.0 h)

pub returns-in-Err : goal.returns-in-Err
returns-in-Err c = λ h. no_wide c.args.text.now c.in-Err.field-0 c.in-Err.ensures.value.0 h
