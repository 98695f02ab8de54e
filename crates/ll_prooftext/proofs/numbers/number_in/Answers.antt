use Rattle.std.proofs.Common.{ap, sym, ◌∙◌, decimal}
use Rattle.ll_prooftext.proofs.spelling.Numerals.{no_number, its_number, not_failed}
use Rattle.ll_prooftext.proofs.numbers.number_in.Goals as goal

pub returns-else-spells : goal.returns-else-spells
returns-else-spells c = λ h. not_failed c.if-spells.ensures.1
    (its_number c.args.text.now c.in-Ok.number c.in-Ok.ensures.value.0 h ∙ ap decimal (sym c.from.ensures))

pub returns-in-Err : goal.returns-in-Err
returns-in-Err c = λ h. no_number c.args.text.now c.in-Err.field-0 c.in-Err.ensures.value.0 h
