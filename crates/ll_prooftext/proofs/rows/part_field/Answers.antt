use Rattle.std.proofs.lemmas.Result.{IfOk-from_err, err_from_is_err_and}
use Rattle.ll_prooftext.proofs.spelling.Arguments.{not_ended}
use Rattle.ll_prooftext.proofs.reading.Rest.{part_marked, part_other}
use Rattle.ll_prooftext.proofs.rows.part_field.Goals as goal

pub returns-in-Some-behind-clause-err : goal.returns-in-Some-behind-clause-err
returns-in-Some-behind-clause-err c = part_marked c.args.bytes.now c.in-Some.field.now c.in-Some-behind.rest.now c.in-Some.ensures c.in-Some-behind.ensures
    (not_ended c.is_at_end.ensures c.if-is_at_end.false)

pub returns-in-None-clause-err : goal.returns-in-None-clause-err
returns-in-None-clause-err c = part_other c.args.bytes.now c.in-Some.field.now c.in-Some.ensures c.in_default-behind.ensures
    (rw c.in-None.is at c.in_ok-labels.ensures)

pub returns-in_err-labels-clause-ok : goal.returns-in_err-labels-clause-ok
returns-in_err-labels-clause-ok c = IfOk-from_err c.from_residual.result _ c.from_residual.ensures.0

pub returns-in_err-labels-clause-err : goal.returns-in_err-labels-clause-err
returns-in_err-labels-clause-err c = let p = err_from_is_err_and c.from_residual.result c.from_residual.ensures.1 in rw (p.1, p.2) tt

pub returns-in_default-clause-ok : goal.returns-in_default-clause-ok
returns-in_default-clause-ok c = _

pub returns-then-is_at_end-clause-err : goal.returns-then-is_at_end-clause-err
returns-then-is_at_end-clause-err c = _

pub returns-in-Some-behind-clause-ok : goal.returns-in-Some-behind-clause-ok
returns-in-Some-behind-clause-ok c = _

pub returns-in-Some-2-clause-err : goal.returns-in-Some-2-clause-err
returns-in-Some-2-clause-err c = _

pub returns-in-None-clause-ok : goal.returns-in-None-clause-ok
returns-in-None-clause-ok c = _
