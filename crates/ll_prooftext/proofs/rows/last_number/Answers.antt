use Rattle.ll_prooftext.specs.Reading.{Number, Nothing, Then}
use Rattle.ll_prooftext.specs.Fields.{LacksField, StopsAt}
use Rattle.std.proofs.lemmas.Result.{err_from_is_err_and, IfOk-from_err}
use Rattle.ll_prooftext.proofs.reading.Rest.{stops_here, number_then, refuses_weaker}
use Rattle.ll_prooftext.proofs.rows.last_number.Goals as goal

pub returns-in_err-number-clause-err : goal.returns-in_err-number-clause-err
returns-in_err-number-clause-err c =
    let p = err_from_is_err_and c.from_residual.result c.from_residual.ensures.1 in
    rw (p.1, p.2) (refuses_weaker (LacksField Number c.args.bytes.now) (StopsAt (Then Number Nothing) c.args.bytes.now)
    (λ n h. stops_here Number Nothing c.args.bytes.now n h) c.in_err-number.field-0.0 c.in_err-number.ensures.err)

pub returns-in_err-no_more-clause-err : goal.returns-in_err-no_more-clause-err
returns-in_err-no_more-clause-err c =
    let p = err_from_is_err_and c.from_residual-in_err-no_more.result c.from_residual-in_err-no_more.ensures.1 in
    rw (p.1, p.2) (refuses_weaker (StopsAt Nothing c.in_ok-number.rest.now) (StopsAt (Then Number Nothing) c.args.bytes.now)
    (λ n h. number_then c.args.bytes.now c.in_ok-number.rest.now c.in_ok-number.number n Nothing c.in_ok-number.ensures.ok h) c.in_err-no_more.field-0.0
    c.in_err-no_more.ensures.err)

pub returns-in_err-number-clause-ok : goal.returns-in_err-number-clause-ok
returns-in_err-number-clause-ok c = IfOk-from_err c.from_residual.result _ c.from_residual.ensures.0

pub returns-in_err-no_more-clause-ok : goal.returns-in_err-no_more-clause-ok
returns-in_err-no_more-clause-ok c = IfOk-from_err c.from_residual-in_err-no_more.result _ c.from_residual-in_err-no_more.ensures.0

pub returns-clause-err : goal.returns-clause-err
returns-clause-err c = _
