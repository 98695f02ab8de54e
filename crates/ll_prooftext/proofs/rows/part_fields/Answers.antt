use Rattle.ll_prooftext.proofs.reading.Calls.{part_shorter}
use Rattle.std.proofs.lemmas.Result.{err_from_is_err_and, IfOk-from_err}
use Rattle.ll_prooftext.specs.Reading.{Arguments}
use Rattle.ll_prooftext.specs.Fields.{LacksPart, StopsAt}
use Rattle.ll_prooftext.proofs.reading.Rest.{parts_none, parts_more, parts_stop, refuses_weaker, not_empty}
use Rattle.ll_prooftext.proofs.rows.part_fields.Goals as goal

pub loop-rest-init : goal.loop-rest-init
loop-rest-init c = rw c.new-parts.ensures.items (parts_none c.args.bytes.now c.requires.end c.requires.begins)

pub returns-in_err-part-clause-err : goal.returns-in_err-part-clause-err
returns-in_err-part-clause-err c =
    let p = err_from_is_err_and c.from_residual.result c.from_residual.ensures.1 in
    rw (p.1, p.2)
    (refuses_weaker (LacksPart c.loop-rest.rest.now) (StopsAt Arguments c.args.bytes.now)
    (λ n h. parts_stop c.args.bytes.now c.loop-rest.parts.items c.loop-rest.rest.now n c.loop-rest.invariant
    (not_empty c.loop-rest.rest.now c.is_empty.ensures c.loop-rest-test.true) h) c.in_err-part.field-0.0 c.in_err-part.ensures.err)

pub loop-rest-preserved : goal.loop-rest-preserved
loop-rest-preserved c = rw c.in_ok-push.ensures.items (parts_more c.args.bytes.now c.loop-rest.parts.items c.loop-rest.rest.now c.in_ok-part.part
    c.in_ok-part.next.now c.loop-rest.invariant c.in_ok-part.ensures.ok)

pub returns-in_err-part-clause-ok : goal.returns-in_err-part-clause-ok
returns-in_err-part-clause-ok c = IfOk-from_err c.from_residual.result _ c.from_residual.ensures.0

pub returns-in_err-push-clause-ok : goal.returns-in_err-push-clause-ok
returns-in_err-push-clause-ok c = IfOk-from_err c.from_residual-in_err-push.result _ c.from_residual-in_err-push.ensures.0

pub returns-in_err-push-clause-err : goal.returns-in_err-push-clause-err
returns-in_err-push-clause-err c = let p = err_from_is_err_and c.from_residual-in_err-push.result c.from_residual-in_err-push.ensures.1 in rw (p.1, p.2) tt

pub loop-rest-smaller : goal.loop-rest-smaller
loop-rest-smaller c = part_shorter _ _ _ c.in_ok-part.ensures.ok

pub returns-clause-err : goal.returns-clause-err
returns-clause-err c = _
