use Rattle.std.proofs.Common.{refl}
use Rattle.ll_prooftext.specs.Reading.{Set, Nothing, Then}
use Rattle.ll_prooftext.specs.Fields.{LacksField, StopsAt}
use Rattle.std.proofs.lemmas.Result.{err_from_is_err_and, IfOk-from_err}
use Rattle.ll_prooftext.proofs.reading.Rest.{stops_here, set_then, refuses_weaker}
use Rattle.ll_prooftext.proofs.rows.tensor.Goals as goal

pub returns-in_err-first-clause-err : goal.returns-in_err-first-clause-err
returns-in_err-first-clause-err c =
    let p = err_from_is_err_and c.from_residual.result c.from_residual.ensures.1 in
    rw (p.1, p.2) (refuses_weaker (LacksField Set c.args.bytes.now) (StopsAt (Then Set (Then Set Nothing)) c.args.bytes.now)
    (λ n h. stops_here Set (Then Set Nothing) c.args.bytes.now n h) c.in_err-first.field-0.0 c.in_err-first.ensures.err)

pub returns-in_err-second-clause-err : goal.returns-in_err-second-clause-err
returns-in_err-second-clause-err c =
    let p = err_from_is_err_and c.from_residual-in_err-second.result c.from_residual-in_err-second.ensures.1 in
    rw (p.1, p.2)
    (refuses_weaker (LacksField Set c.in_ok-first.behind_first.now) (StopsAt (Then Set (Then Set Nothing)) c.args.bytes.now)
    (λ n h. set_then c.args.bytes.now c.in_ok-first.first.items c.in_ok-first.behind_first.now n (Then Set (Then Set Nothing)) (Then Set Nothing) refl
    c.in_ok-first.ensures.ok (stops_here Set Nothing c.in_ok-first.behind_first.now n h)) c.in_err-second.field-0.0
    c.in_err-second.ensures.err)

pub returns-in_err-no_more-clause-err : goal.returns-in_err-no_more-clause-err
returns-in_err-no_more-clause-err c =
    let p = err_from_is_err_and c.from_residual-in_err-no_more.result c.from_residual-in_err-no_more.ensures.1 in
    rw (p.1, p.2)
    (refuses_weaker (StopsAt Nothing c.in_ok-second.behind_second.now) (StopsAt (Then Set (Then Set Nothing)) c.args.bytes.now)
    (λ n h.
    set_then c.args.bytes.now c.in_ok-first.first.items c.in_ok-first.behind_first.now n (Then Set (Then Set Nothing)) (Then Set Nothing) refl
    c.in_ok-first.ensures.ok
    (set_then c.in_ok-first.behind_first.now c.in_ok-second.second.items c.in_ok-second.behind_second.now n (Then Set Nothing) Nothing refl
    c.in_ok-second.ensures.ok h)) c.in_err-no_more.field-0.0 c.in_err-no_more.ensures.err)

pub returns-in_err-first-clause-ok : goal.returns-in_err-first-clause-ok
returns-in_err-first-clause-ok c = IfOk-from_err c.from_residual.result _ c.from_residual.ensures.0

pub returns-in_err-second-clause-ok : goal.returns-in_err-second-clause-ok
returns-in_err-second-clause-ok c = IfOk-from_err c.from_residual-in_err-second.result _ c.from_residual-in_err-second.ensures.0

pub returns-in_err-no_more-clause-ok : goal.returns-in_err-no_more-clause-ok
returns-in_err-no_more-clause-ok c = IfOk-from_err c.from_residual-in_err-no_more.result _ c.from_residual-in_err-no_more.ensures.0

pub returns-clause-err : goal.returns-clause-err
returns-clause-err c = _
