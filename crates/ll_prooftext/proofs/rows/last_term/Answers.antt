use Rattle.std.proofs.Common.{refl}
use Rattle.ll_prooftext.specs.Reading.{Argument, Nothing, Then}
use Rattle.ll_prooftext.specs.Fields.{LacksField, StopsAt}
use Rattle.std.proofs.lemmas.Result.{err_from_is_err_and, IfOk-from_err}
use Rattle.ll_prooftext.proofs.reading.Rest.{stops_here, argument_then, refuses_weaker}
use Rattle.ll_prooftext.proofs.rows.last_term.Goals as goal

pub returns-in_err-at-clause-err : goal.returns-in_err-at-clause-err
returns-in_err-at-clause-err c =
    let p = err_from_is_err_and c.from_residual.result c.from_residual.ensures.1 in
    rw (p.1, p.2) (refuses_weaker (LacksField Argument c.args.bytes.now) (StopsAt (Then Argument Nothing) c.args.bytes.now)
    (λ n h. stops_here Argument Nothing c.args.bytes.now n h) c.in_err-at.field-0.0 c.in_err-at.ensures.err)

pub returns-in_err-no_more-clause-err : goal.returns-in_err-no_more-clause-err
returns-in_err-no_more-clause-err c =
    let p = err_from_is_err_and c.from_residual-in_err-no_more.result c.from_residual-in_err-no_more.ensures.1 in
    rw (p.1, p.2)
    (refuses_weaker (StopsAt Nothing c.in_ok-at.rest.now) (StopsAt (Then Argument Nothing) c.args.bytes.now)
    (λ n h. argument_then c.args.names.now c.args.bank.now c.args.bytes.now c.term_field.new.names c.term_field.new.bank c.in_ok-at.at.0 c.in_ok-at.rest.now n
    (Then Argument Nothing) Nothing refl c.in_ok-at.ensures.ok h) c.in_err-no_more.field-0.0
    c.in_err-no_more.ensures.err)

pub returns-in_err-at-clause-ok : goal.returns-in_err-at-clause-ok
returns-in_err-at-clause-ok c = IfOk-from_err c.from_residual.result _ c.from_residual.ensures.0

pub returns-in_err-no_more-clause-ok : goal.returns-in_err-no_more-clause-ok
returns-in_err-no_more-clause-ok c = IfOk-from_err c.from_residual-in_err-no_more.result _ c.from_residual-in_err-no_more.ensures.0

pub returns-in_err-at-clause-grows : goal.returns-in_err-at-clause-grows
returns-in_err-at-clause-grows c = c.term_field.ensures.grows

pub returns-in_err-no_more-clause-grows : goal.returns-in_err-no_more-clause-grows
returns-in_err-no_more-clause-grows c = c.term_field.ensures.grows

pub returns-clause-grows : goal.returns-clause-grows
returns-clause-grows c = c.term_field.ensures.grows

pub returns-clause-err : goal.returns-clause-err
returns-clause-err c = _

pub term_field-requires-clause-end : goal.term_field-requires-clause-end
term_field-requires-clause-end c = c.requires.end

pub term_field-requires-clause-room : goal.term_field-requires-clause-room
term_field-requires-clause-room c = c.requires.room
