use Rattle.ll_prooftext.proofs.reading.Calls.{term_shorter}
use Rattle.ll_prooftext.proofs.spelling.Kept.{below, grows_on}
use Rattle.std.proofs.lemmas.Result.{err_from_is_err_and, IfOk-from_err}
use Rattle.ll_prooftext.specs.Reading.{Argument, Arguments}
use Rattle.ll_prooftext.specs.Fields.{LacksField, StopsAt}
use Rattle.ll_prooftext.proofs.reading.Rest.{terms_none, terms_more, terms_stop, refuses_weaker}
use Rattle.ll_prooftext.proofs.rows.term_fields.Goals as goal

pub loop-alloc-init : goal.loop-alloc-init
loop-alloc-init c = rw c.new-terms.ensures.items (terms_none c.args.names.now c.args.bank.now c.args.bytes.now c.requires.end)

pub returns-in_err-at-clause-err : goal.returns-in_err-at-clause-err
returns-in_err-at-clause-err c =
    let p = err_from_is_err_and c.from_residual.result c.from_residual.ensures.1 in
    rw (p.1, p.2)
    (refuses_weaker (LacksField Argument c.loop-alloc.rest.now) (StopsAt Arguments c.args.bytes.now)
    (λ n h. terms_stop c.args.names.now c.args.bank.now c.args.bytes.now c.loop-alloc.names c.loop-alloc.bank c.loop-alloc.terms.items c.loop-alloc.rest.now n
    c.loop-alloc.invariant c.loop-alloc-test.ensures h) c.in_err-at.field-0.0 c.in_err-at.ensures.err)

pub loop-alloc-preserved : goal.loop-alloc-preserved
loop-alloc-preserved c =
    rw c.in_ok-push.ensures.items
    (terms_more c.args.names.now c.args.bank.now c.args.bytes.now c.loop-alloc.names c.loop-alloc.bank c.loop-alloc.terms.items c.loop-alloc.rest.now
    c.term_field.new.names c.term_field.new.bank c.in_ok-at.at c.in_ok-at.next.now c.loop-alloc.invariant c.in_ok-at.ensures.ok)

pub returns-in_err-at-clause-ok : goal.returns-in_err-at-clause-ok
returns-in_err-at-clause-ok c = IfOk-from_err c.from_residual.result _ c.from_residual.ensures.0

pub returns-in_err-at-clause-stops : goal.returns-in_err-at-clause-stops
returns-in_err-at-clause-stops c = IfOk-from_err c.from_residual.result _ c.from_residual.ensures.0

pub returns-in_err-push-clause-ok : goal.returns-in_err-push-clause-ok
returns-in_err-push-clause-ok c = IfOk-from_err c.from_residual-in_err-push.result _ c.from_residual-in_err-push.ensures.0

pub returns-in_err-push-clause-stops : goal.returns-in_err-push-clause-stops
returns-in_err-push-clause-stops c = IfOk-from_err c.from_residual-in_err-push.result _ c.from_residual-in_err-push.ensures.0

pub returns-in_err-push-clause-err : goal.returns-in_err-push-clause-err
returns-in_err-push-clause-err c = let p = err_from_is_err_and c.from_residual-in_err-push.result c.from_residual-in_err-push.ensures.1 in rw (p.1, p.2) tt

pub term_field-requires-clause-end : goal.term_field-requires-clause-end
term_field-requires-clause-end c = c.loop-alloc.invariant.end

pub term_field-requires-clause-room : goal.term_field-requires-clause-room
term_field-requires-clause-room c = below _ _ _ c.loop-alloc.invariant.moves.few c.requires.room

pub has_term-requires : goal.has_term-requires
has_term-requires c = c.loop-alloc.invariant.end

pub returns-in_err-at-clause-grows : goal.returns-in_err-at-clause-grows
returns-in_err-at-clause-grows c =
    grows_on c.args.names.now c.loop-alloc.names c.term_field.new.names c.loop-alloc.invariant.moves.grows c.term_field.ensures.grows

pub returns-in_err-push-clause-grows : goal.returns-in_err-push-clause-grows
returns-in_err-push-clause-grows c =
    grows_on c.args.names.now c.loop-alloc.names c.term_field.new.names c.loop-alloc.invariant.moves.grows c.term_field.ensures.grows

pub returns-clause-ok : goal.returns-clause-ok
returns-clause-ok c = c.loop-alloc.invariant

pub returns-clause-stops : goal.returns-clause-stops
returns-clause-stops c = c.loop-alloc-test.ensures

pub returns-clause-grows : goal.returns-clause-grows
returns-clause-grows c = c.loop-alloc.invariant.moves.grows

pub loop-alloc-smaller : goal.loop-alloc-smaller
loop-alloc-smaller c = term_shorter c.in_ok-at.ensures.ok

pub returns-clause-err : goal.returns-clause-err
returns-clause-err c = _
