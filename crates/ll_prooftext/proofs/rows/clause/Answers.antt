use Rattle.ll_prooftext.proofs.spelling.Kept.{grows_none}
use Rattle.std.proofs.Common.{arith}
use Rattle.std.proofs.lemmas.Result.{err_from_is_err_and, IfOk-from_err}
use Rattle.ll_prooftext.specs.Reading.{Number, Arguments, Then}
use Rattle.ll_prooftext.specs.Fields.{LacksField, StopsAt}
use Rattle.ll_prooftext.proofs.reading.Rest.{stops_here, number_then, clause_then, terms_then, clause_made, number_room, refuses_weaker}
use Rattle.ll_prooftext.proofs.rows.clause.Goals as goal

pub returns-in_err-label-clause-err : goal.returns-in_err-label-clause-err
returns-in_err-label-clause-err c =
    let p = err_from_is_err_and c.from_residual.result c.from_residual.ensures.1 in
    rw (p.1, p.2) (refuses_weaker (LacksField Number c.args.bytes.now) (StopsAt (Then Number (Then Number Arguments)) c.args.bytes.now)
    (λ n h. stops_here Number (Then Number Arguments) c.args.bytes.now n h) c.in_err-label.field-0.0 c.in_err-label.ensures.err)

pub returns-in_err-leaf-clause-err : goal.returns-in_err-leaf-clause-err
returns-in_err-leaf-clause-err c =
    let p = err_from_is_err_and c.from_residual-in_err-leaf.result c.from_residual-in_err-leaf.ensures.1 in
    rw (p.1, p.2)
    (refuses_weaker (LacksField Number c.in_ok-label.behind_label.now) (StopsAt (Then Number (Then Number Arguments)) c.args.bytes.now)
    (λ n h. number_then c.args.bytes.now c.in_ok-label.behind_label.now c.in_ok-label.label n (Then Number Arguments) c.in_ok-label.ensures.ok
    (stops_here Number Arguments c.in_ok-label.behind_label.now n h)) c.in_err-leaf.field-0.0 c.in_err-leaf.ensures.err)

pub term_fields-requires-clause-room : goal.term_fields-requires-clause-room
term_fields-requires-clause-room c =
    let a = number_room c.args.bytes.now c.in_ok-label.label c.in_ok-label.behind_label.now c.in_ok-label.ensures.ok in
    let b = number_room c.in_ok-label.behind_label.now c.in_ok-leaf.leaf c.in_ok-leaf.behind_leaf.now c.in_ok-leaf.ensures.ok in
    omega arith

pub returns-in_err-terms-clause-err : goal.returns-in_err-terms-clause-err
returns-in_err-terms-clause-err c =
    let p = err_from_is_err_and c.from_residual-in_err-terms.result c.from_residual-in_err-terms.ensures.1 in
    rw (p.1, p.2)
    (refuses_weaker (StopsAt Arguments c.in_ok-leaf.behind_leaf.now) (StopsAt (Then Number (Then Number Arguments)) c.args.bytes.now)
    (λ n h. clause_then c.args.bytes.now c.in_ok-label.label c.in_ok-label.behind_label.now c.in_ok-leaf.leaf c.in_ok-leaf.behind_leaf.now n
    c.in_ok-label.ensures.ok c.in_ok-leaf.ensures.ok h) c.in_err-terms.field-0.0 c.in_err-terms.ensures.err)

pub returns-in_err-parts-clause-err : goal.returns-in_err-parts-clause-err
returns-in_err-parts-clause-err c =
    let p = err_from_is_err_and c.from_residual-in_err-parts.result c.from_residual-in_err-parts.ensures.1 in
    rw (p.1, p.2)
    (refuses_weaker (StopsAt Arguments c.in_ok-terms.behind_terms.now) (StopsAt (Then Number (Then Number Arguments)) c.args.bytes.now)
    (λ n h.
    clause_then c.args.bytes.now c.in_ok-label.label c.in_ok-label.behind_label.now c.in_ok-leaf.leaf c.in_ok-leaf.behind_leaf.now n c.in_ok-label.ensures.ok
    c.in_ok-leaf.ensures.ok
    (terms_then c.args.names.now c.args.bank.now c.in_ok-leaf.behind_leaf.now c.term_fields.new.names c.term_fields.new.bank c.in_ok-terms.terms.items
    c.in_ok-terms.behind_terms.now n c.in_ok-terms.ensures.ok h)) c.in_err-parts.field-0.0
    c.in_err-parts.ensures.err)

pub returns-clause-ok : goal.returns-clause-ok
returns-clause-ok c =
    clause_made c.args.names.now c.args.bank.now c.args.bytes.now c.term_fields.new.names c.term_fields.new.bank c.in_ok-label.label
    c.in_ok-label.behind_label.now c.in_ok-leaf.leaf c.in_ok-leaf.behind_leaf.now c.in_ok-terms.terms.items c.in_ok-terms.behind_terms.now
    c.in_ok-parts.parts.items c.in_ok-label.ensures.ok c.in_ok-leaf.ensures.ok c.in_ok-terms.ensures.ok c.in_ok-parts.ensures.ok

pub part_fields-requires-clause-begins : goal.part_fields-requires-clause-begins
part_fields-requires-clause-begins c = c.in_ok-terms.ensures.stops

pub returns-in_err-label-clause-ok : goal.returns-in_err-label-clause-ok
returns-in_err-label-clause-ok c = IfOk-from_err c.from_residual.result _ c.from_residual.ensures.0

pub returns-in_err-leaf-clause-ok : goal.returns-in_err-leaf-clause-ok
returns-in_err-leaf-clause-ok c = IfOk-from_err c.from_residual-in_err-leaf.result _ c.from_residual-in_err-leaf.ensures.0

pub returns-in_err-terms-clause-ok : goal.returns-in_err-terms-clause-ok
returns-in_err-terms-clause-ok c = IfOk-from_err c.from_residual-in_err-terms.result _ c.from_residual-in_err-terms.ensures.0

pub returns-in_err-parts-clause-ok : goal.returns-in_err-parts-clause-ok
returns-in_err-parts-clause-ok c = IfOk-from_err c.from_residual-in_err-parts.result _ c.from_residual-in_err-parts.ensures.0

pub returns-in_err-label-clause-grows : goal.returns-in_err-label-clause-grows
returns-in_err-label-clause-grows c = grows_none c.args.names.now

pub returns-in_err-leaf-clause-grows : goal.returns-in_err-leaf-clause-grows
returns-in_err-leaf-clause-grows c = grows_none c.args.names.now

pub returns-in_err-terms-clause-grows : goal.returns-in_err-terms-clause-grows
returns-in_err-terms-clause-grows c = c.term_fields.ensures.grows

pub returns-in_err-parts-clause-grows : goal.returns-in_err-parts-clause-grows
returns-in_err-parts-clause-grows c = c.term_fields.ensures.grows

pub returns-clause-grows : goal.returns-clause-grows
returns-clause-grows c = c.term_fields.ensures.grows

pub number_field-requires : goal.number_field-requires
number_field-requires c = c.requires.end

pub returns-clause-err : goal.returns-clause-err
returns-clause-err c = _
