use Rattle.ll_prooftext.proofs.reading.Calls.{cell_shorter}
use Rattle.ll_prooftext.proofs.spelling.Kept.{below, grows_on}
use Rattle.std.proofs.Common.{length, subst}
use Rattle.std.proofs.lemmas.Result.{err_from_is_err_and, IfOk-from_err}
use Rattle.std.proofs.lemmas.List.{length-map}
use Rattle.ll_bank.specs.declared.At.{At}
use Rattle.ll_bank.specs.Nodes.{term_tree, term_trees}
use Rattle.ll_prooftext.specs.Reading.{Cell}
use Rattle.ll_prooftext.specs.Fields.{LacksField}
use Rattle.ll_prooftext.specs.Cells.{IsCellField, StopsAtCell}
use Rattle.ll_prooftext.proofs.reading.Rest.{refuses_weaker}
use Rattle.ll_prooftext.proofs.reading.CellsRead.{cells_none, cells_more, cells_stop, rows_same, rows_stay}
use Rattle.ll_prooftext.proofs.cells.cell_fields.Goals as goal

pub loop-names-init : goal.loop-names-init
loop-names-init c = rw c.new-terms.ensures.items (cells_none (term_trees c.args.bank.now c.args.rows.now) c.args.names.now c.args.bank.now c.args.bytes.now
    c.requires.end)

pub cell_field-requires-clause-rows : goal.cell_field-requires-clause-rows
cell_field-requires-clause-rows c = rows_stay c.args.names.now c.args.bank.now c.loop-names.names c.loop-names.bank c.args.rows.now
    c.loop-names.invariant.moves.grows c.loop-names.invariant.moves.keeps c.requires.rows

pub returns-in_err-at-clause-err : goal.returns-in_err-at-clause-err
returns-in_err-at-clause-err c =
    let p = err_from_is_err_and c.from_residual.result c.from_residual.ensures.1 in
    rw (p.1, p.2)
    (refuses_weaker (LacksField (Cell (length c.args.rows.now)) c.loop-names.rest.now) (StopsAtCell (length c.args.rows.now) c.args.bytes.now)
    (λ n h. cells_stop (term_trees c.args.bank.now c.args.rows.now) (length c.args.rows.now) c.args.names.now c.args.bank.now c.args.bytes.now
    c.loop-names.names c.loop-names.bank c.loop-names.terms.items c.loop-names.rest.now n
    (length-map c.args.rows.now (λ (a : At). term_tree c.args.bank.now a.0))
    c.loop-names.invariant c.loop-names-test.ensures h) c.in_err-at.field-0.0 c.in_err-at.ensures.err)

pub loop-names-preserved : goal.loop-names-preserved
loop-names-preserved c =
    let same = rows_same c.args.names.now c.args.bank.now c.loop-names.bank c.args.rows.now c.loop-names.invariant.moves.keeps c.requires.rows in
    rw c.in_ok-push.ensures.items
    (cells_more (term_trees c.args.bank.now c.args.rows.now) c.args.names.now c.args.bank.now c.args.bytes.now c.loop-names.names c.loop-names.bank
    c.loop-names.terms.items c.loop-names.rest.now c.cell_field.new.names c.cell_field.new.bank c.in_ok-at.at c.in_ok-at.next.now c.loop-names.invariant
    (subst (λ rows. IsCellField rows c.loop-names.names c.loop-names.bank c.loop-names.rest.now c.cell_field.new.names c.cell_field.new.bank c.in_ok-at.at.0
    c.in_ok-at.next.now) same c.in_ok-at.ensures.ok))

pub returns-in_err-at-clause-ok : goal.returns-in_err-at-clause-ok
returns-in_err-at-clause-ok c = IfOk-from_err c.from_residual.result _ c.from_residual.ensures.0

pub returns-in_err-at-clause-stops : goal.returns-in_err-at-clause-stops
returns-in_err-at-clause-stops c = IfOk-from_err c.from_residual.result _ c.from_residual.ensures.0

pub returns-in_err-push-clause-ok : goal.returns-in_err-push-clause-ok
returns-in_err-push-clause-ok c = IfOk-from_err c.from_residual-in_err-push.result _ c.from_residual-in_err-push.ensures.0

pub returns-in_err-push-clause-stops : goal.returns-in_err-push-clause-stops
returns-in_err-push-clause-stops c = IfOk-from_err c.from_residual-in_err-push.result _ c.from_residual-in_err-push.ensures.0

pub returns-in_err-push-clause-err : goal.returns-in_err-push-clause-err
returns-in_err-push-clause-err c = let p = err_from_is_err_and c.from_residual-in_err-push.result c.from_residual-in_err-push.ensures.1 in rw (p.1, p.2) tt

pub cell_field-requires-clause-few : goal.cell_field-requires-clause-few
cell_field-requires-clause-few c = c.requires.few

pub cell_field-requires-clause-end : goal.cell_field-requires-clause-end
cell_field-requires-clause-end c = c.loop-names.invariant.end

pub cell_field-requires-clause-room : goal.cell_field-requires-clause-room
cell_field-requires-clause-room c = below _ _ _ c.loop-names.invariant.moves.few c.requires.room

pub has_term-requires : goal.has_term-requires
has_term-requires c = c.loop-names.invariant.end

pub returns-in_err-at-clause-grows : goal.returns-in_err-at-clause-grows
returns-in_err-at-clause-grows c =
    grows_on c.args.names.now c.loop-names.names c.cell_field.new.names c.loop-names.invariant.moves.grows c.cell_field.ensures.grows

pub returns-in_err-push-clause-grows : goal.returns-in_err-push-clause-grows
returns-in_err-push-clause-grows c =
    grows_on c.args.names.now c.loop-names.names c.cell_field.new.names c.loop-names.invariant.moves.grows c.cell_field.ensures.grows

pub returns-clause-ok : goal.returns-clause-ok
returns-clause-ok c = c.loop-names.invariant

pub returns-clause-stops : goal.returns-clause-stops
returns-clause-stops c = c.loop-names-test.ensures

pub returns-clause-grows : goal.returns-clause-grows
returns-clause-grows c = c.loop-names.invariant.moves.grows

pub loop-names-smaller : goal.loop-names-smaller
loop-names-smaller c = cell_shorter c.in_ok-at.ensures.ok

pub returns-clause-err : goal.returns-clause-err
returns-clause-err c = _
