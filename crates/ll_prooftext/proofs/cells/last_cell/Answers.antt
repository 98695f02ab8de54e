use Rattle.std.proofs.Common.{length}
use Rattle.std.proofs.lemmas.Result.{err_from_is_err_and, IfOk-from_err}
use Rattle.std.proofs.lemmas.List.{length-map}
use Rattle.ll_bank.specs.declared.At.{At}
use Rattle.ll_bank.specs.Nodes.{term_tree, term_trees}
use Rattle.ll_prooftext.specs.Reading.{Cell, Nothing, Then}
use Rattle.ll_prooftext.specs.Fields.{LacksField, StopsAt}
use Rattle.ll_prooftext.proofs.reading.CellsRead.{stops_cell, cell_then}
use Rattle.ll_prooftext.proofs.reading.Rest.{stops_here, refuses_weaker}
use Rattle.ll_prooftext.proofs.cells.last_cell.Goals as goal

pub returns-in_err-at-clause-err : goal.returns-in_err-at-clause-err
returns-in_err-at-clause-err c =
    let n = length c.args.rows.now in
    let p = err_from_is_err_and c.from_residual.result c.from_residual.ensures.1 in
    rw (p.1, p.2) (refuses_weaker (LacksField (Cell n) c.args.bytes.now) (StopsAt (Then (Cell n) Nothing) c.args.bytes.now)
    (λ k h. stops_here (Cell n) Nothing c.args.bytes.now k h) c.in_err-at.field-0.0 c.in_err-at.ensures.err)

pub returns-in_err-no_more-clause-err : goal.returns-in_err-no_more-clause-err
returns-in_err-no_more-clause-err c =
    let n = length c.args.rows.now in
    let p = err_from_is_err_and c.from_residual-in_err-no_more.result c.from_residual-in_err-no_more.ensures.1 in
    rw (p.1, p.2)
    (refuses_weaker (StopsAt Nothing c.in_ok-at.rest.now) (StopsAt (Then (Cell n) Nothing) c.args.bytes.now)
    (λ k h. stops_cell (term_trees c.args.bank.now c.args.rows.now) n c.args.names.now c.args.bank.now c.args.bytes.now c.cell_field.new.names
    c.cell_field.new.bank c.in_ok-at.at.0 c.in_ok-at.rest.now k (Then (Cell n) Nothing) Nothing
    (length-map c.args.rows.now (λ (a : At). term_tree c.args.bank.now a.0))
    (cell_then n Nothing) c.in_ok-at.ensures.ok h) c.in_err-no_more.field-0.0 c.in_err-no_more.ensures.err)

pub returns-in_err-at-clause-ok : goal.returns-in_err-at-clause-ok
returns-in_err-at-clause-ok c = IfOk-from_err c.from_residual.result _ c.from_residual.ensures.0

pub returns-in_err-no_more-clause-ok : goal.returns-in_err-no_more-clause-ok
returns-in_err-no_more-clause-ok c = IfOk-from_err c.from_residual-in_err-no_more.result _ c.from_residual-in_err-no_more.ensures.0

pub returns-in_err-at-clause-grows : goal.returns-in_err-at-clause-grows
returns-in_err-at-clause-grows c = c.cell_field.ensures.grows

pub returns-in_err-no_more-clause-grows : goal.returns-in_err-no_more-clause-grows
returns-in_err-no_more-clause-grows c = c.cell_field.ensures.grows

pub returns-clause-grows : goal.returns-clause-grows
returns-clause-grows c = c.cell_field.ensures.grows

pub cell_field-requires : goal.cell_field-requires
cell_field-requires c = record { end = c.requires.end; room = c.requires.room; few = c.requires.few; rows = c.requires.rows }

pub returns-clause-err : goal.returns-clause-err
returns-clause-err c = _
