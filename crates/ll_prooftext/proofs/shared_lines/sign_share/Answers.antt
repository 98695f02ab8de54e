use Rattle.ll_prooftext.proofs.spelling.Kept.{below, grows_on}
use Rattle.std.proofs.Common.{length, subst, []}
use Rattle.std.proofs.lemmas.Result.{err_from_is_err_and, IfOk-from_err}
use Rattle.std.proofs.lemmas.List.{length-map}
use Rattle.ll_bank.specs.declared.At.{At}
use Rattle.ll_bank.specs.Nodes.{term_tree, term_trees}
use Rattle.ll_prooftext.specs.Reading.{Cell, Nothing, Then}
use Rattle.ll_prooftext.specs.Fields.{LacksField, StopsAt}
use Rattle.ll_prooftext.specs.Cells.{IsCellField}
use Rattle.ll_prooftext.proofs.reading.CellsRead.{stops_cell, cell_then, rows_same, rows_stay}
use Rattle.ll_prooftext.proofs.reading.LinesOver.{pair_made}
use Rattle.ll_prooftext.proofs.reading.Calls.{pair_inside}
use Rattle.ll_prooftext.proofs.reading.Rest.{stops_here, refuses_weaker}
use Rattle.ll_prooftext.proofs.shared_lines.sign_share.Goals as goal

pub returns-in_err-first-clause-err : goal.returns-in_err-first-clause-err
returns-in_err-first-clause-err c =
    let n = length c.args.rows.now in
    let p = err_from_is_err_and c.from_residual.result c.from_residual.ensures.1 in
    rw (p.1, p.2) (refuses_weaker (LacksField (Cell n) c.args.bytes.now) (StopsAt (Then (Cell n) (Then (Cell n) Nothing)) c.args.bytes.now)
    (λ k h. stops_here (Cell n) (Then (Cell n) Nothing) c.args.bytes.now k h) c.in_err-first.field-0.0 c.in_err-first.ensures.err)

pub last_cell-requires-clause-rows : goal.last_cell-requires-clause-rows
last_cell-requires-clause-rows c = rows_stay c.args.names.now c.args.bank.now c.cell_field.new.names c.cell_field.new.bank c.args.rows.now
    c.in_ok-first.ensures.ok.moves.grows c.in_ok-first.ensures.ok.moves.keeps c.requires.rows

pub returns-in_err-second-clause-err : goal.returns-in_err-second-clause-err
returns-in_err-second-clause-err c =
    let n = length c.args.rows.now in
    let p = err_from_is_err_and c.from_residual-in_err-second.result c.from_residual-in_err-second.ensures.1 in
    rw (p.1, p.2)
    (refuses_weaker (StopsAt (Then (Cell n) Nothing) c.in_ok-first.behind_first.now) (StopsAt (Then (Cell n) (Then (Cell n) Nothing)) c.args.bytes.now)
    (λ k h. stops_cell (term_trees c.args.bank.now c.args.rows.now) n c.args.names.now c.args.bank.now c.args.bytes.now c.cell_field.new.names
    c.cell_field.new.bank c.in_ok-first.first.0 c.in_ok-first.behind_first.now k (Then (Cell n) (Then (Cell n) Nothing)) (Then (Cell n) Nothing)
    (length-map c.args.rows.now (λ (a : At). term_tree c.args.bank.now a.0)) (cell_then n (Then (Cell n) Nothing)) c.in_ok-first.ensures.ok h)
    c.in_err-second.field-0.0 c.in_err-second.ensures.err)

pub returns-clause-ok : goal.returns-clause-ok
returns-clause-ok c =
    let same = rows_same c.args.names.now c.args.bank.now c.cell_field.new.bank c.args.rows.now c.in_ok-first.ensures.ok.moves.keeps c.requires.rows in
    let t = subst (λ rows. IsCellField rows c.cell_field.new.names c.cell_field.new.bank c.in_ok-first.behind_first.now c.last_cell.new.names
    c.last_cell.new.bank c.in_ok-second.second.0 []) same c.in_ok-second.ensures.ok in
    pair_made (term_trees c.args.bank.now c.args.rows.now) c.args.names.now c.args.bank.now c.args.bytes.now c.args.head c.cell_field.new.names
    c.cell_field.new.bank c.in_ok-first.first c.in_ok-first.behind_first.now c.last_cell.new.names c.last_cell.new.bank c.app.new.self c.in_ok-second.second
    c.in_ok-app.field-0.0
    c.requires.sign c.in_ok-first.ensures.ok t c.in_ok-app.ensures.shows c.in_ok-app.ensures.keeps

pub returns-in_err-first-clause-ok : goal.returns-in_err-first-clause-ok
returns-in_err-first-clause-ok c = IfOk-from_err c.from_residual.result _ c.from_residual.ensures.0

pub returns-in_err-second-clause-ok : goal.returns-in_err-second-clause-ok
returns-in_err-second-clause-ok c = IfOk-from_err c.from_residual-in_err-second.result _ c.from_residual-in_err-second.ensures.0

pub returns-in_err-app-clause-ok : goal.returns-in_err-app-clause-ok
returns-in_err-app-clause-ok c = IfOk-from_err c.from_residual-in_err-app.result _ c.from_residual-in_err-app.ensures.0

pub returns-in_err-app-clause-err : goal.returns-in_err-app-clause-err
returns-in_err-app-clause-err c = let p = err_from_is_err_and c.from_residual-in_err-app.result c.from_residual-in_err-app.ensures.1 in rw (p.1, p.2) tt

pub returns-in_err-first-clause-grows : goal.returns-in_err-first-clause-grows
returns-in_err-first-clause-grows c = c.cell_field.ensures.grows

pub last_cell-requires-clause-few : goal.last_cell-requires-clause-few
last_cell-requires-clause-few c = c.requires.few

pub cell_field-requires : goal.cell_field-requires
cell_field-requires c = record { end = c.requires.end; room = c.requires.room; few = c.requires.few; rows = c.requires.rows }

pub last_cell-requires-clause-end : goal.last_cell-requires-clause-end
last_cell-requires-clause-end c = c.in_ok-first.ensures.ok.end

pub last_cell-requires-clause-room : goal.last_cell-requires-clause-room
last_cell-requires-clause-room c = below _ _ _ c.in_ok-first.ensures.ok.moves.few c.requires.room

pub returns-in_err-second-clause-grows : goal.returns-in_err-second-clause-grows
returns-in_err-second-clause-grows c =
    grows_on c.args.names.now c.cell_field.new.names c.last_cell.new.names c.in_ok-first.ensures.ok.moves.grows c.last_cell.ensures.grows

pub returns-in_err-app-clause-grows : goal.returns-in_err-app-clause-grows
returns-in_err-app-clause-grows c =
    grows_on c.args.names.now c.cell_field.new.names c.last_cell.new.names c.in_ok-first.ensures.ok.moves.grows c.last_cell.ensures.grows

pub returns-clause-grows : goal.returns-clause-grows
returns-clause-grows c = grows_on c.args.names.now c.cell_field.new.names c.last_cell.new.names c.in_ok-first.ensures.ok.moves.grows c.last_cell.ensures.grows

pub app-requires : goal.app-requires
app-requires c = pair_inside c.in_ok-first.first c.in_ok-second.second c.in_ok-first.ensures.ok c.in_ok-second.ensures.ok

pub returns-clause-err : goal.returns-clause-err
returns-clause-err c = _
