use Rattle.std.proofs.Common.{length, subst, ◌∙◌, ap, List, ◌∷◌}
use Rattle.std.proofs.lemmas.Result.{err_from_is_err_and, IfOk-from_err}
use Rattle.std.proofs.lemmas.List.{length-map}
use Rattle.ll_bank.specs.declared.At.{At}
use Rattle.ll_bank.specs.Nodes.{term_tree, term_trees}
use Rattle.ll_prooftext.specs.Reading.{Cell, Nothing, More, Then}
use Rattle.ll_prooftext.specs.Fields.{LacksField, StopsAt}
use Rattle.ll_prooftext.specs.Cells.{AreCellFields, StopsAtCell}
use Rattle.ll_prooftext.proofs.reading.CellsRead.{stops_cell, cell_then, more_fields, rows_same, rows_stay}
use Rattle.ll_prooftext.proofs.reading.LinesOver.{spine_made, spine_inside, more_bad, more_end}
use Rattle.ll_prooftext.proofs.reading.Rest.{stops_here, stops_after, refuses_weaker}
use Rattle.ll_prooftext.proofs.spelling.Kept.{below, grows_on}
use Rattle.ll_prooftext.proofs.shared_lines.plain_share.Goals as goal

pub returns-in_err-first-clause-err : goal.returns-in_err-first-clause-err
returns-in_err-first-clause-err c =
    let n = length c.args.rows.now in
    let p = err_from_is_err_and c.from_residual.result c.from_residual.ensures.1 in
    rw (p.1, p.2) (refuses_weaker (LacksField (Cell n) c.args.bytes.now) (StopsAt (Then (Cell n) (More n)) c.args.bytes.now)
    (λ k h. stops_here (Cell n) (More n) c.args.bytes.now k h) c.in_err-first.field-0.0 c.in_err-first.ensures.err)

pub cell_fields-requires-clause-end : goal.cell_fields-requires-clause-end
cell_fields-requires-clause-end c = c.in_ok-first.ensures.ok.end

pub cell_fields-requires-clause-room : goal.cell_fields-requires-clause-room
cell_fields-requires-clause-room c = below _ _ _ c.in_ok-first.ensures.ok.moves.few c.requires.room

pub cell_fields-requires-clause-rows : goal.cell_fields-requires-clause-rows
cell_fields-requires-clause-rows c = rows_stay c.args.names.now c.args.bank.now c.cell_field.new.names c.cell_field.new.bank c.args.rows.now
    c.in_ok-first.ensures.ok.moves.grows c.in_ok-first.ensures.ok.moves.keeps c.requires.rows

pub returns-in_err-others-clause-err : goal.returns-in_err-others-clause-err
returns-in_err-others-clause-err c =
    let n = length c.args.rows.now in
    let p = err_from_is_err_and c.from_residual-in_err-others.result c.from_residual-in_err-others.ensures.1 in
    rw (p.1, p.2)
    (refuses_weaker (StopsAtCell n c.in_ok-first.behind_first.now) (StopsAt (Then (Cell n) (More n)) c.args.bytes.now)
    (λ k h. stops_cell (term_trees c.args.bank.now c.args.rows.now) n c.args.names.now c.args.bank.now c.args.bytes.now c.cell_field.new.names
    c.cell_field.new.bank c.in_ok-first.first.0 c.in_ok-first.behind_first.now k (Then (Cell n) (More n)) (More n)
    (length-map c.args.rows.now (λ (a : At). term_tree c.args.bank.now a.0)) (cell_then n (More n)) c.in_ok-first.ensures.ok
    (more_bad n c.in_ok-first.behind_first.now k h)) c.in_err-others.field-0.0 c.in_err-others.ensures.err)

pub returns-in_err-no_more-clause-err : goal.returns-in_err-no_more-clause-err
returns-in_err-no_more-clause-err c =
    let n = length c.args.rows.now in
    let same = rows_same c.args.names.now c.args.bank.now c.cell_field.new.bank c.args.rows.now c.in_ok-first.ensures.ok.moves.keeps c.requires.rows in
    let t = subst (λ rows. AreCellFields rows c.cell_field.new.names c.cell_field.new.bank c.in_ok-first.behind_first.now c.cell_fields.new.names
    c.cell_fields.new.bank c.in_ok-others.others.items c.in_ok-others.rest.now) same c.in_ok-others.ensures.ok in
    let l = length-map c.args.rows.now (λ (a : At). term_tree c.args.bank.now a.0) in
    let p = err_from_is_err_and c.from_residual-in_err-no_more.result c.from_residual-in_err-no_more.ensures.1 in
    rw (p.1, p.2)
    (refuses_weaker (StopsAt Nothing c.in_ok-others.rest.now) (StopsAt (Then (Cell n) (More n)) c.args.bytes.now)
    (λ k h. stops_cell (term_trees c.args.bank.now c.args.rows.now) n c.args.names.now c.args.bank.now c.args.bytes.now c.cell_field.new.names
    c.cell_field.new.bank c.in_ok-first.first.0 c.in_ok-first.behind_first.now k (Then (Cell n) (More n)) (More n) l
    (cell_then n (More n)) c.in_ok-first.ensures.ok
    (stops_after (More n) (More n) c.in_ok-first.behind_first.now t.text c.in_ok-others.rest.now k t.is
    (more_fields (term_trees c.args.bank.now c.args.rows.now) n c.cell_field.new.names c.cell_field.new.bank c.in_ok-first.behind_first.now
    c.cell_fields.new.names c.cell_fields.new.bank c.in_ok-others.others.items c.in_ok-others.rest.now l t)
    (more_end n c.in_ok-others.rest.now k c.in_ok-others.ensures.stops h))) c.in_err-no_more.field-0.0 c.in_err-no_more.ensures.err)

pub app-requires : goal.app-requires
app-requires c =
    let same = rows_same c.args.names.now c.args.bank.now c.cell_field.new.bank c.args.rows.now c.in_ok-first.ensures.ok.moves.keeps c.requires.rows in
    let t = subst (λ rows. AreCellFields rows c.cell_field.new.names c.cell_field.new.bank c.in_ok-first.behind_first.now c.cell_fields.new.names
    c.cell_fields.new.bank c.in_ok-others.others.items c.in_ok-others.rest.now) same c.in_ok-others.ensures.ok in
    spine_inside (term_trees c.args.bank.now c.args.rows.now) c.args.names.now c.args.bank.now c.args.bytes.now c.cell_field.new.names c.cell_field.new.bank
    c.in_ok-first.first c.in_ok-first.behind_first.now c.cell_fields.new.names c.cell_fields.new.bank c.in_ok-others.others.items c.deref-2.result.now
    c.in_ok-others.rest.now
    c.in_ok-first.ensures.ok t
    (c.deref-2.ensures.value ∙ (c.in_ok-args.ensures ∙ ap (λ (z : List At). c.in_ok-first.first ∷ z) c.deref.ensures.value))

pub returns-clause-ok : goal.returns-clause-ok
returns-clause-ok c =
    let same = rows_same c.args.names.now c.args.bank.now c.cell_field.new.bank c.args.rows.now c.in_ok-first.ensures.ok.moves.keeps c.requires.rows in
    let t = subst (λ rows. AreCellFields rows c.cell_field.new.names c.cell_field.new.bank c.in_ok-first.behind_first.now c.cell_fields.new.names
    c.cell_fields.new.bank c.in_ok-others.others.items c.in_ok-others.rest.now) same c.in_ok-others.ensures.ok in
    spine_made (term_trees c.args.bank.now c.args.rows.now) c.args.names.now c.args.bank.now c.args.bytes.now c.args.head c.cell_field.new.names
    c.cell_field.new.bank c.in_ok-first.first c.in_ok-first.behind_first.now c.cell_fields.new.names c.cell_fields.new.bank c.app.new.self
    c.in_ok-others.others.items c.deref-2.result.now
    c.in_ok-others.rest.now c.in_ok-app.field-0.0 c.requires.plain c.in_ok-first.ensures.ok t c.in_ok-no_more.ensures.ok
    (c.deref-2.ensures.value ∙ (c.in_ok-args.ensures ∙ ap (λ (z : List At). c.in_ok-first.first ∷ z) c.deref.ensures.value))
    c.in_ok-app.ensures.shows c.in_ok-app.ensures.keeps

pub returns-in_err-others-clause-grows : goal.returns-in_err-others-clause-grows
returns-in_err-others-clause-grows c = grows_on c.args.names.now c.cell_field.new.names c.cell_fields.new.names c.cell_field.ensures.grows
    c.cell_fields.ensures.grows

pub returns-in_err-no_more-clause-grows : goal.returns-in_err-no_more-clause-grows
returns-in_err-no_more-clause-grows c = grows_on c.args.names.now c.cell_field.new.names c.cell_fields.new.names c.cell_field.ensures.grows
    c.cell_fields.ensures.grows

pub returns-in_err-args-clause-grows : goal.returns-in_err-args-clause-grows
returns-in_err-args-clause-grows c = grows_on c.args.names.now c.cell_field.new.names c.cell_fields.new.names c.cell_field.ensures.grows
    c.cell_fields.ensures.grows

pub returns-in_err-app-clause-grows : goal.returns-in_err-app-clause-grows
returns-in_err-app-clause-grows c = grows_on c.args.names.now c.cell_field.new.names c.cell_fields.new.names c.cell_field.ensures.grows
    c.cell_fields.ensures.grows

pub returns-clause-grows : goal.returns-clause-grows
returns-clause-grows c = grows_on c.args.names.now c.cell_field.new.names c.cell_fields.new.names c.cell_field.ensures.grows
    c.cell_fields.ensures.grows

pub returns-in_err-first-clause-ok : goal.returns-in_err-first-clause-ok
returns-in_err-first-clause-ok c = IfOk-from_err c.from_residual.result _ c.from_residual.ensures.0

pub returns-in_err-others-clause-ok : goal.returns-in_err-others-clause-ok
returns-in_err-others-clause-ok c = IfOk-from_err c.from_residual-in_err-others.result _ c.from_residual-in_err-others.ensures.0

pub returns-in_err-no_more-clause-ok : goal.returns-in_err-no_more-clause-ok
returns-in_err-no_more-clause-ok c = IfOk-from_err c.from_residual-in_err-no_more.result _ c.from_residual-in_err-no_more.ensures.0

pub returns-in_err-args-clause-ok : goal.returns-in_err-args-clause-ok
returns-in_err-args-clause-ok c = IfOk-from_err c.from_residual-in_err-args.result _ c.from_residual-in_err-args.ensures.0

pub returns-in_err-args-clause-err : goal.returns-in_err-args-clause-err
returns-in_err-args-clause-err c = let p = err_from_is_err_and c.from_residual-in_err-args.result c.from_residual-in_err-args.ensures.1 in rw (p.1, p.2) tt

pub returns-in_err-app-clause-ok : goal.returns-in_err-app-clause-ok
returns-in_err-app-clause-ok c = IfOk-from_err c.from_residual-in_err-app.result _ c.from_residual-in_err-app.ensures.0

pub returns-in_err-app-clause-err : goal.returns-in_err-app-clause-err
returns-in_err-app-clause-err c = let p = err_from_is_err_and c.from_residual-in_err-app.result c.from_residual-in_err-app.ensures.1 in rw (p.1, p.2) tt

pub returns-in_err-first-clause-grows : goal.returns-in_err-first-clause-grows
returns-in_err-first-clause-grows c = c.cell_field.ensures.grows

pub cell_fields-requires-clause-few : goal.cell_fields-requires-clause-few
cell_fields-requires-clause-few c = c.requires.few

pub cell_field-requires : goal.cell_field-requires
cell_field-requires c = record { end = c.requires.end; room = c.requires.room; few = c.requires.few; rows = c.requires.rows }

pub returns-clause-err : goal.returns-clause-err
returns-clause-err c = _
