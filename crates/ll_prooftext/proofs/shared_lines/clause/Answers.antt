use Rattle.ll_prooftext.proofs.spelling.Kept.{grows_none}
use Rattle.std.proofs.Common.{length, arith}
use Rattle.std.proofs.lemmas.Result.{err_from_is_err_and, IfOk-from_err}
use Rattle.std.proofs.lemmas.List.{length-map}
use Rattle.ll_bank.specs.declared.At.{At}
use Rattle.ll_bank.specs.Nodes.{term_tree, term_trees}
use Rattle.ll_laws.specs.declared.Rule.TheVariants as rule
use Rattle.ll_prooftext.specs.Reading.{Number, Cells, Arguments, Then}
use Rattle.ll_prooftext.specs.Fields.{LacksField, StopsAt}
use Rattle.ll_prooftext.specs.Cells.{StopsAtCell}
use Rattle.ll_prooftext.proofs.reading.CellsRead.{cells_fields}
use Rattle.ll_prooftext.proofs.reading.LinesOver.{clause_over, cells_bad, parts_bad}
use Rattle.ll_prooftext.proofs.reading.Rest.{stops_here, stops_after, number_then, number_room, refuses_weaker}
use Rattle.ll_prooftext.proofs.shared_lines.clause.Goals as goal

pub returns-in_err-label-clause-err : goal.returns-in_err-label-clause-err
returns-in_err-label-clause-err c =
    let v = Then Number (Cells (length c.args.rows.now)) in
    let p = err_from_is_err_and c.from_residual.result c.from_residual.ensures.1 in
    rw (p.1, p.2) (refuses_weaker (LacksField Number c.args.bytes.now) (StopsAt (Then Number v) c.args.bytes.now)
    (λ k h. stops_here Number v c.args.bytes.now k h) c.in_err-label.field-0.0 c.in_err-label.ensures.err)

pub returns-in_err-leaf-clause-err : goal.returns-in_err-leaf-clause-err
returns-in_err-leaf-clause-err c =
    let w = Cells (length c.args.rows.now) in
    let p = err_from_is_err_and c.from_residual-in_err-leaf.result c.from_residual-in_err-leaf.ensures.1 in
    rw (p.1, p.2)
    (refuses_weaker (LacksField Number c.in_ok-label.behind_label.now) (StopsAt (Then Number (Then Number w)) c.args.bytes.now)
    (λ k h. number_then c.args.bytes.now c.in_ok-label.behind_label.now c.in_ok-label.label k (Then Number w) c.in_ok-label.ensures.ok
    (stops_here Number w c.in_ok-label.behind_label.now k h)) c.in_err-leaf.field-0.0 c.in_err-leaf.ensures.err)

pub cell_fields-requires-clause-room : goal.cell_fields-requires-clause-room
cell_fields-requires-clause-room c =
    let a = number_room c.args.bytes.now c.in_ok-label.label c.in_ok-label.behind_label.now c.in_ok-label.ensures.ok in
    let b = number_room c.in_ok-label.behind_label.now c.in_ok-leaf.leaf c.in_ok-leaf.behind_leaf.now c.in_ok-leaf.ensures.ok in
    let r = c.requires.room in
    omega arith

pub returns-in_err-terms-clause-err : goal.returns-in_err-terms-clause-err
returns-in_err-terms-clause-err c =
    let n = length c.args.rows.now in
    let p = err_from_is_err_and c.from_residual-in_err-terms.result c.from_residual-in_err-terms.ensures.1 in
    rw (p.1, p.2)
    (refuses_weaker (StopsAtCell n c.in_ok-leaf.behind_leaf.now) (StopsAt (Then Number (Then Number (Cells n))) c.args.bytes.now)
    (λ k h. number_then c.args.bytes.now c.in_ok-label.behind_label.now c.in_ok-label.label k (Then Number (Cells n)) c.in_ok-label.ensures.ok
    (number_then c.in_ok-label.behind_label.now c.in_ok-leaf.behind_leaf.now c.in_ok-leaf.leaf k (Cells n) c.in_ok-leaf.ensures.ok
    (cells_bad n c.in_ok-leaf.behind_leaf.now k h))) c.in_err-terms.field-0.0 c.in_err-terms.ensures.err)

pub part_fields-requires-clause-end : goal.part_fields-requires-clause-end
part_fields-requires-clause-end c = c.in_ok-terms.ensures.ok.end

pub part_fields-requires-clause-begins : goal.part_fields-requires-clause-begins
part_fields-requires-clause-begins c = c.in_ok-terms.ensures.stops

pub returns-in_err-parts-clause-err : goal.returns-in_err-parts-clause-err
returns-in_err-parts-clause-err c =
    let n = length c.args.rows.now in
    let t = c.in_ok-terms.ensures.ok in
    let l = length-map c.args.rows.now (λ (a : At). term_tree c.args.bank.now a.0) in
    let p = err_from_is_err_and c.from_residual-in_err-parts.result c.from_residual-in_err-parts.ensures.1 in
    rw (p.1, p.2)
    (refuses_weaker (StopsAt Arguments c.in_ok-terms.behind_terms.now) (StopsAt (Then Number (Then Number (Cells n))) c.args.bytes.now)
    (λ k h. number_then c.args.bytes.now c.in_ok-label.behind_label.now c.in_ok-label.label k (Then Number (Cells n)) c.in_ok-label.ensures.ok
    (number_then c.in_ok-label.behind_label.now c.in_ok-leaf.behind_leaf.now c.in_ok-leaf.leaf k (Cells n) c.in_ok-leaf.ensures.ok
    (stops_after (Cells n) (Cells n) c.in_ok-leaf.behind_leaf.now t.text c.in_ok-terms.behind_terms.now k t.is
    (cells_fields (term_trees c.args.bank.now c.args.rows.now) n c.args.names.now c.args.bank.now c.in_ok-leaf.behind_leaf.now c.cell_fields.new.names
    c.cell_fields.new.bank c.in_ok-terms.terms.items c.in_ok-terms.behind_terms.now l t)
    (parts_bad n c.in_ok-terms.behind_terms.now k c.in_ok-terms.ensures.stops h)))) c.in_err-parts.field-0.0 c.in_err-parts.ensures.err)

pub returns-clause-ok : goal.returns-clause-ok
returns-clause-ok c =
    let f = c.in_ok-label.ensures.ok in
    let g = c.in_ok-leaf.ensures.ok in
    let t = c.in_ok-terms.ensures.ok in
    let q = c.in_ok-parts.ensures.ok in
    clause_over (term_trees c.args.bank.now c.args.rows.now) c.args.names.now c.args.bank.now c.args.bytes.now c.cell_fields.new.names c.cell_fields.new.bank
    c.in_ok-label.label c.in_ok-label.behind_label.now c.in_ok-leaf.leaf c.in_ok-leaf.behind_leaf.now c.in_ok-terms.terms.items
    c.in_ok-terms.behind_terms.now
    c.in_ok-parts.parts.items (rule.Clause c.in_ok-label.label c.in_ok-leaf.leaf c.in_ok-terms.terms c.in_ok-parts.parts) c.requires.end f g t q
    ((f.small, g.small), (t.good, (q.spelled, q.rising))) (λ ns s. s)

pub returns-in_err-label-clause-ok : goal.returns-in_err-label-clause-ok
returns-in_err-label-clause-ok c = IfOk-from_err c.from_residual.result _ c.from_residual.ensures.0

pub returns-in_err-leaf-clause-ok : goal.returns-in_err-leaf-clause-ok
returns-in_err-leaf-clause-ok c = IfOk-from_err c.from_residual-in_err-leaf.result _ c.from_residual-in_err-leaf.ensures.0

pub returns-in_err-terms-clause-ok : goal.returns-in_err-terms-clause-ok
returns-in_err-terms-clause-ok c = IfOk-from_err c.from_residual-in_err-terms.result _ c.from_residual-in_err-terms.ensures.0

pub returns-in_err-parts-clause-ok : goal.returns-in_err-parts-clause-ok
returns-in_err-parts-clause-ok c = IfOk-from_err c.from_residual-in_err-parts.result _ c.from_residual-in_err-parts.ensures.0

pub returns-in_err-label-clause-grows : goal.returns-in_err-label-clause-grows
returns-in_err-label-clause-grows c = grows_none c.args.names.now

pub returns-in_err-leaf-clause-grows : goal.returns-in_err-leaf-clause-grows
returns-in_err-leaf-clause-grows c = grows_none c.args.names.now

pub returns-in_err-terms-clause-grows : goal.returns-in_err-terms-clause-grows
returns-in_err-terms-clause-grows c = c.cell_fields.ensures.grows

pub returns-in_err-parts-clause-grows : goal.returns-in_err-parts-clause-grows
returns-in_err-parts-clause-grows c = c.cell_fields.ensures.grows

pub returns-clause-grows : goal.returns-clause-grows
returns-clause-grows c = c.cell_fields.ensures.grows

pub number_field-requires : goal.number_field-requires
number_field-requires c = c.requires.end

pub cell_fields-requires-clause-few : goal.cell_fields-requires-clause-few
cell_fields-requires-clause-few c = c.requires.few

pub cell_fields-requires-clause-rows : goal.cell_fields-requires-clause-rows
cell_fields-requires-clause-rows c = c.requires.rows

pub returns-clause-err : goal.returns-clause-err
returns-clause-err c = _
