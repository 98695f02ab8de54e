use Rattle.std.proofs.lemmas.Result.{IfOk-from_err, err_from_is_err_and}
use Rattle.std.proofs.Common.{arith, length}
use Rattle.ll_bank.specs.Nodes.{term_trees}
use Rattle.ll_prooftext.specs.Reading.{Cell}
use Rattle.ll_prooftext.proofs.reading.CellsRead.{cell_made, cell_none}
use Rattle.ll_prooftext.proofs.reading.Rest.{nothing_there}
use Rattle.ll_prooftext.proofs.cells.cell_field.Goals as goal

pub returns-in-Some-2-clause-ok : goal.returns-in-Some-2-clause-ok
returns-in-Some-2-clause-ok c =
    cell_made (term_trees c.args.bank.now c.args.rows.now) c.args.names.now c.args.bank.now c.args.bytes.now c.in-Some.field.now c.split_before.result.0.now
    c.split_before.result.1.now c.cell_of.new.names c.cell_of.new.bank c.in-Some-2.at.0 c.in-Some.ensures c.split_before.ensures.is
    c.split_before.ensures.stops
    (rw c.in-Some-2.is at c.in_ok-at.ensures.found) (rw c.in-Some-2.is at c.in_ok-at.ensures.moves)

pub returns-in-None-clause-err : goal.returns-in-None-clause-err
returns-in-None-clause-err c =
    nothing_there (Cell (length c.args.rows.now)) c.args.bytes.now c.in-Some.field.now c.in-Some.ensures
    (cell_none (length c.args.rows.now) c.in-Some.field.now c.split_before.result.0.now c.split_before.result.1.now (let l = c.requires.few in
    omega arith) c.split_before.ensures.is c.split_before.ensures.free c.split_before.ensures.stops (rw c.in-None.is at c.in_ok-at.ensures.found))

pub returns-in_err-at-clause-ok : goal.returns-in_err-at-clause-ok
returns-in_err-at-clause-ok c = IfOk-from_err c.from_residual.result _ c.from_residual.ensures.0

pub returns-in_err-at-clause-err : goal.returns-in_err-at-clause-err
returns-in_err-at-clause-err c = let p = err_from_is_err_and c.from_residual.result c.from_residual.ensures.1 in rw (p.1, p.2) tt

pub returns-in_err-at-clause-grows : goal.returns-in_err-at-clause-grows
returns-in_err-at-clause-grows c = c.cell_of.ensures.grows

pub returns-in-Some-2-clause-grows : goal.returns-in-Some-2-clause-grows
returns-in-Some-2-clause-grows c = c.cell_of.ensures.grows

pub returns-in-None-clause-grows : goal.returns-in-None-clause-grows
returns-in-None-clause-grows c = c.cell_of.ensures.grows

pub cell_of-requires-clause-few : goal.cell_of-requires-clause-few
cell_of-requires-clause-few c = c.requires.few

pub cell_of-requires-clause-rows : goal.cell_of-requires-clause-rows
cell_of-requires-clause-rows c = c.requires.rows

pub returns-in_default-clause-ok : goal.returns-in_default-clause-ok
returns-in_default-clause-ok c = _

pub returns-in-Some-2-clause-err : goal.returns-in-Some-2-clause-err
returns-in-Some-2-clause-err c = _

pub returns-in-None-clause-ok : goal.returns-in-None-clause-ok
returns-in-None-clause-ok c = _
