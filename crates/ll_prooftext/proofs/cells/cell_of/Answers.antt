use Rattle.std.proofs.lemmas.Result.{IfOk-from_err}
use Rattle.ll_prooftext.proofs.spelling.Kept.{grows_none}
use Rattle.std.proofs.Common.{length}
use Rattle.ll_bank.specs.Nodes.{term_trees}
use Rattle.ll_prooftext.proofs.reading.CellsRead.{no_cell, row_found, row_found_moves, word_cell, word_moves}
use Rattle.ll_prooftext.proofs.cells.cell_of.Goals as goal

pub returns-in-Some-clause-found : goal.returns-in-Some-clause-found
returns-in-Some-clause-found c = row_found c.args.names.now c.args.bank.now c.args.rows.now c.args.word.now c.in-Some.number.now c.row_numbered.result
    c.requires.rows c.in-Some.ensures c.row_numbered.ensures

pub returns-in-Some-clause-moves : goal.returns-in-Some-clause-moves
returns-in-Some-clause-moves c = row_found_moves c.args.names.now c.args.bank.now c.args.rows.now c.args.word.now c.in-Some.number.now c.row_numbered.result
    c.requires.few c.in-Some.ensures c.row_numbered.ensures

pub returns-in_ok-term_of-in-Some-2-clause-found : goal.returns-in_ok-term_of-in-Some-2-clause-found
returns-in_ok-term_of-in-Some-2-clause-found c =
    word_cell (term_trees c.args.bank.now c.args.rows.now) c.args.word.now c.word_of.new.names c.word_of.new.bank c.term_of.new.bank c.in-Some-2.found
    c.in_ok-term_of-in-Some-2.field-0.0 (rw c.in-Some-2.is at c.in_ok-found.ensures.found) c.in_ok-term_of-in-Some-2.ensures.term
    c.in_ok-term_of-in-Some-2.ensures.keeps

pub returns-in_ok-term_of-in-Some-2-clause-moves : goal.returns-in_ok-term_of-in-Some-2-clause-moves
returns-in_ok-term_of-in-Some-2-clause-moves c =
    word_moves c.args.names.now c.args.bank.now c.args.word.now c.word_of.new.names c.word_of.new.bank c.term_of.new.bank c.in-Some-2.found
    (rw c.in-Some-2.is at c.in_ok-found.ensures.found) (rw c.in-Some-2.is at c.in_ok-found.ensures.moves) c.in_ok-term_of-in-Some-2.ensures.keeps

pub returns-in-None-clause-found : goal.returns-in-None-clause-found
returns-in-None-clause-found c = no_cell (length c.args.rows.now) c.args.word.now c.in_default.ensures (rw c.in-None.is at c.in_ok-found.ensures.found)

pub returns-in_err-found-clause-found : goal.returns-in_err-found-clause-found
returns-in_err-found-clause-found c = IfOk-from_err c.from_residual.result _ c.from_residual.ensures.0

pub returns-in_err-found-clause-moves : goal.returns-in_err-found-clause-moves
returns-in_err-found-clause-moves c = IfOk-from_err c.from_residual.result _ c.from_residual.ensures.0

pub returns-in_err-term_of-in-Some-2-clause-found : goal.returns-in_err-term_of-in-Some-2-clause-found
returns-in_err-term_of-in-Some-2-clause-found c =
    IfOk-from_err c.from_residual-in_err-term_of-in-Some-2.result _ c.from_residual-in_err-term_of-in-Some-2.ensures.0

pub returns-in_err-term_of-in-Some-2-clause-moves : goal.returns-in_err-term_of-in-Some-2-clause-moves
returns-in_err-term_of-in-Some-2-clause-moves c =
    IfOk-from_err c.from_residual-in_err-term_of-in-Some-2.result _ c.from_residual-in_err-term_of-in-Some-2.ensures.0

pub returns-in-Some-clause-grows : goal.returns-in-Some-clause-grows
returns-in-Some-clause-grows c = grows_none c.args.names.now

pub returns-in_err-found-clause-grows : goal.returns-in_err-found-clause-grows
returns-in_err-found-clause-grows c = c.word_of.ensures.grows

pub returns-in_err-term_of-in-Some-2-clause-grows : goal.returns-in_err-term_of-in-Some-2-clause-grows
returns-in_err-term_of-in-Some-2-clause-grows c = c.word_of.ensures.grows

pub returns-in_ok-term_of-in-Some-2-clause-grows : goal.returns-in_ok-term_of-in-Some-2-clause-grows
returns-in_ok-term_of-in-Some-2-clause-grows c = c.word_of.ensures.grows

pub returns-in-None-clause-grows : goal.returns-in-None-clause-grows
returns-in-None-clause-grows c = c.word_of.ensures.grows

pub row_numbered-requires : goal.row_numbered-requires
row_numbered-requires c = c.requires.few

pub word_of-requires : goal.word_of-requires
word_of-requires c = c.requires.room

pub returns-in-None-clause-moves : goal.returns-in-None-clause-moves
returns-in-None-clause-moves c = _
