use Rattle.std.proofs.Common.{◌++◌}
use Rattle.std.proofs.lemmas.Result.{err_from_is_err_and}
use Rattle.ll_prooftext.specs.RowWords.{spelling}
use Rattle.ll_prooftext.proofs.spelling.Kept.{grows_none}
use Rattle.ll_prooftext.proofs.reading.RowsRead.{short_kind, short_rows, term_row, tensor_rows, clause_rows}
use Rattle.ll_prooftext.proofs.rows.node.Goals as goal

pub tensor-requires : goal.tensor-requires
tensor-requires c = c.requires.end

pub returns-in-Tensor-clause-ok : goal.returns-in-Tensor-clause-ok
returns-in-Tensor-clause-ok c = rw c.in-Tensor.is (tensor_rows c.args.names.now c.args.bank.now c.args.rest.now c.tensor.result c.tensor.ensures.ok)

pub returns-in-Tensor-clause-err : goal.returns-in-Tensor-clause-err
returns-in-Tensor-clause-err c = rw c.in-Tensor.is c.tensor.ensures.err

pub returns-in-Tensor-clause-grows : goal.returns-in-Tensor-clause-grows
returns-in-Tensor-clause-grows c = grows_none c.args.names.now

pub last_term-requires-clause-end : goal.last_term-requires-clause-end
last_term-requires-clause-end c = c.requires.end

pub last_term-requires-clause-room : goal.last_term-requires-clause-room
last_term-requires-clause-room c = c.requires.room

pub returns-in_err-last_term-in-Exists-clause-ok : goal.returns-in_err-last_term-in-Exists-clause-ok
returns-in_err-last_term-in-Exists-clause-ok c = let p = err_from_is_err_and c.from_residual.result c.from_residual.ensures.1 in rw p.1 tt

pub returns-in_err-last_term-in-Exists-clause-err : goal.returns-in_err-last_term-in-Exists-clause-err
returns-in_err-last_term-in-Exists-clause-err c = let p = err_from_is_err_and c.from_residual.result c.from_residual.ensures.1 in
    rw c.in-Exists.is (rw (p.1, p.2) c.in_err-last_term-in-Exists.ensures.err)

pub returns-in_err-last_term-in-Exists-clause-grows : goal.returns-in_err-last_term-in-Exists-clause-grows
returns-in_err-last_term-in-Exists-clause-grows c = c.last_term.ensures.grows

pub returns-in_ok-last_term-in-Exists-clause-ok : goal.returns-in_ok-last_term-in-Exists-clause-ok
returns-in_ok-last_term-in-Exists-clause-ok c = rw c.in-Exists.is
    (term_row c.args.names.now c.args.bank.now c.args.rest.now c.last_term.new.names c.last_term.new.bank c.in_ok-last_term-in-Exists.field-0
    c.in_ok-last_term-in-Exists.ensures.ok)

pub returns-in_ok-last_term-in-Exists-clause-grows : goal.returns-in_ok-last_term-in-Exists-clause-grows
returns-in_ok-last_term-in-Exists-clause-grows c = c.last_term.ensures.grows

pub clause-requires-clause-end : goal.clause-requires-clause-end
clause-requires-clause-end c = c.requires.end

pub clause-requires-clause-room : goal.clause-requires-clause-room
clause-requires-clause-room c = c.requires.room

pub returns-in-Clause-clause-ok : goal.returns-in-Clause-clause-ok
returns-in-Clause-clause-ok c = rw c.in-Clause.is (clause_rows c.args.names.now c.args.bank.now c.args.rest.now c.clause.new.names c.clause.new.bank
    c.clause.result c.clause.ensures.ok)

pub returns-in-Clause-clause-err : goal.returns-in-Clause-clause-err
returns-in-Clause-clause-err c = rw c.in-Clause.is c.clause.ensures.err

pub returns-in-Clause-clause-grows : goal.returns-in-Clause-clause-grows
returns-in-Clause-clause-grows c = c.clause.ensures.grows

pub short_node-requires-clause-end : goal.short_node-requires-clause-end
short_node-requires-clause-end c = c.requires.end

pub short_node-requires-clause-short : goal.short_node-requires-clause-short
short_node-requires-clause-short c = short_kind c.args.word c.in_default.not-Tensor c.in_default.not-Exists c.in_default.not-Clause

pub returns-in_default-clause-ok : goal.returns-in_default-clause-ok
returns-in_default-clause-ok c =
    short_rows c.args.names.now c.args.bank.now (spelling c.args.word ++ c.args.rest.now) c.short_node.result c.short_node.ensures.ok

pub returns-in_default-clause-err : goal.returns-in_default-clause-err
returns-in_default-clause-err c = c.short_node.ensures.err

pub returns-in_default-clause-grows : goal.returns-in_default-clause-grows
returns-in_default-clause-grows c = grows_none c.args.names.now

pub returns-in_ok-last_term-in-Exists-clause-err : goal.returns-in_ok-last_term-in-Exists-clause-err
returns-in_ok-last_term-in-Exists-clause-err c = _
