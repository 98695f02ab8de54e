use Rattle.std.proofs.lemmas.Result.{err_from_is_err_and}
use Rattle.ll_prooftext.specs.declared.rows.RowWord.TheVariants as first
use Rattle.ll_prooftext.proofs.spelling.Kept.{grows_none}
use Rattle.ll_prooftext.proofs.reading.Rest.{stops_end}
use Rattle.ll_prooftext.proofs.reading.RowsRead.{rest_room, let_row, node_row, word_none, refused_row}
use Rattle.ll_prooftext.proofs.rows.read_row.Goals as goal

pub last_term-requires-clause-end : goal.last_term-requires-clause-end
last_term-requires-clause-end c = stops_end c.split_before.result.1.now c.split_before.ensures.stops

pub last_term-requires-clause-room : goal.last_term-requires-clause-room
last_term-requires-clause-room c = rest_room c.args.names.now c.args.line.now c.split_before.result.0.now c.split_before.result.1.now c.split_before.ensures.is
    c.requires

pub node-requires-clause-end : goal.node-requires-clause-end
node-requires-clause-end c = stops_end c.split_before.result.1.now c.split_before.ensures.stops

pub node-requires-clause-room : goal.node-requires-clause-room
node-requires-clause-room c = rest_room c.args.names.now c.args.line.now c.split_before.result.0.now c.split_before.result.1.now c.split_before.ensures.is
    c.requires

pub returns-in_err-last_term-in-Some-Let-clause-ok : goal.returns-in_err-last_term-in-Some-Let-clause-ok
returns-in_err-last_term-in-Some-Let-clause-ok c = let p = err_from_is_err_and c.from_residual.result c.from_residual.ensures.1 in rw p.1 tt

pub returns-in_err-last_term-in-Some-Let-clause-err : goal.returns-in_err-last_term-in-Some-Let-clause-err
returns-in_err-last_term-in-Some-Let-clause-err c = let p = err_from_is_err_and c.from_residual.result c.from_residual.ensures.1 in
    rw (p.1, p.2) (refused_row c.args.lets c.args.line.now c.split_before.result.0.now c.split_before.result.1.now first.Let
    c.in_err-last_term-in-Some-Let.field-0.0 c.split_before.ensures.is (rw c.in-Some-Let.field-0-is at c.in-Some-Let.ensures)
    c.in_err-last_term-in-Some-Let.ensures.err)

pub returns-in_err-last_term-in-Some-Let-clause-grows : goal.returns-in_err-last_term-in-Some-Let-clause-grows
returns-in_err-last_term-in-Some-Let-clause-grows c = c.last_term.ensures.grows

pub returns-in_ok-last_term-in-Some-Let-clause-grows : goal.returns-in_ok-last_term-in-Some-Let-clause-grows
returns-in_ok-last_term-in-Some-Let-clause-grows c = c.last_term.ensures.grows

pub returns-in_ok-last_term-in-Some-Let-clause-ok : goal.returns-in_ok-last_term-in-Some-Let-clause-ok
returns-in_ok-last_term-in-Some-Let-clause-ok c = let_row c.args.names.now c.args.bank.now c.args.line.now c.split_before.result.0.now
    c.split_before.result.1.now c.args.lets c.last_term.new.names c.last_term.new.bank c.in_ok-last_term-in-Some-Let.field-0 c.split_before.ensures.is
    (rw c.in-Some-Let.field-0-is at c.in-Some-Let.ensures) c.in_ok-last_term-in-Some-Let.ensures.ok

pub returns-in_err-node-in-Some-Node-clause-ok : goal.returns-in_err-node-in-Some-Node-clause-ok
returns-in_err-node-in-Some-Node-clause-ok c = let p = err_from_is_err_and c.from_residual-in_err-node-in-Some-Node.result
    c.from_residual-in_err-node-in-Some-Node.ensures.1 in rw p.1 tt

pub returns-in_err-node-in-Some-Node-clause-err : goal.returns-in_err-node-in-Some-Node-clause-err
returns-in_err-node-in-Some-Node-clause-err c = let p = err_from_is_err_and c.from_residual-in_err-node-in-Some-Node.result
    c.from_residual-in_err-node-in-Some-Node.ensures.1 in rw (p.1, p.2)
    (refused_row c.args.lets c.args.line.now c.split_before.result.0.now c.split_before.result.1.now (first.Node c.in-Some-Node.word)
    c.in_err-node-in-Some-Node.field-0.0 c.split_before.ensures.is (rw c.in-Some-Node.field-0-is at c.in-Some-Node.ensures)
    c.in_err-node-in-Some-Node.ensures.err)

pub returns-in_err-node-in-Some-Node-clause-grows : goal.returns-in_err-node-in-Some-Node-clause-grows
returns-in_err-node-in-Some-Node-clause-grows c = c.node.ensures.grows

pub returns-in_ok-node-in-Some-Node-clause-grows : goal.returns-in_ok-node-in-Some-Node-clause-grows
returns-in_ok-node-in-Some-Node-clause-grows c = c.node.ensures.grows

pub returns-in_ok-node-in-Some-Node-clause-ok : goal.returns-in_ok-node-in-Some-Node-clause-ok
returns-in_ok-node-in-Some-Node-clause-ok c = node_row c.args.names.now c.args.bank.now c.args.line.now c.split_before.result.0.now c.split_before.result.1.now
    c.args.lets c.in-Some-Node.word c.node.new.names c.node.new.bank c.in_ok-node-in-Some-Node.field-0 c.split_before.ensures.is
    (rw c.in-Some-Node.field-0-is at c.in-Some-Node.ensures) c.in_ok-node-in-Some-Node.ensures.ok

pub returns-in-None-clause-err : goal.returns-in-None-clause-err
returns-in-None-clause-err c = word_none c.args.line.now c.split_before.result.0.now c.split_before.result.1.now c.args.lets c.split_before.ensures.is
    c.split_before.ensures.free c.split_before.ensures.stops c.in-None.ensures

pub returns-in-None-clause-grows : goal.returns-in-None-clause-grows
returns-in-None-clause-grows c = grows_none c.args.names.now

pub returns-in_ok-last_term-in-Some-Let-clause-err : goal.returns-in_ok-last_term-in-Some-Let-clause-err
returns-in_ok-last_term-in-Some-Let-clause-err c = _

pub returns-in_ok-node-in-Some-Node-clause-err : goal.returns-in_ok-node-in-Some-Node-clause-err
returns-in_ok-node-in-Some-Node-clause-err c = _

pub returns-in-None-clause-ok : goal.returns-in-None-clause-ok
returns-in-None-clause-ok c = _
