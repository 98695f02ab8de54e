use Rattle.std.proofs.lemmas.Result.{IfOk-from_err, err_from_is_err_and}
use Rattle.std.proofs.Common.{refl}
use Rattle.ll_prooftext.proofs.reading.TakesRead.{takes_let, takes_node, takes_refused}
use Rattle.ll_prooftext.proofs.reader.Reading.take.Goals as goal

pub returns-in_ok-push-in-Let-clause-ok : goal.returns-in_ok-push-in-Let-clause-ok
returns-in_ok-push-in-Let-clause-ok c =
    takes_let c.args.names.now c.args.self.now c.args.line.now c.read_row.new.names _ c.in-Let.at c.args.self.now.nodes.len c.args.self.now.nodes.ok.0
    c.is_empty-lets.ensures (rw c.in-Let.is at c.in_ok-at.ensures.ok) c.in_ok-push-in-Let.ensures.items
    refl refl

pub returns-in_ok-push-in-Node-clause-ok : goal.returns-in_ok-push-in-Node-clause-ok
returns-in_ok-push-in-Node-clause-ok c =
    takes_node c.args.names.now c.args.self.now c.args.line.now c.read_row.new.names _ c.in-Node.rule c.children.result
    (rw c.in-Node.is at c.in_ok-at.ensures.ok) c.in_ok-push-in-Node.ensures.items refl c.children.ensures refl

pub returns-in_err-push-in-Let-clause-ok : goal.returns-in_err-push-in-Let-clause-ok
returns-in_err-push-in-Let-clause-ok c = IfOk-from_err c.from_residual-in_err-push-in-Let.result _ c.from_residual-in_err-push-in-Let.ensures.0

pub returns-in_err-push-in-Let-clause-err : goal.returns-in_err-push-in-Let-clause-err
returns-in_err-push-in-Let-clause-err c =
    let p = err_from_is_err_and c.from_residual-in_err-push-in-Let.result c.from_residual-in_err-push-in-Let.ensures.1 in rw (p.1, p.2) tt

pub returns-in_err-push-in-Let-clause-grows : goal.returns-in_err-push-in-Let-clause-grows
returns-in_err-push-in-Let-clause-grows c = c.read_row.ensures.grows

pub returns-in_ok-push-in-Let-clause-grows : goal.returns-in_ok-push-in-Let-clause-grows
returns-in_ok-push-in-Let-clause-grows c = c.read_row.ensures.grows

pub returns-in_err-push-in-Node-clause-ok : goal.returns-in_err-push-in-Node-clause-ok
returns-in_err-push-in-Node-clause-ok c = IfOk-from_err c.from_residual-in_err-push-in-Node.result _ c.from_residual-in_err-push-in-Node.ensures.0

pub returns-in_err-push-in-Node-clause-err : goal.returns-in_err-push-in-Node-clause-err
returns-in_err-push-in-Node-clause-err c =
    let p = err_from_is_err_and c.from_residual-in_err-push-in-Node.result c.from_residual-in_err-push-in-Node.ensures.1 in rw (p.1, p.2) tt

pub returns-in_err-push-in-Node-clause-grows : goal.returns-in_err-push-in-Node-clause-grows
returns-in_err-push-in-Node-clause-grows c = c.read_row.ensures.grows

pub returns-in_ok-push-in-Node-clause-grows : goal.returns-in_ok-push-in-Node-clause-grows
returns-in_ok-push-in-Node-clause-grows c = c.read_row.ensures.grows

pub returns-in_err-at-clause-ok : goal.returns-in_err-at-clause-ok
returns-in_err-at-clause-ok c = IfOk-from_err c.from_residual.result _ c.from_residual.ensures.0

pub returns-in_err-at-clause-grows : goal.returns-in_err-at-clause-grows
returns-in_err-at-clause-grows c = c.read_row.ensures.grows

pub read_row-requires : goal.read_row-requires
read_row-requires c = c.requires.room

pub returns-in_err-at-clause-err : goal.returns-in_err-at-clause-err
returns-in_err-at-clause-err c = let p = err_from_is_err_and c.from_residual.result c.from_residual.ensures.1 in
    rw (p.1, p.2) (takes_refused c.args.self.now.nodes.items c.args.line.now c.args.self.now.nodes.len c.in_err-at.field-0.0 c.args.self.now.nodes.ok.0
    c.is_empty-lets.ensures c.in_err-at.ensures.err)

pub returns-in_ok-push-in-Let-clause-err : goal.returns-in_ok-push-in-Let-clause-err
returns-in_ok-push-in-Let-clause-err c = _

pub returns-in_ok-push-in-Node-clause-err : goal.returns-in_ok-push-in-Node-clause-err
returns-in_ok-push-in-Node-clause-err c = _
