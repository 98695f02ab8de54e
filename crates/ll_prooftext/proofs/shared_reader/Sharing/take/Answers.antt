use Rattle.ll_prooftext.proofs.reading.TakesOver.{takes_refused_over}
use Rattle.std.proofs.lemmas.Result.{IfOk-from_err, err_from_is_err_and}
use Rattle.std.proofs.Common.{refl}
use Rattle.ll_prooftext.proofs.reading.TakesOver.{takes_share, takes_variable, takes_step}
use Rattle.ll_prooftext.proofs.shared_reader.Sharing.take.Goals as goal

pub returns-in_ok-push-in-Share-clause-ok : goal.returns-in_ok-push-in-Share-clause-ok
returns-in_ok-push-in-Share-clause-ok c = takes_share c.args.names.now c.args.self.now c.args.line.now c.read_line.new.names _ c.in-Share.at
    c.stage-stage.result c.deref.result.now c.deref.ensures.value c.stage-stage.ensures.shares (rw c.in-Share.is at c.in_ok-at.ensures.ok)
    c.in_ok-push-in-Share.ensures.items refl refl refl

pub returns-in_ok-push-in-Let-clause-ok : goal.returns-in_ok-push-in-Let-clause-ok
returns-in_ok-push-in-Let-clause-ok c = takes_variable c.args.names.now c.args.self.now c.args.line.now c.read_line.new.names _ c.in-Let.at c.stage-stage.result
    c.deref.result.now c.deref.ensures.value c.stage-stage.ensures.lets (rw c.in-Let.is at c.in_ok-at.ensures.ok) refl c.in_ok-push-in-Let.ensures.items refl
    refl

pub returns-in_ok-push-in-Node-clause-ok : goal.returns-in_ok-push-in-Node-clause-ok
returns-in_ok-push-in-Node-clause-ok c =
    takes_step c.args.names.now c.args.self.now c.args.line.now c.read_line.new.names _ c.in-Node.rule c.children.result c.deref.result.now
    c.deref.ensures.value (rw c.in-Node.is at c.in_ok-at.ensures.ok) refl refl c.in_ok-push-in-Node.ensures.items c.children.ensures refl

pub returns-in_err-push-in-Share-clause-ok : goal.returns-in_err-push-in-Share-clause-ok
returns-in_err-push-in-Share-clause-ok c = IfOk-from_err c.from_residual-in_err-push-in-Share.result _ c.from_residual-in_err-push-in-Share.ensures.0

pub returns-in_err-push-in-Share-clause-err : goal.returns-in_err-push-in-Share-clause-err
returns-in_err-push-in-Share-clause-err c =
    let p = err_from_is_err_and c.from_residual-in_err-push-in-Share.result c.from_residual-in_err-push-in-Share.ensures.1 in rw (p.1, p.2) tt

pub returns-in_err-push-in-Share-clause-grows : goal.returns-in_err-push-in-Share-clause-grows
returns-in_err-push-in-Share-clause-grows c = c.read_line.ensures.grows

pub returns-in_ok-push-in-Share-clause-grows : goal.returns-in_ok-push-in-Share-clause-grows
returns-in_ok-push-in-Share-clause-grows c = c.read_line.ensures.grows

pub returns-in_err-push-in-Let-clause-ok : goal.returns-in_err-push-in-Let-clause-ok
returns-in_err-push-in-Let-clause-ok c = IfOk-from_err c.from_residual-in_err-push-in-Let.result _ c.from_residual-in_err-push-in-Let.ensures.0

pub returns-in_err-push-in-Let-clause-err : goal.returns-in_err-push-in-Let-clause-err
returns-in_err-push-in-Let-clause-err c =
    let p = err_from_is_err_and c.from_residual-in_err-push-in-Let.result c.from_residual-in_err-push-in-Let.ensures.1 in rw (p.1, p.2) tt

pub returns-in_err-push-in-Let-clause-grows : goal.returns-in_err-push-in-Let-clause-grows
returns-in_err-push-in-Let-clause-grows c = c.read_line.ensures.grows

pub returns-in_ok-push-in-Let-clause-grows : goal.returns-in_ok-push-in-Let-clause-grows
returns-in_ok-push-in-Let-clause-grows c = c.read_line.ensures.grows

pub returns-in_err-push-in-Node-clause-ok : goal.returns-in_err-push-in-Node-clause-ok
returns-in_err-push-in-Node-clause-ok c = IfOk-from_err c.from_residual-in_err-push-in-Node.result _ c.from_residual-in_err-push-in-Node.ensures.0

pub returns-in_err-push-in-Node-clause-err : goal.returns-in_err-push-in-Node-clause-err
returns-in_err-push-in-Node-clause-err c =
    let p = err_from_is_err_and c.from_residual-in_err-push-in-Node.result c.from_residual-in_err-push-in-Node.ensures.1 in rw (p.1, p.2) tt

pub returns-in_err-push-in-Node-clause-grows : goal.returns-in_err-push-in-Node-clause-grows
returns-in_err-push-in-Node-clause-grows c = c.read_line.ensures.grows

pub returns-in_ok-push-in-Node-clause-grows : goal.returns-in_ok-push-in-Node-clause-grows
returns-in_ok-push-in-Node-clause-grows c = c.read_line.ensures.grows

pub returns-in_err-at-clause-ok : goal.returns-in_err-at-clause-ok
returns-in_err-at-clause-ok c = IfOk-from_err c.from_residual.result _ c.from_residual.ensures.0

pub returns-in_err-at-clause-grows : goal.returns-in_err-at-clause-grows
returns-in_err-at-clause-grows c = c.read_line.ensures.grows

pub read_line-requires-clause-room : goal.read_line-requires-clause-room
read_line-requires-clause-room c = c.requires.room

pub read_line-requires-clause-few : goal.read_line-requires-clause-few
read_line-requires-clause-few c = rw c.deref.ensures.value c.requires.few

pub read_line-requires-clause-rows : goal.read_line-requires-clause-rows
read_line-requires-clause-rows c = rw c.deref.ensures.value c.requires.rows

pub returns-in_err-at-clause-err : goal.returns-in_err-at-clause-err
returns-in_err-at-clause-err c = let p = err_from_is_err_and c.from_residual.result c.from_residual.ensures.1 in
    rw (p.1, p.2) (takes_refused_over c.args.self.now c.deref.result.now c.stage-stage.result c.args.line.now c.in_err-at.field-0.0 c.deref.ensures.value
    c.stage-stage.ensures.shares c.stage-stage.ensures.lets c.in_err-at.ensures.err)

pub returns-in_ok-push-in-Share-clause-err : goal.returns-in_ok-push-in-Share-clause-err
returns-in_ok-push-in-Share-clause-err c = _

pub returns-in_ok-push-in-Let-clause-err : goal.returns-in_ok-push-in-Let-clause-err
returns-in_ok-push-in-Let-clause-err c = _

pub returns-in_ok-push-in-Node-clause-err : goal.returns-in_ok-push-in-Node-clause-err
returns-in_ok-push-in-Node-clause-err c = _
