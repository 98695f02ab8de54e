use Rattle.std.proofs.Common.{refl, ◌∙◌}
use Rattle.std.proofs.lemmas.Result.{IfOk-from_err}
use Rattle.ll_trace.proofs.Sharing.{with-step}
use Rattle.ll_trace.proofs.deal.deal_with.Goals as goal

pub returns-clause-dealt : goal.returns-clause-dealt
returns-clause-dealt c = λ outline at bank ts vs h f1 f2 d.
    with-step outline at c.args.share (record { labels = c.in_ok-labels.labels; level = c.args.share.level }) c.args.share c.args.pending.now.items
    c.push.new.self.items c.push-2.new.self.items ts vs (c.in_ok-labels.ensures.items ∙ c.deref.ensures.value) refl refl refl c.in_ok-push.ensures.items
    c.in_ok-push-2.ensures.items h d

pub returns-in_err-labels-clause-dealt : goal.returns-in_err-labels-clause-dealt
returns-in_err-labels-clause-dealt c = IfOk-from_err c.from_residual.result _ c.from_residual.ensures.0

pub returns-in_err-labels-clause-keeps : goal.returns-in_err-labels-clause-keeps
returns-in_err-labels-clause-keeps c = IfOk-from_err c.from_residual.result _ c.from_residual.ensures.0

pub returns-in_err-push-2-clause-dealt : goal.returns-in_err-push-2-clause-dealt
returns-in_err-push-2-clause-dealt c = IfOk-from_err c.from_residual-in_err-push-2.result _ c.from_residual-in_err-push-2.ensures.0

pub returns-in_err-push-2-clause-keeps : goal.returns-in_err-push-2-clause-keeps
returns-in_err-push-2-clause-keeps c = IfOk-from_err c.from_residual-in_err-push-2.result _ c.from_residual-in_err-push-2.ensures.0

pub returns-in_err-push-clause-dealt : goal.returns-in_err-push-clause-dealt
returns-in_err-push-clause-dealt c = IfOk-from_err c.from_residual-in_err-push.result _ c.from_residual-in_err-push.ensures.0

pub returns-in_err-push-clause-keeps : goal.returns-in_err-push-clause-keeps
returns-in_err-push-clause-keeps c = IfOk-from_err c.from_residual-in_err-push.result _ c.from_residual-in_err-push.ensures.0

pub returns-clause-keeps : goal.returns-clause-keeps
returns-clause-keeps c = _
