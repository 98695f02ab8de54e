use Rattle.std.proofs.Common.{refl}
use Rattle.std.proofs.lemmas.Result.{IfOk-from_err}
use Rattle.ll_trace.proofs.Sharing.{lolli-step}
use Rattle.ll_trace.proofs.deal.deal_lolli.Goals as goal

pub returns-clause-dealt : goal.returns-clause-dealt
returns-clause-dealt c = λ outline at bank ts vs h f1 f2 d.
    lolli-step c.args.label outline at c.args.share (record { labels = c.push.new.self; level = c.args.share.level }) c.args.pending.now.items
    c.push-2.new.self.items ts vs c.in_ok-push.ensures.items refl c.in_ok-push-2.ensures.items h d

pub returns-in_err-push-2-clause-dealt : goal.returns-in_err-push-2-clause-dealt
returns-in_err-push-2-clause-dealt c = IfOk-from_err c.from_residual-in_err-push-2.result _ c.from_residual-in_err-push-2.ensures.0

pub returns-in_err-push-2-clause-keeps : goal.returns-in_err-push-2-clause-keeps
returns-in_err-push-2-clause-keeps c = IfOk-from_err c.from_residual-in_err-push-2.result _ c.from_residual-in_err-push-2.ensures.0

pub returns-in_err-push-clause-dealt : goal.returns-in_err-push-clause-dealt
returns-in_err-push-clause-dealt c = IfOk-from_err c.from_residual.result _ c.from_residual.ensures.0

pub returns-in_err-push-clause-keeps : goal.returns-in_err-push-clause-keeps
returns-in_err-push-clause-keeps c = IfOk-from_err c.from_residual.result _ c.from_residual.ensures.0

pub returns-clause-keeps : goal.returns-clause-keeps
returns-clause-keeps c = _
