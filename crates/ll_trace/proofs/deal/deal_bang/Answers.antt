use Rattle.std.proofs.lemmas.Result.{IfOk-from_err}
use Rattle.ll_trace.proofs.Sharing.{bang-step}
use Rattle.ll_trace.proofs.deal.deal_bang.Goals as goal

pub returns-clause-dealt : goal.returns-clause-dealt
returns-clause-dealt c = λ outline at bank ts vs h f1 f2 d.
    bang-step outline at c.args.share.now (record { labels = c.new-labels.result; level = c.in_ok-level.level }) c.args.pending.now.items
    c.push.new.self.items ts vs c.new-labels.ensures.items c.in_ok-level.ensures c.in_ok-push.ensures.items h d

pub returns-in_err-level-clause-dealt : goal.returns-in_err-level-clause-dealt
returns-in_err-level-clause-dealt c = IfOk-from_err c.from_residual.result _ c.from_residual.ensures.0

pub returns-in_err-level-clause-keeps : goal.returns-in_err-level-clause-keeps
returns-in_err-level-clause-keeps c = IfOk-from_err c.from_residual.result _ c.from_residual.ensures.0

pub returns-in_err-push-clause-dealt : goal.returns-in_err-push-clause-dealt
returns-in_err-push-clause-dealt c = IfOk-from_err c.from_residual-in_err-push.result _ c.from_residual-in_err-push.ensures.0

pub returns-in_err-push-clause-keeps : goal.returns-in_err-push-clause-keeps
returns-in_err-push-clause-keeps c = IfOk-from_err c.from_residual-in_err-push.result _ c.from_residual-in_err-push.ensures.0

pub returns-clause-keeps : goal.returns-clause-keeps
returns-clause-keeps c = _
