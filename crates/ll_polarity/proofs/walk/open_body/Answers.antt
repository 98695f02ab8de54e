use Rattle.std.proofs.lemmas.Result.{IfOk-from_err}
use Rattle.ll_polarity.proofs.walk.open_body.Goals as goal

pub returns-in_err-open-clause-binders : goal.returns-in_err-open-clause-binders
returns-in_err-open-clause-binders c = IfOk-from_err c.from_residual.result _ c.from_residual.ensures.0

pub returns-in_err-open-clause-parts : goal.returns-in_err-open-clause-parts
returns-in_err-open-clause-parts c = IfOk-from_err c.from_residual.result _ c.from_residual.ensures.0

pub returns-in_err-push-clause-binders : goal.returns-in_err-push-clause-binders
returns-in_err-push-clause-binders c = IfOk-from_err c.from_residual-in_err-push.result _ c.from_residual-in_err-push.ensures.0

pub returns-in_err-push-clause-parts : goal.returns-in_err-push-clause-parts
returns-in_err-push-clause-parts c = IfOk-from_err c.from_residual-in_err-push.result _ c.from_residual-in_err-push.ensures.0
