use Rattle.std.proofs.lemmas.Result.{IfOk-from_err}
use Rattle.ll_trace.proofs.walk.Walker.open.Goals as goal

pub returns-in_default-clause-eigen : goal.returns-in_default-clause-eigen
returns-in_default-clause-eigen c = _

pub returns-in_default-clause-pushed : goal.returns-in_default-clause-pushed
returns-in_default-clause-pushed c = _

pub returns-in_err-push-clause-eigen : goal.returns-in_err-push-clause-eigen
returns-in_err-push-clause-eigen c = IfOk-from_err c.from_residual.result _ c.from_residual.ensures.0

pub returns-in_err-push-clause-pushed : goal.returns-in_err-push-clause-pushed
returns-in_err-push-clause-pushed c = IfOk-from_err c.from_residual.result _ c.from_residual.ensures.0
