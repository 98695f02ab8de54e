use Rattle.std.proofs.lemmas.Result.{IfOk-from_err}
use Rattle.ll_trace.proofs.walk.Walker.take_side.Goals as goal

pub returns-in_err-push-in-Right : goal.returns-in_err-push-in-Right
returns-in_err-push-in-Right c = IfOk-from_err c.from_residual.result _ c.from_residual.ensures.0

pub returns-in_err-push-in_default : goal.returns-in_err-push-in_default
returns-in_err-push-in_default c = IfOk-from_err c.from_residual-in_err-push-in_default.result _ c.from_residual-in_err-push-in_default.ensures.0
