use Rattle.std.proofs.lemmas.Result.{IfOk-from_err}
use Rattle.ll_polarity.proofs.judge.modules_fault.Goals as goal

pub returns-in_err-earlier : goal.returns-in_err-earlier
returns-in_err-earlier c = IfOk-from_err c.from_residual.result _ c.from_residual.ensures.0

pub returns-in_err-binders : goal.returns-in_err-binders
returns-in_err-binders c = IfOk-from_err c.from_residual-in_err-binders.result _ c.from_residual-in_err-binders.ensures.0
