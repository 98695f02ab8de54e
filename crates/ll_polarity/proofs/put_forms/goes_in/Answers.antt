use Rattle.std.proofs.lemmas.Result.{IfOk-from_err}
use Rattle.ll_polarity.proofs.put_forms.goes_in.Goals as goal

pub returns-in_err-entered-clause-step : goal.returns-in_err-entered-clause-step
returns-in_err-entered-clause-step c = IfOk-from_err c.from_residual.result _ c.from_residual.ensures.0

pub returns-in_err-entered-clause-frames : goal.returns-in_err-entered-clause-frames
returns-in_err-entered-clause-frames c = IfOk-from_err c.from_residual.result _ c.from_residual.ensures.0

pub returns-in_err-entered-clause-binders : goal.returns-in_err-entered-clause-binders
returns-in_err-entered-clause-binders c = IfOk-from_err c.from_residual.result _ c.from_residual.ensures.0
