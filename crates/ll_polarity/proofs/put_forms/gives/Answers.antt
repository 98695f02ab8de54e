use Rattle.std.proofs.lemmas.Result.{IfOk-from_err}
use Rattle.ll_polarity.proofs.put_forms.gives.Goals as goal

pub returns-in_err-form-clause-step : goal.returns-in_err-form-clause-step
returns-in_err-form-clause-step c = IfOk-from_err c.from_residual.result _ c.from_residual.ensures.0
