use Rattle.std.proofs.lemmas.Result.{IfOk-from_err}
use Rattle.ll_polarity.proofs.scope.Binders.new.Goals as goal

pub returns-in_err-innermost : goal.returns-in_err-innermost
returns-in_err-innermost c = IfOk-from_err c.from_residual.result _ c.from_residual.ensures.0
