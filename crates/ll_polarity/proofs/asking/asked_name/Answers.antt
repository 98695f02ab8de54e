use Rattle.std.proofs.lemmas.Result.{IfOk-from_err}
use Rattle.ll_polarity.proofs.asking.asked_name.Goals as goal

pub returns-in_err-number-in-Some-clause-asked : goal.returns-in_err-number-in-Some-clause-asked
returns-in_err-number-in-Some-clause-asked c = IfOk-from_err c.from_residual.result _ c.from_residual.ensures.0

pub returns-in_err-number-in-Some-clause-names : goal.returns-in_err-number-in-Some-clause-names
returns-in_err-number-in-Some-clause-names c = IfOk-from_err c.from_residual.result _ c.from_residual.ensures.0
