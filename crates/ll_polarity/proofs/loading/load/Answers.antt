use Rattle.std.proofs.lemmas.Result.{IfOk-from_err}
use Rattle.ll_polarity.proofs.loading.load.Goals as goal

pub returns-in_err-fault-clause-part : goal.returns-in_err-fault-clause-part
returns-in_err-fault-clause-part c = IfOk-from_err c.from_residual.result _ c.from_residual.ensures.0

pub returns-in_err-fault-clause-faultless : goal.returns-in_err-fault-clause-faultless
returns-in_err-fault-clause-faultless c = IfOk-from_err c.from_residual.result _ c.from_residual.ensures.0

pub returns-in-Some-clause-part : goal.returns-in-Some-clause-part
returns-in-Some-clause-part c = _

pub returns-in-Some-clause-faultless : goal.returns-in-Some-clause-faultless
returns-in-Some-clause-faultless c = _

pub returns-in_err-loaded-clause-part : goal.returns-in_err-loaded-clause-part
returns-in_err-loaded-clause-part c = IfOk-from_err c.from_residual-in_err-loaded.result _ c.from_residual-in_err-loaded.ensures.0

pub returns-in_err-loaded-clause-faultless : goal.returns-in_err-loaded-clause-faultless
returns-in_err-loaded-clause-faultless c = IfOk-from_err c.from_residual-in_err-loaded.result _ c.from_residual-in_err-loaded.ensures.0

pub returns-clause-cause : goal.returns-clause-cause
returns-clause-cause c = _
