use Rattle.std.proofs.lemmas.Result.{IfOk-from_err}
use Rattle.ll_resources.proofs.saves.Saves.copy.Goals as goal

pub returns-in_err-marks-clause-marks : goal.returns-in_err-marks-clause-marks
returns-in_err-marks-clause-marks c = IfOk-from_err c.from_residual.result _ c.from_residual.ensures.0

pub returns-in_err-marks-clause-kept : goal.returns-in_err-marks-clause-kept
returns-in_err-marks-clause-kept c = IfOk-from_err c.from_residual.result _ c.from_residual.ensures.0

pub returns-in_err-kept-clause-marks : goal.returns-in_err-kept-clause-marks
returns-in_err-kept-clause-marks c = IfOk-from_err c.from_residual-in_err-kept.result _ c.from_residual-in_err-kept.ensures.0

pub returns-in_err-kept-clause-kept : goal.returns-in_err-kept-clause-kept
returns-in_err-kept-clause-kept c = IfOk-from_err c.from_residual-in_err-kept.result _ c.from_residual-in_err-kept.ensures.0
