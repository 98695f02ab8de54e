use Rattle.std.proofs.lemmas.Result.{IfOk-from_err}
use Rattle.ll_resources.proofs.saves.Saves.note.Goals as goal

pub returns-in_err-extend_from_slice-clause-from : goal.returns-in_err-extend_from_slice-clause-from
returns-in_err-extend_from_slice-clause-from c = IfOk-from_err c.from_residual.result _ c.from_residual.ensures.0

pub returns-in_err-extend_from_slice-clause-marks : goal.returns-in_err-extend_from_slice-clause-marks
returns-in_err-extend_from_slice-clause-marks c = IfOk-from_err c.from_residual.result _ c.from_residual.ensures.0

pub returns-clause-refused : goal.returns-clause-refused
returns-clause-refused c = _
