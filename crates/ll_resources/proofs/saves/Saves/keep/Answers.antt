use Rattle.std.proofs.lemmas.Result.{IfOk-from_err}
use Rattle.ll_resources.proofs.saves.Saves.keep.Goals as goal

pub returns-in_err-extend_from_slice-clause-kept : goal.returns-in_err-extend_from_slice-clause-kept
returns-in_err-extend_from_slice-clause-kept c =
    IfOk-from_err c.from_residual-in_err-extend_from_slice.result _ c.from_residual-in_err-extend_from_slice.ensures.0

pub returns-in_err-extend_from_slice-clause-marks : goal.returns-in_err-extend_from_slice-clause-marks
returns-in_err-extend_from_slice-clause-marks c =
    IfOk-from_err c.from_residual-in_err-extend_from_slice.result _ c.from_residual-in_err-extend_from_slice.ensures.0

pub returns-in_err-reserve-clause-kept : goal.returns-in_err-reserve-clause-kept
returns-in_err-reserve-clause-kept c = IfOk-from_err c.from_residual.result _ c.from_residual.ensures.0

pub returns-in_err-reserve-clause-marks : goal.returns-in_err-reserve-clause-marks
returns-in_err-reserve-clause-marks c = IfOk-from_err c.from_residual.result _ c.from_residual.ensures.0

pub returns-clause-same_marks : goal.returns-clause-same_marks
returns-clause-same_marks c = _

pub returns-clause-same_kept : goal.returns-clause-same_kept
returns-clause-same_kept c = _
