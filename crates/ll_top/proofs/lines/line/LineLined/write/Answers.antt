use Rattle.std.proofs.lemmas.Result.{IfOk-from_err}
use Rattle.ll_top.proofs.lines.line.LineLined.write.Goals as goal

pub returns-in_err-title-clause-answers : goal.returns-in_err-title-clause-answers
returns-in_err-title-clause-answers g c = IfOk-from_err c.from_residual.result _ c.from_residual.ensures.0

pub returns-in_err-title-clause-lines : goal.returns-in_err-title-clause-lines
returns-in_err-title-clause-lines g c = IfOk-from_err c.from_residual.result _ c.from_residual.ensures.0

pub returns-in_err-extend_from_slice-clause-answers : goal.returns-in_err-extend_from_slice-clause-answers
returns-in_err-extend_from_slice-clause-answers g c =
    IfOk-from_err c.from_residual-in_err-extend_from_slice.result _ c.from_residual-in_err-extend_from_slice.ensures.0

pub returns-in_err-extend_from_slice-clause-lines : goal.returns-in_err-extend_from_slice-clause-lines
returns-in_err-extend_from_slice-clause-lines g c =
    IfOk-from_err c.from_residual-in_err-extend_from_slice.result _ c.from_residual-in_err-extend_from_slice.ensures.0
