use Rattle.std.proofs.lemmas.Result.{IfOk-from_err}
use Rattle.ll_top.proofs.lines.line.LineNotice.of_answer.Goals as goal

pub returns-in_err-text : goal.returns-in_err-text
returns-in_err-text g c = IfOk-from_err c.from_residual.result _ c.from_residual.ensures.0
