use Rattle.std.proofs.lemmas.Result.{IfOk-from_err}
use Rattle.ll_polarity.proofs.walk.open_operands.Goals as goal

pub returns-in_err-open_part : goal.returns-in_err-open_part
returns-in_err-open_part c = IfOk-from_err c.from_residual.result _ c.from_residual.ensures.0
