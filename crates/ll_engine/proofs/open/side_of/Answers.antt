use Rattle.std.proofs.lemmas.Result.{IfOk-from_err}
use Rattle.ll_engine.proofs.open.side_of.Goals as goal

pub returns-in_err-count : goal.returns-in_err-count
returns-in_err-count c = IfOk-from_err c.from_residual.result _ c.from_residual.ensures.0
