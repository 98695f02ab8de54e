use Rattle.std.proofs.lemmas.Result.{IfOk-from_err}
use Rattle.ll_freeze.proofs.frozen.Frozen.start.Goals as goal

pub returns-in_err-index : goal.returns-in_err-index
returns-in_err-index c = IfOk-from_err c.from_residual.result _ c.from_residual.ensures.0
