use Rattle.std.proofs.lemmas.Result.{IfOk-from_err}
use Rattle.ll_freeze.proofs.frozen.Frozen.index.Goals as goal

pub returns-in_err-try_clone-in-Some : goal.returns-in_err-try_clone-in-Some
returns-in_err-try_clone-in-Some c = IfOk-from_err c.from_residual.result _ c.from_residual.ensures.0

pub returns-in-None : goal.returns-in-None
returns-in-None c = _
