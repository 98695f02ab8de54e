use Rattle.std.proofs.lemmas.Result.{IfOk-from_err}
use Rattle.ll_freeze.proofs.rest.first.Goals as goal

pub returns-in_err-copy : goal.returns-in_err-copy
returns-in_err-copy g c = IfOk-from_err c.from_residual.result _ c.from_residual.ensures.0
