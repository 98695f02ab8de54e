use Rattle.std.proofs.lemmas.Result.{IfOk-from_err}
use Rattle.ll_crew.proofs.pool.crew_from.Goals as goal

pub returns-in_err-pool : goal.returns-in_err-pool
returns-in_err-pool g c = IfOk-from_err c.from_residual.result _ c.from_residual.ensures.0

pub returns-in-Err : goal.returns-in-Err
returns-in-Err g c = _
