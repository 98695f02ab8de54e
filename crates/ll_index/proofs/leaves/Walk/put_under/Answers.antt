use Rattle.std.proofs.lemmas.Result.{IfOk-from_err}
use Rattle.ll_index.proofs.leaves.Walk.put_under.Goals as goal

pub returns-in_err-premises : goal.returns-in_err-premises
returns-in_err-premises c = IfOk-from_err c.from_residual.result _ c.from_residual.ensures.0
