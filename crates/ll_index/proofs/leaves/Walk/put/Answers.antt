use Rattle.std.proofs.lemmas.Result.{IfOk-from_err}
use Rattle.ll_index.proofs.leaves.Walk.put.Goals as goal

pub returns-in_err-push-clause-waiting : goal.returns-in_err-push-clause-waiting
returns-in_err-push-clause-waiting c = IfOk-from_err c.from_residual.result _ c.from_residual.ensures.0
