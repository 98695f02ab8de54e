use Rattle.std.proofs.lemmas.Result.{IfOk-from_err}
use Rattle.ll_sequent.proofs.leaves.side_of.Goals as goal

pub returns-in_err-leaves_left : goal.returns-in_err-leaves_left
returns-in_err-leaves_left c = IfOk-from_err c.from_residual.result _ c.from_residual.ensures.0
