use Rattle.std.proofs.lemmas.Result.{IfOk-from_err}
use Rattle.ll_sequent.proofs.same.is_same.Goals as goal

pub returns-in_err-is_same_by_pairs : goal.returns-in_err-is_same_by_pairs
returns-in_err-is_same_by_pairs c = IfOk-from_err c.from_residual.result _ c.from_residual.ensures.0
