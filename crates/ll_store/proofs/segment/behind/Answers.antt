use Rattle.std.proofs.lemmas.Result.{IfOk-from_err}
use Rattle.ll_store.proofs.segment.behind.Goals as goal

pub returns-in_err-more : goal.returns-in_err-more
returns-in_err-more c = IfOk-from_err c.from_residual.result _ c.from_residual.ensures.0
