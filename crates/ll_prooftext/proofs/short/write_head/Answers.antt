use Rattle.std.proofs.lemmas.Result.{IfOk-from_err}
use Rattle.ll_prooftext.proofs.short.write_head.Goals as goal

pub returns-in_err-at : goal.returns-in_err-at
returns-in_err-at c = IfOk-from_err c.from_residual.result _ c.from_residual.ensures.0
