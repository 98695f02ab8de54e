use Rattle.std.proofs.lemmas.Result.{IfOk-from_err}
use Rattle.ll_index.proofs.index.Index.shared.Goals as goal

pub returns-in_err-index : goal.returns-in_err-index
returns-in_err-index c = IfOk-from_err c.from_residual.result _ c.from_residual.ensures.0

pub returns-in_err-new : goal.returns-in_err-new
returns-in_err-new c = IfOk-from_err c.from_residual-in_err-new.result _ c.from_residual-in_err-new.ensures.0
