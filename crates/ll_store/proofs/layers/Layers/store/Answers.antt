use Rattle.std.proofs.lemmas.Result.{IfOk-from_err}
use Rattle.ll_store.proofs.layers.Layers.store.Goals as goal

pub returns-in_err-store : goal.returns-in_err-store
returns-in_err-store c = IfOk-from_err c.from_residual.result _ c.from_residual.ensures.0

pub returns-in_err-apply_segments : goal.returns-in_err-apply_segments
returns-in_err-apply_segments c = IfOk-from_err c.from_residual-in_err-apply_segments.result _ c.from_residual-in_err-apply_segments.ensures.0
