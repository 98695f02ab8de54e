use Rattle.std.proofs.lemmas.Result.{IfOk-from_err}
use Rattle.ll_trace.proofs.places.add_place.Goals as goal

pub returns-in_err-push : goal.returns-in_err-push
returns-in_err-push c = IfOk-from_err c.from_residual.result _ c.from_residual.ensures.0

pub returns-in_err-insert : goal.returns-in_err-insert
returns-in_err-insert c = IfOk-from_err c.from_residual-in_err-insert.result _ c.from_residual-in_err-insert.ensures.0
