use Rattle.std.proofs.lemmas.Result.{IfOk-from_err}
use Rattle.ll_trace.proofs.places.Uses.new.Goals as goal

pub returns-in_err-places : goal.returns-in_err-places
returns-in_err-places c = IfOk-from_err c.from_residual.result _ c.from_residual.ensures.0
