use Rattle.std.proofs.lemmas.Result.{IfOk-from_err}
use Rattle.ll_polarity.proofs.walk.open_load.Goals as goal

pub returns-in_err-push : goal.returns-in_err-push
returns-in_err-push c = IfOk-from_err c.from_residual.result _ c.from_residual.ensures.0

pub returns-in_err-push_fault : goal.returns-in_err-push_fault
returns-in_err-push_fault c = IfOk-from_err c.from_residual-in_err-push_fault.result _ c.from_residual-in_err-push_fault.ensures.0

pub returns-in_err-push_terms : goal.returns-in_err-push_terms
returns-in_err-push_terms c = IfOk-from_err c.from_residual-in_err-push_terms.result _ c.from_residual-in_err-push_terms.ensures.0
