use Rattle.std.proofs.lemmas.Result.{IfOk-from_err}
use Rattle.ll_trace.proofs.root.start.Goals as goal

pub returns-in_err-push : goal.returns-in_err-push
returns-in_err-push c = IfOk-from_err c.from_residual.result _ c.from_residual.ensures.0

pub returns-in_err-forms_of : goal.returns-in_err-forms_of
returns-in_err-forms_of c = IfOk-from_err c.from_residual-in_err-forms_of.result _ c.from_residual-in_err-forms_of.ensures.0
