use Rattle.std.proofs.lemmas.Result.{IfOk-from_err}
use Rattle.ll_printer.proofs.formulas.push_head.Goals as goal

pub returns-in_err-push_arguments : goal.returns-in_err-push_arguments
returns-in_err-push_arguments c = IfOk-from_err c.from_residual.result _ c.from_residual.ensures.0
