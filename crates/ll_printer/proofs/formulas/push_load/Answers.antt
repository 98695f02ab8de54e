use Rattle.std.proofs.lemmas.Result.{IfOk-from_err}
use Rattle.ll_printer.proofs.formulas.push_load.Goals as goal

pub returns-in_err-push_part : goal.returns-in_err-push_part
returns-in_err-push_part c = IfOk-from_err c.from_residual.result _ c.from_residual.ensures.0

pub returns-in_err-push_part-2 : goal.returns-in_err-push_part-2
returns-in_err-push_part-2 c = IfOk-from_err c.from_residual-in_err-push_part-2.result _ c.from_residual-in_err-push_part-2.ensures.0
