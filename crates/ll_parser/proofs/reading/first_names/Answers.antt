use Rattle.std.proofs.lemmas.Result.{IfOk-from_err}
use Rattle.ll_parser.proofs.reading.first_names.Goals as goal

pub returns-in_err-add : goal.returns-in_err-add
returns-in_err-add c = IfOk-from_err c.from_residual.result _ c.from_residual.ensures.0

pub returns-in_err-add-2 : goal.returns-in_err-add-2
returns-in_err-add-2 c = IfOk-from_err c.from_residual-in_err-add-2.result _ c.from_residual-in_err-add-2.ensures.0

pub returns-in_err-add-3 : goal.returns-in_err-add-3
returns-in_err-add-3 c = IfOk-from_err c.from_residual-in_err-add-3.result _ c.from_residual-in_err-add-3.ensures.0

pub returns-in_err-add-4 : goal.returns-in_err-add-4
returns-in_err-add-4 c = IfOk-from_err c.from_residual-in_err-add-4.result _ c.from_residual-in_err-add-4.ensures.0
