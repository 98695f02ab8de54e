use Rattle.std.proofs.lemmas.Result.{IfOk-from_err}
use Rattle.ll_bank.proofs.flat.span_behind.Goals as goal

pub returns-in_default : goal.returns-in_default
returns-in_default c = _

pub returns-in_err-from : goal.returns-in_err-from
returns-in_err-from c = IfOk-from_err c.from_residual.result _ c.from_residual.ensures.0

pub returns-in_err-to : goal.returns-in_err-to
returns-in_err-to c = IfOk-from_err c.from_residual-in_err-to.result _ c.from_residual-in_err-to.ensures.0
