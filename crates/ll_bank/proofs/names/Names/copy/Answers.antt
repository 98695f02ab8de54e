use Rattle.std.proofs.lemmas.Result.{IfOk-from_err}
use Rattle.ll_bank.proofs.names.Names.copy.Goals as goal

pub returns-in_err-front : goal.returns-in_err-front
returns-in_err-front c = IfOk-from_err c.from_residual.result _ c.from_residual.ensures.0

pub returns-in_err-rest : goal.returns-in_err-rest
returns-in_err-rest c = IfOk-from_err c.from_residual-in_err-rest.result _ c.from_residual-in_err-rest.ensures.0
