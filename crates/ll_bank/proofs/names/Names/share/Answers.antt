use Rattle.std.proofs.lemmas.Result.{IfOk-from_err}
use Rattle.ll_bank.proofs.names.Names.share.Goals as goal

pub returns-in_err-front : goal.returns-in_err-front
returns-in_err-front c = IfOk-from_err c.from_residual.result _ c.from_residual.ensures.0
