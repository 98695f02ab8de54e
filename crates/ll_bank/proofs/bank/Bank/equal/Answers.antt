use Rattle.std.proofs.lemmas.Result.{IfOk-from_err}
use Rattle.ll_bank.proofs.bank.Bank.equal.Goals as goal

pub returns-in_err-equal : goal.returns-in_err-equal
returns-in_err-equal c = IfOk-from_err c.from_residual.result _ c.from_residual.ensures.0
