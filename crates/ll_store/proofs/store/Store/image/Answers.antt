use Rattle.std.proofs.lemmas.Result.{IfOk-from_err}
use Rattle.ll_store.proofs.store.Store.image.Goals as goal

pub returns-in_err-cells-clause-state : goal.returns-in_err-cells-clause-state
returns-in_err-cells-clause-state c = IfOk-from_err c.from_residual.result _ c.from_residual.ensures.0

pub returns-in_err-cells-clause-changes : goal.returns-in_err-cells-clause-changes
returns-in_err-cells-clause-changes c = IfOk-from_err c.from_residual.result _ c.from_residual.ensures.0

pub returns-in_err-cells-clause-size : goal.returns-in_err-cells-clause-size
returns-in_err-cells-clause-size c = IfOk-from_err c.from_residual.result _ c.from_residual.ensures.0

pub returns-in_err-bank-clause-state : goal.returns-in_err-bank-clause-state
returns-in_err-bank-clause-state c = IfOk-from_err c.from_residual-in_err-bank.result _ c.from_residual-in_err-bank.ensures.0

pub returns-in_err-bank-clause-changes : goal.returns-in_err-bank-clause-changes
returns-in_err-bank-clause-changes c = IfOk-from_err c.from_residual-in_err-bank.result _ c.from_residual-in_err-bank.ensures.0

pub returns-in_err-bank-clause-size : goal.returns-in_err-bank-clause-size
returns-in_err-bank-clause-size c = IfOk-from_err c.from_residual-in_err-bank.result _ c.from_residual-in_err-bank.ensures.0
