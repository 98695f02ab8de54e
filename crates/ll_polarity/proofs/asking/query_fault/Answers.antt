use Rattle.std.proofs.lemmas.Result.{IfOk-from_err}
use Rattle.ll_polarity.proofs.asking.query_fault.Goals as goal

pub returns-in_err-headings : goal.returns-in_err-headings
returns-in_err-headings c = IfOk-from_err c.from_residual.result _ c.from_residual.ensures.0

pub returns-in_err-fault : goal.returns-in_err-fault
returns-in_err-fault c = IfOk-from_err c.from_residual-in_err-fault.result _ c.from_residual-in_err-fault.ensures.0
