use Rattle.std.proofs.lemmas.Result.{IfOk-from_err}
use Rattle.ll_sequent.proofs.numbers.is_at_most.Goals as goal

pub returns-in_err-first : goal.returns-in_err-first
returns-in_err-first c = IfOk-from_err c.from_residual.result _ c.from_residual.ensures.0

pub returns-in_err-second : goal.returns-in_err-second
returns-in_err-second c = IfOk-from_err c.from_residual-in_err-second.result _ c.from_residual-in_err-second.ensures.0
