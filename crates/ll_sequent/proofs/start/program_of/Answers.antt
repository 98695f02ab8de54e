use Rattle.std.proofs.lemmas.Result.{IfOk-from_err}
use Rattle.ll_sequent.proofs.start.program_of.Goals as goal

pub returns-in_err-unbounded-clause-unbounded : goal.returns-in_err-unbounded-clause-unbounded
returns-in_err-unbounded-clause-unbounded c = IfOk-from_err c.from_residual.result _ c.from_residual.ensures.0

pub returns-in_err-unbounded-clause-bounded : goal.returns-in_err-unbounded-clause-bounded
returns-in_err-unbounded-clause-bounded c = IfOk-from_err c.from_residual.result _ c.from_residual.ensures.0

pub returns-in_err-bounded-clause-unbounded : goal.returns-in_err-bounded-clause-unbounded
returns-in_err-bounded-clause-unbounded c = IfOk-from_err c.from_residual-in_err-bounded.result _ c.from_residual-in_err-bounded.ensures.0

pub returns-in_err-bounded-clause-bounded : goal.returns-in_err-bounded-clause-bounded
returns-in_err-bounded-clause-bounded c = IfOk-from_err c.from_residual-in_err-bounded.result _ c.from_residual-in_err-bounded.ensures.0
