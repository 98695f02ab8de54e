use Rattle.std.proofs.Common.{rules}
use Rattle.std.proofs.lemmas.Result.{IfOk-from_err}
use Rattle.ll_polarity.proofs.judge.clauses_fault.Goals as goal

pub returns-in_err-fault-clause-first : goal.returns-in_err-fault-clause-first
returns-in_err-fault-clause-first c = IfOk-from_err c.from_residual.result _ c.from_residual.ensures.0

pub returns-in_err-fault-clause-binders : goal.returns-in_err-fault-clause-binders
returns-in_err-fault-clause-binders c = IfOk-from_err c.from_residual.result _ c.from_residual.ensures.0

pub loop-clause-init : goal.loop-clause-init
loop-clause-init c = search rules

pub returns-then-is_some-clause-binders : goal.returns-then-is_some-clause-binders
returns-then-is_some-clause-binders c = search rules

pub returns-clause-binders : goal.returns-clause-binders
returns-clause-binders c = search rules
