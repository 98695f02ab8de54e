use Rattle.std.proofs.lemmas.Result.{IfOk-from_err}
use Rattle.ll_prooftext.proofs.table.table_of.Goals as goal

pub returns-in_err-classes-clause-table : goal.returns-in_err-classes-clause-table
returns-in_err-classes-clause-table c = IfOk-from_err c.from_residual.result _ c.from_residual.ensures.0

pub returns-in_err-classes-clause-reach : goal.returns-in_err-classes-clause-reach
returns-in_err-classes-clause-reach c = IfOk-from_err c.from_residual.result _ c.from_residual.ensures.0

pub returns-clause-table : goal.returns-clause-table
returns-clause-table c = c.table_with.ensures.table

pub returns-clause-reach : goal.returns-clause-reach
returns-clause-reach c = c.table_with.ensures.reach
