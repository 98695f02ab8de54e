use Rattle.std.proofs.lemmas.Result.{IfOk-from_err}
use Rattle.ll_unify.proofs.equate.open_next.Goals as goal

pub returns-in_err-equal-clause-settles : goal.returns-in_err-equal-clause-settles
returns-in_err-equal-clause-settles g c = IfOk-from_err c.from_residual.result _ c.from_residual.ensures.0

pub returns-in_err-equal-clause-fresh : goal.returns-in_err-equal-clause-fresh
returns-in_err-equal-clause-fresh g c = IfOk-from_err c.from_residual.result _ c.from_residual.ensures.0

pub open-requires-clause-table : goal.open-requires-clause-table
open-requires-clause-table g c = c.requires.table

pub open-requires-clause-classes : goal.open-requires-clause-classes
open-requires-clause-classes g c = c.requires.classes

pub open-requires-clause-pair : goal.open-requires-clause-pair
open-requires-clause-pair g c = c.requires.pair

pub open-requires-clause-fresh : goal.open-requires-clause-fresh
open-requires-clause-fresh g c = c.requires.fresh
