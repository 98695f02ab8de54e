use Rattle.std.proofs.lemmas.Result.{IfOk-from_err}
use Rattle.ll_unify.proofs.scan.Seen.done.Goals as goal

pub returns-in_err-look-clause-look : goal.returns-in_err-look-clause-look
returns-in_err-look-clause-look c = IfOk-from_err c.from_residual.result _ c.from_residual.ensures.0

pub returns-in_err-look-clause-places : goal.returns-in_err-look-clause-places
returns-in_err-look-clause-places c = IfOk-from_err c.from_residual.result _ c.from_residual.ensures.0

pub returns-in_err-add-clause-look : goal.returns-in_err-add-clause-look
returns-in_err-add-clause-look c = IfOk-from_err c.from_residual-in_err-add.result _ c.from_residual-in_err-add.ensures.0

pub returns-in_err-add-clause-places : goal.returns-in_err-add-clause-places
returns-in_err-add-clause-places c = IfOk-from_err c.from_residual-in_err-add.result _ c.from_residual-in_err-add.ensures.0
