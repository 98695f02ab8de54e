use Rattle.std.proofs.lemmas.Result.{IfOk-from_err}
use Rattle.ll_unify.proofs.scan.Seen.add.Goals as goal

pub returns-in_err-grow-clause-places : goal.returns-in_err-grow-clause-places
returns-in_err-grow-clause-places c = IfOk-from_err c.from_residual.result _ c.from_residual.ensures.0

pub returns-in_err-push-clause-places : goal.returns-in_err-push-clause-places
returns-in_err-push-clause-places c = IfOk-from_err c.from_residual-in_err-push.result _ c.from_residual-in_err-push.ensures.0
