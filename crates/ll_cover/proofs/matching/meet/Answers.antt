use Rattle.std.proofs.lemmas.Result.{IfOk-from_err}
use Rattle.ll_cover.proofs.matching.meet.Goals as goal

pub returns-in_err-insert-in-None-clause-met : goal.returns-in_err-insert-in-None-clause-met
returns-in_err-insert-in-None-clause-met c = IfOk-from_err c.from_residual.result _ c.from_residual.ensures.0

pub returns-in_err-insert-in-None-clause-images : goal.returns-in_err-insert-in-None-clause-images
returns-in_err-insert-in-None-clause-images c = IfOk-from_err c.from_residual.result _ c.from_residual.ensures.0

pub returns-in_err-insert-in-None-clause-below : goal.returns-in_err-insert-in-None-clause-below
returns-in_err-insert-in-None-clause-below c = IfOk-from_err c.from_residual.result _ c.from_residual.ensures.0
