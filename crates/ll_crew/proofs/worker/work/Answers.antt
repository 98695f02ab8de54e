use Rattle.std.proofs.lemmas.Result.{IfOk-from_err}
use Rattle.ll_crew.proofs.worker.work.Goals as goal

pub returns-in_err-done-clause-ended : goal.returns-in_err-done-clause-ended
returns-in_err-done-clause-ended g c = IfOk-from_err c.from_residual.result _ c.from_residual.ensures.0

pub returns-in_err-done-clause-quit : goal.returns-in_err-done-clause-quit
returns-in_err-done-clause-quit g c = IfOk-from_err c.from_residual.result _ c.from_residual.ensures.0

pub returns-clause-starved : goal.returns-clause-starved
returns-clause-starved g c = _

pub work_as-done-requires-clause-suits : goal.work_as-done-requires-clause-suits
work_as-done-requires-clause-suits g c κs within = c.requires.suits
