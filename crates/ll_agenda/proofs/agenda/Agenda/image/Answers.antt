use Rattle.std.proofs.lemmas.Result.{IfOk-from_err}
use Rattle.ll_agenda.proofs.agenda.Agenda.image.Goals as goal

pub returns-in_err-items-clause-list : goal.returns-in_err-items-clause-list
returns-in_err-items-clause-list g c = IfOk-from_err c.from_residual.result _ c.from_residual.ensures.0

pub returns-in_err-items-clause-frames : goal.returns-in_err-items-clause-frames
returns-in_err-items-clause-frames g c = IfOk-from_err c.from_residual.result _ c.from_residual.ensures.0
