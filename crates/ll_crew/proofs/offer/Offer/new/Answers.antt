use Rattle.std.proofs.lemmas.Result.{IfOk-from_err}
use Rattle.ll_crew.proofs.offer.Offer.new.Goals as goal

pub returns-in_err-choice : goal.returns-in_err-choice
returns-in_err-choice g c = IfOk-from_err c.from_residual.result _ c.from_residual.ensures.0
