use Rattle.std.proofs.lemmas.Result.{IfOk-from_err}
use Rattle.ll_crew.proofs.offer.Offer.choice.Goals as goal

pub returns-in_err-try_clone : goal.returns-in_err-try_clone
returns-in_err-try_clone g c = IfOk-from_err c.from_residual.result _ c.from_residual.ensures.0
