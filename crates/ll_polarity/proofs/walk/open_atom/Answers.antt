use Rattle.std.proofs.lemmas.Result.{IfOk-from_err}
use Rattle.ll_polarity.proofs.walk.open_atom.Goals as goal

pub returns-in_err-push_terms : goal.returns-in_err-push_terms
returns-in_err-push_terms c = IfOk-from_err c.from_residual.result _ c.from_residual.ensures.0
