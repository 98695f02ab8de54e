use Rattle.std.proofs.lemmas.Result.{IfOk-from_err}
use Rattle.ll_polarity.proofs.judge.open_all.Goals as goal

pub returns-in_err-open : goal.returns-in_err-open
returns-in_err-open c = IfOk-from_err c.from_residual.result _ c.from_residual.ensures.0
