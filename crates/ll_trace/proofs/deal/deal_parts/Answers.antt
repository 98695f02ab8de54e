use Rattle.std.proofs.lemmas.Result.{IfOk-from_err}
use Rattle.ll_trace.proofs.deal.deal_parts.Goals as goal

pub returns-in_err-deal_each : goal.returns-in_err-deal_each
returns-in_err-deal_each c = IfOk-from_err c.from_residual.result _ c.from_residual.ensures.0
