use Rattle.std.proofs.lemmas.Result.{IfOk-from_err}
use Rattle.ll_edge.proofs.real.read_at.Goals as goal

pub returns-in_err-seek : goal.returns-in_err-seek
returns-in_err-seek g c = IfOk-from_err c.from_residual.result _ c.from_residual.ensures.0
