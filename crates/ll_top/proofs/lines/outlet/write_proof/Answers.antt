use Rattle.std.proofs.lemmas.Result.{IfOk-from_err}
use Rattle.ll_top.proofs.lines.outlet.write_proof.Goals as goal

pub returns-in_err-derivation : goal.returns-in_err-derivation
returns-in_err-derivation c = IfOk-from_err c.from_residual.result _ c.from_residual.ensures.0
