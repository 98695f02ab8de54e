use Rattle.std.proofs.lemmas.Result.{IfOk-from_err}
use Rattle.ll_top.proofs.lines.line.lines_behind.Goals as goal

pub returns-in_err-lines : goal.returns-in_err-lines
returns-in_err-lines g c = IfOk-from_err c.from_residual.result _ c.from_residual.ensures.0

pub returns-in_err-bindings_of : goal.returns-in_err-bindings_of
returns-in_err-bindings_of g c = IfOk-from_err c.from_residual-in_err-bindings_of.result _ c.from_residual-in_err-bindings_of.ensures.0
