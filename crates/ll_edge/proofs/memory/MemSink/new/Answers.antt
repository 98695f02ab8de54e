use Rattle.std.proofs.lemmas.Result.{IfOk-from_err}
use Rattle.ll_edge.proofs.memory.MemSink.new.Goals as goal

pub returns-in_err-written : goal.returns-in_err-written
returns-in_err-written c = IfOk-from_err c.from_residual.result _ c.from_residual.ensures.0
