use Rattle.std.proofs.lemmas.Result.{IfOk-from_err}
use Rattle.ll_make.proofs.programs.write_link.Goals as goal

pub returns-in_err-write_numbered : goal.returns-in_err-write_numbered
returns-in_err-write_numbered c = IfOk-from_err c.from_residual.result _ c.from_residual.ensures.0

pub returns-in_err-write_numbered-2 : goal.returns-in_err-write_numbered-2
returns-in_err-write_numbered-2 c = IfOk-from_err c.from_residual-in_err-write_numbered-2.result _ c.from_residual-in_err-write_numbered-2.ensures.0
