use Rattle.std.proofs.lemmas.Result.{IfOk-from_err}
use Rattle.ll_top.proofs.texts.printing.program_bytes.Goals as goal

pub returns-in_err-program-clause-bytes : goal.returns-in_err-program-clause-bytes
returns-in_err-program-clause-bytes c = IfOk-from_err c.from_residual.result _ c.from_residual.ensures.0

pub returns-clause-refused : goal.returns-clause-refused
returns-clause-refused c = _
