use Rattle.std.proofs.lemmas.Result.{IfOk-from_err}
use Rattle.ll_parser.proofs.reading.program.Goals as goal

pub returns-in_err-names-clause-whole : goal.returns-in_err-names-clause-whole
returns-in_err-names-clause-whole c = IfOk-from_err c.from_residual.result _ c.from_residual.ensures.0

pub returns-in_err-read_program-clause-whole : goal.returns-in_err-read_program-clause-whole
returns-in_err-read_program-clause-whole c = IfOk-from_err c.from_residual-in_err-read_program.result _ c.from_residual-in_err-read_program.ensures.0
