use Rattle.std.proofs.lemmas.Result.{IfOk-from_err}
use Rattle.ll_printer.proofs.words.write_signed_number.Goals as goal

pub returns-in_err-push-clause-text : goal.returns-in_err-push-clause-text
returns-in_err-push-clause-text c = IfOk-from_err c.from_residual.result _ c.from_residual.ensures.0
