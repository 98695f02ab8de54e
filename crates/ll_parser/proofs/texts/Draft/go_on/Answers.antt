use Rattle.std.proofs.lemmas.Result.{IfOk-from_err}
use Rattle.ll_parser.proofs.texts.Draft.go_on.Goals as goal

pub returns-in_err-next-in_default : goal.returns-in_err-next-in_default
returns-in_err-next-in_default c = IfOk-from_err c.from_residual.result _ c.from_residual.ensures.0
