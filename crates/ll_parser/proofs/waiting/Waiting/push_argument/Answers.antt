use Rattle.std.proofs.lemmas.Result.{IfOk-from_err}
use Rattle.std.proofs.Common.{refl}
use Rattle.ll_parser.proofs.stored.Shown.{one-more}
use Rattle.ll_parser.proofs.waiting.Waiting.push_argument.Goals as goal

pub returns-clause-gives : goal.returns-clause-gives
returns-clause-gives c = one-more c.args.self.now (record { forms = c.args.self.now.forms; args = c.push.new.self; frames = c.args.self.now.frames }) c.args.arg
    c.requires refl c.in_ok-push.ensures.items refl

pub returns-in_err-push-clause-gives : goal.returns-in_err-push-clause-gives
returns-in_err-push-clause-gives c = IfOk-from_err c.from_residual.result _ c.from_residual.ensures.0

pub returns-in_err-push-clause-grows : goal.returns-in_err-push-clause-grows
returns-in_err-push-clause-grows c = IfOk-from_err c.from_residual.result _ c.from_residual.ensures.0
