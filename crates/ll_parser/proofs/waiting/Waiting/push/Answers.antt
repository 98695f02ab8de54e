use Rattle.std.proofs.lemmas.Result.{IfOk-from_err}
use Rattle.std.proofs.Common.{refl}
use Rattle.ll_parser.proofs.stored.Shown.{put}
use Rattle.ll_parser.proofs.waiting.Waiting.push.Goals as goal

pub returns-clause-gives : goal.returns-clause-gives
returns-clause-gives c = put c.args.self.now (record { forms = c.args.self.now.forms; args = c.args.self.now.args; frames = c.push.new.self }) c.args.frame refl
    refl c.in_ok-push.ensures.items c.requires

pub returns-in_err-push-clause-gives : goal.returns-in_err-push-clause-gives
returns-in_err-push-clause-gives c = IfOk-from_err c.from_residual.result _ c.from_residual.ensures.0

pub returns-in_err-push-clause-grows : goal.returns-in_err-push-clause-grows
returns-in_err-push-clause-grows c = IfOk-from_err c.from_residual.result _ c.from_residual.ensures.0
