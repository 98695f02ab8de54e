use Rattle.std.proofs.lemmas.Result.{IfOk-from_err}
use Rattle.std.proofs.Common.{refl}
use Rattle.ll_parser.proofs.stored.Shown.{added}
use Rattle.ll_parser.proofs.waiting.Waiting.add.Goals as goal

pub returns-clause-gives : goal.returns-clause-gives
returns-clause-gives c = added c.args.self.now (record { forms = c.add.new.self; args = c.args.self.now.args; frames = c.args.self.now.frames }) _
    c.in_ok-place.ensures.added refl refl c.in_ok-place.place c.in_ok-place.ensures.place

pub returns-in_err-place-clause-gives : goal.returns-in_err-place-clause-gives
returns-in_err-place-clause-gives c = IfOk-from_err c.from_residual.result _ c.from_residual.ensures.0

pub returns-in_err-place-clause-grows : goal.returns-in_err-place-clause-grows
returns-in_err-place-clause-grows c = IfOk-from_err c.from_residual.result _ c.from_residual.ensures.0
