use Rattle.std.proofs.lemmas.Result.{IfOk-from_err}
use Rattle.ll_prooftext.proofs.spelling.Kept.{grows_none}
use Rattle.std.proofs.Common.{sym, subst, refl, ap, ◌∙◌, ◌∷◌, Some}
use Rattle.ll_prooftext.specs.Brackets.{Turns}
use Rattle.ll_prooftext.proofs.spelling.Steps.{argument_opened, argument_put, argument_stuck}
use Rattle.ll_prooftext.proofs.terms.Open.argument.Goals as goal

pub returns-in-Some-clause-step : goal.returns-in-Some-clause-step
returns-in-Some-clause-step c =
    subst (λ bs. Turns c.args.names.now c.args.bank.now c.args.self.now (32 ∷ bs) c.args.names.now c.args.bank.now c.open.new.self c.in-Some.next.now)
    (sym c.in-Some.ensures)
    (argument_opened c.args.names.now c.args.bank.now c.args.self.now c.open.new.self c.requires.good c.in_ok-open.ensures c.in-Some.next.now c.in-Head.field-0
    (c.requires.part ∙ ap Some c.in-Head.is))

pub returns-in_ok-push-in-Some-2-clause-step : goal.returns-in_ok-push-in-Some-2-clause-step
returns-in_ok-push-in-Some-2-clause-step c =
    argument_put c.args.names.now c.args.bank.now c.args.self.now _ c.in-Some-2.word c.in-Head.field-0 c.args.rest.now c.word_at.new.names c.word_at.new.bank
    c.term_of.new.bank c.in-Some-2.next.now c.in_ok-at-in-Some-2.at c.requires.good
    (c.requires.part ∙ ap Some c.in-Head.is) (rw c.in-Some-2.is at c.in_ok-word.ensures.moves) (rw c.in-Some-2.is at c.in_ok-word.ensures.found)
    c.in_ok-at-in-Some-2.ensures.term c.in_ok-at-in-Some-2.ensures.keeps
    (record { outer = refl; items = refl; part = refl; args = c.in_ok-push-in-Some-2.ensures.items })

pub returns-in-None-clause-step : goal.returns-in-None-clause-step
returns-in-None-clause-step c = argument_stuck c.args.self.now c.args.part c.args.rest.now c.requires.part c.in_default-behind.ensures
    (rw c.in-None.is at c.in_ok-word.ensures.found)

pub returns-in_err-open-clause-step : goal.returns-in_err-open-clause-step
returns-in_err-open-clause-step c = IfOk-from_err c.from_residual.result _ c.from_residual.ensures.0

pub returns-in_err-word-clause-step : goal.returns-in_err-word-clause-step
returns-in_err-word-clause-step c = IfOk-from_err c.from_residual-in_err-word.result _ c.from_residual-in_err-word.ensures.0

pub returns-in_err-at-in-Some-2-clause-step : goal.returns-in_err-at-in-Some-2-clause-step
returns-in_err-at-in-Some-2-clause-step c = IfOk-from_err c.from_residual-in_err-at-in-Some-2.result _ c.from_residual-in_err-at-in-Some-2.ensures.0

pub returns-in_err-push-in-Some-2-clause-step : goal.returns-in_err-push-in-Some-2-clause-step
returns-in_err-push-in-Some-2-clause-step c = IfOk-from_err c.from_residual-in_err-push-in-Some-2.result _ c.from_residual-in_err-push-in-Some-2.ensures.0

pub returns-in_err-word-clause-grows : goal.returns-in_err-word-clause-grows
returns-in_err-word-clause-grows c = c.word_at.ensures.grows

pub returns-in_err-at-in-Some-2-clause-grows : goal.returns-in_err-at-in-Some-2-clause-grows
returns-in_err-at-in-Some-2-clause-grows c = c.word_at.ensures.grows

pub returns-in_err-push-in-Some-2-clause-grows : goal.returns-in_err-push-in-Some-2-clause-grows
returns-in_err-push-in-Some-2-clause-grows c = c.word_at.ensures.grows

pub returns-in_ok-push-in-Some-2-clause-grows : goal.returns-in_ok-push-in-Some-2-clause-grows
returns-in_ok-push-in-Some-2-clause-grows c = c.word_at.ensures.grows

pub returns-in-None-clause-grows : goal.returns-in-None-clause-grows
returns-in-None-clause-grows c = c.word_at.ensures.grows

pub returns-in-Some-clause-grows : goal.returns-in-Some-clause-grows
returns-in-Some-clause-grows c = grows_none c.args.names.now

pub returns-in_err-open-clause-grows : goal.returns-in_err-open-clause-grows
returns-in_err-open-clause-grows c = grows_none c.args.names.now
