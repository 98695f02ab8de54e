use Rattle.std.proofs.lemmas.Result.{IfOk-from_err}
use Rattle.std.proofs.Common.{refl, ap, sym, ◌∙◌, ◌∷◌, [], ◌++◌}
use Rattle.ll_agenda.specs.Frames.{items_at}
use Rattle.ll_freeze.specs.Parts.{parts_of}
use Rattle.ll_engine.proofs.inferences.AtomLemmas.{matches_empty, matches_end, matches_one, matches_two}
use Rattle.ll_engine.proofs.candidates.candidates.Goals as goal

pub returns-in_default : goal.returns-in_default
returns-in_default c = c.none.ensures ∙ sym (matches_empty (parts_of c.args.machine.now) (c.in_default.ensures.none.0 refl))

pub returns-in_default-item : goal.returns-in_default-item
returns-in_default-item c =
    c.none-in_default-item.ensures
    ∙ sym (matches_end (parts_of c.args.machine.now) c.in-Some.item (items_at c.args.machine.now.agenda c.in-Some.field-0-1) c.in-Some.ensures.some.list
    c.in_default-item.not-Goal)

pub returns-in_ok-push-in-Plus : goal.returns-in_ok-push-in-Plus
returns-in_ok-push-in-Plus c =
    let rest = items_at c.args.machine.now.agenda c.in-Some.field-0-1 in
    c.in_ok-push-in-Plus.ensures
    ∙ (ap (λ xs. xs ++ record { label = 0; leaf = 1 } ∷ []) c.one-found.ensures
    ∙ sym (matches_two (parts_of c.args.machine.now) c.in-Goal.goal c.in-Goal.environment c.in-Plus.field-0 c.in-Plus.field-1 rest
    (c.in-Some.ensures.some.list ∙ ap (λ i. i ∷ rest) c.in-Goal.is) c.in-Plus.ensures.shown.tree))

pub returns-in_default-form_at : goal.returns-in_default-form_at
returns-in_default-form_at c =
    let rest = items_at c.args.machine.now.agenda c.in-Some.field-0-1 in
    c.one.ensures
    ∙ sym (matches_one (parts_of c.args.machine.now) c.in-Goal.goal c.in-Goal.environment c.form_at.result rest
    (c.in-Some.ensures.some.list ∙ ap (λ i. i ∷ rest) c.in-Goal.is)
    c.form_at.ensures.shown.tree c.in_default-form_at.not-Atom c.in_default-form_at.not-Plus)

pub returns-in_err-push-in-Plus : goal.returns-in_err-push-in-Plus
returns-in_err-push-in-Plus c = IfOk-from_err c.from_residual.result _ c.from_residual.ensures.0
