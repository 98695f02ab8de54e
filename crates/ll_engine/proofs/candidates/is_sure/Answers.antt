use Rattle.std.proofs.Common.{ap, ◌∙◌, ◌∷◌}
use Rattle.ll_agenda.specs.Frames.{items_at}
use Rattle.ll_freeze.specs.Parts.{parts_of}
use Rattle.ll_engine.proofs.inferences.AtomLemmas.{matches_one}
use Rattle.ll_engine.proofs.candidates.is_sure.Goals as goal

pub returns-in_default-form_at : goal.returns-in_default-form_at
returns-in_default-form_at c = λ _.
    let rest = items_at c.args.machine.now.agenda c.in-Some.field-0-1 in
    matches_one (parts_of c.args.machine.now) c.in-Goal.goal c.in-Goal.field-1 c.form_at.result rest
    (c.in-Some.ensures.some.list ∙ ap (λ i. i ∷ rest) c.in-Goal.is)
    c.form_at.ensures.shown.tree c.in_default-form_at.not-Atom c.in_default-form_at.not-Plus
