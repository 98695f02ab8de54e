use Rattle.std.proofs.Common.{refl, ap, ◌∙◌, ◌∷◌, rules}
use Rattle.std.proofs.lemmas.Result.{IfOk-from_err}
use Rattle.ll_agenda.specs.Frames.{items_at}
use Rattle.ll_agenda.proofs.CallerLemmas.{Extends-trans}
use Rattle.ll_freeze.specs.declared.machine.Item.TheVariants.{Goal, Mid}
use Rattle.ll_freeze.specs.Parts.{parts_of}
use Rattle.ll_engine.proofs.machine.Keeping.{later_frames}
use Rattle.ll_engine.proofs.inferences.Settling.{middle, middle_fits}
use Rattle.ll_engine.proofs.settle.second_side.Goals as goal

pub with_mid-requires : goal.with_mid-requires
with_mid-requires c = let m = parts_of c.args.machine.now in middle_fits m c.args.saved (items_at m.agenda c.args.rest) c.requires.going c.requires.front

pub returns-clause-reaches : goal.returns-clause-reaches
returns-clause-reaches c =
    let m = parts_of c.args.machine.now in let i = c.in-Some-Goal-default in let j = c.in-Some-WithEnd-default in
    middle m c.with_mid.new.self.present c.push-2.new.self c.in_ok-machine.field-0 c.args.saved j.before j.field-0-0-1 c.in_ok-half.half i.goal i.environment
    (items_at m.agenda j.behind) c.requires.going
    (c.requires.front
    ∙ ap (λ xs. Mid c.args.saved ∷ xs)
    (i.ensures.some.list
    ∙ (ap (λ x. x ∷ items_at m.agenda i.after) i.field-0-0-is
    ∙ ap (λ ys. Goal i.goal i.environment ∷ ys) (j.ensures.some.list ∙ ap (λ x. x ∷ items_at m.agenda j.behind) j.field-0-0-is))))
    c.in_ok-half.ensures.number c.in_ok-half.ensures.settles c.in_ok-half.ensures.same c.in_ok-half.ensures.middle
    (c.in_ok-machine.ensures.list.list ∙ ap (λ xs. Goal i.goal i.environment ∷ xs) c.in_ok-end.ensures.list.list) c.in_ok-machine.ensures.list.inside

pub returns-clause-later : goal.returns-clause-later
returns-clause-later c =
    let e = Extends-trans c.push.ensures.keeps c.push-2.ensures.keeps in
    later_frames c.args.machine.now _ refl refl refl c.with_mid.ensures.marks e.more e.frames refl refl

pub returns-in_err-half-clause-reaches : goal.returns-in_err-half-clause-reaches
returns-in_err-half-clause-reaches c = IfOk-from_err c.from_residual.result _ c.from_residual.ensures.0

pub returns-in_err-half-clause-later : goal.returns-in_err-half-clause-later
returns-in_err-half-clause-later c = IfOk-from_err c.from_residual.result _ c.from_residual.ensures.0

pub returns-in_err-end-clause-reaches : goal.returns-in_err-end-clause-reaches
returns-in_err-end-clause-reaches c = IfOk-from_err c.from_residual-in_err-end.result _ c.from_residual-in_err-end.ensures.0

pub returns-in_err-end-clause-later : goal.returns-in_err-end-clause-later
returns-in_err-end-clause-later c = IfOk-from_err c.from_residual-in_err-end.result _ c.from_residual-in_err-end.ensures.0

pub returns-in_err-machine-clause-reaches : goal.returns-in_err-machine-clause-reaches
returns-in_err-machine-clause-reaches c = IfOk-from_err c.from_residual-in_err-machine.result _ c.from_residual-in_err-machine.ensures.0

pub returns-in_err-machine-clause-later : goal.returns-in_err-machine-clause-later
returns-in_err-machine-clause-later c = IfOk-from_err c.from_residual-in_err-machine.result _ c.from_residual-in_err-machine.ensures.0

pub item-requires : goal.item-requires
item-requires c = c.requires.rest

pub item-requires-2 : goal.item-requires-2
item-requires-2 c = search rules

pub push-requires : goal.push-requires
push-requires c = search rules

pub push-requires-2 : goal.push-requires-2
push-requires-2 c = search rules
