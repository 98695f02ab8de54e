use Rattle.std.proofs.Common.{refl, ap, ◌∙◌, ◌∷◌}
use Rattle.std.proofs.lemmas.Result.{IfOk-weaker}
use Rattle.ll_freeze.proofs.CallerLemmas.{later_then}
use Rattle.ll_engine.proofs.inferences.Closing.{attempts_same}
use Rattle.ll_agenda.specs.Frames.{items_at}
use Rattle.ll_freeze.specs.Parts.{parts_of}
use Rattle.ll_engine.proofs.machine.MachineLemmas.{in_front, goal_inside}
use Rattle.ll_engine.proofs.inferences.Quantifying.{not_empty, no_candidate}
use Rattle.ll_engine.proofs.attempt.attempt.Goals as goal

pub unreachable-requires : goal.unreachable-requires
unreachable-requires c = not_empty (parts_of c.args.machine.now) c.requires.goal (c.in_default.ensures.none.0 refl)

pub unreachable-requires-in_default-item : goal.unreachable-requires-in_default-item
unreachable-requires-in_default-item c =
    no_candidate (parts_of c.args.machine.now) c.in-Some.item (items_at c.args.machine.now.agenda c.in-Some.rest) c.args.candidate c.requires.candidate
    c.in-Some.ensures.some.list c.in_default-item.not-Goal

pub take_one-requires-clause-front : goal.take_one-requires-clause-front
take_one-requires-clause-front c =
    in_front (parts_of c.args.machine.now) c.in-Goal.goal c.in-Goal.environment c.in-Some.item _ c.in-Some.rest c.in-Some.ensures.some.list c.in-Goal.is
    c.in-Some.ensures.some.inside
    c.in-One.ensures.shown

pub take_top-requires-clause-front : goal.take_top-requires-clause-front
take_top-requires-clause-front c =
    in_front (parts_of c.args.machine.now) c.in-Goal.goal c.in-Goal.environment c.in-Some.item _ c.in-Some.rest c.in-Some.ensures.some.list c.in-Goal.is
    c.in-Some.ensures.some.inside
    c.in-Top.ensures.shown

pub take_tensor-requires-clause-front : goal.take_tensor-requires-clause-front
take_tensor-requires-clause-front c =
    in_front (parts_of c.args.machine.now) c.in-Goal.goal c.in-Goal.environment c.in-Some.item _ c.in-Some.rest c.in-Some.ensures.some.list c.in-Goal.is
    c.in-Some.ensures.some.inside
    c.in-Tensor.ensures.shown

pub take_plus-requires-clause-front : goal.take_plus-requires-clause-front
take_plus-requires-clause-front c =
    in_front (parts_of c.args.machine.now) c.in-Goal.goal c.in-Goal.environment c.in-Some.item _ c.in-Some.rest c.in-Some.ensures.some.list c.in-Goal.is
    c.in-Some.ensures.some.inside
    c.in-Plus.ensures.shown

pub take_with-requires-clause-front : goal.take_with-requires-clause-front
take_with-requires-clause-front c =
    in_front (parts_of c.args.machine.now) c.in-Goal.goal c.in-Goal.environment c.in-Some.item _ c.in-Some.rest c.in-Some.ensures.some.list c.in-Goal.is
    c.in-Some.ensures.some.inside
    c.in-With.ensures.shown

pub take_bang-requires-clause-front : goal.take_bang-requires-clause-front
take_bang-requires-clause-front c =
    in_front (parts_of c.args.machine.now) c.in-Goal.goal c.in-Goal.environment c.in-Some.item _ c.in-Some.rest c.in-Some.ensures.some.list c.in-Goal.is
    c.in-Some.ensures.some.inside
    c.in-Bang.ensures.shown

pub take_leaf-requires-clause-front : goal.take_leaf-requires-clause-front
take_leaf-requires-clause-front c =
    in_front (parts_of c.args.machine.now) c.in-Goal.goal c.in-Goal.environment c.in-Some.item _ c.in-Some.rest c.in-Some.ensures.some.list c.in-Goal.is
    c.in-Some.ensures.some.inside
    c.in-Atom.ensures.shown

pub returns-in-One-clause-attempts : goal.returns-in-One-clause-attempts
returns-in-One-clause-attempts c = c.take_one.ensures.attempts c.args.candidate

pub returns-in-Top-clause-attempts : goal.returns-in-Top-clause-attempts
returns-in-Top-clause-attempts c = c.take_top.ensures.attempts c.args.candidate

pub returns-in-Tensor-clause-attempts : goal.returns-in-Tensor-clause-attempts
returns-in-Tensor-clause-attempts c = c.take_tensor.ensures.attempts c.args.candidate

pub returns-in-With-clause-attempts : goal.returns-in-With-clause-attempts
returns-in-With-clause-attempts c = c.take_with.ensures.attempts c.args.candidate

pub returns-in-Bang-clause-attempts : goal.returns-in-Bang-clause-attempts
returns-in-Bang-clause-attempts c = c.take_bang.ensures.attempts c.args.candidate

pub take_one-requires-clause-fits : goal.take_one-requires-clause-fits
take_one-requires-clause-fits c = c.requires.fits

pub take_one-requires-clause-left : goal.take_one-requires-clause-left
take_one-requires-clause-left c = c.requires.left

pub returns-in-One-clause-later : goal.returns-in-One-clause-later
returns-in-One-clause-later c = c.take_one.ensures.later

pub take_top-requires-clause-fits : goal.take_top-requires-clause-fits
take_top-requires-clause-fits c = c.requires.fits

pub take_top-requires-clause-left : goal.take_top-requires-clause-left
take_top-requires-clause-left c = c.requires.left

pub returns-in-Top-clause-later : goal.returns-in-Top-clause-later
returns-in-Top-clause-later c = c.take_top.ensures.later

pub take_tensor-requires-clause-fits : goal.take_tensor-requires-clause-fits
take_tensor-requires-clause-fits c = c.requires.fits

pub take_tensor-requires-clause-left : goal.take_tensor-requires-clause-left
take_tensor-requires-clause-left c = c.requires.left

pub returns-in-Tensor-clause-later : goal.returns-in-Tensor-clause-later
returns-in-Tensor-clause-later c = c.take_tensor.ensures.later

pub take_plus-requires-clause-fits : goal.take_plus-requires-clause-fits
take_plus-requires-clause-fits c = c.requires.fits

pub take_plus-requires-clause-left : goal.take_plus-requires-clause-left
take_plus-requires-clause-left c = c.requires.left

pub returns-in-Plus-clause-later : goal.returns-in-Plus-clause-later
returns-in-Plus-clause-later c = c.take_plus.ensures.later

pub take_with-requires-clause-fits : goal.take_with-requires-clause-fits
take_with-requires-clause-fits c = c.requires.fits

pub take_with-requires-clause-left : goal.take_with-requires-clause-left
take_with-requires-clause-left c = c.requires.left

pub returns-in-With-clause-later : goal.returns-in-With-clause-later
returns-in-With-clause-later c = c.take_with.ensures.later

pub take_bang-requires-clause-fits : goal.take_bang-requires-clause-fits
take_bang-requires-clause-fits c = c.requires.fits

pub take_bang-requires-clause-left : goal.take_bang-requires-clause-left
take_bang-requires-clause-left c = c.requires.left

pub returns-in-Bang-clause-later : goal.returns-in-Bang-clause-later
returns-in-Bang-clause-later c = c.take_bang.ensures.later

pub take_leaf-requires-clause-fits : goal.take_leaf-requires-clause-fits
take_leaf-requires-clause-fits c = c.requires.fits

pub take_leaf-requires-clause-left : goal.take_leaf-requires-clause-left
take_leaf-requires-clause-left c = c.requires.left

pub returns-in-Atom-clause-later : goal.returns-in-Atom-clause-later
returns-in-Atom-clause-later c = c.take_leaf.ensures.later

pub returns-in-Plus-clause-attempts : goal.returns-in-Plus-clause-attempts
returns-in-Plus-clause-attempts c = c.take_plus.ensures.attempts

pub returns-in-Atom-clause-attempts : goal.returns-in-Atom-clause-attempts
returns-in-Atom-clause-attempts c = c.take_leaf.ensures.attempts

pub take_leaf-requires-clause-candidate : goal.take_leaf-requires-clause-candidate
take_leaf-requires-clause-candidate c = c.requires.candidate

pub item-requires : goal.item-requires
item-requires c = c.requires.fits.top

pub form_at-requires : goal.form_at-requires
form_at-requires c =
    let m = parts_of c.args.machine.now in
    goal_inside m c.in-Goal.goal c.in-Goal.environment (items_at m.agenda c.in-Some.rest) c.requires.fits
    (c.in-Some.ensures.some.list ∙ ap (λ x. x ∷ items_at m.agenda c.in-Some.rest) c.in-Goal.is)

pub close_front-requires-clause-front : goal.close_front-requires-clause-front
close_front-requires-clause-front c = record {
  list = c.in-Some.ensures.some.list ∙ ap (λ x. x ∷ items_at (parts_of c.args.machine.now).agenda c.in-Some.rest) c.in-Goal.is;
  behind = c.in-Some.ensures.some.inside;
}

pub returns-in_ok-closed-in_default-form_at : goal.returns-in_ok-closed-in_default-form_at
returns-in_ok-closed-in_default-form_at c =
    let old = c.args.machine.now in let mid = c.close_front.new.machine in let new = c.take_closed.new.machine in
    let e = c.in_ok-closed-in_default-form_at.ensures in
    record {
      attempts =
          IfOk-weaker c.take_closed.result _ _ (λ b h. attempts_same (parts_of old) (parts_of mid) (parts_of new) c.args.candidate b e.same h)
          (c.take_closed.ensures.attempts c.args.candidate);
      later = IfOk-weaker c.take_closed.result _ _ (λ b h. later_then old mid new e.later h) c.take_closed.ensures.later;
    }
