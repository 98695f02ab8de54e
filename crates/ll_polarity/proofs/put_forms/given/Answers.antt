use Rattle.std.proofs.Common.{◌≡◌, ◌+◌, refl, sym, subst, arith, ap}
use Rattle.std.proofs.lemmas.Result.{IfOk-from_err}
use Rattle.ll_bank.specs.Form.{Form, Use}
use Rattle.ll_bank.specs.Nodes.{form_tree, term_trees}
use Rattle.ll_bank.proofs.CallerLemmas.{Extends-refl}
use Rattle.ll_polarity.specs.declared.put_forms.Frame.{Frame}
use Rattle.ll_polarity.specs.declared.put_forms.Frame.TheVariants as frame
use Rattle.ll_polarity.specs.declared.put_forms.Step.TheVariants as step
use Rattle.ll_parser.specs.Nodes.{raw_at}
use Rattle.ll_polarity.specs.Built.{built_form}
use Rattle.ll_polarity.specs.Reading.{Read, joined}
use Rattle.ll_polarity.specs.Standing.{around}
use Rattle.ll_polarity.specs.Numbered.{text_of}
use Rattle.ll_polarity.specs.Frames.{FrameFits, Advances, wraps, within, frame_left}
use Rattle.ll_polarity.proofs.putting.Framing.{advance_give, advance_read, back_out}
use Rattle.ll_polarity.specs.Frames.{FrameHas}
use Rattle.ll_polarity.proofs.put_forms.given.Goals as goal

pub returns-in_err-push-in-Left-clause-keeps : goal.returns-in_err-push-in-Left-clause-keeps
returns-in_err-push-in-Left-clause-keeps c = Extends-refl c.args.bank.now

pub returns-in_ok-push-in-Left-clause-keeps : goal.returns-in_ok-push-in-Left-clause-keeps
returns-in_ok-push-in-Left-clause-keeps c = Extends-refl c.args.bank.now

pub returns-in_ok-form-in-Braces-clause-step : goal.returns-in_ok-form-in-Braces-clause-step
returns-in_ok-form-in-Braces-clause-step c = λ g a met.
    subst (λ (f : Frame). FrameFits g c.args.bank.now f → around c.args.fronts.now.place c.args.binders.now.scope ≡ within g a f
    → Advances g c.form.new.self a (wraps g c.args.bank.now a f (record { it = form_tree c.args.bank.now c.args.form.0; met = met })) (frame_left g f + 2)
    c.args.fronts.now.frames.items c.args.fronts.now.frames.items (step.Give c.in_ok-form-in-Braces.field-0) met
    (around c.args.fronts.now.place c.args.binders.now.scope))
    (sym c.in-Braces.is)
    (λ fits e. advance_give g c.form.new.self a _ 3 c.args.fronts.now.frames.items c.args.fronts.now.frames.items met
    (around c.args.fronts.now.place c.args.binders.now.scope)
    c.in_ok-form-in-Braces.field-0 _ c.in_ok-form-in-Braces.ensures.shows refl refl e (omega arith))

pub returns-in_ok-form-in-Forall-clause-step : goal.returns-in_ok-form-in-Forall-clause-step
returns-in_ok-form-in-Forall-clause-step c = λ g a met.
    subst (λ (f : Frame). FrameFits g c.args.bank.now f → around c.args.fronts.now.place c.args.binders.now.scope ≡ within g a f
    → Advances g c.form-in-Forall.new.self a (wraps g c.args.bank.now a f (record { it = form_tree c.args.bank.now c.args.form.0; met = met }))
    (frame_left g f + 2) c.args.fronts.now.frames.items c.args.fronts.now.frames.items (step.Give c.in_ok-form-in-Forall.field-0) met
    (around c.left.new.place c.left.new.binders.scope))
    (sym c.in-Forall.is)
    (λ fits e. advance_give g c.form-in-Forall.new.self a _ 3 c.args.fronts.now.frames.items c.args.fronts.now.frames.items met
    (around c.left.new.place c.left.new.binders.scope) c.in_ok-form-in-Forall.field-0 _ c.in_ok-form-in-Forall.ensures.shows refl refl
    (back_out c.args.fronts.now.place c.left.new.place c.args.binders.now.scope c.left.new.binders.scope a (text_of g.texts c.in-Forall.field-0)
    c.left.ensures.place e c.left.ensures.binders) (omega arith))

pub returns-in_ok-form-in-Exists-clause-step : goal.returns-in_ok-form-in-Exists-clause-step
returns-in_ok-form-in-Exists-clause-step c = λ g a met.
    subst (λ (f : Frame). FrameFits g c.args.bank.now f → around c.args.fronts.now.place c.args.binders.now.scope ≡ within g a f
    → Advances g c.form-in-Exists.new.self a (wraps g c.args.bank.now a f (record { it = form_tree c.args.bank.now c.args.form.0; met = met }))
    (frame_left g f + 2) c.args.fronts.now.frames.items c.args.fronts.now.frames.items (step.Give c.in_ok-form-in-Exists.field-0) met
    (around c.left-in-Exists.new.place c.left-in-Exists.new.binders.scope))
    (sym c.in-Exists.is)
    (λ fits e. advance_give g c.form-in-Exists.new.self a _ 3 c.args.fronts.now.frames.items c.args.fronts.now.frames.items met
    (around c.left-in-Exists.new.place c.left-in-Exists.new.binders.scope) c.in_ok-form-in-Exists.field-0 _ c.in_ok-form-in-Exists.ensures.shows refl refl
    (back_out c.args.fronts.now.place c.left-in-Exists.new.place c.args.binders.now.scope c.left-in-Exists.new.binders.scope a
    (text_of g.texts c.in-Exists.field-0) c.left-in-Exists.ensures.place e c.left-in-Exists.ensures.binders) (omega arith))

pub returns-in_ok-push-in-Left-clause-step : goal.returns-in_ok-push-in-Left-clause-step
returns-in_ok-push-in-Left-clause-step c = λ g a met.
    subst (λ (f : Frame). FrameFits g c.args.bank.now f → around c.args.fronts.now.place c.args.binders.now.scope ≡ within g a f
    → Advances g c.args.bank.now a (wraps g c.args.bank.now a f (record { it = form_tree c.args.bank.now c.args.form.0; met = met })) (frame_left g f + 2)
    c.args.fronts.now.frames.items c.push.new.self.items (step.Read c.in-Left.right) met (around c.args.fronts.now.place c.args.binders.now.scope))
    (sym c.in-Left.is)
    (λ fits e. advance_read g c.args.bank.now a _ _ c.args.fronts.now.frames.items c.push.new.self.items met
    (around c.args.fronts.now.place c.args.binders.now.scope)
    (frame.Right c.in-Left.op c.args.form) c.in-Left.right c.in_ok-push-in-Left.ensures.items
    (ap (λ x. let u = built_form g.modules x met (raw_at g.texts g.forms c.in-Left.right.0) in
    let y : Read Form = record { it = joined c.in-Left.op (form_tree c.args.bank.now c.args.form.0) u.it; met = u.met } in y) e) e c.requires.form fits
    (omega arith))

pub returns-in_ok-joined-in-Right-clause-step : goal.returns-in_ok-joined-in-Right-clause-step
returns-in_ok-joined-in-Right-clause-step c = λ g a met.
    subst (λ (f : Frame). FrameFits g c.args.bank.now f → around c.args.fronts.now.place c.args.binders.now.scope ≡ within g a f
    → Advances g c.joined.new.bank a (wraps g c.args.bank.now a f (record { it = form_tree c.args.bank.now c.args.form.0; met = met })) (frame_left g f + 2)
    c.args.fronts.now.frames.items c.args.fronts.now.frames.items (step.Give c.in_ok-joined-in-Right.field-0) met
    (around c.args.fronts.now.place c.args.binders.now.scope))
    (sym c.in-Right.is)
    (λ fits e. advance_give g c.joined.new.bank a _ 3 c.args.fronts.now.frames.items c.args.fronts.now.frames.items met
    (around c.args.fronts.now.place c.args.binders.now.scope)
    c.in_ok-joined-in-Right.field-0 _ c.in_ok-joined-in-Right.ensures.shows refl refl e (omega arith))

pub returns-in_ok-form-in-Load-clause-step : goal.returns-in_ok-form-in-Load-clause-step
returns-in_ok-form-in-Load-clause-step c = λ g a met.
    subst (λ (f : Frame). FrameFits g c.args.bank.now f → around c.args.fronts.now.place c.args.binders.now.scope ≡ within g a f
    → Advances g c.form-in-Load.new.self a (wraps g c.args.bank.now a f (record { it = form_tree c.args.bank.now c.args.form.0; met = met }))
    (frame_left g f + 2) c.args.fronts.now.frames.items c.args.fronts.now.frames.items (step.Give c.in_ok-form-in-Load.field-0) met
    (around c.args.fronts.now.place c.args.binders.now.scope))
    (sym c.in-Load.is)
    (λ fits e. advance_give g c.form-in-Load.new.self a _ 3 c.args.fronts.now.frames.items c.args.fronts.now.frames.items met
    (around c.args.fronts.now.place c.args.binders.now.scope) c.in_ok-form-in-Load.field-0 _ c.in_ok-form-in-Load.ensures.shows
    (ap (λ ts. let x : Read Form = record { it = Use c.in-Load.module (term_trees c.args.bank.now ts) (form_tree c.args.bank.now c.args.form.0); met = met }
    in x) c.deref.ensures.value) refl e (omega arith))

pub returns-in_err-form-in-Braces-clause-step : goal.returns-in_err-form-in-Braces-clause-step
returns-in_err-form-in-Braces-clause-step c = IfOk-from_err c.from_residual.result _ c.from_residual.ensures.0

pub returns-in_err-form-in-Exists-clause-step : goal.returns-in_err-form-in-Exists-clause-step
returns-in_err-form-in-Exists-clause-step c = IfOk-from_err c.from_residual-in_err-form-in-Exists.result _ c.from_residual-in_err-form-in-Exists.ensures.0

pub returns-in_err-form-in-Forall-clause-step : goal.returns-in_err-form-in-Forall-clause-step
returns-in_err-form-in-Forall-clause-step c = IfOk-from_err c.from_residual-in_err-form-in-Forall.result _ c.from_residual-in_err-form-in-Forall.ensures.0

pub returns-in_err-form-in-Load-clause-step : goal.returns-in_err-form-in-Load-clause-step
returns-in_err-form-in-Load-clause-step c = IfOk-from_err c.from_residual-in_err-form-in-Load.result _ c.from_residual-in_err-form-in-Load.ensures.0

pub returns-in_err-joined-in-Right-clause-step : goal.returns-in_err-joined-in-Right-clause-step
returns-in_err-joined-in-Right-clause-step c = IfOk-from_err c.from_residual-in_err-joined-in-Right.result _ c.from_residual-in_err-joined-in-Right.ensures.0

pub returns-in_err-push-in-Left-clause-step : goal.returns-in_err-push-in-Left-clause-step
returns-in_err-push-in-Left-clause-step c = IfOk-from_err c.from_residual-in_err-push-in-Left.result _ c.from_residual-in_err-push-in-Left.ensures.0

pub form-requires : goal.form-requires
form-requires c = c.requires.form

pub returns-in_err-form-in-Braces-clause-texts : goal.returns-in_err-form-in-Braces-clause-texts
returns-in_err-form-in-Braces-clause-texts c = refl

pub returns-in_err-form-in-Braces-clause-keeps : goal.returns-in_err-form-in-Braces-clause-keeps
returns-in_err-form-in-Braces-clause-keeps c = c.form.ensures.keeps

pub form-requires-in-Forall : goal.form-requires-in-Forall
form-requires-in-Forall c = c.requires.form

pub returns-in_err-form-in-Forall-clause-texts : goal.returns-in_err-form-in-Forall-clause-texts
returns-in_err-form-in-Forall-clause-texts c = c.left.ensures.texts

pub returns-in_err-form-in-Forall-clause-keeps : goal.returns-in_err-form-in-Forall-clause-keeps
returns-in_err-form-in-Forall-clause-keeps c = c.form-in-Forall.ensures.keeps

pub form-requires-in-Exists : goal.form-requires-in-Exists
form-requires-in-Exists c = c.requires.form

pub returns-in_err-form-in-Exists-clause-texts : goal.returns-in_err-form-in-Exists-clause-texts
returns-in_err-form-in-Exists-clause-texts c = c.left-in-Exists.ensures.texts

pub returns-in_err-form-in-Exists-clause-keeps : goal.returns-in_err-form-in-Exists-clause-keeps
returns-in_err-form-in-Exists-clause-keeps c = c.form-in-Exists.ensures.keeps

pub returns-in_err-push-in-Left-clause-texts : goal.returns-in_err-push-in-Left-clause-texts
returns-in_err-push-in-Left-clause-texts c = refl

pub joined-requires-clause-left : goal.joined-requires-clause-left
joined-requires-clause-left c = subst (FrameHas c.args.bank.now) c.in-Right.is c.requires.fits

pub joined-requires-clause-right : goal.joined-requires-clause-right
joined-requires-clause-right c = c.requires.form

pub returns-in_err-joined-in-Right-clause-texts : goal.returns-in_err-joined-in-Right-clause-texts
returns-in_err-joined-in-Right-clause-texts c = refl

pub returns-in_err-joined-in-Right-clause-keeps : goal.returns-in_err-joined-in-Right-clause-keeps
returns-in_err-joined-in-Right-clause-keeps c = c.joined.ensures.keeps

pub form-requires-in-Load : goal.form-requires-in-Load
form-requires-in-Load c = (rw c.deref.ensures.value (subst (FrameHas c.args.bank.now) c.in-Load.is c.requires.fits), c.requires.form)

pub returns-in_err-form-in-Load-clause-texts : goal.returns-in_err-form-in-Load-clause-texts
returns-in_err-form-in-Load-clause-texts c = refl

pub returns-in_err-form-in-Load-clause-keeps : goal.returns-in_err-form-in-Load-clause-keeps
returns-in_err-form-in-Load-clause-keeps c = c.form-in-Load.ensures.keeps

pub returns-in_ok-form-in-Braces-clause-texts : goal.returns-in_ok-form-in-Braces-clause-texts
returns-in_ok-form-in-Braces-clause-texts c = refl

pub returns-in_ok-form-in-Braces-clause-keeps : goal.returns-in_ok-form-in-Braces-clause-keeps
returns-in_ok-form-in-Braces-clause-keeps c = c.form.ensures.keeps

pub returns-in_ok-form-in-Forall-clause-texts : goal.returns-in_ok-form-in-Forall-clause-texts
returns-in_ok-form-in-Forall-clause-texts c = c.left.ensures.texts

pub returns-in_ok-form-in-Forall-clause-keeps : goal.returns-in_ok-form-in-Forall-clause-keeps
returns-in_ok-form-in-Forall-clause-keeps c = c.form-in-Forall.ensures.keeps

pub returns-in_ok-form-in-Exists-clause-texts : goal.returns-in_ok-form-in-Exists-clause-texts
returns-in_ok-form-in-Exists-clause-texts c = c.left-in-Exists.ensures.texts

pub returns-in_ok-form-in-Exists-clause-keeps : goal.returns-in_ok-form-in-Exists-clause-keeps
returns-in_ok-form-in-Exists-clause-keeps c = c.form-in-Exists.ensures.keeps

pub returns-in_ok-push-in-Left-clause-texts : goal.returns-in_ok-push-in-Left-clause-texts
returns-in_ok-push-in-Left-clause-texts c = refl

pub returns-in_ok-joined-in-Right-clause-texts : goal.returns-in_ok-joined-in-Right-clause-texts
returns-in_ok-joined-in-Right-clause-texts c = refl

pub returns-in_ok-joined-in-Right-clause-keeps : goal.returns-in_ok-joined-in-Right-clause-keeps
returns-in_ok-joined-in-Right-clause-keeps c = c.joined.ensures.keeps

pub returns-in_ok-form-in-Load-clause-texts : goal.returns-in_ok-form-in-Load-clause-texts
returns-in_ok-form-in-Load-clause-texts c = refl

pub returns-in_ok-form-in-Load-clause-keeps : goal.returns-in_ok-form-in-Load-clause-keeps
returns-in_ok-form-in-Load-clause-keeps c = c.form-in-Load.ensures.keeps
