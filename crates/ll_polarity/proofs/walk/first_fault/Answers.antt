use Rattle.std.proofs.Common.{◌∷◌, sym, subst, ap, ◌∙◌, refl, rules}
use Rattle.std.proofs.lemmas.Result.{IfOk-from_err}
use Rattle.ll_polarity.specs.Pending.{pending_faults, AreReady}
use Rattle.ll_polarity.proofs.walk.first_fault.Goals as goal

-- the part that stands next is the fault
pub returns-in-Found-clause-first : goal.returns-in-Found-clause-first
returns-in-Found-clause-first c = λ ms known.
    let pending = pending_faults c.args.source.now.names.now c.args.source.now.forms.now ms c.loop-part.binders.scope in
    (pending c.pop.new.self, sym (c.loop-part.invariant.faults ms known) ∙ ap pending (c.in-Some.ensures ∙ ap (λ p. p ∷ c.pop.new.self) c.in-Found.is))

pub returns-in_err-open_form-in-Form-clause-binders : goal.returns-in_err-open_form-in-Form-clause-binders
returns-in_err-open_form-in-Form-clause-binders c =
    IfOk-from_err c.from_residual-in_err-open_form-in-Form.result _ c.from_residual-in_err-open_form-in-Form.ensures.0

pub returns-in_err-open_form-in-Form-clause-first : goal.returns-in_err-open_form-in-Form-clause-first
returns-in_err-open_form-in-Form-clause-first c =
    IfOk-from_err c.from_residual-in_err-open_form-in-Form.result _ c.from_residual-in_err-open_form-in-Form.ensures.0

pub returns-in_err-open_term-in-Term-clause-binders : goal.returns-in_err-open_term-in-Term-clause-binders
returns-in_err-open_term-in-Term-clause-binders c =
    IfOk-from_err c.from_residual-in_err-open_term-in-Term.result _ c.from_residual-in_err-open_term-in-Term.ensures.0

pub returns-in_err-open_term-in-Term-clause-first : goal.returns-in_err-open_term-in-Term-clause-first
returns-in_err-open_term-in-Term-clause-first c =
    IfOk-from_err c.from_residual-in_err-open_term-in-Term.result _ c.from_residual-in_err-open_term-in-Term.ensures.0

pub returns-in_err-push-clause-binders : goal.returns-in_err-push-clause-binders
returns-in_err-push-clause-binders c = IfOk-from_err c.from_residual.result _ c.from_residual.ensures.0

pub returns-in_err-push-clause-first : goal.returns-in_err-push-clause-first
returns-in_err-push-clause-first c = IfOk-from_err c.from_residual.result _ c.from_residual.ensures.0

pub open_form-requires-clause-ready : goal.open_form-requires-clause-ready
open_form-requires-clause-ready c =
    (subst (AreReady c.args.source.now.names.now c.args.source.now.forms.now) (c.in-Some.ensures ∙ ap (λ p. p ∷ c.pop.new.self) c.in-Form.is)
    c.loop-part.invariant.ready).0

pub open_form-requires-clause-texts : goal.open_form-requires-clause-texts
open_form-requires-clause-texts c = c.loop-part.invariant.texts

pub open_term-requires-clause-ready : goal.open_term-requires-clause-ready
open_term-requires-clause-ready c =
    (subst (AreReady c.args.source.now.names.now c.args.source.now.forms.now) (c.in-Some.ensures ∙ ap (λ p. p ∷ c.pop.new.self) c.in-Term.is)
    c.loop-part.invariant.ready).0

pub open_term-requires-clause-texts : goal.open_term-requires-clause-texts
open_term-requires-clause-texts c = c.loop-part.invariant.texts

pub returns-in-Found-clause-binders : goal.returns-in-Found-clause-binders
returns-in-Found-clause-binders c = tt

pub same-parts : goal.same-parts
same-parts c = refl

pub loop-part-init : goal.loop-part-init
loop-part-init c = search rules

pub same-parts-in-Continue-branch-2 : goal.same-parts-in-Continue-branch-2
same-parts-in-Continue-branch-2 c = refl

pub loop-part-smaller-in-Continue-branch-2 : goal.loop-part-smaller-in-Continue-branch-2
loop-part-smaller-in-Continue-branch-2 c = search rules

pub loop-part-preserved-in-Continue-branch-2 : goal.loop-part-preserved-in-Continue-branch-2
loop-part-preserved-in-Continue-branch-2 c = search rules

pub same-parts-in-Continue-branch-3 : goal.same-parts-in-Continue-branch-3
same-parts-in-Continue-branch-3 c = refl

pub loop-part-smaller-in-Continue-branch-3 : goal.loop-part-smaller-in-Continue-branch-3
loop-part-smaller-in-Continue-branch-3 c = search rules

pub loop-part-preserved-in-Continue-branch-3 : goal.loop-part-preserved-in-Continue-branch-3
loop-part-preserved-in-Continue-branch-3 c = search rules

pub loop-part-smaller : goal.loop-part-smaller
loop-part-smaller c = search rules

pub loop-part-preserved : goal.loop-part-preserved
loop-part-preserved c = search rules

pub returns-clause-first : goal.returns-clause-first
returns-clause-first c = search rules

pub returns-clause-binders : goal.returns-clause-binders
returns-clause-binders c = search rules
