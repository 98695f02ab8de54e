use Rattle.std.proofs.lemmas.Result.{IfOk-from_err}
use Rattle.std.proofs.Common.{refl, ap, ◌∙◌, arith}
use Rattle.std.proofs.lemmas.List.{take_all}
use Rattle.ll_freeze.specs.declared.rest.Rest.{Rest}
use Rattle.ll_freeze.specs.Rested.{parts_with}
use Rattle.ll_freeze.proofs.Imaging.{image_of}
use Rattle.ll_freeze.proofs.rest.Rest.image.Goals as goal

pub image-requires-2 : goal.image-requires-2
image-requires-2 c = c.requires

pub returns : goal.returns
returns c =
    let r = c.args.self.now in
    let made : Rest =
    record {
      problem = r.problem;
      modules = r.modules;
      context = c.in_ok-context.context;
      agenda = c.in_ok-agenda.agenda;
      top = c.in_ok-agenda.top;
      left = r.left;
      eigens = r.eigens;
      terms = c.in_ok-terms.terms;
      steps = c.in_ok-steps.steps;
    } in
    λ s fits.
    image_of (parts_with r s) (parts_with made s)
    (record {
      problem = refl;
      modules = refl;
      bank = refl;
      bound = refl;
      levels = refl;
      terms = c.in_ok-terms.ensures ∙ take_all c.len.result r.terms.items (omega (arith, c.len.ensures));
    })
    (ap (λ h. h.present) c.in_ok-context.ensures.image ∙ c.mark.ensures.state) c.in_ok-agenda.ensures.list refl refl
    (c.in_ok-steps.ensures ∙ take_all c.len-2.result r.steps.items (omega (arith, c.len-2.ensures))) fits

pub returns-in_err-context : goal.returns-in_err-context
returns-in_err-context c = IfOk-from_err c.from_residual.result _ c.from_residual.ensures.0

pub returns-in_err-agenda : goal.returns-in_err-agenda
returns-in_err-agenda c = IfOk-from_err c.from_residual-in_err-agenda.result _ c.from_residual-in_err-agenda.ensures.0

pub returns-in_err-terms : goal.returns-in_err-terms
returns-in_err-terms c = IfOk-from_err c.from_residual-in_err-terms.result _ c.from_residual-in_err-terms.ensures.0

pub returns-in_err-steps : goal.returns-in_err-steps
returns-in_err-steps c = IfOk-from_err c.from_residual-in_err-steps.result _ c.from_residual-in_err-steps.ensures.0
