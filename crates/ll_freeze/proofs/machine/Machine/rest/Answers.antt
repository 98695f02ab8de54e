use Rattle.std.proofs.Common.{refl, ap, sym, ◌∙◌, arith}
use Rattle.ll_store.specs.Stored.{stored, state_at}
use Rattle.ll_freeze.specs.declared.rest.Rest.{Rest}
use Rattle.ll_freeze.specs.Parts.{parts_at}
use Rattle.ll_freeze.specs.Rested.{parts_with}
use Rattle.ll_freeze.proofs.Imaging.{image_of}
use Rattle.ll_freeze.proofs.Marks.{same_items}
use Rattle.ll_freeze.proofs.machine.Machine.rest.Goals as goal

pub image-requires-2 : goal.image-requires-2
image-requires-2 c = let g = c.requires.good in let t = g.top in let a = g.agenda in omega (arith, t, a)

pub returns : goal.returns
returns c =
    let m = c.args.self.now in
    let r : Rest =
    record {
      problem = m.problem;
      modules = m.modules;
      context = c.in_ok-context.context;
      agenda = c.in_ok-agenda.agenda;
      top = c.in_ok-agenda.top;
      left = c.args.mark.left;
      eigens = c.args.mark.eigens;
      terms = c.in_ok-terms.terms;
      steps = c.in_ok-steps.steps;
    } in
    let list = c.in_ok-agenda.ensures.list in
    image_of (parts_at c.args.mark m) (parts_with r (state_at c.args.mark.store (stored m.store)))
    (record {
      problem = refl;
      modules = refl;
      bank = refl;
      bound = refl;
      levels = refl;
      terms = c.in_ok-terms.ensures;
    })
    (ap (λ h. h.present) c.in_ok-context.ensures.image) (record { inside = list.inside; list = list.list ∙ sym (same_items c.args.mark m c.requires.good) })
    refl refl c.in_ok-steps.ensures c.requires.fits
