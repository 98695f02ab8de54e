use Rattle.std.proofs.Common.{◌∙◌, ap, subst, sym}
use Rattle.ll_crew.specs.Leading.{Stands}
use Rattle.ll_crew.specs.declared.lead.Delivery.{Delivery}
use Rattle.ll_crew.proofs.crowd.work_leading.Goals as goal

pub work_as-done-requires-clause-suits : goal.work_as-done-requires-clause-suits
work_as-done-requires-clause-suits g c κs within = c.requires.suits

pub work_as-done-requires-clause-stands : goal.work_as-done-requires-clause-stands
work_as-done-requires-clause-stands g c κs within =
    subst (λ (told : Delivery). Stands g.O.Outlet c.args.job.now c.args.seat.now c.args.out.now told) (sym c.new-told.ensures) c.requires.stands

pub returns-clause-leads : goal.returns-clause-leads
returns-clause-leads g c = c.work_as-done.ensures.leads ∙ ap (λ (told : Delivery). told.leads) c.new-told.ensures
