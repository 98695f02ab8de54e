use Rattle.std.proofs.Common.{sym, refl, ◌∙◌, le_refl}
use Rattle.std.proofs.lemmas.Bool.{false≢true}
use Rattle.ll_crew.proofs.lead.tell.Goals as goal

pub returns-then-told-clause-leads : goal.returns-then-told-clause-leads
returns-then-told-clause-leads g c = c.tell_all.ensures.leads ∙ sym c.if-told.true

pub returns-then-told-clause-on : goal.returns-then-told-clause-on
returns-then-told-clause-on g c = c.tell_all.ensures.on

pub returns-then-told-clause-left : goal.returns-then-told-clause-left
returns-then-told-clause-left g c = c.tell_all.ensures.left

pub returns-clause-leads : goal.returns-clause-leads
returns-clause-leads g c = refl

pub returns-clause-left : goal.returns-clause-left
returns-clause-left g c = λ e. absurd (false≢true (sym e))

pub returns-then-told-clause-turns : goal.returns-then-told-clause-turns
returns-then-told-clause-turns g c = c.tell_all.ensures.turns

pub returns-clause-turns : goal.returns-clause-turns
returns-clause-turns g c = le_refl c.args.seat.now.mine.turns
