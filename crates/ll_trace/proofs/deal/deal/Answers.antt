use Rattle.std.proofs.Common.{ap, subst, ◌∙◌, List, map}
use Rattle.std.proofs.lemmas.Result.{IfOk-from_err}
use Rattle.ll_laws.specs.declared.Rule.{Rule}
use Rattle.ll_laws.specs.Line.{trees_of}
use Rattle.ll_laws.specs.ShownLines.{line_of}
use Rattle.ll_trace.specs.Spans.{AreSpans}
use Rattle.ll_trace.proofs.deal.deal.Goals as goal

pub deal_by-requires-clause-spans : goal.deal_by-requires-clause-spans
deal_by-requires-clause-spans c = subst (λ (rs : List Rule). AreSpans rs c.in_ok-spans.field-0.items) c.deref-2.ensures.value c.in_ok-spans.ensures

pub deal_by-requires-clause-picks : goal.deal_by-requires-clause-picks
deal_by-requires-clause-picks c = λ bank x h.
    c.in_ok-new.ensures ∙ c.in_ok-picks.ensures bank x (ap (λ (rs : List Rule). trees_of (map (line_of bank) rs)) c.deref.ensures.value ∙ h)

pub returns-in_err-picks-clause-dealt : goal.returns-in_err-picks-clause-dealt
returns-in_err-picks-clause-dealt c = IfOk-from_err c.from_residual.result _ c.from_residual.ensures.0

pub returns-in_err-picks-clause-places : goal.returns-in_err-picks-clause-places
returns-in_err-picks-clause-places c = IfOk-from_err c.from_residual.result _ c.from_residual.ensures.0

pub returns-in_err-spans-clause-dealt : goal.returns-in_err-spans-clause-dealt
returns-in_err-spans-clause-dealt c = IfOk-from_err c.from_residual-in_err-spans.result _ c.from_residual-in_err-spans.ensures.0

pub returns-in_err-spans-clause-places : goal.returns-in_err-spans-clause-places
returns-in_err-spans-clause-places c = IfOk-from_err c.from_residual-in_err-spans.result _ c.from_residual-in_err-spans.ensures.0

pub returns-in_err-new-clause-dealt : goal.returns-in_err-new-clause-dealt
returns-in_err-new-clause-dealt c = IfOk-from_err c.from_residual-in_err-new.result _ c.from_residual-in_err-new.ensures.0

pub returns-in_err-new-clause-places : goal.returns-in_err-new-clause-places
returns-in_err-new-clause-places c = IfOk-from_err c.from_residual-in_err-new.result _ c.from_residual-in_err-new.ensures.0

pub returns-clause-dealt : goal.returns-clause-dealt
returns-clause-dealt c = c.deal_by.ensures.dealt

pub returns-clause-places : goal.returns-clause-places
returns-clause-places c = c.deal_by.ensures.places
