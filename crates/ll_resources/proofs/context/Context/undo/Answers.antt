use Rattle.std.proofs.Common.{drop, ap, sym, ◌∙◌}
use Rattle.ll_resources.specs.Raw.{Raw, raw, shown}
use Rattle.ll_resources.specs.Changes.{before}
use Rattle.ll_resources.proofs.ChangeLemmas.{mark-within, mark-along, state-marked, sound-same, sound-take, marks-undone, saved-marked}
use Rattle.ll_resources.proofs.context.Context.undo.Goals as goal

pub take_back-requires-clause-from : goal.take_back-requires-clause-from
take_back-requires-clause-from g c =
    mark-along c.self.inside.changes.items c.as_slice.result.now (raw c.self.inside.state) c.args.self.now c.args.mark c.as_slice.ensures.value
    c.self.view_is c.requires

pub take_back-requires-clause-sound : goal.take_back-requires-clause-sound
take_back-requires-clause-sound g c =
    sound-same c.self.inside.changes.items c.as_slice.result.now (raw c.self.inside.state) _ c.as_slice.ensures.value c.self.invariant

pub invariant_of-self : goal.invariant_of-self
invariant_of-self g c =
    sound-take c.args.mark.changes c.self.inside.changes.items _ (raw c.self.inside.state) _ _ _
    (mark-within c.self.inside.changes.items (raw c.self.inside.state) c.args.self.now c.args.mark c.self.view_is c.requires)
    c.truncate.ensures.items
    (c.take_back.ensures.state ∙ ap (λ cs. before (drop c.args.mark.changes cs) (raw c.self.inside.state)) c.as_slice.ensures.value)
    c.take_back.ensures.room c.self.invariant

pub returns-clause-state : goal.returns-clause-state
returns-clause-state g c =
    ap (λ (r : Raw g.row.C.Denot). shown r) (c.take_back.ensures.state
    ∙ ap (λ cs. before (drop c.args.mark.changes cs) (raw c.self.inside.state)) c.as_slice.ensures.value)
    ∙ sym (state-marked c.self.inside.changes.items (raw c.self.inside.state) c.args.self.now c.args.mark c.self.view_is)

pub returns-clause-marks : goal.returns-clause-marks
returns-clause-marks g c =
    marks-undone c.self.inside.changes.items _ (raw c.self.inside.state) _ c.args.self.now c.args.mark c.self.view_is c.requires c.truncate.ensures.items
    (c.take_back.ensures.state ∙ ap (λ cs. before (drop c.args.mark.changes cs) (raw c.self.inside.state)) c.as_slice.ensures.value)

pub returns-clause-same : goal.returns-clause-same
returns-clause-same g c =
    saved-marked c.self.inside.changes.items (raw c.self.inside.state) (raw c.take_back.new.self) _ c.args.self.now c.args.mark c.self.view_is
    (c.take_back.ensures.state ∙ ap (λ cs. before (drop c.args.mark.changes cs) (raw c.self.inside.state)) c.as_slice.ensures.value) c.self.invariant
