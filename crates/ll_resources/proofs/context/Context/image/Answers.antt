use Rattle.std.proofs.lemmas.Result.{IfOk-from_err}
use Rattle.ll_resources.specs.Raw.{raw}
use Rattle.ll_resources.proofs.ChangeLemmas.{sound-alike, sound-alone, back-copied, mark-along, image-is, saved-marked}
use Rattle.ll_resources.proofs.context.Context.image.Goals as goal

pub take_back-requires-clause-from : goal.take_back-requires-clause-from
take_back-requires-clause-from g c =
    mark-along c.self.inside.changes.items c.as_slice.result.now (raw c.self.inside.state) c.args.self.now c.args.mark c.as_slice.ensures.value
    c.self.view_is c.requires

pub take_back-requires-clause-sound : goal.take_back-requires-clause-sound
take_back-requires-clause-sound g c =
    sound-alike c.self.inside.changes.items c.as_slice.result.now (raw c.self.inside.state) (raw c.in_ok-state.state) _ _
    c.as_slice.ensures.value c.in_ok-state.ensures.state c.in_ok-state.ensures.room c.self.invariant

pub invariant_of-result : goal.invariant_of-result
invariant_of-result g c =
    sound-alone c.args.mark.changes c.self.inside.changes.items _ c.self.inside.state c.in_ok-state.state c.take_back.new.self c.new.ensures.items
    (back-copied c.args.mark.changes c.self.inside.changes.items c.as_slice.result.now (raw c.self.inside.state) (raw c.in_ok-state.state)
    (raw c.take_back.new.self) c.as_slice.ensures.value c.in_ok-state.ensures.state c.take_back.ensures.state)
    c.in_ok-state.ensures.room c.take_back.ensures.room c.self.invariant

pub returns-clause-image : goal.returns-clause-image
returns-clause-image g c =
    image-is c.self.inside.changes.items _ (raw c.self.inside.state) (raw c.take_back.new.self) c.args.self.now c.args.mark c.self.view_is c.new.ensures.items
    (back-copied c.args.mark.changes c.self.inside.changes.items c.as_slice.result.now (raw c.self.inside.state) (raw c.in_ok-state.state)
    (raw c.take_back.new.self) c.as_slice.ensures.value c.in_ok-state.ensures.state c.take_back.ensures.state)

pub returns-clause-same : goal.returns-clause-same
returns-clause-same g c =
    saved-marked c.self.inside.changes.items (raw c.self.inside.state) (raw c.take_back.new.self) _ c.args.self.now c.args.mark c.self.view_is
    (back-copied c.args.mark.changes c.self.inside.changes.items c.as_slice.result.now (raw c.self.inside.state) (raw c.in_ok-state.state)
    (raw c.take_back.new.self) c.as_slice.ensures.value c.in_ok-state.ensures.state c.take_back.ensures.state)
    c.self.invariant

pub returns-in_err-state-clause-image : goal.returns-in_err-state-clause-image
returns-in_err-state-clause-image g c = IfOk-from_err c.from_residual.result _ c.from_residual.ensures.0

pub returns-in_err-state-clause-same : goal.returns-in_err-state-clause-same
returns-in_err-state-clause-same g c = IfOk-from_err c.from_residual.result _ c.from_residual.ensures.0
