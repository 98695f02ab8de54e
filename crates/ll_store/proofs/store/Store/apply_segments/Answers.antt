use Rattle.std.proofs.Common.{◌≡◌, sym, ap, subst, ◌∙◌}
use Rattle.std.specs.Arc.{arc_value}
use Rattle.ll_store.specs.Stored.{stored, state_of}
use Rattle.ll_store.specs.Segments.{SegmentSight, Begins, state_after}
use Rattle.ll_store.proofs.LayerLemmas.{begins-at, after-step}
use Rattle.ll_store.proofs.store.Store.apply_segments.Goals as goal

pub apply_segment-requires : goal.apply_segment-requires
apply_segment-requires c =
    let x = c.segment-item.result in
    subst (λ (s : SegmentSight). Begins s (state_of (stored c.loop-segment.self))) (sym (c.deref.ensures ∙ ap (λ a. arc_value a) c.segment-item.is))
    (begins-at c.args.segments.now c.loop-segment.segment-index x (state_of (stored c.args.self.now)) (state_of (stored c.loop-segment.self)) c.requires
    c.loop-segment-test.true c.loop-segment.invariant)

pub loop-segment-preserved : goal.loop-segment-preserved
loop-segment-preserved c =
    let x = c.segment-item.result in let now = state_of (stored c.loop-segment.self) in let next = state_of (stored c.apply_segment.new.self) in
    after-step c.args.segments.now c.loop-segment.segment-index x (state_of (stored c.args.self.now)) now next c.loop-segment-test.true c.loop-segment.invariant
    (subst (λ (s : SegmentSight). state_after s now ≡ next) (c.deref.ensures ∙ ap (λ a. arc_value a) c.segment-item.is)
    c.in_ok-apply_segment.ensures.state.ends)
