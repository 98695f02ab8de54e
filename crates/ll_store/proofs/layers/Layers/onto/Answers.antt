use Rattle.std.proofs.Common.{ap, ◌∙◌}
use Rattle.ll_store.specs.Layered.{segments_of}
use Rattle.ll_store.specs.Stored.{stored, state_at}
use Rattle.ll_store.proofs.LayerLemmas.{one-more}
use Rattle.ll_store.proofs.layers.Layers.onto.Goals as goal

pub invariant_of-result : goal.invariant_of-result
invariant_of-result c =
    let i = c.self.inside in let s = stored c.args.store.now in
    let o = one-more i.whole c.in_ok-whole.whole i.segments.items c.in_ok-segments.segments.items c.push.new.self.items c.in_ok-segment.segment c.in_ok-led.led
    (state_at c.args.from s) (state_at c.args.to s) c.args.self.now
    c.in_ok-segment.ensures.ok c.in_ok-led.ensures c.requires.state c.self.view_is (c.in_ok-segments.ensures ∙ ap segments_of c.deref.ensures.value)
    c.in_ok-push.ensures.items c.in_ok-whole.ensures c.self.invariant.0 c.self.invariant.1 in
    (o.within, o.begin)

pub returns : goal.returns
returns c =
    let i = c.self.inside in let s = stored c.args.store.now in
    (one-more i.whole c.in_ok-whole.whole i.segments.items c.in_ok-segments.segments.items c.push.new.self.items c.in_ok-segment.segment c.in_ok-led.led
    (state_at c.args.from s) (state_at c.args.to s) c.args.self.now
    c.in_ok-segment.ensures.ok c.in_ok-led.ensures c.requires.state c.self.view_is (c.in_ok-segments.ensures ∙ ap segments_of c.deref.ensures.value)
    c.in_ok-push.ensures.items c.in_ok-whole.ensures c.self.invariant.0 c.self.invariant.1).view
