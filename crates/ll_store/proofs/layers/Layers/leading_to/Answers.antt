use Rattle.std.proofs.Common.{◌≡◌, ℕ, ◌-◌, List, length, take, drop, ap, sym, subst, ◌∙◌, arith, length-drop}
use Rattle.std.proofs.lemmas.List.{take_all}
use Rattle.std.specs.declared.sync.Arc.{Arc}
use Rattle.std.specs.declared.alloc.Global.{Global}
use Rattle.ll_store.specs.declared.store.Store.{Store}
use Rattle.ll_store.specs.Stored.{stored, state_of}
use Rattle.ll_store.specs.Segments.{SegmentSight, LeadAll}
use Rattle.ll_store.specs.Layered.{whole_of, segments_of}
use Rattle.ll_store.proofs.LayerLemmas.{leads-on}
use Rattle.ll_store.proofs.layers.Layers.leading_to.Goals as goal

pub returns-then-are_same : goal.returns-then-are_same
returns-then-are_same c =
    let i = c.self.inside in let o = c.other.inside in let n = c.len-count.result in
    let whole : whole_of i.whole ≡ whole_of o.whole =
    ap (λ (x : Store). state_of (stored x)) (sym c.deref-2.ensures)
    ∙ (c.is_alike.ensures c.if-is_alike.true ∙ ap (λ (x : Store). state_of (stored x)) c.deref-3.ensures) in
    let same : segments_of i.segments.items ≡ segments_of (take n o.segments.items) =
    ap segments_of (sym c.deref-then-is_alike.ensures.value)
    ∙ (c.are_same.ensures c.if-are_same.true ∙ ap (λ (ys : List (Arc SegmentSight Global)). segments_of (take n ys)) c.deref.ensures.value) in
    subst (λ (ys : List (Arc SegmentSight Global)). LeadAll (segments_of ys) c.args.self.now.state c.args.other.now.state)
    (rest c.deref-then-are_same.result.now o.segments.items n c.deref-then-are_same.ensures.value)
    (leads-on i.whole o.whole i.segments.items o.segments.items n c.args.self.now c.args.other.now c.self.view_is c.other.view_is whole same
    c.other.invariant.1)
  where
    rest : (xs ys : List (Arc SegmentSight Global)) (n : ℕ) → xs ≡ ys → drop n ys ≡ take (length xs - n) (drop n xs)
    rest xs ys n e = sym (take_all (length xs - n) (drop n xs) (simp length-drop (omega arith)) ∙ ap (drop n) e)
