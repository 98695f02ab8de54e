use Rattle.std.proofs.Common.{◌≡◌, refl, ◌∙◌, ℕ, ◌<◌, ◌≤◌, ◌+◌, ◌-◌, ◌++◌, ◌∷◌, [], map, ap, subst, sym, length, Fits, w32, arith}
use Rattle.std.specs.Arc.{arc_value}
use Rattle.std.proofs.lemmas.List.{length-map, length-set, map_push}
use Rattle.ll_laws.specs.Pool.{PoolData}
use Rattle.ll_laws.specs.declared.Event.{Event}
use Rattle.ll_laws.specs.CoreEvents.{with_batch, change, IsOpenAt}
use Rattle.std.specs.Vec.{vec_len, vec_capacity}
use Rattle.ll_core.specs.declared.room.Slot.{Slot}
use Rattle.ll_core.specs.Slots.{piece_in, status_in, stop_in, data_of}
use Rattle.ll_core.proofs.sound.Wholes.{whole_grown, whole_stack, data_alike, whole_alike}
use Rattle.ll_core.proofs.sound.Forming.{slot_changed, slot_below, below_kept, publish_forms, publish_is, publish_total}
use Rattle.ll_core.proofs.pool.Pool.publish.Goals as goal

-- with the batch there are no more alternatives than there may be
fits : (a b p w m : ℕ) → a ≡ p → b ≡ w → p + w ≤ 4294967295 → m ≤ 4294967295 - (a + b) → p + w + m ≤ 4294967295
fits a b p w m e f s h = omega arith

total_fits : (a b p w : ℕ) → a ≡ p → b ≡ w → p + w ≤ 4294967295 → Fits w32 (a + b)
total_fits a b p w e f s = omega arith

number_fits : (r b p w : ℕ) → r ≡ b → b ≤ p + w → p + w ≤ 4294967295 → Fits w32 r
number_fits r b p w e f s = omega arith

-- room for one stop more than there are batches
stack_room : (s k n cap : ℕ) → s + (1 + k) ≤ cap → k ≡ n → n + 1 ≤ cap
stack_room s k n cap h e = omega arith

-- a number is no less than itself
same : (n : ℕ) → n ≤ n
same n = omega arith

-- memory runs out
refused : {N : Type 0} (before now after : PoolData N Event) (m m' : ℕ) → before ≡ now → m ≡ m' → before.total + m ≤ 4294967295 → after ≡ before
    → (now.total + m' ≤ 4294967295) × (after ≡ now)
refused before now after m m' b e small is =
    (subst (λ k. now.total + k ≤ 4294967295) e (subst (λ v. v.total + m ≤ 4294967295) b small), is ∙ b)

too_many : (a b m p w : ℕ) → a ≡ p → b ≡ w → 4294967295 - (a + b) < m → 4294967295 < p + w + m
too_many a b m p w e f h = omega arith

-- the pool is full
full : {N : Type 0} (before now : PoolData N Event) (a b p w m m' : ℕ) → before ≡ now → m ≡ m' → a ≡ p → b ≡ w → before.total ≡ p + w
    → 4294967295 - (a + b) < m → (4294967295 < now.total + m') × (a + b ≡ now.total) × (now ≡ now)
full before now a b p w m m' is e x y t h = (
  subst (λ k. 4294967295 < now.total + k) e (subst (λ v. 4294967295 < v.total + m) is (subst (λ k. 4294967295 < k + m) (sym t) (too_many a b m p w x y h))),
  (λ j. x j + y j) ∙ (sym t ∙ ap (λ v. v.total) is),
  refl,
)

pub overflow_cast-total : goal.overflow_cast-total
overflow_cast-total g c =
    let i = c.self.inside in
    total_fits c.len.result c.len-2.result (length i.pieces.items) (length i.waiting.items) (c.len.ensures ∙ i.pieces.ok.0) (c.len-2.ensures ∙ i.waiting.ok.0)
    (subst (λ k. k + length i.waiting.items ≤ 4294967295) (length-map i.pieces.items piece_in) c.self.invariant.formed.small)

pub overflow_cast-number : goal.overflow_cast-number
overflow_cast-number g c =
    let i = c.self.inside in let f = c.self.invariant.formed in
    number_fits c.len-number.result (length (map arc_value i.batches.items)) (length (map piece_in i.pieces.items)) (length i.waiting.items)
    (c.len-number.ensures ∙ (i.batches.ok.0 ∙ sym (length-map i.batches.items arc_value))) f.few f.small

pub returns-then-total-len-clause-event : goal.returns-then-total-len-clause-event
returns-then-total-len-clause-event g c =
    let i = c.self.inside in
    let len : c.len-len.result ≡ length (g.N.Batch.alternatives (arc_value c.args.batch)) =
    c.len-len.ensures ∙ ap (λ b. length (g.N.Batch.alternatives b)) c.deref.ensures in
    full (data_of i.batches.items i.pieces.items (length i.waiting.items) i.workers i.busy i.starved i.stopped) c.args.self.now c.len.result c.len-2.result
    (length i.pieces.items) (length i.waiting.items) c.len-len.result _ c.self.view_is len (c.len.ensures ∙ i.pieces.ok.0) (c.len-2.ensures ∙ i.waiting.ok.0)
    refl c.if-total-len.true

pub returns-in_default-clause-event : goal.returns-in_default-clause-event
returns-in_default-clause-event g c =
    let i = c.self.inside in
    let len : c.len-len.result ≡ length (g.N.Batch.alternatives (arc_value c.args.batch)) =
    c.len-len.ensures ∙ ap (λ b. length (g.N.Batch.alternatives b)) c.deref.ensures in
    let small = fits c.len.result c.len-2.result (length i.pieces.items) (length i.waiting.items) c.len-len.result (c.len.ensures ∙ i.pieces.ok.0)
    (c.len-2.ensures ∙ i.waiting.ok.0)
    (subst (λ k. k + length i.waiting.items ≤ 4294967295) (length-map i.pieces.items piece_in) c.self.invariant.formed.small) c.if-total-len.false in
    refused (data_of i.batches.items i.pieces.items (length i.waiting.items) i.workers i.busy i.starved i.stopped) c.args.self.now
    c.args.self.now c.len-len.result _ c.self.view_is len small
    (sym c.self.view_is)

pub invariant_of-self : goal.invariant_of-self
invariant_of-self g c =
    let i = c.self.inside in
    whole_alike g.N.Batch.alternatives i.batches.items i.batches.items i.pieces.items i.pieces.items i.waiting.items i.waiting.items i.workers i.busy i.starved
    i.stopped refl refl refl i.starts.items c.reserve.new.self.items i.stack.items i.stack.items _ _ _ _ c.reserve.ensures.items refl
    (same i.pieces.cap) (same i.stack.cap) c.self.invariant

pub returns-in_default-reserve-clause-event : goal.returns-in_default-reserve-clause-event
returns-in_default-reserve-clause-event g c =
    let i = c.self.inside in
    let len : c.len-len.result ≡ length (g.N.Batch.alternatives (arc_value c.args.batch)) =
    c.len-len.ensures ∙ ap (λ b. length (g.N.Batch.alternatives b)) c.deref.ensures in
    let small = fits c.len.result c.len-2.result (length i.pieces.items) (length i.waiting.items) c.len-len.result (c.len.ensures ∙ i.pieces.ok.0)
    (c.len-2.ensures ∙ i.waiting.ok.0)
    (subst (λ k. k + length i.waiting.items ≤ 4294967295) (length-map i.pieces.items piece_in) c.self.invariant.formed.small) c.if-total-len.false in
    refused (data_of i.batches.items i.pieces.items (length i.waiting.items) i.workers i.busy i.starved i.stopped) c.args.self.now
    (data_of i.batches.items i.pieces.items (length i.waiting.items) i.workers i.busy i.starved i.stopped) c.len-len.result _ c.self.view_is len small
    refl

pub invariant_of-self-in_default-reserve-2 : goal.invariant_of-self-in_default-reserve-2
invariant_of-self-in_default-reserve-2 g c =
    let i = c.self.inside in
    whole_alike g.N.Batch.alternatives i.batches.items i.batches.items i.pieces.items i.pieces.items i.waiting.items i.waiting.items i.workers i.busy i.starved
    i.stopped refl refl refl i.starts.items c.reserve.new.self.items i.stack.items c.reserve-2.new.self.items _ _ _ _ c.reserve.ensures.items
    c.reserve-2.ensures.items (same i.pieces.cap) c.reserve-2.ensures.capacity c.self.invariant

pub returns-in_default-reserve-2-clause-event : goal.returns-in_default-reserve-2-clause-event
returns-in_default-reserve-2-clause-event g c =
    let i = c.self.inside in
    let len : c.len-len.result ≡ length (g.N.Batch.alternatives (arc_value c.args.batch)) =
    c.len-len.ensures ∙ ap (λ b. length (g.N.Batch.alternatives b)) c.deref.ensures in
    let small = fits c.len.result c.len-2.result (length i.pieces.items) (length i.waiting.items) c.len-len.result (c.len.ensures ∙ i.pieces.ok.0)
    (c.len-2.ensures ∙ i.waiting.ok.0)
    (subst (λ k. k + length i.waiting.items ≤ 4294967295) (length-map i.pieces.items piece_in) c.self.invariant.formed.small) c.if-total-len.false in
    refused (data_of i.batches.items i.pieces.items (length i.waiting.items) i.workers i.busy i.starved i.stopped) c.args.self.now
    (data_of i.batches.items i.pieces.items (length i.waiting.items) i.workers i.busy i.starved i.stopped) c.len-len.result _ c.self.view_is len small
    refl

pub take_room-requires : goal.take_room-requires
take_room-requires g c =
    let o = subst (λ v. IsOpenAt v c.args.piece) (sym c.self.view_is) c.requires.open in (
      c.type_bounds.send-N,
      (c.type_bounds.send-N-Found, (c.type_bounds.sync-N, (c.type_bounds.sync-N-Found, slot_below c.self.inside.pieces.items c.args.piece o.0 o.1))),
    )

pub invariant_of-self-in_default-take_room : goal.invariant_of-self-in_default-take_room
invariant_of-self-in_default-take_room g c =
    let i = c.self.inside in let t = c.take_room.ensures in let r = c.take_room.new in
    whole_alike g.N.Batch.alternatives i.batches.items r.batches.items i.pieces.items r.pieces.items i.waiting.items r.waiting.items i.workers i.busy i.starved
    i.stopped t.batches t.pieces (c.in_default-take_room.ensures.err) i.starts.items c.reserve.new.self.items i.stack.items c.reserve-2.new.self.items _ _ _ _
    c.reserve.ensures.items c.reserve-2.ensures.items t.capacity c.reserve-2.ensures.capacity c.self.invariant

pub returns-in_default-take_room-clause-event : goal.returns-in_default-take_room-clause-event
returns-in_default-take_room-clause-event g c =
    let i = c.self.inside in
    let len : c.len-len.result ≡ length (g.N.Batch.alternatives (arc_value c.args.batch)) =
    c.len-len.ensures ∙ ap (λ b. length (g.N.Batch.alternatives b)) c.deref.ensures in
    let small = fits c.len.result c.len-2.result (length i.pieces.items) (length i.waiting.items) c.len-len.result (c.len.ensures ∙ i.pieces.ok.0)
    (c.len-2.ensures ∙ i.waiting.ok.0)
    (subst (λ k. k + length i.waiting.items ≤ 4294967295) (length-map i.pieces.items piece_in) c.self.invariant.formed.small) c.if-total-len.false in
    let t = c.take_room.ensures in let r = c.take_room.new in
    refused (data_of i.batches.items i.pieces.items (length i.waiting.items) i.workers i.busy i.starved i.stopped) c.args.self.now
    (data_of r.batches.items r.pieces.items (length r.waiting.items) i.workers i.busy i.starved i.stopped) c.len-len.result _ c.self.view_is len small
    (data_alike g.N.Batch.alternatives i.batches.items r.batches.items i.pieces.items r.pieces.items i.waiting.items r.waiting.items i.workers i.busy i.starved
    i.stopped t.batches t.pieces c.in_default-take_room.ensures.err)

pub invariant_of-self-2 : goal.invariant_of-self-2
invariant_of-self-2 g c =
    let o = subst (λ v. IsOpenAt v c.args.piece) (sym c.self.view_is) c.requires.open in
    let i = c.self.inside in
    let old = c.index_mut.result.now in
    let t = c.take_room.ensures in
    let n = c.len-number.result in
    let ok = c.in-Ok-take_room.ensures.ok in
    let len : c.len-len.result ≡ length (g.N.Batch.alternatives (arc_value c.args.batch)) =
    c.len-len.ensures ∙ ap (λ b. length (g.N.Batch.alternatives b)) c.deref.ensures in
    let pieces = c.len.ensures ∙ i.pieces.ok.0 in
    let small = fits c.len.result c.len-2.result (length i.pieces.items) (length i.waiting.items) c.len-len.result pieces
    (c.len-2.ensures ∙ i.waiting.ok.0)
    (subst (λ k. k + length i.waiting.items ≤ 4294967295) (length-map i.pieces.items piece_in) c.self.invariant.formed.small) c.if-total-len.false in
    let changed = slot_changed (with_batch n) c.take_room.new.pieces.items c.args.piece old _ (below_kept _ _ _ o.1 t.pieces) c.index_mut.ensures.value
    (λ j. record { batch = old.batch; k = old.k; worker = old.worker; published = c.push_reserved-3.ensures.items j; status = status_in old.state })
    ∙ ap (change c.args.piece (with_batch n)) t.pieces in
    let wide = length-set c.take_room.new.pieces.items c.args.piece in
    let is = (publish_is g.N.Batch.alternatives (map arc_value i.batches.items) (map arc_value c.push_reserved.new.self.items) i.pieces.items _ i.waiting.items
    c.take_room.new.waiting.items i.workers i.busy c.args.piece n c.len-len.result i.starved i.stopped (arc_value c.args.batch) c.in-Ok.copies.items
    (ap (map arc_value) (c.push_reserved.ensures.items ∙ ap (λ l. l ++ c.args.batch ∷ []) t.batches) ∙ map_push arc_value i.batches.items c.args.batch) changed
    (c.len-number.ensures ∙ (i.batches.ok.0 ∙ sym (length-map i.batches.items arc_value))) c.in-Ok.ensures ok.0) in
    let some = subst (λ k. 0 < k) (sym len) c.requires.some in
    let first : c.len.result + c.len-2.result ≡ length (map piece_in i.pieces.items) + length i.waiting.items =
    λ j. (pieces ∙ sym (length-map i.pieces.items piece_in)) j + (c.len-2.ensures ∙ i.waiting.ok.0) j in
    let room = stack_room c.reserve-2.new.self.len c.len-3.result (length (map arc_value i.batches.items)) c.reserve-2.new.self.cap
    c.in-Ok-reserve-2.ensures.ok (c.len-3.ensures ∙ (i.batches.ok.0 ∙ sym (length-map i.batches.items arc_value))) in
    whole_stack g.N.Batch.alternatives _ _ _ i.stack.items c.reserve-2.new.self.items _ _ c.reserve-2.ensures.items
    (whole_grown g.N.Batch.alternatives _ i.starts.items (map stop_in i.stack.items) _ _ _ i.waiting.items c.take_room.new.waiting.items
    c.in-Ok.copies.items c.args.piece (arc_value c.args.batch) _ _ n c.len-len.result _ c.self.invariant o some small c.in-Ok.ensures
    (c.len-number.ensures ∙ (i.batches.ok.0 ∙ sym (length-map i.batches.items arc_value))) len
    (c.push_reserved-2.ensures.items ∙ ap (λ l. l ++ (c.len.result + c.len-2.result) ∷ []) c.reserve.ensures.items) first room ok.0 _ is
    (publish_forms g.N.Batch.alternatives i.batches.items c.push_reserved.new.self.items c.args.batch i.pieces.items _ i.waiting.items
    c.take_room.new.waiting.items c.in-Ok.copies.items _ _ i.busy c.args.piece n c.len-len.result
    c.self.invariant.formed o (c.push_reserved.ensures.items ∙ ap (λ l. l ++ c.args.batch ∷ []) t.batches) changed
    (c.len-number.ensures ∙ (i.batches.ok.0 ∙ sym (length-map i.batches.items arc_value))) c.in-Ok.ensures len some small ok.0
    (subst (λ k. k + length c.take_room.new.waiting.items ≤ c.take_room.new.pieces.cap) (sym (wide _)) ok.2)))

pub push_reserved-requires : goal.push_reserved-requires
push_reserved-requires g c = c.in-Ok-take_room.ensures.ok.1

pub index_mut-requires : goal.index_mut-requires
index_mut-requires g c =
    let o = subst (λ v. IsOpenAt v c.args.piece) (sym c.self.view_is) c.requires.open in
    subst (λ k. c.args.piece < k) (sym c.take_room.new.pieces.ok.0) (below_kept _ _ _ o.1 c.take_room.ensures.pieces)

pub push_reserved-requires-3 : goal.push_reserved-requires-3
push_reserved-requires-3 g c =
    subst (λ (s : Slot _). vec_len s.published < vec_capacity s.published) (sym c.index_mut.ensures.value)
    (c.in-Ok-take_room.ensures.ok.3 c.index_mut.result.now)

pub returns-clause-event : goal.returns-clause-event
returns-clause-event g c =
    let o = subst (λ v. IsOpenAt v c.args.piece) (sym c.self.view_is) c.requires.open in
    let i = c.self.inside in
    let old = c.index_mut.result.now in
    let t = c.take_room.ensures in
    let n = c.len-number.result in
    let ok = c.in-Ok-take_room.ensures.ok in
    let len : c.len-len.result ≡ length (g.N.Batch.alternatives (arc_value c.args.batch)) =
    c.len-len.ensures ∙ ap (λ b. length (g.N.Batch.alternatives b)) c.deref.ensures in
    let pieces = c.len.ensures ∙ i.pieces.ok.0 in
    let small = fits c.len.result c.len-2.result (length i.pieces.items) (length i.waiting.items) c.len-len.result pieces
    (c.len-2.ensures ∙ i.waiting.ok.0)
    (subst (λ k. k + length i.waiting.items ≤ 4294967295) (length-map i.pieces.items piece_in) c.self.invariant.formed.small) c.if-total-len.false in
    let changed = slot_changed (with_batch n) c.take_room.new.pieces.items c.args.piece old _ (below_kept _ _ _ o.1 t.pieces) c.index_mut.ensures.value
    (λ j. record { batch = old.batch; k = old.k; worker = old.worker; published = c.push_reserved-3.ensures.items j; status = status_in old.state })
    ∙ ap (change c.args.piece (with_batch n)) t.pieces in
    publish_total _ _ _ c.args.piece (arc_value c.args.batch) c.len-len.result _ c.self.view_is len small
    (publish_is g.N.Batch.alternatives (map arc_value i.batches.items) (map arc_value c.push_reserved.new.self.items) i.pieces.items _ i.waiting.items
    c.take_room.new.waiting.items i.workers i.busy c.args.piece n c.len-len.result i.starved i.stopped (arc_value c.args.batch) c.in-Ok.copies.items
    (ap (map arc_value) (c.push_reserved.ensures.items ∙ ap (λ l. l ++ c.args.batch ∷ []) t.batches) ∙ map_push arc_value i.batches.items c.args.batch) changed
    (c.len-number.ensures ∙ (i.batches.ok.0 ∙ sym (length-map i.batches.items arc_value))) c.in-Ok.ensures ok.0)
