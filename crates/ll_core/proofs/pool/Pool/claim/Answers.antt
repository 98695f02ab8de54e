use Rattle.std.proofs.Common.{◌≡◌, ℕ, List, ◌<◌, ◌≤◌, ◌+◌, length, map, refl, sym, ap, ◌∙◌, subst, arith}
use Rattle.std.specs.Arc.{arc_value}
use Rattle.ll_laws.specs.Pool.{Open}
use Rattle.ll_core.specs.Calls.{ClaimsAs}
use Rattle.ll_core.specs.declared.answers.Claimed.TheVariants.{Work}
use Rattle.ll_core.specs.Slots.{piece_in, stop_in, data_of}
use Rattle.ll_core.specs.declared.room.Waiting.{Waiting}
use Rattle.ll_laws.specs.CoreEvents.{NoOpen}
use Rattle.ll_core.proofs.sound.Wholes.{whole_claimed, whole_popped, whole_alike}
use Rattle.ll_core.proofs.sound.Forming.{busy_fits, claim_forms, claim_is}
use Rattle.ll_core.proofs.pool.Pool.claim.Goals as goal

pub overflow_add-self : goal.overflow_add-self
overflow_add-self g c = let h = busy_fits _ _ _ _ _ _ _ _ c.self.invariant.formed c.in-Some.ensures.items in omega arith

pub invariant_of-self : goal.invariant_of-self
invariant_of-self g c =
    let i = c.self.inside in
    let r = claim_is _ _ _ _ _ _ _ _ c.self.invariant.formed c.in-Some.ensures.items _ _ i.workers i.starved i.stopped c.args.worker
    c.push_reserved.ensures.items (λ j. record {
      batch = c.in-Some.field-0.batch;
      k = c.in-Some.field-0.k;
      worker = c.args.worker;
      published =
          c.new-published.ensures.items j;
      status = Open;
    }) in
    let slots = c.push_reserved.new.self.items in
    let rest = c.pop_front.new.self.items in
    whole_claimed g.N.Batch.alternatives _ i.starts.items (map stop_in i.stack.items) _ _ _ c.in-Some.field-0 rest c.args.worker
    (whole_popped g.N.Batch.alternatives _ _ _ _ _ _ _ c.in-Some.ensures.items c.self.invariant)
    (record {
      untried = r.0;
      worker = subst (λ u. c.args.worker < u.workers) (sym c.self.view_is) c.requires.worker;
      none_open =
          subst (λ u. NoOpen u c.args.worker) (sym c.self.view_is) c.requires.none_open;
    })
    _ r.3 (claim_forms _ _ _ _ _ _ _ _ c.self.invariant.formed c.in-Some.ensures.items _ _ _ c.push_reserved.ensures.items c.push_reserved.ensures.capacity refl
    refl)

pub returns-in-Some : goal.returns-in-Some
returns-in-Some g c =
    let i = c.self.inside in
    let r = claim_is _ _ _ _ _ _ _ _ c.self.invariant.formed c.in-Some.ensures.items _ _ i.workers i.starved i.stopped c.args.worker
    c.push_reserved.ensures.items (λ j. record {
      batch = c.in-Some.field-0.batch;
      k = c.in-Some.field-0.k;
      worker = c.args.worker;
      published =
          c.new-published.ensures.items j;
      status = Open;
    }) in
    let slots = c.push_reserved.new.self.items in
    let rest = c.pop_front.new.self.items in
    subst (λ v. ClaimsAs g.N.Batch.alternatives v c.args.worker (Work c.len-piece.result c.in-Some.field-0.copy c.in-Some.field-0.k)
    (record {
      batches = map arc_value i.batches.items;
      pieces = map piece_in slots;
      workers = i.workers;
      busy = i.busy + 1;
      total = length slots + length rest;
      untried = length rest;
      starved = i.starved;
      stopped = i.stopped;
    })) c.self.view_is (
      c.in-Some.field-0.batch,
      r.1,
      ((c.if-self.false, c.if-self-2.false), r.0, c.len-piece.ensures ∙ (i.pieces.ok.0 ∙ r.2), r.3),
    )

same : (n : ℕ) → n ≤ n
same n = omega arith

none_left : (n : ℕ) → n ≤ 0 → n ≡ 0
none_left n h = omega arith

pub same-self : goal.same-self
same-self g c = refl

pub same-self-then-self-2 : goal.same-self-then-self-2
same-self-then-self-2 g c = refl

pub returns-then-self : goal.returns-then-self
returns-then-self g c = (sym (ap (λ v. v.stopped) c.self.view_is) ∙ c.if-self.true, refl)

pub returns-then-self-2 : goal.returns-then-self-2
returns-then-self-2 g c = (sym (ap (λ v. v.stopped) c.self.view_is) ∙ c.if-self.false, sym (ap (λ v. v.starved) c.self.view_is) ∙ c.if-self-2.true, refl)

pub invariant_of-self-then-self-gt0 : goal.invariant_of-self-then-self-gt0
invariant_of-self-then-self-gt0 g c =
    let i = c.self.inside in
    whole_alike g.N.Batch.alternatives i.batches.items i.batches.items i.pieces.items i.pieces.items i.waiting.items c.pop_front.new.self.items i.workers i.busy
    i.starved i.stopped refl refl (sym c.in-None.ensures.items) i.starts.items i.starts.items i.stack.items i.stack.items _ _ _ _ refl refl
    (same i.pieces.cap) (same i.stack.cap) c.self.invariant

pub invariant_of-self-in-None : goal.invariant_of-self-in-None
invariant_of-self-in-None g c =
    let i = c.self.inside in
    whole_alike g.N.Batch.alternatives i.batches.items i.batches.items i.pieces.items i.pieces.items i.waiting.items c.pop_front.new.self.items i.workers i.busy
    i.starved i.stopped refl refl (sym c.in-None.ensures.items) i.starts.items i.starts.items i.stack.items i.stack.items _ _ _ _ refl refl
    (same i.pieces.cap) (same i.stack.cap) c.self.invariant

pub returns-then-self-gt0 : goal.returns-then-self-gt0
returns-then-self-gt0 g c =
    let i = c.self.inside in let v = c.self.view_is in let busy = ap (λ v. v.busy) v in (
      (sym (ap (λ v. v.stopped) v) ∙ c.if-self.false, sym (ap (λ v. v.starved) v) ∙ c.if-self-2.false),
      sym (ap (λ v. v.untried) v) ∙ (sym i.waiting.ok.0 ∙ c.in-None.ensures.cases.0),
      subst (λ n. 0 < n) busy c.if-self-gt0.true,
      busy,
      ap (λ (ws : List (Waiting _)). data_of i.batches.items i.pieces.items (length ws) i.workers i.busy i.starved i.stopped) (sym c.in-None.ensures.items) ∙ v,
    )

pub returns-else-self-gt0 : goal.returns-else-self-gt0
returns-else-self-gt0 g c =
    let i = c.self.inside in let v = c.self.view_is in (
      (sym (ap (λ v. v.stopped) v) ∙ c.if-self.false, sym (ap (λ v. v.starved) v) ∙ c.if-self-2.false),
      sym (ap (λ v. v.untried) v) ∙ (sym i.waiting.ok.0 ∙ c.in-None.ensures.cases.0),
      sym (ap (λ v. v.busy) v) ∙ none_left i.busy c.if-self-gt0.false,
      ap (λ (ws : List (Waiting _)). data_of i.batches.items i.pieces.items (length ws) i.workers i.busy i.starved i.stopped) (sym c.in-None.ensures.items) ∙ v,
    )
