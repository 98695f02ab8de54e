use Rattle.std.proofs.Common.{◌≡◌, ◌<◌, ◌≤◌, ◌+◌, ◌++◌, ◌∙◌, ap, sym, subst, arith, map, take, length, get_or, vec_len, Vec, Global, [], ◌∷◌, if◌then◌else◌}
use Rattle.std.proofs.Common.{append_assoc, append-nil, length-append, take_all}
use Rattle.std.specs.Prelude.{nat_lt}
use Rattle.std.specs.Vec.{vec_capacity}
use Rattle.std.proofs.Math.Seq.{take-append_seam}
use Rattle.std.proofs.lemmas.Bool.{lt-ltb, le-ltb}
use Rattle.std.proofs.lemmas.List.{map-append, take_more, take_at}
use Rattle.ll_laws.specs.Pool.{Alternative}
use Rattle.ll_core.specs.Cursor.{begin}
use Rattle.ll_core.specs.Slots.{stop_in}
use Rattle.ll_core.specs.declared.cursor.Stop.{Stop}
use Rattle.ll_core.proofs.cursor.advance.Goals as goal
use Rattle.ll_core.proofs.cursor.advance.Goals.{then-stop-len, else-stop-len}

pub push_reserved-requires-in-loop-batch : goal.push_reserved-requires-in-loop-batch
push_reserved-requires-in-loop-batch c =
    let old = c.args.stack.now in let done = c.take_last-done.new.self in let batches = c.args.published.now.items in
    let taken : length old.items ≡ length done.items + 1 = ap length c.take_last-done.ensures.items ∙ length-append done.items (c.take_last-done.result ∷ []) in
    let low = c.requires.room in let cap = c.take_last-done.ensures.capacity in
    let room : length c.if-stop-len.stack.items + length batches ≤ vec_capacity c.if-stop-len.stack =
    elim c.if-stop-len.branch as (λ _. length c.if-stop-len.stack.items + length batches ≤ vec_capacity c.if-stop-len.stack) [
      | then-stop-len w ↦ subst (λ (v : Vec Stop Global). length v.items + length batches ≤ vec_capacity v) (sym w.stack-is)
          (let more = ap length w.push_reserved.ensures.items ∙ length-append done.items (record { batch = c.args.stop.batch; k = c.args.stop.k + 1 } ∷ []) in
          let kept = w.push_reserved.ensures.capacity in omega arith)
      | else-stop-len w ↦ subst (λ (v : Vec Stop Global). length v.items + length batches ≤ vec_capacity v) (sym w.stack-is) (omega arith)
    ] in
    let i = c.loop-batch.invariant in
    let all : vec_len c.loop-batch.stack ≡ length c.loop-batch.stack.items = omega (arith, c.loop-batch.stack.ok.0) in
    let inside : c.loop-batch.batch-index < length batches =
    subst (λ l. c.loop-batch.batch-index < length l) c.deref-batch-items.ensures.value c.loop-batch-test.true in
    let same = i.0 in let far = i.1 in omega arith

pub loop-batch-preserved : goal.loop-batch-preserved
loop-batch-preserved c =
    let i = c.loop-batch.invariant in let push = c.push_reserved-in-loop-batch.ensures in
    let stack = c.loop-batch.stack.items in let first = c.if-stop-len.stack.items in
    let batches = c.args.published.now.items in let at = c.loop-batch.batch-index in
    let b = get_or c.deref-batch-items.result.now at 0 in let stop : Stop = record { batch = b; k = 0 } in
    let read = c.deref-batch-items.ensures.value in
    let inside : at < length batches = subst (λ l. at < length l) read c.loop-batch-test.true in
    let more : take (at + 1) batches ≡ take at batches ++ b ∷ [] =
    take_more batches at 0 inside ∙ ap (λ l. take at batches ++ get_or l at 0 ∷ []) (sym read) in (
      push.capacity ∙ i.0,
      (let l = ap length push.items ∙ length-append stack (stop ∷ []) in let far = i.1 in omega arith),
      ap (map stop_in) push.items ∙ (map-append stop_in stack (stop ∷ []) ∙ (ap (λ l. l ++ begin b ∷ []) i.2
          ∙ (append_assoc (map stop_in first) (map begin (take at batches)) (begin b ∷ [])
          ∙ ap (λ l. map stop_in first ++ l) (sym (map-append begin (take at batches) (b ∷ [])) ∙ ap (map begin) (sym more))))),
    )

pub returns-clause-items : goal.returns-clause-items
returns-clause-items c base e =
    let done = c.take_last-done.new.self.items in let first = c.if-stop-len.stack.items in
    let batches = c.args.published.now.items in let at = c.loop-batch.batch-index in
    let stop = c.args.stop in let top = c.take_last-done.result in
    let next : Alternative = record { batch = stop.batch; k = stop.k + 1 } in
    let ends : base ++ stop ∷ [] ≡ done ++ top ∷ [] = sym e ∙ c.take_last-done.ensures.items in
    let same : length base ≡ length done =
    (let l = sym (length-append base (stop ∷ [])) ∙ (ap length ends ∙ length-append done (top ∷ [])) in omega arith) in
    let below : done ≡ base =
    sym (take_at done (top ∷ []) (length base) (sym same)) ∙ (ap (take (length base)) (sym ends) ∙ take-append_seam base (stop ∷ [])) in
    let begun : map stop_in first ≡ map stop_in base ++ (if nat_lt (stop.k + 1) c.args.len then next ∷ [] else []) =
    elim c.if-stop-len.branch as (λ _. map stop_in first ≡ map stop_in base ++ (if nat_lt (stop.k + 1) c.args.len then next ∷ [] else [])) [
      | then-stop-len w ↦ (λ j. map stop_in (w.stack-is j).items) ∙ (ap (map stop_in) w.push_reserved.ensures.items
          ∙ (map-append stop_in done (record { batch = stop.batch; k = stop.k + 1 } ∷ []) ∙ (ap (λ l. map stop_in l ++ next ∷ []) below
          ∙ ap (λ t. map stop_in base ++ (if t then next ∷ [] else [])) (sym (lt-ltb (stop.k + 1) c.args.len w.if-stop-len.true)))))
      | else-stop-len w ↦ (λ j. map stop_in (w.stack-is j).items) ∙ (ap (map stop_in) below ∙ (sym (append-nil (map stop_in base))
          ∙ ap (λ t. map stop_in base ++ (if t then next ∷ [] else [])) (sym (le-ltb (stop.k + 1) c.args.len w.if-stop-len.false))))
    ] in
    let read : length batches ≤ at = subst (λ l. length l ≤ at) c.deref-batch-items.ensures.value c.loop-batch-test.false in
    let whole : take at batches ≡ batches = take_all at batches read in
    c.loop-batch.invariant.2 ∙ (λ j. begun j ++ map begin (whole j))
