use Rattle.std.proofs.lemmas.Result.{IfOk-from_err}
use Rattle.std.proofs.Common.{◌≡◌, ℕ, ◌+◌, ◌<◌, ◌≤◌, List, ◌++◌, map, length, refl, ap, ◌∙◌, subst, sym, arith, if◌then◌else◌}
use Rattle.std.proofs.Math.ListN.{set}
use Rattle.std.proofs.lemmas.List.{length-set, length-append, get_or-set_same}
use Rattle.std.specs.Prelude.{OnOk, OnErr, is_ok}
use Rattle.std.specs.declared.result.Result.{Result}
use Rattle.std.specs.declared.result.Result.TheVariants.{Ok, Err}
use Rattle.std.specs.Vec.{vec_len, vec_capacity}
use Rattle.ll_list_laws.proofs.CallerLemmas.{OnErr-always}
use Rattle.ll_core.specs.declared.room.Slot.{Slot}
use Rattle.ll_core.specs.Slots.{piece_in, status_in}
use Rattle.ll_core.proofs.sound.Forming.{slot_kept}
use Rattle.ll_core.proofs.room.take_room.Goals as goal

same : (n : ℕ) → n ≤ n
same n = omega arith

below : (m n : ℕ) → m + 1 ≤ n → m < n
below m n h = omega arith

room : {S W : Type 0} (slots : List S) (at : ℕ) (new : S) (waiting copies : List W) (n w k capacity : ℕ) → n ≡ length slots → w ≡ length waiting
    → k ≡ length copies → n + (w + k) ≤ capacity → length (set slots at new) + length (waiting ++ copies) ≤ capacity
room slots at new waiting copies n w k capacity a b d e = let l = length-set slots at new in let m = length-append waiting copies in omega arith

-- copies wait where there was room for them, and what waited stays where there was none
waits : {A B W : Type 0} (r : Result A B) (waiting copies now : List W) (P Q : Type 0) (n capacity : ℕ)
    → now ≡ (if is_ok r then waiting ++ copies else waiting) → P → n + length (waiting ++ copies) ≤ capacity → Q
    → OnOk r ((now ≡ waiting ++ copies) × P × (n + length now ≤ capacity) × Q)
waits (Ok a) waiting copies now P Q n capacity e p fits q = (e, p, subst (λ ws. n + length ws ≤ capacity) (sym e) fits, q)
waits (Err b) waiting copies now P Q n capacity e p fits q = _

stays : {A B W : Type 0} (r : Result A B) (waiting copies now : List W) → now ≡ (if is_ok r then waiting ++ copies else waiting) → OnErr r (now ≡ waiting)
stays (Ok a) waiting copies now e = _
stays (Err b) waiting copies now e = e

pub returns-in_err-reserve-3-clause-pieces : goal.returns-in_err-reserve-3-clause-pieces
returns-in_err-reserve-3-clause-pieces g c =
    let old = c.index_mut.result.now in
    slot_kept c.reserve-2.new.self.items c.args.at old _ (subst (λ l. c.args.at < length l) (sym c.reserve-2.ensures.items) c.requires.at)
    c.index_mut.ensures.value (λ i. record {
      batch = old.batch;
      k = old.k;
      worker = old.worker;
      published = c.reserve-3.ensures.items i;
      status =
          status_in old.state;
    })
    ∙ ap (map piece_in) c.reserve-2.ensures.items

pub returns-clause-pieces : goal.returns-clause-pieces
returns-clause-pieces g c =
    let old = c.index_mut.result.now in
    slot_kept c.reserve-2.new.self.items c.args.at old _ (subst (λ l. c.args.at < length l) (sym c.reserve-2.ensures.items) c.requires.at)
    c.index_mut.ensures.value (λ i. record {
      batch = old.batch;
      k = old.k;
      worker = old.worker;
      published = c.reserve-3.ensures.items i;
      status =
          status_in old.state;
    })
    ∙ ap (map piece_in) c.reserve-2.ensures.items

pub returns-in_err-reserve-clause-ok : goal.returns-in_err-reserve-clause-ok
returns-in_err-reserve-clause-ok g c = IfOk-from_err c.from_residual.result _ c.from_residual.ensures.0

pub returns-in_err-reserve-2-clause-ok : goal.returns-in_err-reserve-2-clause-ok
returns-in_err-reserve-2-clause-ok g c = IfOk-from_err c.from_residual-in_err-reserve-2.result _ c.from_residual-in_err-reserve-2.ensures.0

pub returns-in_err-reserve-3-clause-ok : goal.returns-in_err-reserve-3-clause-ok
returns-in_err-reserve-3-clause-ok g c = IfOk-from_err c.from_residual-in_err-reserve-3.result _ c.from_residual-in_err-reserve-3.ensures.0

pub returns-in_err-reserve-clause-batches : goal.returns-in_err-reserve-clause-batches
returns-in_err-reserve-clause-batches g c = c.reserve.ensures.items

pub returns-in_err-reserve-2-clause-batches : goal.returns-in_err-reserve-2-clause-batches
returns-in_err-reserve-2-clause-batches g c = c.reserve.ensures.items

pub returns-in_err-reserve-3-clause-batches : goal.returns-in_err-reserve-3-clause-batches
returns-in_err-reserve-3-clause-batches g c = c.reserve.ensures.items

pub returns-clause-batches : goal.returns-clause-batches
returns-clause-batches g c = c.reserve.ensures.items

pub returns-in_err-reserve-clause-pieces : goal.returns-in_err-reserve-clause-pieces
returns-in_err-reserve-clause-pieces g c = refl

pub returns-in_err-reserve-clause-capacity : goal.returns-in_err-reserve-clause-capacity
returns-in_err-reserve-clause-capacity g c = same c.args.pieces.now.cap

pub returns-in_err-reserve-2-clause-pieces : goal.returns-in_err-reserve-2-clause-pieces
returns-in_err-reserve-2-clause-pieces g c = ap (map piece_in) c.reserve-2.ensures.items

pub returns-in_err-reserve-2-clause-capacity : goal.returns-in_err-reserve-2-clause-capacity
returns-in_err-reserve-2-clause-capacity g c = c.reserve-2.ensures.capacity

pub returns-in_err-reserve-3-clause-capacity : goal.returns-in_err-reserve-3-clause-capacity
returns-in_err-reserve-3-clause-capacity g c = c.reserve-2.ensures.capacity

pub returns-clause-capacity : goal.returns-clause-capacity
returns-clause-capacity g c = c.reserve-2.ensures.capacity

pub returns-in_err-reserve-clause-err : goal.returns-in_err-reserve-clause-err
returns-in_err-reserve-clause-err g c = OnErr-always c.from_residual.result refl

pub returns-in_err-reserve-2-clause-err : goal.returns-in_err-reserve-2-clause-err
returns-in_err-reserve-2-clause-err g c = OnErr-always c.from_residual-in_err-reserve-2.result refl

pub returns-in_err-reserve-3-clause-err : goal.returns-in_err-reserve-3-clause-err
returns-in_err-reserve-3-clause-err g c = OnErr-always c.from_residual-in_err-reserve-3.result refl

pub index_mut-requires : goal.index_mut-requires
index_mut-requires g c =
    subst (λ n. c.args.at < n) (sym c.reserve-2.new.self.ok.0) (subst (λ l. c.args.at < length l) (sym c.reserve-2.ensures.items) c.requires.at)

pub returns-clause-err : goal.returns-clause-err
returns-clause-err g c = stays c.append.result c.args.waiting.now.items c.args.copies.now.items c.append.new.self.items c.append.ensures.items

pub returns-clause-ok : goal.returns-clause-ok
returns-clause-ok g c =
    let old = c.index_mut.result.now in let slots = c.reserve-2.new.self in
    let new : Slot _ = record { batch = old.batch; k = old.k; worker = old.worker; published = c.reserve-3.new.self; state = old.state } in
    let low = subst (λ l. c.args.at < length l) (sym c.reserve-2.ensures.items) c.requires.at in
    waits c.append.result c.args.waiting.now.items c.args.copies.now.items c.append.new.self.items _ _ _ _ c.append.ensures.items
    (below _ _ c.in_ok-reserve.ensures.ok)
    (room slots.items c.args.at new c.args.waiting.now.items c.args.copies.now.items slots.len c.len.result c.len-2.result slots.cap slots.ok.0
    (c.len.ensures ∙ c.args.waiting.now.ok.0) (c.len-2.ensures ∙ c.args.copies.now.ok.0) c.in_ok-reserve-2.ensures.ok)
    (λ read. subst (λ (s : Slot _). vec_len s.published < vec_capacity s.published)
    (sym (get_or-set_same slots.items c.args.at new read low)) (below _ _ c.in_ok-reserve-3.ensures.ok))
