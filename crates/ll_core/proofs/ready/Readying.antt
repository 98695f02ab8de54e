-- What `ready` finds on top of its stack.
use Rattle.std.proofs.Common.{◌≡◌, ℕ, zero, suc, ◌+◌, ◌-◌, ◌<◌, ◌≤◌, List, [], ◌∷◌, ◌++◌, true, false, length, map, refl, sym, ap, ◌∙◌, subst, ⊎_elim, arith}
use Rattle.std.proofs.Common.{Some, None, get_or}
use Rattle.std.specs.Prelude.{slice_get, slice_index}
use Rattle.std.proofs.lemmas.Bool.{cases_Bool, true≢false}
use Rattle.std.proofs.lemmas.List.{get_or_default, map_push, length-append, length-map}
use Rattle.ll_list_laws.proofs.CallerLemmas.{some_is, none_not_some}
use Rattle.ll_laws.specs.Pool.{Owed, Status, Open, Closed, Taken, Piece, PoolData, Alternative}
use Rattle.ll_laws.specs.Spread.{last_first, length_of, is_of, piece_of, kids_of}
use Rattle.ll_laws.specs.Sound.{is_taken_piece, is_taken_status}
use Rattle.ll_core.specs.Cursor.{PointsIn, rest, untaken}
use Rattle.ll_core.specs.Formed.{place_of, place_in}
use Rattle.ll_core.specs.Whole.{Whole}
use Rattle.ll_core.specs.Slots.{stop_in}
use Rattle.ll_laws.specs.CoreEvents.{Next}
use Rattle.ll_laws.specs.declared.Event.{Event}
use Rattle.ll_core.specs.declared.room.Waiting.{Waiting}
use Rattle.ll_core.specs.declared.cursor.Stop.{Stop}
use Rattle.ll_core.proofs.events.Pieces.{found, find_none, is_of_parts, get_below, get_front}
use Rattle.ll_core.proofs.sound.Facts.{owed_before, get_map, get_map_at}
use Rattle.ll_core.proofs.sound.Forming.{get_short}
use Rattle.ll_core.proofs.ready.Pointing.{top_inside, top_untaken, step, after_top, weight, weight_untaken}

last_split : {X : Type 0} (xs : List X) (x : X) → slice_get xs (length xs - 1) ≡ Some x → (base : List X) × (xs ≡ base ++ x ∷ [])
last_split [] x e = absurd (none_not_some x e)
last_split (y ∷ []) x e = ([], ap (λ z. z ∷ []) (some_is y x e))
last_split (y ∷ z ∷ zs) x e = let n : length (y ∷ z ∷ zs) - 1 ≡ suc (length (z ∷ zs) - 1) = omega arith in
    let r = last_split (z ∷ zs) x (sym (ap (slice_get (y ∷ z ∷ zs)) n) ∙ e) in (y ∷ r.0, ap (λ l. y ∷ l) r.1)

open_left : (s : Status Event) → is_taken_status s ≡ false → ((r : Owed Event) → s ≡ Closed r → ⊥) → s ≡ Open
open_left Open t h = refl
open_left (Closed r) t h = absurd (h r refl)
open_left Taken t h = absurd (true≢false t)

weight_in : (pieces : List (Piece Event)) (i : ℕ) (x : Piece Event) → slice_get pieces i ≡ Some x → weight x ≤ untaken pieces
weight_in [] i x e = absurd (none_not_some x e)
weight_in (y ∷ pieces) zero x e = let h : weight y ≡ weight x = ap weight (some_is y x e) in let c : untaken (y ∷ pieces) ≡ weight y + untaken pieces = refl in
    omega arith
weight_in (y ∷ pieces) (suc i) x e = let h = weight_in pieces i x e in let c : untaken (y ∷ pieces) ≡ weight y + untaken pieces = refl in omega arith

module _ {N : Type 0} {alternatives : N → List (Owed Event)} {v : PoolData N Event} {waiting : List (Waiting N)} {starts : List ℕ} (stops : List Stop)
    {capacity stack_capacity : ℕ} (h : Whole alternatives v waiting starts (map stop_in stops) capacity stack_capacity)
    {stop : Stop} (e : slice_get stops (length stops - 1) ≡ Some stop) where
  pub base_of : (base : List Stop) × (stops ≡ base ++ stop ∷ [])
  base_of = last_split stops stop e

  pub pointed : PointsIn alternatives v (map stop_in base_of.0 ++ stop_in stop ∷ [])
  pointed = subst (PointsIn alternatives v) (ap (map stop_in) base_of.1 ∙ map_push stop_in base_of.0 stop) h.points

  pub inside : stop.k < length_of alternatives v stop.batch
  inside = top_inside alternatives v h.shaped (map stop_in base_of.0) (stop_in stop) pointed

  pub batch_below : stop.batch < length v.batches
  batch_below = owed_before alternatives v.batches stop.batch stop.k inside

  pub start_below : stop.batch < length starts
  start_below = let b = batch_below in let l = h.long in omega arith

  number_at : slice_get (map place_of v.pieces ++ map (λ (w : Waiting N). place_in w) waiting) (slice_index starts stop.batch + stop.k) ≡ Some (stop_in stop)
  number_at = h.begins stop.batch stop.k inside

  pub number_below : slice_index starts stop.batch + stop.k < length v.pieces + length waiting
  number_below =
      let l = get_below (map place_of v.pieces ++ map (λ (w : Waiting N). place_in w) waiting) (slice_index starts stop.batch + stop.k) (stop_in stop) number_at
      in
      let a = length-append (map place_of v.pieces) (map (λ (w : Waiting N). place_in w) waiting) in let b = length-map v.pieces place_of in
      let c = length-map waiting (λ (w : Waiting N). place_in w) in omega arith

  pub is_next : Next alternatives v (stop_in stop)
  is_next = record {
    front = pointed.front;
    back = last_first (rest (kids_of v.pieces) (length_of alternatives v) (length v.batches))
        (after_top alternatives v h.shaped (map stop_in base_of.0) (stop_in stop) pointed (kids_of v.pieces stop.batch stop.k));
    order = pointed.order ∙ ap (λ l. pointed.front ++ l) (step alternatives v h.shaped (map stop_in base_of.0) (stop_in stop) pointed);
    before = pointed.before;
    untaken = top_untaken alternatives v h.shaped (map stop_in base_of.0) (stop_in stop) pointed;
  }

  pub not_there : length v.pieces ≤ slice_index starts stop.batch + stop.k → piece_of v.pieces (stop_in stop) ≡ None
  not_there past = find_none (is_of (stop_in stop)) v.pieces (λ i x g. ⊎_elim
      (λ (t : is_of (stop_in stop) x ≡ true).
      let q = is_of_parts (stop_in stop) x t in
      let here : slice_get (map place_of v.pieces ++ map (λ (w : Waiting N). place_in w) waiting) i ≡ Some (place_of x) =
      get_front (map place_of v.pieces) (map (λ (w : Waiting N). place_in w) waiting) i (place_of x) (get_map_at place_of v.pieces i x g) in
      let same : Some (place_of x) ≡ Some (stop_in stop) = λ j. Some (record { batch = q.0 j; k = q.1 j }) in
      let z = h.formed.order.apart i (slice_index starts stop.batch + stop.k) (stop_in stop) (here ∙ same) number_at in
      let l = get_below v.pieces i x g in absurd (omega arith))
      (λ (t : is_of (stop_in stop) x ≡ false). t)
      (cases_Bool (is_of (stop_in stop) x)))

  pub there : slice_index starts stop.batch + stop.k < length v.pieces
      → (x : Piece Event) × (slice_get v.pieces (slice_index starts stop.batch + stop.k) ≡ Some x) × (x.batch ≡ stop.batch) × (x.k ≡ stop.k)
  there low =
      let l = length-map v.pieces place_of in
      let g = get_short (map place_of v.pieces) (map (λ (w : Waiting N). place_in w) waiting) (slice_index starts stop.batch + stop.k) (stop_in stop)
      (omega arith) number_at in
      let r = get_map place_of v.pieces (slice_index starts stop.batch + stop.k) (stop_in stop) g in
      (r.0, r.1, ap (λ (a : Alternative). a.batch) r.2, ap (λ (a : Alternative). a.k) r.2)

  pub top_status : (i : ℕ) (x : Piece Event) → slice_get v.pieces i ≡ Some x → x.batch ≡ stop.batch → x.k ≡ stop.k → is_taken_status x.status ≡ false
  top_status i x g b k = sym (ap is_taken_piece (found v.pieces h.shaped.apart i x (stop_in stop) g b k))
      ∙ top_untaken alternatives v h.shaped (map stop_in base_of.0) (stop_in stop) pointed

  pub top_open : (i : ℕ) (x : Piece Event) → slice_get v.pieces i ≡ Some x → x.batch ≡ stop.batch → x.k ≡ stop.k → ((r : Owed Event) → x.status ≡ Closed r → ⊥)
      → x.status ≡ Open
  top_open i x g b k closed = open_left x.status (top_status i x g b k) closed

  pub room_for_kids : (i : ℕ) (x : Piece Event) → slice_get v.pieces i ≡ Some x → x.batch ≡ stop.batch → x.k ≡ stop.k
      → length stops + length x.published ≤ stack_capacity
  room_for_kids i x g b k =
      let d = h.points.deep in let w = h.wide in let l = length-map stops stop_in in
      let y = weight_in v.pieces i x g in let z = weight_untaken x _ refl (top_status i x g b k) in omega arith

  pub start_is : (start : ℕ) → start ≡ get_or starts stop.batch start → start ≡ slice_index starts stop.batch
  start_is start r = r ∙ get_or_default starts stop.batch start 0 start_below
