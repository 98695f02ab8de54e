-- What holds of each pool, through its calls.
use Rattle.std.proofs.Common.{◌≡◌, ◌⊎◌, ℕ, zero, suc, ◌+◌, ◌-◌, ◌<◌, ◌≤◌, List, [], ◌∷◌, ◌++◌, Bool, true, false, length, map, refl, sym, ap, ◌∙◌, subst}
use Rattle.std.proofs.Common.{⊎_elim, inl, inr, arith, append_assoc, Some}
use Rattle.std.specs.Prelude.{slice_get}
use Rattle.std.specs.Arc.{arc_value}
use Rattle.std.specs.declared.sync.Arc.{Arc}
use Rattle.std.proofs.Common.{Global, get_or}
use Rattle.std.proofs.Math.ListN.{set}
use Rattle.ll_core.proofs.events.Publishes.{get_other}
use Rattle.std.proofs.lemmas.List.{map_push, length-append, length-map, map-append, length_push}
use Rattle.std.proofs.lemmas.Bool.{cases_eq}
use Rattle.ll_list_laws.proofs.CallerLemmas.{some_is, none_not_some}
use Rattle.ll_laws.specs.Pool.{Owed, Open, Closed, Piece, PoolData, Alternative}
use Rattle.ll_laws.specs.Spread.{owed_by, list_or_empty, alternatives_of, numbers}
use Rattle.ll_laws.specs.Sound.{Every, is_open, count_open}
use Rattle.ll_laws.specs.CoreEvents.{claimed, new_piece, Untried, change, with_batch, with_status, published, reported}
use Rattle.ll_core.specs.Order.{Orderly}
use Rattle.ll_core.specs.Copies.{AreCopies}
use Rattle.ll_core.specs.Formed.{Formed, place_of, place_in}
use Rattle.ll_laws.specs.declared.Event.{Event}
use Rattle.ll_core.specs.declared.room.Waiting.{Waiting}
use Rattle.ll_core.specs.declared.room.Slot.{Slot}
use Rattle.ll_core.specs.Slots.{piece_in, status_in}
use Rattle.ll_core.proofs.walks.Once.{one_if}
use Rattle.ll_core.proofs.events.Pieces.{length-change, get_front, get_seam, get_below}
use Rattle.ll_core.proofs.sound.Facts.{get_map, get_map_at, owed_past}
use Rattle.ll_core.proofs.events.Statuses.{open_changed}

open_push : (pieces : List (Piece Event)) (y : Piece Event) → y.status ≡ Open → count_open (pieces ++ y ∷ []) ≡ count_open pieces + 1
open_push [] y o = let h : one_if (is_open y.status) ≡ 1 = ap (λ s. one_if (is_open s)) o in omega arith
open_push (x ∷ pieces) y o = let h = open_push pieces y o in omega arith

get_seam_more : {X : Type 0} (xs ys : List X) (y : X) → slice_get (xs ++ y ∷ ys) (length xs) ≡ Some y
get_seam_more [] ys y = refl
get_seam_more (x ∷ xs) ys y = get_seam_more xs ys y

pub get_short : {X : Type 0} (xs ys : List X) (i : ℕ) (x : X) → i < length xs → slice_get (xs ++ ys) i ≡ Some x → slice_get xs i ≡ Some x
get_short [] ys i x low e = absurd (omega arith)
get_short (y ∷ xs) ys zero x low e = e
get_short (y ∷ xs) ys (suc i) x low e = get_short xs ys i x (omega arith) e

module _ {N : Type 0} (alternatives : N → List (Owed Event)) (batches : List N) where
  pub order_is : (pieces : List (Piece Event)) (w : Waiting N) (rest : List (Waiting N)) (y : Piece Event) → place_of y ≡ place_in w
      → map place_of (pieces ++ y ∷ []) ++ map (λ (w : Waiting N). place_in w) rest ≡ map place_of pieces ++ map (λ (w : Waiting N). place_in w) (w ∷ rest)
  order_is pieces w rest y same =
      ap (λ l. l ++ map (λ (w : Waiting N). place_in w) rest) (map_push place_of pieces y)
      ∙ (append_assoc (map place_of pieces) (place_of y ∷ []) (map (λ (w : Waiting N). place_in w) rest)
      ∙ ap (λ a. map place_of pieces ++ a ∷ map (λ (w : Waiting N). place_in w) rest) same)

  pub formed_claimed : (pieces : List (Piece Event)) (w : Waiting N) (rest : List (Waiting N)) (capacity busy : ℕ) (y : Piece Event)
      → Formed alternatives batches pieces (w ∷ rest) capacity busy → place_of y ≡ place_in w → y.status ≡ Open
      → Formed alternatives batches (pieces ++ y ∷ []) rest capacity (busy + 1)
  formed_claimed pieces w rest capacity busy y h same o =
      let l = length_push pieces y in let r = h.room in let s = h.small in let f = h.few in
      record {
        order = subst (Orderly (λ b. length (owed_by (map alternatives batches) b))) (sym (order_is pieces w rest y same)) h.order;
        copies = λ i x e. h.copies (suc i) x e;
        room = omega arith;
        small = omega arith;
        few = omega arith;
        busy = ap (λ n. n + 1) h.busy ∙ sym (open_push pieces y o);
      }

  -- the first that waits is the next of its batch
  pub next_untried : (p : PoolData N Event) (w : Waiting N) (rest : List (Waiting N)) (capacity busy : ℕ) → p.batches ≡ batches → 0 < p.untried
      → Formed alternatives batches p.pieces (w ∷ rest) capacity busy → Untried alternatives p w.batch w.k
  next_untried p w rest capacity busy same some h =
      let o = h.order in
      let places : List Alternative = map place_of p.pieces in
      let at : slice_get (places ++ map (λ (w : Waiting N). place_in w) (w ∷ rest)) (length places) ≡ Some (place_in w) =
      get_seam_more places (map (λ (w : Waiting N). place_in w) rest) (place_in w) in
      let long : length places ≡ length p.pieces = length-map p.pieces place_of in
      record {
        some = some;
        inside = subst (λ (bs : List N). w.k < length (owed_by (map alternatives bs) w.batch)) (sym same) (o.inside (length places) (place_in w) at);
        free = λ i x e b k.
            let here : slice_get (places ++ map (λ (w : Waiting N). place_in w) (w ∷ rest)) i ≡ Some (place_of x) =
            get_front places (map (λ (w : Waiting N). place_in w) (w ∷ rest)) i (place_of x) (get_map_at place_of p.pieces i x e) in
            let there : Some (place_of x) ≡ Some (place_in w) = λ j. Some (record { batch = b j; k = k j }) in
            let q = o.apart i (length places) (place_in w) (here ∙ there) at in
            let low = get_below p.pieces i x e in omega arith;
        next = λ j low.
            let q = o.next (length places) (place_in w) at j low in
            let e = get_short places (map (λ (w : Waiting N). place_in w) (w ∷ rest)) q.0 (record { batch = w.batch; k = j }) q.1 q.2 in
            let r = get_map place_of p.pieces q.0 (record { batch = w.batch; k = j }) e in
            (q.0, r.0, r.1, ap (λ (a : Alternative). a.batch) r.2, ap (λ (a : Alternative). a.k) r.2);
      }

pub same_claimed : {N : Type 0} (batches : List N) (pieces pieces' : List (Piece Event)) (np nw np' nw' workers busy : ℕ) (starved stopped : Bool) (w b k : ℕ)
    → pieces' ≡ pieces ++ new_piece w b k ∷ [] → np' + nw' ≡ np + nw → nw' ≡ nw - 1
    → let before : PoolData N Event = record {
      batches = batches;
      pieces = pieces;
      workers = workers;
      busy = busy;
      total = np + nw;
      untried = nw;
      starved =
          starved;
      stopped = stopped;
    } in
    let after : PoolData N Event = record {
      batches = batches;
      pieces = pieces';
      workers = workers;
      busy = busy + 1;
      total = np' + nw';
      untried = nw';
      starved =
          starved;
      stopped = stopped;
    } in
    after ≡ claimed before w b k
same_claimed batches pieces pieces' np nw np' nw' workers busy starved stopped w b k e t u =
    λ i. record { batches = batches; pieces = e i; workers = workers; busy = busy + 1; total = t i; untried = u i; starved = starved; stopped = stopped }

open_few : (pieces : List (Piece Event)) → count_open pieces ≤ length pieces
open_few [] = omega arith
open_few (x ∷ pieces) = let h = open_few pieces in one (is_open x.status) h
  where
    one : (b : Bool) → count_open pieces ≤ length pieces → one_if b + count_open pieces ≤ suc (length pieces)
    one true h = omega arith
    one false h = omega arith

module _ {N E : Type 0} (alternatives : N → List (Owed Event)) (batches : List N) (slots : List (Slot E)) (waiting : List (Waiting N)) (w : Waiting N)
    (rest : List (Waiting N)) (capacity busy : ℕ)
    (formed : Formed alternatives batches (map piece_in slots) waiting capacity busy) (popped : waiting ≡ w ∷ rest) where
  here : Formed alternatives batches (map piece_in slots) (w ∷ rest) capacity busy
  here = subst (λ ws. Formed alternatives batches (map piece_in slots) ws capacity busy) popped formed

  pub busy_fits : busy + 1 ≤ 4294967295
  busy_fits = let s = here.small in let b = here.busy in let f = open_few (map piece_in slots) in omega arith

  pub room_for_one : length slots < capacity
  room_for_one = let r = here.room in let l = length-map slots piece_in in omega arith

  pub claim_forms : (slots' : List (Slot E)) (slot : Slot E) (capacity' : ℕ) → slots' ≡ slots ++ slot ∷ [] → capacity' ≡ capacity
      → place_of (piece_in slot) ≡ place_in w → status_in slot.state ≡ Open → Formed alternatives batches (map piece_in slots') rest capacity' (busy + 1)
  claim_forms slots' slot capacity' e c same o =
      subst (λ n. Formed alternatives batches (map piece_in slots') rest n (busy + 1)) (sym c)
      (subst (λ ps. Formed alternatives batches ps rest capacity (busy + 1)) (sym (ap (map piece_in) e ∙ map_push piece_in slots slot))
      (formed_claimed alternatives batches (map piece_in slots) w rest capacity busy (piece_in slot) here same o))

  pub claim_is : (slots' : List (Slot E)) (slot : Slot E) (workers : ℕ) (starved stopped : Bool) (worker : ℕ) → slots' ≡ slots ++ slot ∷ []
      → piece_in slot ≡ new_piece worker w.batch w.k
      → let before : PoolData N Event = record {
        batches = batches;
        pieces = map piece_in slots;
        workers = workers;
        busy = busy;
        total =
            length slots + length waiting;
        untried = length waiting;
        starved = starved;
        stopped = stopped;
      } in
      let after : PoolData N Event = record {
        batches = batches;
        pieces = map piece_in slots';
        workers = workers;
        busy = busy + 1;
        total =
            length slots' + length rest;
        untried = length rest;
        starved = starved;
        stopped = stopped;
      } in
      Untried alternatives before w.batch w.k × (slice_get batches w.batch ≡ Some (arc_value w.copy)) × (length slots ≡ length (map piece_in slots))
      × (after ≡ claimed before worker w.batch w.k)
  claim_is slots' slot workers starved stopped worker e same =
      let before : PoolData N Event = record {
        batches = batches;
        pieces = map piece_in slots;
        workers = workers;
        busy = busy;
        total =
            length slots + length waiting;
        untried = length waiting;
        starved = starved;
        stopped = stopped;
      } in
      let l : length waiting ≡ length (w ∷ rest) = ap length popped in
      let k : length slots' ≡ length (slots ++ slot ∷ []) = ap length e in
      let m = length_push slots slot in (
        next_untried alternatives batches before w rest capacity busy refl (omega arith) here,
        here.copies 0 w refl,
        sym (length-map slots piece_in),
        same_claimed batches (map piece_in slots) (map piece_in slots') (length slots) (length waiting) (length slots') (length rest) workers busy starved
            stopped worker w.batch w.k
            (ap (map piece_in) e ∙ (map_push piece_in slots slot ∙ ap (λ x. map piece_in slots ++ x ∷ []) same)) (omega arith) (omega arith),
      )

get_cases : {X : Type 0} (xs ys : List X) (i : ℕ) (x : X) → slice_get (xs ++ ys) i ≡ Some x
    → ((i < length xs) × (slice_get xs i ≡ Some x)) ⊎ ((j : ℕ) × (i ≡ length xs + j) × (slice_get ys j ≡ Some x))
get_cases [] ys i x e = inr (i, omega arith, e)
get_cases (y ∷ xs) ys zero x e = inl (omega arith, e)
get_cases (y ∷ xs) ys (suc i) x e = ⊎_elim
    (λ (h : (i < length xs) × (slice_get xs i ≡ Some x)). let l = h.0 in inl (omega arith, h.1))
    (λ (h : (j : ℕ) × (i ≡ length xs + j) × (slice_get ys j ≡ Some x)). let l = h.1 in inr (h.0, omega arith, h.2))
    (get_cases xs ys i x e)

pub get_right : {X : Type 0} (xs ys : List X) (j n : ℕ) → n ≡ length xs + j → slice_get (xs ++ ys) n ≡ slice_get ys j
get_right [] ys j n e = let h : n ≡ j = omega arith in ap (slice_get ys) h
get_right (x ∷ xs) ys j zero e = absurd (omega arith)
get_right (x ∷ xs) ys j (suc n) e = get_right xs ys j n (omega arith)

new_at : (b from m j : ℕ) (a : Alternative) → slice_get (map (λ k. record { batch = b; k = k }) (numbers from m)) j ≡ Some a
    → (j < m) × (a ≡ record { batch = b; k = from + j })
new_at b from zero j a e = absurd (none_not_some a e)
new_at b from (suc m) zero a e = let h : from + 0 ≡ from = omega arith in
    (omega arith, sym (some_is (record { batch = b; k = from }) a e) ∙ (λ i. record { batch = b; k = sym h i }))
new_at b from (suc m) (suc j) a e = let r = new_at b (suc from) m j a e in let l = r.0 in let h : suc from + j ≡ from + suc j = omega arith in
    (omega arith, r.1 ∙ (λ i. record { batch = b; k = h i }))

pub new_there : (b from m j : ℕ) → j < m → slice_get {X = Alternative} (map (λ k. record { batch = b; k = k }) (numbers from m)) j
    ≡ Some (record { batch = b; k = from + j })
new_there b from zero j low = absurd (omega arith)
new_there b from (suc m) zero low = let h : from ≡ from + 0 = omega arith in λ i. Some (record { batch = b; k = h i })
new_there b from (suc m) (suc j) low = let h : suc from + j ≡ from + suc j = omega arith in
    new_there b (suc from) m j (omega arith) ∙ (λ i. Some (record { batch = b; k = h i }))

module _ (len len' : ℕ → ℕ) (order : List Alternative) (n m : ℕ) (same : (b : ℕ) → (b ≡ n → ⊥)
    → len' b ≡ len b) (new : len' n ≡ m) (none : len n ≡ 0) (o : Orderly len order) where
  old_batch : (i : ℕ) (a : Alternative) → slice_get order i ≡ Some a → a.batch ≡ n → ⊥
  old_batch i a e b = let h : a.k < len n = subst (λ c. a.k < len c) b (o.inside i a e) in omega arith

  abbrev Fresh : ℕ → Alternative → Type 0
  Fresh i a = (j : ℕ) × (i ≡ length order + j) × (j < m) × (a ≡ record { batch = n; k = j })

  abbrev Old : ℕ → Alternative → Type 0
  Old i a = slice_get order i ≡ Some a

  sides : (i : ℕ) (a : Alternative) → slice_get (order ++ alternatives_of n m) i ≡ Some a → Old i a ⊎ Fresh i a
  sides i a e = ⊎_elim
      (λ (h : (i < length order) × (slice_get order i ≡ Some a)). inl h.1)
      (λ (h : (j : ℕ) × (i ≡ length order + j) × (slice_get (alternatives_of n m) j ≡ Some a)). let r = new_at n 0 m h.0 a h.2 in
      let z : 0 + h.0 ≡ h.0 = omega arith in inr (h.0, h.1, r.0, r.1 ∙ (λ i. record { batch = n; k = z i })))
      (get_cases order (alternatives_of n m) i a e)

  there : (j i : ℕ) → i ≡ length order + j → j < m → slice_get (order ++ alternatives_of n m) i ≡ Some (record { batch = n; k = j })
  there j i e low = get_right order (alternatives_of n m) j i e
      ∙ (new_there n 0 m j low ∙ (let z : 0 + j ≡ j = omega arith in λ i. Some (record { batch = n; k = z i })))

  k_of : (a : Alternative) (j : ℕ) → a ≡ record { batch = n; k = j } → a.k ≡ j
  k_of a j e = ap (λ (c : Alternative). c.k) e

  b_of : (a : Alternative) (j : ℕ) → a ≡ record { batch = n; k = j } → a.batch ≡ n
  b_of a j e = ap (λ (c : Alternative). c.batch) e

  pub orderly_more : Orderly len' (order ++ alternatives_of n m)
  orderly_more = record {
    inside = λ i a e. ⊎_elim
        (λ (h : Old i a). subst (λ l. a.k < l) (sym (same a.batch (old_batch i a h))) (o.inside i a h))
        (λ (h : Fresh i a). let l = h.2 in let k = k_of a h.0 h.3 in let q : len' a.batch ≡ m = ap len' (b_of a h.0 h.3) ∙ new in omega arith)
        (sides i a e);
    apart = λ i j a e f. ⊎_elim
        (λ (h : Old i a). ⊎_elim
        (λ (g : Old j a). o.apart i j a h g)
        (λ (g : Fresh j a). absurd (old_batch i a h (b_of a g.0 g.3)))
        (sides j a f))
        (λ (h : Fresh i a). ⊎_elim
        (λ (g : Old j a). absurd (old_batch j a g (b_of a h.0 h.3)))
        (λ (g : Fresh j a). let p = k_of a h.0 h.3 in let q = k_of a g.0 g.3 in let r = h.1 in let t = g.1 in omega arith)
        (sides j a f))
        (sides i a e);
    next = λ i a e j low. ⊎_elim
        (λ (h : Old i a). let r = o.next i a h j low in (r.0, r.1, get_front order (alternatives_of n m) r.0 (record { batch = a.batch; k = j }) r.2))
        (λ (h : Fresh i a). let k = k_of a h.0 h.3 in let r = h.1 in let l = h.2 in
        (length order + j, omega arith, there j (length order + j) refl (omega arith) ∙ (λ i. Some (record { batch = sym (b_of a h.0 h.3) i; k = j }))))
        (sides i a e);
    all = λ b k low. ⊎_elim
        (λ (e : b ≡ n). (
          length order + k,
          there k (length order + k) refl (subst (λ l. k < l) (ap len' e ∙ new) low)
              ∙ (λ i. Some (record { batch = sym e i; k = k })),
        ))
        (λ (e : b ≡ n → ⊥). let r = o.all b k (subst (λ l. k < l) (same b e) low) in
        (r.0, get_front order (alternatives_of n m) r.0 (record { batch = b; k = k }) r.1))
        (cases_eq b n);
  }

none_orderly : Orderly (λ b. 0) []
none_orderly = record {
  inside = λ i a e. absurd (none_not_some a e);
  apart = λ i j a e f. absurd (none_not_some a e);
  next =
      λ i a e j low. absurd (none_not_some a e);
  all = λ b k low. absurd (omega arith);
}

every_at : {X : Type 0} (P : X → Type 0) (xs : List X) → Every P xs → (i : ℕ) (x : X) → slice_get xs i ≡ Some x → P x
every_at P [] h i x e = absurd (none_not_some x e)
every_at P (y ∷ xs) h zero x e = subst P (some_is y x e) h.0
every_at P (y ∷ xs) h (suc i) x e = every_at P xs h.1 i x e

-- one slot written
pub slot_changed : {E : Type 0} (f : Piece Event → Piece Event) (slots : List (Slot E)) (i : ℕ) (old new : Slot E) → i < length slots → old ≡ get_or slots i old
    → piece_in new ≡ f (piece_in old) → map piece_in (set slots i new) ≡ change i f (map piece_in slots)
slot_changed f [] i old new low e same = absurd (omega arith)
slot_changed f (x ∷ slots) zero old new low e same = ap (λ y. y ∷ map piece_in slots) (same ∙ ap (λ s. f (piece_in s)) e)
slot_changed f (x ∷ slots) (suc i) old new low e same = ap (λ l. piece_in x ∷ l) (slot_changed f slots i old new (omega arith) e same)

pub slot_kept : {E : Type 0} (slots : List (Slot E)) (i : ℕ) (old new : Slot E) → i < length slots → old ≡ get_or slots i old → piece_in new ≡ piece_in old
    → map piece_in (set slots i new) ≡ map piece_in slots
slot_kept [] i old new low e same = absurd (omega arith)
slot_kept (x ∷ slots) zero old new low e same = ap (λ y. y ∷ map piece_in slots) (same ∙ ap piece_in e)
slot_kept (x ∷ slots) (suc i) old new low e same = ap (λ l. piece_in x ∷ l) (slot_kept slots i old new (omega arith) e same)

pub places_kept : (f : Piece Event → Piece Event) → ((x : Piece Event) → place_of (f x) ≡ place_of x) → (i : ℕ) (pieces : List (Piece Event))
    → map place_of (change i f pieces) ≡ map place_of pieces
places_kept f same zero [] = refl
places_kept f same (suc i) [] = refl
places_kept f same zero (x ∷ pieces) = ap (λ y. y ∷ map place_of pieces) (same x)
places_kept f same (suc i) (x ∷ pieces) = ap (λ l. place_of x ∷ l) (places_kept f same i pieces)

pub open_some : (pieces : List (Piece Event)) (i : ℕ) (x : Piece Event) → slice_get pieces i ≡ Some x → x.status ≡ Open → 1 ≤ count_open pieces
open_some [] i x e o = absurd (none_not_some x e)
open_some (y ∷ pieces) zero x e o = let h : one_if (is_open y.status) ≡ 1 =
    ap (λ (z : Piece Event). one_if (is_open z.status)) (some_is y x e) ∙ ap (λ s. one_if (is_open s)) o in omega arith
open_some (y ∷ pieces) (suc i) x e o = let h = open_some pieces i x e o in omega arith

pub length_numbers : (from n : ℕ) → length (numbers from n) ≡ n
length_numbers from zero = refl
length_numbers from (suc n) = ap suc (length_numbers (suc from) n)

pub copies_are : {N : Type 0} (m n : ℕ) (value : N) (copies : List (Waiting N)) → AreCopies n m value copies → length copies ≡ m
copies_are {N = N} m n value copies are = sym (length-map copies (λ (w : Waiting N). place_in w))
    ∙ (ap length are.places ∙ (length-map (numbers 0 m) (λ k. record { batch = n; k = k }) ∙ length_numbers 0 m))

module _ {N : Type 0} (alternatives : N → List (Owed Event)) (batches : List N) (pieces : List (Piece Event)) (waiting : List (Waiting N)) (capacity busy : ℕ)
    (h : Formed alternatives batches pieces waiting capacity busy) where
  pub formed_report : (i : ℕ) (x : Piece Event) (report : Owed Event) → slice_get pieces i ≡ Some x → x.status ≡ Open
      → Formed alternatives batches (change i (with_status (Closed report)) pieces) waiting capacity (busy - 1)
  formed_report i x report e o =
      let f : Piece Event → Piece Event = with_status (Closed report) in
      let l = length-change i f pieces in let r = h.room in let s = h.small in let w = h.few in
      let c : count_open (change i f pieces) + one_if (is_open x.status) ≡ count_open pieces + 0 = open_changed f (λ x. refl) (λ x. refl) i pieces x e in
      let one : one_if (is_open x.status) ≡ 1 = ap (λ s. one_if (is_open s)) o in
      let b = h.busy in
      record {
        order = subst (λ ps. Orderly (λ b. length (owed_by (map alternatives batches) b)) (ps ++ map (λ (w : Waiting N). place_in w) waiting))
            (sym (places_kept f (λ x. refl) i pieces)) h.order;
        copies = h.copies;
        room = omega arith;
        small = omega arith;
        few = omega arith;
        busy = omega arith;
      }

  module _ (i n m : ℕ) (x : Piece Event) (value : N) (copies : List (Waiting N)) (capacity' : ℕ) (e : slice_get pieces i ≡ Some x) (number : n ≡ length batches)
      (are : AreCopies n m value copies) (long : m ≡ length (alternatives value)) (some : 0 < m)
      (small' : length pieces + length waiting + m ≤ 4294967295) (room' : length pieces + length (waiting ++ copies) ≤ capacity') where
    copies_long : length copies ≡ m
    copies_long = copies_are m n value copies are

    abbrev len : ℕ → ℕ
    len b = length (owed_by (map alternatives batches) b)

    abbrev len' : ℕ → ℕ
    len' b = length (owed_by (map alternatives (batches ++ value ∷ [])) b)

    owes_long : length (map alternatives batches) ≡ n
    owes_long = length-map batches alternatives ∙ sym number

    same_len : (b : ℕ) → (b ≡ n → ⊥) → len' b ≡ len b
    same_len b d = ap (λ o. length (list_or_empty o)) (ap (λ l. slice_get l b) (map_push alternatives batches value)
        ∙ get_other (map alternatives batches) (alternatives value) b (λ q. d (q ∙ owes_long)))

    new_len : len' n ≡ m
    new_len = ap (λ o. length (list_or_empty o)) (ap (λ l. slice_get l n) (map_push alternatives batches value)
        ∙ (ap (slice_get (map alternatives batches ++ alternatives value ∷ [])) (sym owes_long) ∙ get_seam (map alternatives batches) (alternatives value)))
        ∙ sym long

    none_len : len n ≡ 0
    none_len = ap length (owed_past alternatives batches n (omega arith))

    pub formed_publish : Formed alternatives (batches ++ value ∷ []) (change i (with_batch n) pieces) (waiting ++ copies) capacity' busy
    formed_publish =
        let f : Piece Event → Piece Event = with_batch n in
        let place : Waiting N → Alternative = λ w. place_in w in
        let l = length-change i f pieces in let k = copies_long in let a = length-append waiting copies in let d = length_push batches value in let w = h.few in
        let c : count_open (change i f pieces) + one_if (is_open x.status) ≡ count_open pieces + one_if (is_open x.status) =
        open_changed f (λ x. refl) (λ x. refl) i pieces x e in
        let b = h.busy in
        let order_is : map place_of (change i f pieces) ++ map place (waiting ++ copies) ≡ (map place_of pieces ++ map place waiting) ++ alternatives_of n m =
        (λ j. places_kept f (λ x. refl) i pieces j ++ map-append place waiting copies j)
        ∙ (sym (append_assoc (map place_of pieces) (map place waiting) (map place copies))
        ∙ ap (λ l. (map place_of pieces ++ map place waiting) ++ l) are.places) in
        record {
          order = subst (Orderly len') (sym order_is) (orderly_more len len' (map place_of pieces ++ map place waiting) n m same_len new_len none_len h.order);
          copies = λ j w q. ⊎_elim
              (λ (g : (j < length waiting) × (slice_get waiting j ≡ Some w)). get_front batches (value ∷ []) w.batch (arc_value w.copy) (h.copies j w g.1))
              (λ (g : (t : ℕ) × (j ≡ length waiting + t) × (slice_get copies t ≡ Some w)).
              let at = new_at n 0 m g.0 (place_in w) (sym (ap (λ l. slice_get l g.0) are.places) ∙ get_map_at place copies g.0 w g.2) in
              ap (slice_get (batches ++ value ∷ [])) (ap (λ (a : Alternative). a.batch) at.1 ∙ number)
              ∙ (get_seam batches value ∙ ap Some (sym (every_at (λ (w : Waiting N). arc_value w.copy ≡ value) copies are.values g.0 w g.2))))
              (get_cases waiting copies j w q);
          room = omega arith;
          small = omega arith;
          few = omega arith;
          busy = omega arith;
        }

pub slot_below : {E : Type 0} (slots : List (Slot E)) (i : ℕ) (x : Piece Event) → slice_get (map piece_in slots) i ≡ Some x → i < length slots
slot_below slots i x e = let l = get_below (map piece_in slots) i x e in let m = length-map slots piece_in in omega arith

pub report_is : {N E : Type 0} (batches : List N) (slots slots' : List (Slot E)) (waiting workers busy : ℕ) (starved stopped : Bool) (i : ℕ)
    (report : Owed Event)
    → map piece_in slots' ≡ change i (with_status (Closed report)) (map piece_in slots)
    → let before : PoolData N Event = record {
      batches = batches;
      pieces = map piece_in slots;
      workers = workers;
      busy = busy;
      total = length slots + waiting;
      untried = waiting;
      starved = starved;
      stopped = stopped;
    } in
    let after : PoolData N Event = record {
      batches = batches;
      pieces = map piece_in slots';
      workers = workers;
      busy = busy - 1;
      total =
          length slots' + waiting;
      untried = waiting;
      starved = starved;
      stopped = stopped;
    } in
    after ≡ reported before i report
report_is batches slots slots' waiting workers busy starved stopped i report e =
    let l : length slots' ≡ length slots = sym (length-map slots' piece_in)
    ∙ (ap length e ∙ (length-change i (with_status (Closed report)) (map piece_in slots) ∙ length-map slots piece_in)) in
    λ j. record {
      batches = batches;
      pieces = e j;
      workers = workers;
      busy = busy - 1;
      total = l j + waiting;
      untried = waiting;
      starved = starved;
      stopped =
          stopped;
    }

module _ {N E : Type 0} (alternatives : N → List (Owed Event)) (batches : List N) (slots slots' : List (Slot E)) (waiting : List (Waiting N))
    (capacity busy i : ℕ)
    (report : Owed Event)
    (h : Formed alternatives batches (map piece_in slots) waiting capacity busy)
    (open_at : (x : Piece Event) × (slice_get (map piece_in slots) i ≡ Some x) × (x.status ≡ Open))
    (e : map piece_in slots' ≡ change i (with_status (Closed report)) (map piece_in slots)) where
  pub report_forms : Formed alternatives batches (map piece_in slots') waiting capacity (busy - 1)
  report_forms = subst (λ ps. Formed alternatives batches ps waiting capacity (busy - 1)) (sym e)
      (formed_report alternatives batches (map piece_in slots) waiting capacity busy h i open_at.0 report open_at.1 open_at.2)

pub busy_some : {N E : Type 0} (alternatives : N → List (Owed Event)) (batches : List N) (slots : List (Slot E)) (waiting : List (Waiting N))
    (capacity busy i : ℕ)
    → Formed alternatives batches (map piece_in slots) waiting capacity busy
    → (x : Piece Event) × (slice_get (map piece_in slots) i ≡ Some x) × (x.status ≡ Open) → 1 ≤ busy
busy_some alternatives batches slots waiting capacity busy i h o = let a = open_some (map piece_in slots) i o.0 o.1 o.2 in let b = h.busy in omega arith

pub publish_is : {N E : Type 0} (alternatives : N → List (Owed Event)) (batches batches' : List N) (slots slots' : List (Slot E))
    (waiting waiting' : List (Waiting N)) (workers busy i n m : ℕ) (starved stopped : Bool) (value : N) (copies : List (Waiting N))
    → batches' ≡ batches ++ value ∷ [] → map piece_in slots' ≡ change i (with_batch n) (map piece_in slots) → n ≡ length batches → AreCopies n m value copies
    → waiting' ≡ waiting ++ copies
    → let before : PoolData N Event = record {
      batches = batches;
      pieces = map piece_in slots;
      workers = workers;
      busy = busy;
      total =
          length slots + length waiting;
      untried = length waiting;
      starved = starved;
      stopped = stopped;
    } in
    let after : PoolData N Event = record {
      batches = batches';
      pieces = map piece_in slots';
      workers = workers;
      busy = busy;
      total =
          length slots' + length waiting';
      untried = length waiting';
      starved = starved;
      stopped = stopped;
    } in
    after ≡ published before i value m
publish_is alternatives batches batches' slots slots' waiting waiting' workers busy i n m starved stopped value copies b e number are w =
    let l : length slots' ≡ length slots = sym (length-map slots' piece_in)
    ∙ (ap length e ∙ (length-change i (with_batch n) (map piece_in slots) ∙ length-map slots piece_in)) in
    let k = copies_are m n value copies are in
    let a : length waiting' ≡ length waiting + length copies = ap length w ∙ length-append waiting copies in
    let u : length waiting' ≡ length waiting + m = omega arith in
    let t : length slots' + length waiting' ≡ length slots + length waiting + m = omega arith in
    let e' : map piece_in slots' ≡ change i (with_batch (length batches)) (map piece_in slots) =
    e ∙ ap (λ c. change i (with_batch c) (map piece_in slots)) number in
    λ j. record { batches = b j; pieces = e' j; workers = workers; busy = busy; total = t j; untried = u j; starved = starved; stopped = stopped }

module _ {N E : Type 0} (alternatives : N → List (Owed Event)) (arcs arcs' : List (Arc N Global)) (batch : Arc N Global) (slots slots' : List (Slot E))
    (waiting waiting' copies : List (Waiting N)) (capacity capacity' busy i n m : ℕ) where
  pub publish_forms : Formed alternatives (map arc_value arcs) (map piece_in slots) waiting capacity busy
      → (x : Piece Event) × (slice_get (map piece_in slots) i ≡ Some x) × (x.status ≡ Open)
      → arcs' ≡ arcs ++ batch ∷ [] → map piece_in slots' ≡ change i (with_batch n) (map piece_in slots)
      → n ≡ length (map arc_value arcs) → AreCopies n m (arc_value batch) copies → m ≡ length (alternatives (arc_value batch)) → 0 < m
      → length slots + length waiting + m ≤ 4294967295 → waiting' ≡ waiting ++ copies → length slots' + length waiting' ≤ capacity'
      → Formed alternatives (map arc_value arcs') (map piece_in slots') waiting' capacity' busy
  publish_forms h o b e number are long some small w room =
      let l : length slots' ≡ length slots = sym (length-map slots' piece_in)
      ∙ (ap length e ∙ (length-change i (with_batch n) (map piece_in slots) ∙ length-map slots piece_in)) in
      let k = length-map slots piece_in in
      let j : length waiting' ≡ length (waiting ++ copies) = ap length w in
      let done : Formed alternatives (map arc_value arcs ++ arc_value batch ∷ []) (change i (with_batch n) (map piece_in slots)) (waiting ++ copies) capacity'
      busy =
      formed_publish alternatives (map arc_value arcs) (map piece_in slots) waiting capacity busy h i n m o.0 (arc_value batch) copies capacity' o.1 number are
      long some (omega arith) (omega arith) in
      subst (λ bs. Formed alternatives bs (map piece_in slots') waiting' capacity' busy) (sym (ap (map arc_value) b ∙ map_push arc_value arcs batch))
      (subst (λ ps. Formed alternatives (map arc_value arcs ++ arc_value batch ∷ []) ps waiting' capacity' busy) (sym e)
      (subst (λ ws. Formed alternatives (map arc_value arcs ++ arc_value batch ∷ []) (change i (with_batch n) (map piece_in slots)) ws capacity' busy) (sym w)
      done))

pub opening_forms : {N E : Type 0} (alternatives : N → List (Owed Event)) (root : Arc N Global) (batches : List (Arc N Global)) (slots : List (Slot E))
    (waiting : List (Waiting N)) (capacity : ℕ)
    → batches ≡ root ∷ [] → slots ≡ [] → length (alternatives (arc_value root)) ≡ 1 → AreCopies 0 1 (arc_value root) waiting → 1 ≤ capacity
    → Formed alternatives (map arc_value batches) (map piece_in slots) waiting capacity 0
opening_forms {N = N} alternatives root batches slots waiting capacity e d one copies room =
    let k = copies_are 1 0 (arc_value root) waiting copies in
    subst (λ (bs : List N). Formed alternatives bs (map piece_in slots) waiting capacity 0) (sym (ap (map arc_value) e))
    (subst (λ (ps : List (Piece Event)). Formed alternatives (arc_value root ∷ []) ps waiting capacity 0) (sym (ap (map piece_in) d)) (record {
      order = subst (Orderly (len alternatives root)) (sym copies.places)
          (orderly_more (λ b. 0) (len alternatives root) [] 0 1 (λ b h. other alternatives root b h) one refl none_orderly);
      copies = λ i w q. let at = new_at 0 0 1 i (place_in w)
          (sym (ap (λ l. slice_get l i) copies.places) ∙ get_map_at (λ (w : Waiting N). place_in w) waiting i w q) in
          ap (slice_get (arc_value root ∷ [])) (ap (λ (a : Alternative). a.batch) at.1)
          ∙ ap Some (sym (every_at (λ (w : Waiting N). arc_value w.copy ≡ arc_value root) waiting copies.values i w q));
      room = omega arith;
      small = omega arith;
      few = omega arith;
      busy = refl;
    }))
  where
    len : (N → List (Owed Event)) → Arc N Global → ℕ → ℕ
    len alternatives root b = length (owed_by (map alternatives (arc_value root ∷ [])) b)

    other : (alternatives : N → List (Owed Event)) (root : Arc N Global) (b : ℕ) → (b ≡ 0 → ⊥) → length (owed_by (map alternatives (arc_value root ∷ [])) b) ≡ 0
    other alternatives root zero h = absurd (h refl)
    other alternatives root (suc b) h = refl

pub below_kept : {E : Type 0} (slots slots' : List (Slot E)) (i : ℕ) {x : Piece Event} → slice_get (map piece_in slots) i ≡ Some x → map piece_in slots' ≡
    map piece_in slots
    → i < length slots'
below_kept slots slots' i {x = x} e same = slot_below slots' i x (ap (λ ps. slice_get ps i) same ∙ e)

pub publish_total : {N : Type 0} (before now after : PoolData N Event) (i : ℕ) (value : N) (m m' : ℕ) → before ≡ now → m ≡ m' → before.total + m ≤ 4294967295
    → after ≡ published before i value m → (now.total + m' ≤ 4294967295) × (after ≡ published now i value m')
publish_total before now after i value m m' b e small is = (
  subst (λ k. now.total + k ≤ 4294967295) e (subst (λ v. v.total + m ≤ 4294967295) b small),
  is ∙ (λ j. published (b j) i value (e j)),
)
