-- What `ready` does with the slot that its stack points at, and what it finds where the stack is empty.
use Rattle.std.proofs.Common.{◌≡◌, ℕ, zero, suc, ◌+◌, ◌-◌, ◌<◌, ◌≤◌, List, [], ◌∷◌, ◌++◌, Bool, true, false, length, map, refl, sym, ap, ◌∙◌, subst, ⊎_elim}
use Rattle.std.proofs.Common.{arith, append-nil, eqb, if◌then◌else◌, nat_lt, Option, Some, None, Global, get_or}
use Rattle.std.specs.Prelude.{slice_get, slice_index}
use Rattle.std.specs.List.{list_all}
use Rattle.std.specs.Vec.{vec_len, vec_capacity}
use Rattle.std.specs.Arc.{arc_value}
use Rattle.std.specs.declared.sync.Arc.{Arc}
use Rattle.std.proofs.Math.ListN.{set}
use Rattle.std.proofs.lemmas.Bool.{cases_Bool, and_parts, eqb-true, false≢true}
use Rattle.std.proofs.lemmas.List.{length-map, map_push}
use Rattle.ll_list_laws.proofs.CallerLemmas.{none_not_some, some_is}
use Rattle.ll_laws.specs.Pool.{Owed, Status, Open, Closed, Taken, Piece, PoolData, Alternative, place}
use Rattle.ll_laws.specs.Spread.{length_of, list_or_empty, piece_of, walk}
use Rattle.ll_laws.specs.Sound.{Each, is_open, is_taken, is_taken_piece, is_taken_status, count_open}
use Rattle.ll_laws.specs.CoreEvents.{Next, MayTake, Readies, Events, NotYet, All, change, with_status, took}
use Rattle.ll_laws.specs.declared.Event.{Event}
use Rattle.ll_core.specs.Cursor.{PointsIn, begin}
use Rattle.ll_core.specs.Formed.{Formed, place_in}
use Rattle.ll_core.specs.Order.{Orderly}
use Rattle.ll_laws.specs.Spread.{owed_by}
use Rattle.ll_core.specs.Whole.{Whole}
use Rattle.ll_core.specs.Slots.{piece_in, stop_in, data_of, TakesReport}
use Rattle.ll_core.specs.declared.cursor.Stop.{Stop}
use Rattle.ll_core.specs.declared.pool.Pool.TheInside.{Inside}
use Rattle.ll_core.specs.declared.room.Slot.{Slot}
use Rattle.ll_core.specs.declared.room.State.{State}
use Rattle.ll_core.specs.declared.room.Waiting.{Waiting}
use Rattle.ll_core.specs.Given.{total}
use Rattle.ll_core.proofs.walks.Walks.{is_alternative}
use Rattle.ll_core.proofs.walks.Once.{one_if, is_at}
use Rattle.ll_core.proofs.events.Pieces.{found, lookup, length-change}
use Rattle.ll_core.proofs.sound.Facts.{get_map_at}
use Rattle.ll_core.proofs.walks.Unique.{stands_once}
use Rattle.ll_core.proofs.events.Statuses.{open_changed}
use Rattle.ll_core.proofs.ready.Pointing.{after_top, may_take}
use Rattle.ll_core.proofs.sound.Forming.{next_untried, places_kept, slot_changed}
use Rattle.ll_core.proofs.sound.Wholes.{whole_took}
use Rattle.ll_core.proofs.ready.Readying.{base_of, pointed, inside, batch_below, start_below, number_below, start_is, is_next, not_there, there}
use Rattle.ll_core.proofs.ready.Readying.{top_open, room_for_kids}

in_list : (t : Alternative → Bool) (at : Alternative) (xs : List Alternative) → list_all t xs ≡ true → 0 < total (is_at at) xs → t at ≡ true
in_list t at [] h some = absurd (omega arith)
in_list t at (a ∷ xs) h some =
    let p = and_parts (t a) (list_all t xs) h in
    ⊎_elim
    (λ (e : is_alternative a at ≡ true).
    let q = and_parts (eqb a.batch at.batch) (eqb a.k at.k) e in
    let same : a ≡ at = λ i. record { batch = eqb-true a.batch at.batch q.0 i; k = eqb-true a.k at.k q.1 i } in
    ap t (sym same) ∙ p.0)
    (λ (e : is_alternative a at ≡ false). let z : is_at at a ≡ 0 = ap one_if e in in_list t at xs p.1 (omega arith))
    (cases_Bool (is_alternative a at))

taken_status : (s : Status Event) → is_taken_status s ≡ true → s ≡ Taken
taken_status Open t = absurd (false≢true t)
taken_status (Closed r) t = absurd (false≢true t)
taken_status Taken t = refl

taken_some : (o : Option (Piece Event)) → is_taken_piece o ≡ true → (x : Piece Event) × (o ≡ Some x)
taken_some None t = absurd (false≢true t)
taken_some (Some x) t = (x, refl)

module _ {N : Type 0} (alternatives : N → List (Owed Event)) (v : PoolData N Event) (waiting : List (Waiting N)) (starts : List ℕ) (stack : List Alternative)
    (capacity stack_capacity : ℕ) (h : Whole alternatives v waiting starts stack capacity stack_capacity) (untried : v.untried ≡ length waiting)
    (empty : stack ≡ []) where
  walk_taken : list_all (is_taken v.pieces) (walk alternatives v) ≡ true
  walk_taken =
      let q : PointsIn alternatives v [] = subst (PointsIn alternatives v) empty h.points in
      ap (list_all (is_taken v.pieces)) (q.order ∙ append-nil q.front) ∙ q.before

  standing : (b k : ℕ) → k < length_of alternatives v b → is_taken v.pieces (record { batch = b; k = k }) ≡ true
  standing b k low = let o = stands_once alternatives v h.shaped b k low in
      in_list (is_taken v.pieces) (record { batch = b; k = k }) (walk alternatives v) walk_taken (omega arith)

  each_taken : Each v.pieces (λ (x : Piece Event). x.status ≡ Taken)
  each_taken i x e = taken_status x.status (sym (ap is_taken_piece (found v.pieces h.shaped.apart i x (place x) e refl refl))
      ∙ standing x.batch x.k (h.shaped.named i x e))

  none_waits : (ws : List (Waiting N)) → waiting ≡ ws → length ws ≡ 0
  none_waits [] e = refl
  none_waits (w ∷ rest) e =
      let l : length waiting ≡ length (w ∷ rest) = ap length e in
      let u = next_untried alternatives v.batches v w rest capacity v.busy refl (omega arith)
      (subst (λ ws. Formed alternatives v.batches v.pieces ws capacity v.busy) e h.formed) in
      let p = taken_some (piece_of v.pieces (record { batch = w.batch; k = w.k })) (standing w.batch w.k u.inside) in
      let f = lookup v.pieces (record { batch = w.batch; k = w.k }) p.0 p.1 in absurd (u.free f.0 p.0 f.1 f.2 f.3)

  -- an empty stack: all is taken
  pub readies_all : Readies alternatives v All v
  readies_all = (each_taken, untried ∙ none_waits waiting refl, refl)

pub none_last : {X : Type 0} (xs : List X) → slice_get xs (length xs - 1) ≡ None → xs ≡ []
none_last [] e = refl
none_last (x ∷ []) e = absurd (none_not_some x (sym e))
none_last (x ∷ y ∷ ys) e = absurd (past (y ∷ ys) (let n : length (x ∷ y ∷ ys) - 1 ≡ suc (length (y ∷ ys) - 1) = omega arith in
    sym (ap (slice_get (x ∷ y ∷ ys)) n) ∙ e) (omega arith))
  where
    none_low : {X : Type 0} (xs : List X) (i : ℕ) → i < length xs → slice_get xs i ≡ None → ⊥
    none_low [] i low e = omega arith
    none_low (x ∷ xs) zero low e = none_not_some x (sym e)
    none_low (x ∷ xs) (suc i) low e = none_low xs i (omega arith) e

    past : {X : Type 0} (xs : List X) → slice_get xs (length xs - 1) ≡ None → 0 < length xs → ⊥
    past xs e some = none_low xs (length xs - 1) (omega arith) e

pub slot_at : {X : Type 0} (xs : List X) (i : ℕ) (old : X) → i < length xs → old ≡ get_or xs i old → slice_get xs i ≡ Some old
slot_at [] i old low e = absurd (omega arith)
slot_at (x ∷ xs) zero old low e = ap Some (sym e)
slot_at (x ∷ xs) (suc i) old low e = slot_at xs i old (omega arith) e

set_same : {X : Type 0} (xs : List X) (i : ℕ) (old new : X) → i < length xs → old ≡ get_or xs i old → new ≡ old → set xs i new ≡ xs
set_same [] i old new low e same = absurd (omega arith)
set_same (x ∷ xs) zero old new low e same = ap (λ y. y ∷ xs) (same ∙ e)
set_same (x ∷ xs) (suc i) old new low e same = ap (λ l. x ∷ l) (set_same xs i old new (omega arith) e same)

-- what was written is read again
pub set_read : {X : Type 0} (xs : List X) (i : ℕ) (new read : X) → i < length xs → read ≡ get_or (set xs i new) i read → read ≡ new
set_read [] i new read low e = absurd (omega arith)
set_read (x ∷ xs) zero new read low e = e
set_read (x ∷ xs) (suc i) new read low e = set_read xs i new read (omega arith) e

-- the length of a batch that is read by its number
pub length_there : {N : Type 0} (alternatives : N → List (Owed Event)) (arcs : List (Arc N Global)) (b : ℕ) (arc : Arc N Global) → b < length arcs
    → arc ≡ get_or arcs b arc → length (alternatives (arc_value arc)) ≡ length (owed_by (map alternatives (map arc_value arcs)) b)
length_there alternatives arcs b arc low e = sym (ap (λ o. length (list_or_empty o))
    (get_map_at alternatives (map arc_value arcs) b (arc_value arc) (get_map_at arc_value arcs b arc (slot_at arcs b arc low e))))

formed_took : {N : Type 0} (alternatives : N → List (Owed Event)) (batches : List N) (pieces : List (Piece Event)) (waiting : List (Waiting N))
    (capacity busy : ℕ) → Formed alternatives batches pieces waiting capacity busy
    → (i : ℕ) (x : Piece Event) → slice_get pieces i ≡ Some x → is_open x.status ≡ false
    → Formed alternatives batches (change i (with_status Taken) pieces) waiting capacity busy
formed_took {N = N} alternatives batches pieces waiting capacity busy h i x e closed =
    let f : Piece Event → Piece Event = with_status Taken in
    let l = length-change i f pieces in let r = h.room in let s = h.small in let w = h.few in
    let c : count_open (change i f pieces) + one_if (is_open x.status) ≡ count_open pieces + 0 = open_changed f (λ x. refl) (λ x. refl) i pieces x e in
    let none : one_if (is_open x.status) ≡ 0 = ap one_if closed in
    let b = h.busy in
    record {
      order = subst (λ ps. Orderly (λ b. length (owed_by (map alternatives batches) b)) (ps ++ map (λ (w : Waiting N). place_in w) waiting))
          (sym (places_kept f (λ x. refl) i pieces)) h.order;
      copies = h.copies;
      room = omega arith;
      small = omega arith;
      few = omega arith;
      busy = omega arith;
    }

-- ---- in the pool's own fields

-- the pool with these slots
abbrev pub with_slots : {N Of E : Type 0} → Inside N Of E → List (Slot E) → PoolData N Event
with_slots i slots = data_of i.batches.items slots (length i.waiting.items) i.workers i.busy i.starved i.stopped

-- the pool as it is
abbrev pub data_in : {N Of E : Type 0} → Inside N Of E → PoolData N Event
data_in i = with_slots i i.pieces.items

-- what holds of the pool, with these slots
abbrev pub WholeWith : {N Of E : Type 0} → (N → List (Owed Event)) → Inside N Of E → List (Slot E) → Type 0
WholeWith alternatives i slots = Whole alternatives (with_slots i slots) i.waiting.items i.starts.items (map stop_in i.stack.items)
    (vec_capacity i.pieces) (vec_capacity i.stack)

-- the slot in this state
abbrev pub with_state : {E : Type 0} → Slot E → State E → Slot E
with_state slot state = record slot { state = state }

-- what `ready` reads on top of the stack
pub record IsTop {N Of E : Type 0} (alternatives : N → List (Owed Event)) (i : Inside N Of E) (stop : Stop) : Type 0 where
  pub whole : WholeWith alternatives i i.pieces.items
  pub last : slice_get i.stack.items (length i.stack.items - 1) ≡ Some stop

-- and the slot of its piece, which has this number
pub record IsFound {N Of E : Type 0} (alternatives : N → List (Owed Event)) (i : Inside N Of E) (stop : Stop) (at : ℕ) (old : Slot E) : Type 0 where
  pub top : IsTop alternatives i stop
  pub number : at ≡ slice_index i.starts.items stop.batch + stop.k
  pub low : at < length i.pieces.items
  pub here : old ≡ get_or i.pieces.items at old

pub top_of : {N Of E : Type 0} {alternatives : N → List (Owed Event)} (i : Inside N Of E) {read : List Stop} {stop : Stop}
    → WholeWith alternatives i i.pieces.items → read ≡ i.stack.items → Some stop ≡ slice_get read (length read - 1) → IsTop alternatives i stop
top_of i {stop = stop} h is last = record { whole = h; last = subst (λ l. slice_get l (length l - 1) ≡ Some stop) is (sym last) }

module _ {N Of E : Type 0} {alternatives : N → List (Owed Event)} {i : Inside N Of E} {stop : Stop} (t : IsTop alternatives i stop) where
  pub start_there : stop.batch < length i.starts.items
  start_there = start_below i.stack.items t.whole t.last

  pub batch_there : stop.batch < length i.batches.items
  batch_there = let b = batch_below i.stack.items t.whole t.last in let l = length-map i.batches.items arc_value in omega arith

  number_is : {start : ℕ} → start ≡ get_or i.starts.items stop.batch start → start + stop.k ≡ slice_index i.starts.items stop.batch + stop.k
  number_is {start} read = ap (λ n. n + stop.k) (start_is i.stack.items t.whole t.last start read)

  -- the number of its piece, where `start` was read as the first number of its batch
  pub number_fits : {start : ℕ} → start ≡ get_or i.starts.items stop.batch start → start + stop.k < 4294967296
  number_fits read = let n = number_is read in let l = number_below i.stack.items t.whole t.last in let m = t.whole.formed.small in omega arith

  -- past the pieces it is an alternative that is not claimed
  pub not_claimed : {start len : ℕ} {v : PoolData N Event} → start ≡ get_or i.starts.items stop.batch start → len ≡ vec_len i.pieces → len ≤ start + stop.k
      → data_in i ≡ v → Readies alternatives v (NotYet None) v
  not_claimed read is past view_is =
      let n = number_is read in let o = i.pieces.ok.0 in let l = length-map i.pieces.items piece_in in
      subst (λ v. Readies alternatives v (NotYet None) v) view_is (
        stop_in stop,
        is_next i.stack.items t.whole t.last,
        not_there i.stack.items t.whole t.last (omega arith),
        refl,
      )

  -- below that it has a slot
  pub found_of : {start len : ℕ} {old : Slot E} → start ≡ get_or i.starts.items stop.batch start → len ≡ vec_len i.pieces → start + stop.k < len
      → old ≡ get_or i.pieces.items (start + stop.k) old → IsFound alternatives i stop (start + stop.k) old
  found_of {start} read is low here = record {
    top = t;
    number = number_is read;
    low = subst (λ n. start + stop.k < n) (is ∙ i.pieces.ok.0) low;
    here = here;
  }

  -- how many alternatives its batch has, which was read by its number
  pub len_is : {arc : Arc N Global} {n : N} {len : ℕ} → arc ≡ get_or i.batches.items stop.batch arc → n ≡ arc_value arc → len ≡ length (alternatives n)
      → len ≡ length_of alternatives (data_in i) stop.batch
  len_is {arc} read is e = e ∙ (ap (λ m. length (alternatives m)) is ∙ length_there alternatives i.batches.items stop.batch arc batch_there read)

  pub inside_len : {arc : Arc N Global} {n : N} {len : ℕ} → arc ≡ get_or i.batches.items stop.batch arc → n ≡ arc_value arc → len ≡ length (alternatives n)
      → stop.k < len
  inside_len read is e = let l = len_is read is e in let k = inside i.stack.items t.whole t.last in omega arith

module _ {N Of E : Type 0} {alternatives : N → List (Owed Event)} {i : Inside N Of E} {stop : Stop} {at : ℕ} {old : Slot E}
    (f : IsFound alternatives i stop at old) where
  at_old : slice_get (data_in i).pieces at ≡ Some (piece_in old)
  at_old = get_map_at piece_in i.pieces.items at old (slot_at i.pieces.items at old f.low f.here)

  found_there : (x : Piece Event) × (slice_get (data_in i).pieces at ≡ Some x) × (x.batch ≡ stop.batch) × (x.k ≡ stop.k)
  found_there =
      let n = f.low in let l = length-map i.pieces.items piece_in in
      let t = there i.stack.items f.top.whole f.top.last (subst (λ n. n < length (data_in i).pieces) f.number (omega arith)) in
      (t.0, subst (λ n. slice_get (data_in i).pieces n ≡ Some t.0) (sym f.number) t.1, t.2, t.3)

  same_piece : found_there.0 ≡ piece_in old
  same_piece = some_is found_there.0 (piece_in old) (sym found_there.1 ∙ at_old)

  batch_is : old.batch ≡ stop.batch
  batch_is = sym (ap (λ (x : Piece Event). x.batch) same_piece) ∙ found_there.2

  k_is : old.k ≡ stop.k
  k_is = sym (ap (λ (x : Piece Event). x.k) same_piece) ∙ found_there.3

  -- the state of its slot was replaced
  module _ (state : State E) where
    abbrev written : List (Slot E)
    written = set i.pieces.items at (with_state old state)

    -- the slot is read again: there is room for what its piece published
    pub room_there : {read : Slot E} → read ≡ get_or written at read → length i.stack.items + length read.published.items ≤ vec_capacity i.stack
    room_there {read} e =
        subst (λ (slot : Slot E). length i.stack.items + length slot.published.items ≤ vec_capacity i.stack)
        (sym (set_read i.pieces.items at (with_state old state) read f.low e))
        (room_for_kids i.stack.items f.top.whole f.top.last at (piece_in old) at_old batch_is k_is)

    -- nothing was closed there: the pool stays, and its next piece is open
    module _ (kept : TakesReport old.state None state) where
      slots_kept : written ≡ i.pieces.items
      slots_kept = set_same i.pieces.items at old (with_state old state) f.low f.here (ap (with_state old) kept.0)

      pub whole_kept : WholeWith alternatives i written
      whole_kept = subst (WholeWith alternatives i) (sym slots_kept) f.top.whole

      pub not_closed : {v : PoolData N Event} → data_in i ≡ v → Readies alternatives v (NotYet (Some at)) (with_slots i written)
      not_closed view_is = subst (λ v. Readies alternatives v (NotYet (Some at)) (with_slots i written)) view_is (
        piece_in old,
        at_old,
        top_open i.stack.items f.top.whole f.top.last at (piece_in old) at_old batch_is k_is kept.1,
        subst (Next alternatives (data_in i)) (λ j. record { batch = sym batch_is j; k = sym k_is j })
            (is_next i.stack.items f.top.whole f.top.last),
        ap (with_slots i) slots_kept,
      )

    -- its report was taken
    module _ (report : Owed Event) (now : TakesReport old.state (Some report) state) where
      taken_pieces : map piece_in written ≡ change at (with_status Taken) (data_in i).pieces
      taken_pieces = slot_changed (with_status Taken) i.pieces.items at old (with_state old state) f.low f.here (λ j. record {
        batch = old.batch;
        k = old.k;
        worker = old.worker;
        published = old.published.items;
        status = now.1 j;
      })

      took_is : with_slots i written ≡ took (data_in i) at
      took_is =
          let l : length written ≡ length i.pieces.items =
          sym (length-map written piece_in) ∙
          (ap length taken_pieces ∙ (length-change at (with_status Taken) (data_in i).pieces ∙ length-map i.pieces.items piece_in)) in
          λ j. record {
            batches = map arc_value i.batches.items;
            pieces = taken_pieces j;
            workers = i.workers;
            busy = i.busy;
            total = l j + length i.waiting.items;
            untried =
                length i.waiting.items;
            starved = i.starved;
            stopped = i.stopped;
          }

      abbrev base : List Alternative
      base = map stop_in (base_of i.stack.items f.top.whole f.top.last).0

      abbrev points : PointsIn alternatives (data_in i) (base ++ stop_in stop ∷ [])
      points = pointed i.stack.items f.top.whole f.top.last

      takes_next : MayTake alternatives (data_in i) at (piece_in old) report
      takes_next = may_take alternatives (data_in i) f.top.whole.shaped base (stop_in stop) points at (piece_in old) report at_old batch_is k_is now.0

      pub is_taken_next : {v : PoolData N Event} → data_in i ≡ v → Readies alternatives v (Events report) (with_slots i written)
      is_taken_next view_is = subst (λ v. Readies alternatives v (Events report) (with_slots i written)) view_is (at, piece_in old, takes_next, took_is)

      -- the slot is read again: its batches come next, and then the rest of its own batch
      pub whole_taken : (stops : List Stop) {len capacity : ℕ} {read : Slot E} → len ≡ length_of alternatives (data_in i) stop.batch
          → read ≡ get_or written at read → capacity ≡ vec_capacity i.stack
          → ((below : List Stop) → i.stack.items ≡ below ++ stop ∷ []
          → map stop_in stops ≡ (map stop_in below ++ (if nat_lt (stop.k + 1) len then record { batch = stop.batch; k = stop.k + 1 } ∷ [] else []))
          ++ map begin read.published.items)
          → Whole alternatives (with_slots i written) i.waiting.items i.starts.items (map stop_in stops) (vec_capacity i.pieces) capacity
      whole_taken stops {read = read} len_is e capacity_is pushed =
          let b = base_of i.stack.items f.top.whole f.top.last in
          let again = set_read i.pieces.items at (with_state old state) read f.low e in
          let split : map stop_in i.stack.items ≡ base ++ stop_in stop ∷ [] = ap (map stop_in) b.1 ∙ map_push stop_in b.0 stop in
          let whole = subst (λ s. Whole alternatives (data_in i) i.waiting.items i.starts.items s (vec_capacity i.pieces) (vec_capacity i.stack)) split
          f.top.whole in
          let done = whole_took alternatives (data_in i) i.starts.items (map stop_in i.stack.items) (vec_capacity i.pieces) (vec_capacity i.pieces)
          (vec_capacity i.stack) i.waiting.items base (stop_in stop) at (piece_in old) report
          whole points f.top.whole.shaped at_old batch_is k_is now.0 takes_next
          (with_slots i written) took_is
          (subst (λ ps. Formed alternatives (data_in i).batches ps i.waiting.items (vec_capacity i.pieces) i.busy) (sym taken_pieces)
          (formed_took alternatives (data_in i).batches (data_in i).pieces i.waiting.items (vec_capacity i.pieces) i.busy f.top.whole.formed at (piece_in old)
          at_old (ap is_open now.0))) in
          let top : map stop_in stops ≡ after_top alternatives (data_in i) f.top.whole.shaped base (stop_in stop) points old.published.items =
          pushed b.0 b.1 ∙ (λ j. (base ++ (if nat_lt (stop.k + 1) (len_is j) then record { batch = stop.batch; k = stop.k + 1 } ∷ [] else []))
          ++ map begin (again j).published.items) in
          subst (λ n. Whole alternatives (with_slots i written) i.waiting.items i.starts.items (map stop_in stops) (vec_capacity i.pieces) n)
          (sym capacity_is)
          (subst (λ s. Whole alternatives (with_slots i written) i.waiting.items i.starts.items s (vec_capacity i.pieces) (vec_capacity i.stack))
          (sym top) done)
