-- What holds of each pool, through its calls.
use Rattle.std.proofs.Common.{◌≡◌, ℕ, zero, suc, ◌+◌, ◌<◌, ◌≤◌, List, [], ◌∷◌, ◌++◌, Bool, true, false, length, map, refl, sym, ap, ◌∙◌, subst, ⊎_elim, arith}
use Rattle.std.proofs.Common.{append_assoc, Some}
use Rattle.std.specs.Prelude.{slice_get, slice_index}
use Rattle.std.specs.Arc.{arc_value}
use Rattle.std.proofs.lemmas.Bool.{cases_eq}
use Rattle.std.proofs.lemmas.List.{get_or_append_left, get_or_push, length-append, length-map, map-append}
use Rattle.ll_laws.specs.Pool.{Owed, Open, Closed, Taken, Piece, PoolData, Alternative}
use Rattle.ll_laws.specs.Spread.{alternatives_of, length_of}
use Rattle.ll_laws.specs.Sound.{Shaped}
use Rattle.ll_laws.specs.CoreEvents.{claimed, published, reported, took, change, with_batch, with_status, new_piece, MayTake}
use Rattle.ll_core.proofs.events.Conditions.{MayClaim, MayGrow}
use Rattle.ll_core.specs.Cursor.{PointsIn, begin}
use Rattle.ll_core.specs.Formed.{Formed, place_of, place_in}
use Rattle.ll_core.specs.Copies.{AreCopies}
use Rattle.ll_core.specs.Whole.{Whole}
use Rattle.std.specs.declared.sync.Arc.{Arc}
use Rattle.std.proofs.Common.{Global}
use Rattle.ll_core.specs.declared.room.Slot.{Slot}
use Rattle.ll_core.specs.declared.cursor.Stop.{Stop}
use Rattle.ll_core.specs.Slots.{piece_in, stop_in, data_of}
use Rattle.ll_laws.specs.declared.Event.{Event}
use Rattle.ll_core.specs.declared.room.Waiting.{Waiting}
use Rattle.std.specs.List.{list_all}
use Rattle.std.proofs.Common.{not}
use Rattle.ll_laws.specs.CoreEvents.{opening}
use Rattle.ll_laws.specs.Spread.{walk, kids_of, last_first}
use Rattle.ll_laws.specs.Sound.{is_taken}
use Rattle.ll_core.specs.Cursor.{rest}
use Rattle.ll_core.proofs.events.Openings.{opening_shape}
use Rattle.ll_core.proofs.ready.Cursors.{rest_begin}
use Rattle.ll_core.proofs.events.Pieces.{get_front}
use Rattle.ll_core.proofs.sound.Facts.{owed_before, ends}
use Rattle.ll_core.proofs.events.Statuses.{shaped_reported, shaped_took}
use Rattle.ll_core.proofs.events.Claims.{shaped_claimed}
use Rattle.ll_core.proofs.events.Publishes.{shaped_published, same, here, length_more}
use Rattle.ll_core.proofs.ready.Pointing.{points_claimed, points_reported, points_published, points_took, after_top}
use Rattle.ll_core.proofs.sound.Forming.{copies_are, opening_forms, order_is, places_kept, get_right, new_there}

module _ {N : Type 0} (alternatives : N → List (Owed Event)) (v : PoolData N Event) (starts : List ℕ) (stack : List Alternative)
    (capacity capacity' stack_capacity : ℕ) where
  pub whole_claimed : (w : Waiting N) (rest : List (Waiting N)) (worker : ℕ) → Whole alternatives v (w ∷ rest) starts stack capacity stack_capacity
      → MayClaim alternatives v worker w.batch w.k
      → (v' : PoolData N Event) → v' ≡ claimed v worker w.batch w.k → Formed alternatives v'.batches v'.pieces rest capacity' v'.busy
      → Whole alternatives v' rest starts stack capacity' stack_capacity
  whole_claimed w rest worker h may v' is formed = subst (λ (u : PoolData N Event). Whole alternatives u rest starts stack capacity' stack_capacity) (sym is)
      (record {
        formed = subst (λ (u : PoolData N Event). Formed alternatives u.batches u.pieces rest capacity' u.busy) is formed;
        shaped = shaped_claimed alternatives v h.shaped worker w.batch w.k may;
        points = points_claimed alternatives v h.shaped stack h.points worker w.batch w.k may;
        filled = h.filled;
        begins = λ b k inside. ap (λ (l : List Alternative). slice_get l (slice_index starts b + k))
            (order_is alternatives v.batches v.pieces w rest (new_piece worker w.batch w.k) refl) ∙ h.begins b k inside;
        long = h.long;
        wide = h.wide;
      })

  pub whole_reported : (waiting : List (Waiting N)) (i : ℕ) (x : Piece Event) (report : Owed Event)
      → Whole alternatives v waiting starts stack capacity stack_capacity → slice_get v.pieces i ≡ Some x → x.status ≡ Open
      → (v' : PoolData N Event) → v' ≡ reported v i report → Formed alternatives v'.batches v'.pieces waiting capacity v'.busy
      → Whole alternatives v' waiting starts stack capacity stack_capacity
  whole_reported waiting i x report h e o v' is formed = subst (λ (u : PoolData N Event). Whole alternatives u waiting starts stack capacity stack_capacity)
      (sym is) (record {
        formed = subst (λ (u : PoolData N Event). Formed alternatives u.batches u.pieces waiting capacity u.busy) is formed;
        shaped = shaped_reported alternatives v h.shaped i x report e o;
        points = points_reported alternatives v h.shaped stack h.points i x report e o;
        filled = h.filled;
        begins = λ b k inside. ap (λ (l : List Alternative). slice_get (l ++ map (λ (w : Waiting N). place_in w) waiting) (slice_index starts b + k))
            (places_kept (with_status (Closed report)) (λ x. refl) i v.pieces) ∙ h.begins b k inside;
        long = h.long;
        wide = h.wide;
      })

  pub whole_published : (waiting copies : List (Waiting N)) (i : ℕ) (x : Piece Event) (value : N) (starts' : List ℕ) (stack_capacity' : ℕ)
      → Whole alternatives v waiting starts stack capacity stack_capacity → MayGrow alternatives v i x value
      → AreCopies (length v.batches) (length (alternatives value)) value copies
      → starts' ≡ starts ++ (length v.pieces + length waiting) ∷ [] → length v.batches + 1 ≤ stack_capacity'
      → (v' : PoolData N Event) → v' ≡ published v i value (length (alternatives value))
      → Formed alternatives v'.batches v'.pieces (waiting ++ copies) capacity' v'.busy
      → Whole alternatives v' (waiting ++ copies) starts' stack capacity' stack_capacity'
  whole_published waiting copies i x value starts' stack_capacity' h may are grown room v' is formed =
      subst (λ (u : PoolData N Event). Whole alternatives u (waiting ++ copies) starts' stack capacity' stack_capacity') (sym is) (
      let n = length v.batches in let m = length (alternatives value) in
      let q : PoolData N Event = published v i value m in
      let l = length_more v.batches value in
      let len' : length_of alternatives q n ≡ m = ap length (here alternatives v h.shaped i x value may) in
      let place : Waiting N → Alternative = λ w. place_in w in
      let old : List Alternative = map place_of v.pieces ++ map place waiting in
      let order_now : map place_of (change i (with_batch n) v.pieces) ++ map place (waiting ++ copies) ≡ old ++ alternatives_of n m =
      (λ j. places_kept (with_batch n) (λ x. refl) i v.pieces j ++ map-append place waiting copies j)
      ∙ (sym (append_assoc (map place_of v.pieces) (map place waiting) (map place copies)) ∙ ap (λ l. old ++ l) are.places) in
      let first : length old ≡ length v.pieces + length waiting =
      length-append (map place_of v.pieces) (map place waiting) ∙ (λ j. length-map v.pieces place_of j + length-map waiting place j) in
      let some = may.some in let lg = h.long in let w = h.wide in
      let starts_old : (b : ℕ) → b < n → slice_index starts' b ≡ slice_index starts b =
      λ b low. ap (λ (ss : List ℕ). slice_index ss b) grown ∙ get_or_append_left starts ((length v.pieces + length waiting) ∷ []) 0 b (omega arith) in
      let start_new : slice_index starts' n ≡ length v.pieces + length waiting =
      ap (λ (ss : List ℕ). slice_index ss n) grown ∙ get_or_push starts (length v.pieces + length waiting) 0 n lg in
      let same_len : (b : ℕ) → (b ≡ n → ⊥) → length_of alternatives q b ≡ length_of alternatives v b =
      λ b d. ap length (same alternatives v h.shaped i x value may b d) in
      record {
        formed = subst (λ (u : PoolData N Event). Formed alternatives u.batches u.pieces (waiting ++ copies) capacity' u.busy) is formed;
        shaped = shaped_published alternatives v h.shaped i x value may;
        points = points_published alternatives v h.shaped stack h.points i x value may;
        filled = λ c low. ⊎_elim (λ (e : c ≡ n). let z : length_of alternatives q c ≡ m = ap (length_of alternatives q) e ∙ len' in
            omega arith) (λ (e : c ≡ n → ⊥). let z = same_len c e in let f = h.filled c (omega arith) in omega arith) (cases_eq c n);
        begins = λ b k inside. ap (λ (l : List Alternative). slice_get l (slice_index starts' b + k)) order_now ∙ ⊎_elim
            (λ (e : b ≡ n).
            let z : length_of alternatives q b ≡ m = ap (length_of alternatives q) e ∙ len' in
            let y : slice_index starts' b ≡ length v.pieces + length waiting = ap (slice_index starts') e ∙ start_new in
            let k' : 0 + k ≡ k = omega arith in
            get_right old (alternatives_of n m) k (slice_index starts' b + k) (omega arith)
            ∙ (new_there n 0 m k (omega arith) ∙ (λ j. Some (record { batch = sym e j; k = k' j }))))
            (λ (e : b ≡ n → ⊥).
            let z = same_len b e in
            let before : k < length_of alternatives v b = omega arith in
            let low = owed_before alternatives v.batches b k before in
            ap (λ s. slice_get (old ++ alternatives_of n m) (s + k)) (starts_old b low)
            ∙ get_front old (alternatives_of n m) (slice_index starts b + k) (record { batch = b; k = k }) (h.begins b k before))
            (cases_eq b n);
        long = let g : length starts' ≡ length (starts ++ (length v.pieces + length waiting) ∷ []) = ap length grown in
            let t = length_more starts (length v.pieces + length waiting) in omega arith;
        wide = omega arith;
      })

  pub whole_took : (waiting : List (Waiting N)) (base : List Alternative) (e : Alternative) (i : ℕ) (x : Piece Event) (report : Owed Event)
      → Whole alternatives v waiting starts (base ++ e ∷ []) capacity stack_capacity
      → (points : PointsIn alternatives v (base ++ e ∷ [])) (shape : Shaped alternatives v)
      → slice_get v.pieces i ≡ Some x → x.batch ≡ e.batch → x.k ≡ e.k → x.status ≡ Closed report → MayTake alternatives v i x report
      → (v' : PoolData N Event) → v' ≡ took v i → Formed alternatives v'.batches v'.pieces waiting capacity v'.busy
      → Whole alternatives v' waiting starts (after_top alternatives v shape base e points x.published) capacity stack_capacity
  whole_took waiting base e i x report h points shape at b k closed may v' is formed =
      subst (λ (u : PoolData N Event). Whole alternatives u waiting starts (after_top alternatives v shape base e points x.published) capacity stack_capacity)
      (sym is) (record {
        formed = subst (λ (u : PoolData N Event). Formed alternatives u.batches u.pieces waiting capacity u.busy) is formed;
        shaped = shaped_took alternatives v h.shaped i x report may;
        points = points_took alternatives v shape base e points i x report at b k closed h.filled;
        filled = h.filled;
        begins = λ b k inside. ap (λ (l : List Alternative). slice_get (l ++ map (λ (w : Waiting N). place_in w) waiting) (slice_index starts b + k))
            (places_kept (with_status Taken) (λ x. refl) i v.pieces) ∙ h.begins b k inside;
        long = h.long;
        wide = h.wide;
      })

module _ {N : Type 0} (alternatives : N → List (Owed Event)) where
  pub whole_popped : (v : PoolData N Event) (waiting waiting' : List (Waiting N)) (starts : List ℕ) (stack : List Alternative) (capacity stack_capacity : ℕ)
      → waiting ≡ waiting' → Whole alternatives v waiting starts stack capacity stack_capacity
      → Whole alternatives v waiting' starts stack capacity stack_capacity
  whole_popped v waiting waiting' starts stack capacity stack_capacity e h = subst (λ ws. Whole alternatives v ws starts stack capacity stack_capacity) e h

  pub opening_points : (root : N) (workers : ℕ) → length (alternatives root) ≡ 1 → PointsIn alternatives (opening root workers) (begin 0 ∷ [])
  opening_points root workers one =
      let p : PoolData N Event = opening root workers in
      let kids = kids_of p.pieces in let len = length_of alternatives p in
      record {
        front = [];
        order = sym (rest_begin kids len 1 (ends alternatives p) (λ b k inside. tt) 0);
        before = refl;
        others = all_untaken (last_first (rest kids len 1) (begin 0 ∷ []));
        valid = (omega arith, tt);
        deep = omega arith;
      }
    where
      all_untaken : (walk : List Alternative) → list_all (λ a. not (is_taken {E = Event} [] a)) walk ≡ true
      all_untaken [] = refl
      all_untaken (a ∷ walk) = all_untaken walk

  pub whole_grown : (v : PoolData N Event) (starts : List ℕ) (stack : List Alternative) (capacity capacity' stack_capacity : ℕ)
      (waiting waiting' copies : List (Waiting N)) (i : ℕ) (value : N) (starts' : List ℕ) (stack_capacity' n m t : ℕ)
      → Whole alternatives v waiting starts stack capacity stack_capacity
      → (x : Piece Event) × (slice_get v.pieces i ≡ Some x) × (x.status ≡ Open) → 0 < m → v.total + m ≤ 4294967295 → AreCopies n m value copies
      → n ≡ length v.batches → m ≡ length (alternatives value)
      → starts' ≡ starts ++ t ∷ [] → t ≡ length v.pieces + length waiting → length v.batches + 1 ≤ stack_capacity' → waiting' ≡ waiting ++ copies
      → (v' : PoolData N Event) → v' ≡ published v i value m → Formed alternatives v'.batches v'.pieces waiting' capacity' v'.busy
      → Whole alternatives v' waiting' starts' stack capacity' stack_capacity'
  whole_grown v starts stack capacity capacity' stack_capacity waiting waiting' copies i value starts' stack_capacity' n m t h o some small are number long
      grown first room w v' is formed =
      whole_popped v' (waiting ++ copies) waiting' starts' stack capacity' stack_capacity' (sym w) (
      whole_published alternatives v starts stack capacity capacity' stack_capacity waiting copies i o.0 value starts' stack_capacity' h
      (record { piece = o.1; open_still = o.2; some = subst (λ l. 0 < l) long some; room = subst (λ l. v.total + l ≤ 4294967295) long small })
      (subst (λ l. AreCopies (length v.batches) l value copies) long (subst (λ k. AreCopies k m value copies) number are))
      (grown ∙ ap (λ u. starts ++ u ∷ []) first) room v' (is ∙ ap (published v i value) long)
      (subst (λ ws. Formed alternatives v'.batches v'.pieces ws capacity' v'.busy) w formed))

  pub opening_whole : {E : Type 0} (root : Arc N Global) (arcs : List (Arc N Global)) (slots : List (Slot E)) (waiting : List (Waiting N)) (starts : List ℕ)
      (stops : List Stop)
      (stop : Stop) (capacity stack_capacity workers : ℕ)
      → arcs ≡ root ∷ [] → slots ≡ [] → length (alternatives (arc_value root)) ≡ 1 → AreCopies 0 1 (arc_value root) waiting → 1 ≤ capacity → starts ≡ 0 ∷ []
      → stops ≡ stop ∷ [] → stop_in stop ≡ begin 0 → 1 ≤ stack_capacity
      → Whole alternatives (record {
        batches = map arc_value arcs;
        pieces = map piece_in slots;
        workers = workers;
        busy = 0;
        total =
            length slots + length waiting;
        untried = length waiting;
        starved = false;
        stopped = false;
      }) waiting starts (map stop_in stops) capacity
      stack_capacity
  opening_whole root arcs slots waiting starts stops stop capacity stack_capacity workers e d one are room st sp at wide =
      let k = copies_are 1 0 (arc_value root) waiting are in
      let l : length slots ≡ 0 = ap length d in
      let v : PoolData N Event = record {
        batches = map arc_value arcs;
        pieces = map piece_in slots;
        workers = workers;
        busy = 0;
        total =
            length slots + length waiting;
        untried = length waiting;
        starved = false;
        stopped = false;
      } in
      let q : PoolData N Event = opening (arc_value root) workers in
      let total : length slots + length waiting ≡ 1 = omega arith in
      let is : v ≡ q = λ j. record {
        batches = map arc_value (e j);
        pieces = map piece_in (d j);
        workers = workers;
        busy = 0;
        total = total j;
        untried = k j;
        starved = false;
        stopped = false;
      } in
      let stack : map stop_in stops ≡ begin 0 ∷ [] = ap (map stop_in) sp ∙ ap (λ a. a ∷ []) at in
      subst (λ (u : PoolData N Event). Whole alternatives u waiting starts (map stop_in stops) capacity stack_capacity) (sym is) (record {
        formed = subst (λ (u : PoolData N Event). Formed alternatives u.batches u.pieces waiting capacity u.busy) is
            (opening_forms alternatives root arcs slots waiting capacity e d one are room);
        shaped = opening_shape alternatives (arc_value root) workers one;
        points = subst (PointsIn alternatives q) (sym stack) (opening_points (arc_value root) workers one);
        filled = λ c low. first_only c low;
        begins = λ b k inside. ap (λ (ls : List Alternative). slice_get ls (slice_index starts b + k)) are.places ∙ first_place b k inside;
        long = ap length st;
        wide = wide;
      })
    where
      first_only : (c : ℕ) → c < 1 → 0 < length_of alternatives (opening (arc_value root) workers) c
      first_only zero low = omega arith
      first_only (suc c) low = absurd (omega arith)

      first_place : (b k : ℕ) → k < length_of alternatives (opening (arc_value root) workers) b
          → slice_get {X = Alternative} (alternatives_of 0 1) (slice_index starts b + k) ≡ Some (record { batch = b; k = k })
      first_place zero k inside = let z : k ≡ 0 = omega arith in let y : slice_index starts 0 ≡ 0 = ap (λ (ss : List ℕ). slice_index ss 0) st in
          let x : slice_index starts 0 + k ≡ 0 = omega arith in
          ap (slice_get {X = Alternative} (alternatives_of 0 1)) x ∙ (λ j. Some (record { batch = 0; k = sym z j }))
      first_place (suc b) k inside = absurd (omega arith)

  pub whole_stack : (v : PoolData N Event) (waiting : List (Waiting N)) (starts : List ℕ) (stops stops' : List Stop) (capacity stack_capacity : ℕ)
      → stops' ≡ stops → Whole alternatives v waiting starts (map stop_in stops) capacity stack_capacity
      → Whole alternatives v waiting starts (map stop_in stops') capacity stack_capacity
  whole_stack v waiting starts stops stops' capacity stack_capacity e h =
      subst (λ ss. Whole alternatives v waiting starts (map stop_in ss) capacity stack_capacity) (sym e) h

  -- in no less room
  pub whole_wider : (v : PoolData N Event) (waiting : List (Waiting N)) (starts : List ℕ) (stack : List Alternative)
      (capacity capacity' stack_capacity stack_capacity' : ℕ) → capacity ≤ capacity' → stack_capacity ≤ stack_capacity'
      → Whole alternatives v waiting starts stack capacity stack_capacity → Whole alternatives v waiting starts stack capacity' stack_capacity'
  whole_wider v waiting starts stack capacity capacity' stack_capacity stack_capacity' a b h = record {
    formed = record {
      order = h.formed.order;
      copies = h.formed.copies;
      room = below (length v.pieces + length waiting) capacity capacity' h.formed.room a;
      small = h.formed.small;
      few = h.formed.few;
      busy = h.formed.busy;
    };
    shaped = h.shaped;
    points = h.points;
    filled = h.filled;
    begins = h.begins;
    long = h.long;
    wide = below (length v.batches) stack_capacity stack_capacity' h.wide b;
  }
    where
      below : (i n m : ℕ) → i ≤ n → n ≤ m → i ≤ m
      below i n m h k = omega arith

  module _ {E : Type 0} (arcs arcs' : List (Arc N Global)) (slots slots' : List (Slot E)) (waiting waiting' : List (Waiting N)) (workers busy : ℕ)
      (starved stopped : Bool)
      (a : arcs' ≡ arcs) (p : map piece_in slots' ≡ map piece_in slots) (w : waiting' ≡ waiting) where
    -- a pool that is as before is seen as before
    pub data_alike : data_of arcs' slots' (length waiting') workers busy starved stopped ≡ data_of arcs slots (length waiting) workers busy starved stopped
    data_alike =
        let l : length slots' ≡ length slots = sym (length-map slots' piece_in) ∙ (ap length p ∙ length-map slots piece_in) in
        λ j. record {
          batches = map arc_value (a j);
          pieces = p j;
          workers = workers;
          busy = busy;
          total = l j + length (w j);
          untried = length (w j);
          starved = starved;
          stopped = stopped;
        }

    -- and is as sound in no less room
    pub whole_alike : (starts starts' : List ℕ) (stops stops' : List Stop) (capacity capacity' stack_capacity stack_capacity' : ℕ)
        → starts' ≡ starts → stops' ≡ stops → capacity ≤ capacity' → stack_capacity ≤ stack_capacity'
        → Whole alternatives (data_of arcs slots (length waiting) workers busy starved stopped) waiting starts (map stop_in stops) capacity stack_capacity
        → Whole alternatives (data_of arcs' slots' (length waiting') workers busy starved stopped) waiting' starts' (map stop_in stops') capacity'
        stack_capacity'
    whole_alike starts starts' stops stops' capacity capacity' stack_capacity stack_capacity' s t c d h =
        let v : PoolData N Event = data_of arcs slots (length waiting) workers busy starved stopped in
        subst (λ (u : PoolData N Event). Whole alternatives u waiting' starts' (map stop_in stops') capacity' stack_capacity') (sym data_alike)
        (subst (λ ws. Whole alternatives v ws starts' (map stop_in stops') capacity' stack_capacity') (sym w)
        (subst (λ ss. Whole alternatives v waiting ss (map stop_in stops') capacity' stack_capacity') (sym s)
        (subst (λ ts. Whole alternatives v waiting starts (map stop_in ts) capacity' stack_capacity') (sym t)
        (whole_wider v waiting starts (map stop_in stops) capacity capacity' stack_capacity stack_capacity' c d h))))
