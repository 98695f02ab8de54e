-- A publishing keeps a pool sound.
use Rattle.std.proofs.Common.{◌≡◌, ℕ, zero, suc, ◌+◌, ◌-◌, ◌<◌, ◌≤◌, List, [], ◌∷◌, ◌++◌, Bool, true, false, not, length, map, refl, sym, ap, ◌∙◌, subst}
use Rattle.std.proofs.Common.{⊎_elim, arith, append_assoc, if◌then◌else◌, Some, None, take}
use Rattle.std.specs.Prelude.{flat_map, slice_get, sum_by}
use Rattle.std.specs.List.{list_all}
use Rattle.std.proofs.lemmas.Bool.{cases_Bool, cases_eq, true≢false, and_parts, and_from, eq-eqb}
use Rattle.std.proofs.lemmas.List.{take_at, length-append, length_push, map_push, length-map}
use Rattle.std.proofs.lemmas.List.Concat.{flat_map-append}
use Rattle.std.proofs.lemmas.List.Sums.{sum_by_push, sum_by-cons}
use Rattle.std.proofs.lemmas.List.Folds.{list_all-append}
use Rattle.ll_list_laws.proofs.CallerLemmas.{some_is, none_not_some}
use Rattle.ll_laws.specs.Pool.{Owed, Status, Piece, PoolData, Alternative}
use Rattle.ll_laws.specs.Spread.{alternatives_of, numbers, last_first, walk_deep, is_of, piece_of, kids_of, published_by, share, owed_at, owed_by}
use Rattle.ll_laws.specs.Spread.{list_or_empty, owed_or_nothing, owes_of, length_of, walk, given_events, given_cost, batch_events, batch_cost}
use Rattle.ll_laws.specs.Sound.{Every, Each, Reported, Shaped, Sound, is_open, is_taken, is_taken_piece, is_taken_status, count_open, all_published, count_of}
use Rattle.ll_laws.specs.Sound.{TakenFirst}
use Rattle.ll_core.specs.Cursor.{rest}
use Rattle.ll_laws.specs.CoreEvents.{change, with_batch, published}
use Rattle.ll_core.proofs.events.Conditions.{MayGrow, MayPublish}
use Rattle.ll_core.proofs.walks.Walks.{every_more, every_snoc, last_first_same, last_first_snoc, walk_inserted, rest_inserted, is_alternative, insert_after}
use Rattle.ll_core.proofs.walks.Once.{one_if, hit, hit_other}
use Rattle.ll_laws.specs.Pool.{place}
use Rattle.ll_core.proofs.events.Pieces.{Changed, get_front, get_seam, change_get, length-change, found, find_none, is_of_parts}
use Rattle.ll_core.proofs.sound.Facts.{ends, kids_within, owed_before, get_map}
use Rattle.ll_core.proofs.events.Statuses.{each_changed, apart_changed, piece_here, piece_elsewhere, read_same, has_piece_changed, open_changed}
use Rattle.ll_core.proofs.events.Claims.{each_snoc}

pub get_other : {X : Type 0} (xs : List X) (y : X) (i : ℕ) → (i ≡ length xs → ⊥) → slice_get (xs ++ y ∷ []) i ≡ slice_get xs i
get_other [] y zero h = absurd (h refl)
get_other [] y (suc i) h = refl
get_other (x ∷ xs) y zero h = refl
get_other (x ∷ xs) y (suc i) h = get_other xs y i (λ e. h (ap suc e))

front_of : {X : Type 0} (a b : List X) → take (length (a ++ b) - length b) (a ++ b) ≡ a
front_of a b = take_at a b (length (a ++ b) - length b) (let h = length-append a b in omega arith)

sum_same : (f g : ℕ → ℕ) (xs : List ℕ) → Every (λ x. f x ≡ g x) xs → sum_by f xs ≡ sum_by g xs
sum_same f g [] h = refl
sum_same f g (x ∷ xs) h = sum_by-cons f x xs ∙ ((λ i. h.0 i + sum_same f g xs h.1 i) ∙ sym (sum_by-cons g x xs))

count_none : (n : ℕ) (ks : List ℕ) → Every (λ c. c < n) ks → count_of n ks ≡ 0
count_none n [] h = refl
count_none n (k ∷ ks) h = let low = h.0 in let a = hit_other n k (λ e. omega arith) in let r = count_none n ks h.1 in omega arith

count_append : (c : ℕ) (xs ys : List ℕ) → count_of c (xs ++ ys) ≡ count_of c xs + count_of c ys
count_append c [] ys = omega arith
count_append c (x ∷ xs) ys = let h = count_append c xs ys in omega arith

module _ {E : Type 0} where
  -- batches that owe the same in both lists
  module _ (owes owes' : List (List (Owed E))) (n : ℕ) (same : (b : ℕ) → (b ≡ n → ⊥) → owed_by owes' b ≡ owed_by owes b) where
    given_same : (ks : List ℕ) → Every (λ c. c < n) ks → last_first (batch_events owes') ks ≡ last_first (batch_events owes) ks
    given_same ks h = last_first_same (batch_events owes') (batch_events owes) ks
        (every_more (λ c. c < n) (λ c. batch_events owes' c ≡ batch_events owes c) ks
        (λ c low. ap (flat_map (λ (o : Owed E). o.events)) (same c (λ e. omega arith))) h)

    cost_same : (ks : List ℕ) → Every (λ c. c < n) ks → sum_by (batch_cost owes') ks ≡ sum_by (batch_cost owes) ks
    cost_same ks h = sum_same (batch_cost owes') (batch_cost owes) ks
        (every_more (λ c. c < n) (λ c. batch_cost owes' c ≡ batch_cost owes c) ks (λ c low. ap (sum_by (λ (o : Owed E). o.cost)) (same c (λ e. omega arith))) h)

    owed_same : (b k : ℕ) → b < n → owed_at owes' b k ≡ owed_at owes b k
    owed_same b k low = ap (λ os. owed_or_nothing (slice_get os k)) (same b (λ e. omega arith))

    share_same : (x : Piece E) → x.batch < n → Every (λ c. c < n) x.published → share owes' x ≡ share owes x
    share_same x low h = λ i. record {
      events = take (length (owed_same x.batch x.k low i).events - length (given_same x.published h i)) (owed_same x.batch x.k low i).events;
      cost = (owed_same x.batch x.k low i).cost - cost_same x.published h i;
    }

  all_snoc : (pieces : List (Piece E)) (i n b : ℕ) (x : Piece E) → slice_get pieces i ≡ Some x
      → count_of b (all_published (change i (with_batch n) pieces)) ≡ count_of b (all_published pieces) + hit b n
  all_snoc [] zero n b x e = absurd (none_not_some x e)
  all_snoc [] (suc i) n b x e = absurd (none_not_some x e)
  all_snoc (y ∷ pieces) zero n b x e =
      let h1 = count_append b (y.published ++ n ∷ []) (all_published pieces) in
      let h2 = count_append b y.published (n ∷ []) in
      let h3 = count_append b y.published (all_published pieces) in omega arith
  all_snoc (y ∷ pieces) (suc i) n b x e =
      let h1 = count_append b y.published (all_published (change i (with_batch n) pieces)) in
      let h2 = all_snoc pieces i n b x e in
      let h3 = count_append b y.published (all_published pieces) in omega arith

  all_low : (pieces : List (Piece E)) (n : ℕ) → Each pieces (λ (x : Piece E). Every (λ c. (x.batch < c) × (c < n)) x.published)
      → count_of n (all_published pieces) ≡ 0
  all_low [] n h = refl
  all_low (x ∷ pieces) n h =
      let a = count_append n x.published (all_published pieces) in
      let b = count_none n x.published (every_more (λ c. (x.batch < c) × (c < n)) (λ c. c < n) x.published (λ c q. q.1) (h 0 x refl)) in
      let r = all_low pieces n (λ i y e. h (suc i) y e) in omega arith

-- the taken ones still come first after others were put in behind an untaken one
pub front_same : (taken : Alternative → Bool) (at : Alternative) (new : List Alternative) → ((a : Alternative) → taken a ≡ true → is_alternative a at ≡ false)
    → (front : List Alternative) → list_all taken front ≡ true → flat_map (insert_after at new) front ≡ front
front_same taken at new other [] h = refl
front_same taken at new other (a ∷ front) h =
    let t = and_parts (taken a) (list_all taken front) h in
    (λ i. a ∷ ((if other a t.0 i then new else []) ++ front_same taken at new other front t.1 i))

pub back_same : (test : Alternative → Bool) (at : Alternative) (new : List Alternative) → list_all test new ≡ true → (back : List Alternative)
    → list_all test back ≡ true → list_all test (flat_map (insert_after at new) back) ≡ true
back_same test at new n [] h = refl
back_same test at new n (a ∷ back) h =
    let t = and_parts (test a) (list_all test back) h in
    list_all-append test (insert_after at new a) (flat_map (insert_after at new) back)
    ∙ and_from (list_all test (insert_after at new a)) (list_all test (flat_map (insert_after at new) back))
    (and_from (test a) (list_all test (if is_alternative a at then new else [])) t.0 (either (is_alternative a at)))
    (back_same test at new n back t.1)
  where
    either : (b : Bool) → list_all test (if b then new else []) ≡ true
    either true = n
    either false = refl

pub all_new : (test : Alternative → Bool) (b : ℕ) → ((k : ℕ) → test (record { batch = b; k = k }) ≡ true) → (from n : ℕ)
    → list_all test (map (λ k. record { batch = b; k = k }) (numbers from n)) ≡ true
all_new test b h from zero = refl
all_new test b h from (suc n) = and_from (test (record { batch = b; k = from })) _ (h from) (all_new test b h (suc from) n)

whole_split : {A : Type 0} (es rest given : List A) → es ≡ rest ++ given → es ≡ take (length es - length given) es ++ given
whole_split es rest given h = h ∙ ap (λ l. l ++ given) (sym (front_of rest given) ∙ ap (λ l. take (length l - length given) l) (sym h))

pub length_more : {X : Type 0} (xs : List X) (y : X) → length (xs ++ y ∷ []) ≡ suc (length xs)
length_more xs y = let h = length_push xs y in omega arith

module _ {N E : Type 0} (alternatives : N → List (Owed E)) (p : PoolData N E) (s : Shaped alternatives p) (i : ℕ) (x : Piece E) (b : N)
    (may : MayGrow alternatives p i x b) where
  abbrev n : ℕ
  n = length p.batches

  abbrev m : ℕ
  m = length (alternatives b)

  abbrev owes : List (List (Owed E))
  owes = owes_of alternatives p

  abbrev owes' : List (List (Owed E))
  owes' = owes_of alternatives (published p i b m)

  abbrev f : Piece E → Piece E
  f = with_batch n

  abbrev pieces' : List (Piece E)
  pieces' = change i f p.pieces

  pub long : length owes ≡ n
  long = length-map p.batches alternatives

  pub same : (c : ℕ) → (c ≡ n → ⊥) → owed_by owes' c ≡ owed_by owes c
  same c h = ap list_or_empty (ap (λ l. slice_get l c) (map_push alternatives p.batches b) ∙ get_other owes (alternatives b) c (λ e. h (e ∙ long)))

  pub here : owed_by owes' n ≡ alternatives b
  here = ap list_or_empty (ap (λ l. slice_get l n) (map_push alternatives p.batches b)
      ∙ (ap (slice_get (owes ++ alternatives b ∷ [])) (sym long) ∙ get_seam owes (alternatives b)))

  pub low : (j : ℕ) (y : Piece E) → slice_get p.pieces j ≡ Some y → y.batch < n
  low j y e = owed_before alternatives p.batches y.batch y.k (s.named j y e)

  pub kids_low : (j : ℕ) (y : Piece E) → slice_get p.pieces j ≡ Some y → Every (λ c. c < n) y.published
  kids_low j y e = every_more (λ c. (y.batch < c) × (c < n)) (λ c. c < n) y.published (λ c q. q.1) (s.only j y e)

  not_new : (k j : ℕ) (y : Piece E) → slice_get p.pieces j ≡ Some y → is_of (record { batch = n; k = k }) y ≡ false
  not_new k j y e = ⊎_elim (λ (t : is_of (record { batch = n; k = k }) y ≡ true). let q = (is_of_parts (record { batch = n; k = k }) y t).0 in
      let l = low j y e in absurd (omega arith)) (λ (t : is_of (record { batch = n; k = k }) y ≡ false). t) (cases_Bool (is_of (record { batch = n; k = k }) y))

  pub none_new : (k : ℕ) → piece_of p.pieces (record { batch = n; k = k }) ≡ None
  none_new k = find_none (is_of (record { batch = n; k = k })) p.pieces (not_new k)

  kids_new : (k : ℕ) → kids_of pieces' n k ≡ []
  kids_new k = ap published_by (piece_elsewhere f (λ x. refl) (λ x. refl) i p.pieces x may.piece (record { batch = n; k = k }) (not_new k i x may.piece)
      ∙ none_new k)

  kids_at : (c k : ℕ) → is_alternative (record { batch = c; k = k }) (place x) ≡ true → kids_of pieces' c k ≡ kids_of p.pieces c k ++ n ∷ []
  kids_at c k t = let q = is_of_parts (record { batch = c; k = k }) x t in
      ap published_by (piece_here f (λ x. refl) (λ x. refl) i p.pieces x s.apart may.piece (record { batch = c; k = k }) t)
      ∙ ap (λ o. published_by o ++ n ∷ []) (sym (found p.pieces s.apart i x (record { batch = c; k = k }) may.piece q.0 q.1))

  kids_else : (c k : ℕ) → is_alternative (record { batch = c; k = k }) (place x) ≡ false → kids_of pieces' c k ≡ kids_of p.pieces c k
  kids_else c k t = ap published_by (piece_elsewhere f (λ x. refl) (λ x. refl) i p.pieces x may.piece (record { batch = c; k = k }) t)

  some_batch : 0 < n
  some_batch = let l = low i x may.piece in omega arith

  pub walk_published : walk alternatives (published p i b m) ≡ flat_map (insert_after (place x) (alternatives_of n m)) (walk alternatives p)
  walk_published =
      ap (λ d. walk_deep (kids_of pieces') (length_of alternatives (published p i b m)) d 0) (length_more p.batches b)
      ∙ walk_inserted (kids_of p.pieces) (kids_of pieces') (length_of alternatives p) (length_of alternatives (published p i b m)) n m (place x)
      (ends alternatives p) (λ c k inside. kids_within p.pieces n s.only c k) (λ c h. ap length (same c (λ e. omega arith))) (ap length here) kids_new kids_at
      kids_else n 0 some_batch (omega arith)

  pub rest_published : (c k : ℕ) → c < n → rest (kids_of pieces') (length_of alternatives (published p i b m)) (length (p.batches ++ b ∷ []))
      (record { batch = c; k = k }) ≡ flat_map (insert_after (place x) (alternatives_of n m))
      (rest (kids_of p.pieces) (length_of alternatives p) n (record { batch = c; k = k }))
  rest_published c k low' =
      ap (λ d. rest (kids_of pieces') (length_of alternatives (published p i b m)) d (record { batch = c; k = k })) (length_more p.batches b)
      ∙ rest_inserted (kids_of p.pieces) (kids_of pieces') (length_of alternatives p) (length_of alternatives (published p i b m)) n m (place x)
      (ends alternatives p) (λ c k inside. kids_within p.pieces n s.only c k) (λ c h. ap length (same c (λ e. omega arith))) (ap length here) kids_new kids_at
      kids_else c k low'

  pub taken_same : (a : Alternative) → is_taken pieces' a ≡ is_taken p.pieces a
  taken_same = read_same f (λ x. refl) (λ x. refl) is_taken_piece i p.pieces x refl s.apart may.piece

  pub not_taken_here : (a : Alternative) → is_taken p.pieces a ≡ true → is_alternative a (place x) ≡ false
  not_taken_here a t = ⊎_elim
      (λ (h : is_of a x ≡ true). let q = is_of_parts a x h in
      absurd (true≢false (sym t ∙ (ap is_taken_piece (found p.pieces s.apart i x a may.piece q.0 q.1) ∙ ap is_taken_status may.open_still))))
      (λ (h : is_of a x ≡ false). h)
      (cases_Bool (is_of a x))

  first_taken : TakenFirst (is_taken p.pieces) (flat_map (insert_after (place x) (alternatives_of n m)) (walk alternatives p))
  first_taken =
      let into = insert_after (place x) (alternatives_of n m) in
      let t = is_taken p.pieces in (
        s.taken.0,
        flat_map into s.taken.1,
        ap (flat_map into) s.taken.2 ∙ (flat_map-append into s.taken.0 s.taken.1
            ∙ ap (λ l. l ++ flat_map into s.taken.1) (front_same t (place x) (alternatives_of n m) not_taken_here s.taken.0 s.taken.3)),
        s.taken.3,
        back_same (λ a. not (t a)) (place x) (alternatives_of n m) (all_new (λ a. not (t a)) n (λ k. ap (λ o. not (is_taken_piece o)) (none_new k)) 0 m)
            s.taken.1 s.taken.4,
      )

  once_more : (c : ℕ) → 0 < c → c < length (p.batches ++ b ∷ []) → count_of c (all_published pieces') ≡ 1
  once_more c low' high =
      let h = all_snoc p.pieces i n c x may.piece in
      let l = length_more p.batches b in
      ⊎_elim
      (λ (e : n ≡ c). let z : count_of c (all_published p.pieces) ≡ 0 = ap (λ d. count_of d (all_published p.pieces)) (sym e) ∙ all_low p.pieces n s.only in
      let o : hit c n ≡ 1 = ap one_if (eq-eqb n c e) in omega arith)
      (λ (e : n ≡ c → ⊥). let z : count_of c (all_published p.pieces) ≡ 1 = s.once c low' (omega arith) in let o = hit_other c n e in omega arith)
      (cases_eq n c)

  kept : {j : ℕ} {y : Piece E} {V : Type 0} (v : Piece E → V) → ((z : Piece E) → v (f z) ≡ v z)
      → (c : (z : Piece E) × (slice_get p.pieces j ≡ Some z) × Changed f i j z y) → v y ≡ v c.0
  kept {j = j} {y = y} v keeps c = ⊎_elim (λ (h : (j ≡ i) × (y ≡ f c.0)). ap v h.1 ∙ keeps c.0) (λ (h : (j ≡ i → ⊥) × (y ≡ c.0)). ap v h.1) c.2

  pub shaped_published : Shaped alternatives (published p i b m)
  shaped_published =
      let l = length_more p.batches b in
      let totals : sum_by length owes' ≡ sum_by length owes + m =
      ap (sum_by length) (map_push alternatives p.batches b) ∙ sum_by_push length owes (alternatives b) in
      let t = s.total in let u = s.untried in let long' = length-change i f p.pieces in
      let opens : count_open pieces' + one_if (is_open x.status) ≡ count_open p.pieces + one_if (is_open x.status) =
      open_changed f (λ x. refl) (λ x. refl) i p.pieces x may.piece in
      let bs = s.busy in
      record {
        named = each_changed (λ (y : Piece E). y.k < length (owed_by owes y.batch)) (λ (y : Piece E). y.k < length (owed_by owes' y.batch)) i f p.pieces s.named
            (λ y g h. named_still y h) named_still;
        apart = apart_changed f (λ x. refl) (λ x. refl) i p.pieces s.apart;
        first = each_changed _ _ i f p.pieces s.first (λ y g h j low. has_piece_changed f (λ x. refl) (λ x. refl) i p.pieces y.batch j (h j low))
            (λ y h j low. has_piece_changed f (λ x. refl) (λ x. refl) i p.pieces y.batch j (h j low));
        once = once_more;
        only = each_changed (λ (y : Piece E). (y.batch < n) × Every (λ c. (y.batch < c) × (c < n)) y.published)
            (λ (y : Piece E). Every (λ c. (y.batch < c) × (c < length (p.batches ++ b ∷ []))) y.published) i f p.pieces (λ j y e. (low j y e, s.only j y e))
            (λ y g h. every_snoc (λ c. (y.batch < c) × (c < length (p.batches ++ b ∷ []))) y.published n (wider y h.1) (h.0, omega arith)) (λ y h. wider y h.1);
        busy = omega arith;
        total = omega arith;
        small = may.room;
        untried = omega arith;
        taken = subst (λ (t : Alternative → Bool). TakenFirst t (walk alternatives (published p i b m))) (λ j a. sym (taken_same a) j)
            (subst (TakenFirst (is_taken p.pieces)) (sym walk_published) first_taken);
        workers = each_changed _ _ i f p.pieces s.workers (λ y g h. h) (λ y h. h);
        one_open = λ j k y z g h o q w.
            let c = change_get i f p.pieces j y g in let d = change_get i f p.pieces k z h in
            s.one_open j k c.0 d.0 c.1 d.1 (sym (kept (λ (u : Piece E). u.status) (λ u. refl) c) ∙ o) (sym (kept (λ (u : Piece E). u.status) (λ u. refl) d) ∙ q)
            (sym (kept (λ (u : Piece E). u.worker) (λ u. refl) c) ∙ (w ∙ kept (λ (u : Piece E). u.worker) (λ u. refl) d));
      }
    where
      named_still : (y : Piece E) → y.k < length (owed_by owes y.batch) → y.k < length (owed_by owes' y.batch)
      named_still y h = let l = owed_before alternatives p.batches y.batch y.k h in
          subst (λ (os : List (Owed E)). y.k < length os) (sym (same y.batch (λ e. omega arith))) h

      wider : (y : Piece E) → Every (λ c. (y.batch < c) × (c < n)) y.published → Every (λ c. (y.batch < c) × (c < length (p.batches ++ b ∷ []))) y.published
      wider y h = every_more (λ c. (y.batch < c) × (c < n)) (λ c. (y.batch < c) × (c < length (p.batches ++ b ∷ []))) y.published (λ c q. let l =
          length_more p.batches b in let q1 = q.1 in (q.0, omega arith)) h

module _ {N Of E : Type 0} (of : N → Of) (alternatives : N → List (Owed E)) (p : PoolData N E) (problem : Of) (pair : Owed E)
    (s : Sound of alternatives p problem pair)
    (i : ℕ) (x : Piece E) (b : N) (may : MayPublish alternatives of p i x b) where
  abbrev n' : ℕ
  n' = length p.batches

  abbrev owed : List (List (Owed E))
  owed = owes_of alternatives p

  abbrev owed' : List (List (Owed E))
  owed' = owes_of alternatives (published p i b (length (alternatives b)))

  abbrev f' : Piece E → Piece E
  f' = with_batch (length p.batches)

  still : (c : ℕ) → (c ≡ n' → ⊥) → owed_by owed' c ≡ owed_by owed c
  still = same alternatives p s.shape i x b may.grow

  newest : owed_by owed' n' ≡ alternatives b
  newest = here alternatives p s.shape i x b may.grow

  abbrev Told : Piece E → Type 0
  Told y = (y.batch < n') × Every (λ c. c < n') y.published × ((owed_at owed y.batch y.k).events ≡ (share owed y).events ++ given_events owed y)
      × (given_cost owed y ≤ (owed_at owed y.batch y.k).cost)

  told : Each p.pieces Told
  told j y e = (low alternatives p s.shape i x b may.grow j y e, kids_low alternatives p s.shape i x b may.grow j y e, s.events j y e, s.costs j y e)

  is_x : (y : Piece E) → slice_get p.pieces i ≡ Some y → x ≡ y
  is_x y e = some_is x y (sym may.grow.piece ∙ e)

  events_same : (y : Piece E) → Told y → (owed_at owed' y.batch y.k).events ≡ (share owed' y).events ++ given_events owed' y
  events_same y t = ap (λ (o : Owed E). o.events) (owed_same owed owed' n' still y.batch y.k t.0)
      ∙ (t.2 ∙ (λ j. (sym (share_same owed owed' n' still y t.0 t.1) j).events ++ sym (given_same owed owed' n' still y.published t.1) j))

  told_rest : (y : Piece E) → Told y → x ≡ y → (owed_at owed' y.batch y.k).events ≡ may.splits.rest ++ given_events owed' (f' y)
  told_rest y t e =
      let new : List E = flat_map (λ (o : Owed E). o.events) (alternatives b) in
      let given' : given_events owed' (f' y) ≡ new ++ given_events owed y =
      last_first_snoc (batch_events owed') y.published n' ∙ (λ j. flat_map (λ (o : Owed E). o.events) (newest j)
      ++ given_same owed owed' n' still y.published t.1 j) in
      let ends : (share owed y).events ≡ may.splits.rest ++ new = ap (λ (z : Piece E). (share owed z).events) (sym e) ∙ may.splits.ends in
      ap (λ (o : Owed E). o.events) (owed_same owed owed' n' still y.batch y.k t.0)
      ∙
      (t.2 ∙ (ap (λ l. l ++ given_events owed y) ends ∙ (append_assoc may.splits.rest new (given_events owed y)
      ∙ ap (λ l. may.splits.rest ++ l) (sym given'))))

  events_less : (y : Piece E) → Told y → x ≡ y → (owed_at owed' y.batch y.k).events ≡ (share owed' (f' y)).events ++ given_events owed' (f' y)
  events_less y t e = whole_split (owed_at owed' y.batch y.k).events may.splits.rest (given_events owed' (f' y)) (told_rest y t e)

  costs_same : (y : Piece E) → Told y → given_cost owed' y ≤ (owed_at owed' y.batch y.k).cost
  costs_same y t =
      let a : given_cost owed' y ≡ given_cost owed y = cost_same owed owed' n' still y.published t.1 in
      let c : (owed_at owed' y.batch y.k).cost ≡ (owed_at owed y.batch y.k).cost =
      ap (λ (o : Owed E). o.cost) (owed_same owed owed' n' still y.batch y.k t.0) in
      let h = t.3 in omega arith

  costs_more : (y : Piece E) → Told y → x ≡ y → given_cost owed' (f' y) ≤ (owed_at owed' y.batch y.k).cost
  costs_more y t e =
      let d : given_cost owed' (f' y) ≡ given_cost owed' y + batch_cost owed' n' = sum_by_push (batch_cost owed') y.published n' in
      let g : batch_cost owed' n' ≡ sum_by (λ (o : Owed E). o.cost) (alternatives b) = ap (sum_by (λ (o : Owed E). o.cost)) newest in
      let a : given_cost owed' y ≡ given_cost owed y = cost_same owed owed' n' still y.published t.1 in
      let c : (owed_at owed' y.batch y.k).cost ≡ (owed_at owed y.batch y.k).cost =
      ap (λ (o : Owed E). o.cost) (owed_same owed owed' n' still y.batch y.k t.0) in
      let k : sum_by (λ (o : Owed E). o.cost) (alternatives b) ≤ (owed_at owed y.batch y.k).cost - given_cost owed y =
      subst (λ (z : Piece E). sum_by (λ (o : Owed E). o.cost) (alternatives b) ≤ (share owed z).cost) e may.splits.cost in
      let h = t.3 in omega arith

  pub sound_published : Sound of alternatives (published p i b (length (alternatives b))) problem pair
  sound_published = record {
    shape = shaped_published alternatives p s.shape i x b may.grow;
    root = ap (λ l. slice_get l 0) (map_push alternatives p.batches b) ∙ get_front owed (alternatives b ∷ []) 0 (pair ∷ []) s.root;
    events = each_changed Told (λ (y : Piece E). (owed_at owed' y.batch y.k).events ≡ (share owed' y).events ++ given_events owed' y) i f' p.pieces told
        (λ y g h. events_less y h (is_x y g)) events_same;
    costs = each_changed Told (λ (y : Piece E). given_cost owed' y ≤ (owed_at owed' y.batch y.k).cost) i f' p.pieces told (λ y g h. costs_more y h (is_x y g))
        costs_same;
    reports = each_changed (λ (y : Piece E). Told y × Reported (share owed y) y.status) (λ (y : Piece E). Reported (share owed' y) y.status) i f' p.pieces
        (λ j y e. (told j y e, s.reports j y e))
        (λ y g h. subst (λ (st : Status E). Reported (share owed' (f' y)) st) (sym may.grow.open_still ∙ ap (λ (z : Piece E). z.status) (is_x y g)) tt)
        (λ y h. subst (λ (o : Owed E). Reported o y.status) (sym (share_same owed owed' n' still y h.0.0 h.0.1)) h.1);
    alike = each_snoc (λ c. of c ≡ problem) (λ c. of c ≡ problem) p.batches b s.alike (λ c h. h) (let r = get_map alternatives p.batches 0 (pair ∷ []) s.root in
        may.splits.alike r.0 r.1 ∙ s.alike 0 r.0 r.1);
  }

  -- what the piece owed is what it owes now, and then what the batch owes
  pub events_split : (share owed' (f' x)).events ++ flat_map (λ (o : Owed E). o.events) (alternatives b) ≡ (share owed x).events
  events_split =
      let given' : List E = given_events owed' (f' x) in
      let es : List E = (owed_at owed' x.batch x.k).events in
      let rest : take (length es - length given') es ≡ may.splits.rest =
      ap (λ l. take (length l - length given') l) (told_rest x (told i x may.grow.piece) refl) ∙ front_of may.splits.rest given' in
      ap (λ l. l ++ flat_map (λ (o : Owed E). o.events) (alternatives b)) rest ∙ sym may.splits.ends

  pub cost_split : (share owed' (f' x)).cost + sum_by (λ (o : Owed E). o.cost) (alternatives b) ≡ (share owed x).cost
  cost_split =
      let t = told i x may.grow.piece in
      let d : given_cost owed' (f' x) ≡ given_cost owed' x + batch_cost owed' n' = sum_by_push (batch_cost owed') x.published n' in
      let g : batch_cost owed' n' ≡ sum_by (λ (o : Owed E). o.cost) (alternatives b) = ap (sum_by (λ (o : Owed E). o.cost)) newest in
      let a : given_cost owed' x ≡ given_cost owed x = cost_same owed owed' n' still x.published t.1 in
      let c : (owed_at owed' x.batch x.k).cost ≡ (owed_at owed x.batch x.k).cost =
      ap (λ (o : Owed E). o.cost) (owed_same owed owed' n' still x.batch x.k t.0) in
      let k : sum_by (λ (o : Owed E). o.cost) (alternatives b) ≤ (owed_at owed x.batch x.k).cost - given_cost owed x = may.splits.cost in
      let now : (share owed' (f' x)).cost ≡ (owed_at owed' x.batch x.k).cost - given_cost owed' (f' x) = refl in
      let was : (share owed x).cost ≡ (owed_at owed x.batch x.k).cost - given_cost owed x = refl in
      let h = t.3 in omega arith
