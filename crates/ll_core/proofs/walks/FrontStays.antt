-- What was taken stays in front: where a later pool has the same pieces taken, the taken front of its walk is the same, and the
-- reports that were taken are what it owes still.
use Rattle.std.proofs.Common.{◌≡◌, ℕ, suc, ◌+◌, ◌-◌, ◌<◌, ◌≤◌, List, [], ◌∷◌, ◌++◌, Bool, true, false, not, length, refl, sym, ap, ◌∙◌, subst, ⊎_elim, arith}
use Rattle.std.proofs.Common.{append_assoc, append-nil, eqb, Some}
use Rattle.std.specs.Prelude.{flat_map, slice_get}
use Rattle.std.specs.List.{list_all}
use Rattle.std.proofs.lemmas.Bool.{cases_Bool, and_parts, and_from, false≢true, cases_lt, eqb-true}
use Rattle.std.proofs.lemmas.List.Concat.{flat_map-append}
use Rattle.ll_list_laws.proofs.CallerLemmas.{some_is}
use Rattle.ll_laws.specs.Pool.{Owed, Taken, Piece, PoolData, Alternative}
use Rattle.ll_laws.specs.Spread.{numbers, last_first, walk_alternative, walk_deep, piece_of, piece_events, gives, share, owes_of, length_of, walk, kids_of}
use Rattle.ll_laws.specs.Spread.{published_by}
use Rattle.ll_laws.specs.Search.{cut_count}
use Rattle.ll_laws.specs.Sound.{Every, Shaped, Sound, is_taken, is_taken_piece, is_taken_status}
use Rattle.ll_laws.specs.Later.{Later}
use Rattle.ll_core.specs.Cursor.{rest, begin}
use Rattle.ll_core.proofs.walks.Walks.{every_more, last_first_same, flat_last_first, is_alternative}
use Rattle.ll_core.specs.Given.{Given, SameTaken, price, share_cost, total, value}
use Rattle.ll_core.proofs.walks.Once.{total-append, one_if, is_at}
use Rattle.ll_core.proofs.events.Pieces.{found, lookup, is_of_from, get_below}
use Rattle.ll_core.proofs.walks.Unique.{stands_once}
use Rattle.ll_core.proofs.sound.Facts.{ends, kids_within, owed_before, get_map}
use Rattle.ll_core.proofs.ready.Cursors.{every_all, rest_begin}
use Rattle.ll_core.proofs.ready.Pointing.{every_append}
use Rattle.ll_core.proofs.events.Statuses.{all_more}
use Rattle.ll_core.proofs.runs.Given.{taken_piece, values_same, prices_same}
use Rattle.ll_core.proofs.runs.LaterPools.{taken_same_piece, share_kept, owed_kept}

-- ---- one step of a stack whose top is its head

abbrev next : Alternative → Alternative
next e = record { batch = e.batch; k = e.k + 1 }

abbrev starts : List ℕ → List Alternative
starts ks = last_first (λ c. begin c ∷ []) ks

every_starts : (P : ℕ → Type 0) (ks : List ℕ) → Every P ks → Every (λ (e : Alternative). P e.batch) (starts ks)
every_starts P [] h = tt
every_starts P (c ∷ ks) h = every_append (λ (e : Alternative). P e.batch) (starts ks) (begin c ∷ []) (every_starts P ks h.1) (h.0, tt)

module _ (kids : ℕ → ℕ → List ℕ) (len : ℕ → ℕ) (n : ℕ) where
  abbrev ahead : List Alternative → List Alternative
  ahead tops = flat_map (rest kids len n) tops

  rest_none : (e : Alternative) → len e.batch ≤ e.k → rest kids len n e ≡ []
  rest_none e h = let z : len e.batch - e.k ≡ 0 = omega arith in ap (λ l. flat_map (walk_alternative kids (walk_deep kids len n) e.batch) (numbers e.k l)) z

  rest_step : (e : Alternative) → e.k < len e.batch → rest kids len n e ≡ e ∷ (last_first (walk_deep kids len n) (kids e.batch e.k) ++ rest kids len n (next e))
  rest_step e low =
      let z : len e.batch - e.k ≡ suc (len e.batch - (e.k + 1)) = omega arith in
      let y : suc e.k ≡ e.k + 1 = omega arith in
      let f : ℕ → List Alternative = walk_alternative kids (walk_deep kids len n) e.batch in
      ap (λ l. flat_map f (numbers e.k l)) z ∙ ap (λ k. f e.k ++ flat_map f (numbers k (len e.batch - (e.k + 1)))) y

  module _ (ends : (b : ℕ) → n ≤ b → len b ≡ 0) (up : (b k : ℕ) → k < len b → Every (λ c. b < c) (kids b k)) where
    starts_are : (ks : List ℕ) → ahead (starts ks) ≡ last_first (walk_deep kids len n) ks
    starts_are ks =
        flat_last_first (rest kids len n) (λ c. begin c ∷ []) ks
        ∙ last_first_same (λ c. ahead (begin c ∷ [])) (walk_deep kids len n) ks
        (every_all (λ c. ahead (begin c ∷ []) ≡ walk_deep kids len n c) (λ c. append-nil (rest kids len n (begin c)) ∙ rest_begin kids len n ends up c) ks)

    ahead_step : (e : Alternative) (tops : List Alternative) → e.k < len e.batch → ahead (e ∷ tops) ≡ e ∷ ahead (starts (kids e.batch e.k) ++ next e ∷ tops)
    ahead_step e tops low =
        let r : Alternative → List Alternative = rest kids len n in
        let below : List Alternative = last_first (walk_deep kids len n) (kids e.batch e.k) in
        ap (λ l. l ++ flat_map r tops) (rest_step e low)
        ∙ ap (λ l. e ∷ l) (append_assoc below (r (next e)) (flat_map r tops)
        ∙ (ap (λ l. l ++ (r (next e) ++ flat_map r tops)) (sym (starts_are (kids e.batch e.k)))
        ∙ sym (flat_map-append r (starts (kids e.batch e.k)) (next e ∷ tops))))

-- ---- two walks that agree on what is taken

module _
    (kids kids' : ℕ → ℕ → List ℕ) (len len' : ℕ → ℕ) (n n' : ℕ)
    (ends : (b : ℕ) → n ≤ b → len b ≡ 0) (up : (b k : ℕ) → k < len b → Every (λ c. b < c) (kids b k))
    (ends' : (b : ℕ) → n' ≤ b → len' b ≡ 0) (up' : (b k : ℕ) → k < len' b → Every (λ c. b < c) (kids' b k))
    (inside : (b k : ℕ) → Every (λ c. c < n) (kids b k)) (same_len : (b : ℕ) → b < n → len' b ≡ len b)
    (taken : Alternative → Bool) (same_kids : (a : Alternative) → taken a ≡ true → kids' a.batch a.k ≡ kids a.batch a.k)
  where
    -- the first of what is ahead stands on the stack
    record Top (tops : List Alternative) (a : Alternative) (l : List Alternative) : Type 0 where
      below : List Alternative
      low : Every (λ (e : Alternative). e.batch < n) below
      batch : a.batch < n
      k : a.k < len a.batch
      left : l ≡ ahead kids len n (starts (kids a.batch a.k) ++ next a ∷ below)
      same : ahead kids' len' n' tops ≡ ahead kids' len' n' (a ∷ below)

    top_of : (tops : List Alternative) → Every (λ (e : Alternative). e.batch < n) tops → (a : Alternative) (l : List Alternative)
        → ahead kids len n tops ≡ a ∷ l → Top tops a l
    top_of [] low a l e = absurd (cc)
    top_of (t ∷ tops) low a l e = ⊎_elim
        (λ (h : t.k < len t.batch).
        let both = sym e ∙ ahead_step kids len n ends up t tops h in
        let is : a ≡ t = cc in
        let left : l ≡ ahead kids len n (starts (kids t.batch t.k) ++ next t ∷ tops) = cc in
        subst (λ b. Top (t ∷ tops) b l) (sym is) (record { below = tops; low = low.1; batch = low.0; k = h; left = left; same = refl }))
        (λ (h : len t.batch ≤ t.k).
        let h' : len' t.batch ≤ t.k = (let s = same_len t.batch low.0 in omega arith) in
        let more = top_of tops low.1 a l (sym (ap (λ x. x ++ ahead kids len n tops) (rest_none kids len n t h)) ∙ e) in
        record {
          below = more.below;
          low = more.low;
          batch = more.batch;
          k = more.k;
          left = more.left;
          same =
              ap (λ x. x ++ ahead kids' len' n' tops) (rest_none kids' len' n' t h') ∙ more.same;
        })
        (cases_lt t.k (len t.batch))

    -- a front that is taken is the front of both
    pub same_front : (front back tops : List Alternative) → Every (λ (e : Alternative). e.batch < n) tops → ahead kids len n tops ≡ front ++ back
        → list_all taken front ≡ true
        → (tops' : List Alternative) × (ahead kids' len' n' tops ≡ front ++ ahead kids' len' n' tops')
    same_front [] back tops low e h = (tops, refl)
    same_front (a ∷ front) back tops low e h =
        let t = and_parts (taken a) (list_all taken front) h in
        let top = top_of tops low a (front ++ back) e in
        let on : List Alternative = starts (kids a.batch a.k) ++ next a ∷ top.below in
        let low' = every_append (λ (e : Alternative). e.batch < n) (starts (kids a.batch a.k)) (next a ∷ top.below)
        (every_starts (λ c. c < n) (kids a.batch a.k) (inside a.batch a.k)) (top.batch, top.low) in
        let rest = same_front front back on low' (sym top.left) t.1 in
        let k' : a.k < len' a.batch = (let s = same_len a.batch top.batch in let k = top.k in omega arith) in (
          rest.0,
          top.same ∙ (ahead_step kids' len' n' ends' up' a top.below k'
              ∙ (ap (λ ks. a ∷ ahead kids' len' n' (starts ks ++ next a ∷ top.below)) (same_kids a t.0) ∙ ap (λ l. a ∷ l) rest.1)),
        )

-- ---- pools

some_total : (f : Alternative → Bool) (xs : List Alternative) → ((a : Alternative) → 0 < total (is_at a) xs → f a ≡ true) → list_all f xs ≡ true
some_total f [] h = refl
some_total f (a ∷ xs) h =
    let self : is_at a a ≡ 1 = ap one_if (is_alternative_self a) in
    and_from (f a) (list_all f xs) (h a (omega arith)) (some_total f xs (λ b more. h b (omega arith)))
  where
    is_alternative_self : (a : Alternative) → is_alternative a a ≡ true
    is_alternative_self a = is_of_from {E = Unit {0}} a (record { batch = a.batch; k = a.k; worker = 0; published = []; status = Taken }) refl refl

none_there : (f : Alternative → Bool) (at : Alternative) (xs : List Alternative) → f at ≡ true → ((a : Alternative) → is_alternative a at ≡ true → f a ≡ f at)
    → list_all (λ a. not (f a)) xs ≡ true → total (is_at at) xs ≡ 0
none_there f at [] t same h = refl
none_there f at (a ∷ xs) t same h =
    let p = and_parts (not (f a)) (list_all (λ a. not (f a)) xs) h in
    let here : is_at at a ≡ 0 = ⊎_elim
    (λ (e : is_alternative a at ≡ true). absurd (false≢true (sym (ap not (same a e ∙ t)) ∙ p.0)))
    (λ (e : is_alternative a at ≡ false). ap one_if e)
    (cases_Bool (is_alternative a at)) in
    let rest = none_there f at xs t same p.1 in omega arith

module _ {N Of E : Type 0} (of : N → Of) (alternatives : N → List (Owed E)) (p q : PoolData N E) (problem : Of) (pair : Owed E)
    (s : Sound of alternatives p problem pair) (t : Sound of alternatives q problem pair)
    (later : Later p q) (same : SameTaken p q) where
  -- what is taken keeps its piece and its share
  steady : (a : Alternative) → is_taken p.pieces a ≡ true
      → (x : Piece E) × (piece_of p.pieces a ≡ Some x) × (x.status ≡ Taken) × (piece_of q.pieces a ≡ Some x)
      × (share (owes_of alternatives q) x ≡ share (owes_of alternatives p) x)
  steady a taken =
      let o = taken_piece (piece_of p.pieces a) taken in
      let l = lookup p.pieces a o.0 o.1 in
      let y = later.pieces l.0 o.0 l.1 in
      let is : y.0 ≡ o.0 = taken_same_piece o.0 y.0 y.2 o.2 in (
        o.0,
        o.1,
        o.2,
        found q.pieces t.shape.apart l.0 o.0 a (y.1 ∙ ap Some is) l.2 l.3,
        share_kept (owes_of alternatives p) (owes_of alternatives q) (length p.batches) (owed_kept alternatives p q later) o.0
            (owed_before alternatives p.batches o.0.batch o.0.k (s.shape.named l.0 o.0 l.1))
            (every_more (λ c. (o.0.batch < c) × (c < length p.batches)) (λ c. c < length p.batches) o.0.published (λ c h. h.1) (s.shape.only l.0 o.0 l.1)),
      )

  still_taken : (a : Alternative) → is_taken p.pieces a ≡ true → is_taken q.pieces a ≡ true
  still_taken a taken = let h = steady a taken in ap is_taken_piece h.3 ∙ ap is_taken_status h.2

  steady_value : (a : Alternative) → is_taken p.pieces a ≡ true → value of alternatives q a ≡ value of alternatives p a
  steady_value a taken =
      let h = steady a taken in
      ap (gives (owes_of alternatives q) a) h.3
      ∙ (ap (piece_events (owes_of alternatives q) h.0) h.2
      ∙ (ap (λ (o : Owed E). o.events) h.4
      ∙ sym (ap (gives (owes_of alternatives p) a) h.1 ∙ ap (piece_events (owes_of alternatives p) h.0) h.2)))

  steady_price : (a : Alternative) → is_taken p.pieces a ≡ true → price of alternatives q a ≡ price of alternatives p a
  steady_price a taken =
      let h = steady a taken in
      ap (share_cost (owes_of alternatives q) a) h.3 ∙ (ap (λ (o : Owed E). o.cost) h.4 ∙ sym (ap (share_cost (owes_of alternatives p) a) h.1))

  steady_kids : (a : Alternative) → is_taken p.pieces a ≡ true → kids_of q.pieces a.batch a.k ≡ kids_of p.pieces a.batch a.k
  steady_kids a taken = let h = steady a taken in ap published_by h.3 ∙ sym (ap published_by h.1)

  was_taken : (a : Alternative) → is_taken q.pieces a ≡ true
      → (i : ℕ) × (x : Piece E) × (slice_get p.pieces i ≡ Some x) × (slice_get q.pieces i ≡ Some x) × (x.batch ≡ a.batch) × (x.k ≡ a.k)
      × (is_taken p.pieces a ≡ true)
  was_taken a taken =
      let o = taken_piece (piece_of q.pieces a) taken in
      let l = lookup q.pieces a o.0 o.1 in
      let back = (same l.0).1 (o.0, l.1, o.2) in
      let y = later.pieces l.0 back.0 back.1 in
      let is : y.0 ≡ back.0 = taken_same_piece back.0 y.0 y.2 back.2 in
      let here : slice_get q.pieces l.0 ≡ Some back.0 = y.1 ∙ ap Some is in
      let same_x : o.0 ≡ back.0 = some_is o.0 back.0 (sym l.1 ∙ here) in
      let b : back.0.batch ≡ a.batch = ap (λ (x : Piece E). x.batch) (sym same_x) ∙ l.2 in
      let k : back.0.k ≡ a.k = ap (λ (x : Piece E). x.k) (sym same_x) ∙ l.3 in
      (l.0, back.0, back.1, here, b, k, ap is_taken_piece (found p.pieces s.shape.apart l.0 back.0 a back.1 b k) ∙ ap is_taken_status back.2)

  some_batch : 0 < length p.batches
  some_batch = let root = get_map alternatives p.batches 0 (pair ∷ []) s.root in get_below p.batches 0 root.0 root.1

  up_in : (r : PoolData N E) → Shaped alternatives r → (b k : ℕ) → k < length_of alternatives r b → Every (λ c. b < c) (kids_of r.pieces b k)
  up_in r h b k inside = every_more (λ c. (b < c) × (c < length r.batches)) (λ c. b < c) (kids_of r.pieces b k) (λ c h. h.0)
      (kids_within r.pieces (length r.batches) h.only b k)

  walk_is : (r : PoolData N E) → Shaped alternatives r → ahead (kids_of r.pieces) (length_of alternatives r) (length r.batches) (begin 0 ∷ [])
      ≡ walk alternatives r
  walk_is r h = append-nil (rest (kids_of r.pieces) (length_of alternatives r) (length r.batches) (begin 0))
      ∙ rest_begin (kids_of r.pieces) (length_of alternatives r) (length r.batches) (ends alternatives r) (up_in r h) 0

  module _ (reports : List (Owed E)) (g : Given of alternatives p reports) where
    fronts : (tops : List Alternative) × (walk alternatives q ≡ g.front ++ ahead (kids_of q.pieces) (length_of alternatives q) (length q.batches) tops)
    fronts =
        let f = same_front (kids_of p.pieces) (kids_of q.pieces) (length_of alternatives p) (length_of alternatives q) (length p.batches) (length q.batches)
        (ends alternatives p) (up_in p s.shape) (ends alternatives q) (up_in q t.shape)
        (λ b k. every_more (λ c. (b < c) × (c < length p.batches)) (λ c. c < length p.batches) (kids_of p.pieces b k) (λ c h. h.1)
        (kids_within p.pieces (length p.batches) s.shape.only b k))
        (λ b low. ap length (owed_kept alternatives p q later b low))
        (is_taken p.pieces) steady_kids g.front g.back (begin 0 ∷ []) (some_batch, tt) (walk_is p s.shape ∙ g.order) g.before in
        (f.0, sym (walk_is q t.shape) ∙ f.1)

    abbrev behind : List Alternative
    behind = ahead (kids_of q.pieces) (length_of alternatives q) (length q.batches) fronts.0

    -- what is taken stands in the front, and so not behind it
    not_behind : (a : Alternative) → 0 < total (is_at a) behind → is_taken q.pieces a ≡ true → ⊥
    not_behind a there taken =
        let w = was_taken a taken in
        let i = w.0 in let x = w.1 in
        let in_p : a.k < length_of alternatives p a.batch = subst (λ b. a.k < length_of alternatives p b) w.4
        (subst (λ k. k < length_of alternatives p x.batch) w.5 (s.shape.named i x w.2)) in
        let in_q : a.k < length_of alternatives q a.batch = subst (λ b. a.k < length_of alternatives q b) w.4
        (subst (λ k. k < length_of alternatives q x.batch) w.5 (t.shape.named i x w.3)) in
        let one_p : total (is_at a) (g.front ++ g.back) ≡ 1 = ap (total (is_at a)) (sym g.order) ∙ stands_once alternatives p s.shape a.batch a.k in_p in
        let one_q : total (is_at a) (g.front ++ behind) ≡ 1 = ap (total (is_at a)) (sym fronts.1) ∙ stands_once alternatives q t.shape a.batch a.k in_q in
        let parts_p = total-append (is_at a) g.front g.back in
        let parts_q = total-append (is_at a) g.front behind in
        let none = none_there (is_taken p.pieces) a g.back w.6 (λ b e. let h = and_parts (eqb b.batch a.batch) (eqb b.k a.k) e in
        λ j. is_taken p.pieces (record { batch = eqb-true b.batch a.batch h.0 j; k = eqb-true b.k a.k h.1 j })) g.others in
        omega arith

    pub given_later : Given of alternatives q reports
    given_later = record {
      front = g.front;
      back = behind;
      order = fronts.1;
      before = all_more (is_taken p.pieces) (is_taken q.pieces) g.front still_taken g.before;
      others = some_total (λ a. not (is_taken q.pieces a)) behind (λ a there. ⊎_elim
          (λ (h : is_taken q.pieces a ≡ true). absurd (not_behind a there h))
          (λ (h : is_taken q.pieces a ≡ false). ap not h)
          (cases_Bool (is_taken q.pieces a)));
      events = g.events ∙ sym (values_same (value of alternatives q) (value of alternatives p) (is_taken p.pieces) g.front steady_value g.before);
      costs = g.costs ∙ sym (ap cut_count (prices_same (price of alternatives q) (price of alternatives p) (is_taken p.pieces) g.front steady_price g.before));
    }
