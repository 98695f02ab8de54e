-- The stack of `ready` goes on pointing at the next in walk order.
use Rattle.std.proofs.Common.{◌≡◌, ℕ, zero, suc, ◌+◌, ◌<◌, ◌≤◌, List, [], ◌∷◌, ◌++◌, Bool, true, false, not, length, map, refl, sym, ap, ◌∙◌, subst, ⊎_elim}
use Rattle.std.proofs.Common.{arith, append_assoc, if◌then◌else◌, Some}
use Rattle.std.specs.Prelude.{flat_map, slice_get}
use Rattle.std.specs.List.{list_all}
use Rattle.std.proofs.lemmas.Bool.{cases_Bool, cases_lt, lt-ltb, le-ltb, and_parts, and_from}
use Rattle.std.proofs.lemmas.List.{length-append, length-map}
use Rattle.std.proofs.lemmas.List.Folds.{list_all-append}
use Rattle.std.proofs.lemmas.List.Concat.{flat_map-append}
use Rattle.ll_list_laws.proofs.CallerLemmas.{some_is, none_not_some, false_from_not}
use Rattle.ll_laws.specs.Pool.{Owed, Open, Closed, Taken, Piece, PoolData, Alternative}
use Rattle.ll_laws.specs.Spread.{last_first, is_of, kids_of, published_by, alternatives_of, length_of, walk}
use Rattle.ll_laws.specs.Sound.{Every, Shaped, is_taken, is_taken_piece, is_taken_status}
use Rattle.ll_laws.specs.CoreEvents.{change, with_status, with_batch, new_piece, claimed, reported, published, took, MayTake}
use Rattle.ll_core.specs.Given.{total}
use Rattle.ll_core.proofs.events.Conditions.{MayClaim, MayGrow}
use Rattle.ll_core.specs.Cursor.{rest, begin, next_of, untaken, Points, PointsIn}
use Rattle.ll_core.proofs.walks.Walks.{every_more, insert_after, flat_last_first, last_first_same}
use Rattle.ll_core.proofs.walks.Once.{one_if, is_at, total-append}
use Rattle.ll_laws.specs.Pool.{place}
use Rattle.ll_core.proofs.events.Pieces.{found, is_of_from}
use Rattle.ll_core.proofs.sound.Facts.{ends, kids_within, owed_before}
use Rattle.ll_core.proofs.walks.Unique.{unique}
use Rattle.ll_core.proofs.events.Statuses.{piece_here, piece_elsewhere, read_same, all_more, untaken_elsewhere}
use Rattle.ll_core.proofs.events.Claims.{read_snoc, apart_snoc}
use Rattle.ll_core.proofs.events.Publishes.{same, length_more, walk_published, taken_same, not_taken_here, none_new, front_same, back_same, all_new}
use Rattle.ll_core.proofs.events.Publishes.{rest_published}
use Rattle.ll_core.proofs.ready.Cursors.{stack_step}

points_same : (kids kids' : ℕ → ℕ → List ℕ) (len : ℕ → ℕ) (n : ℕ) (taken taken' : Alternative → Bool) (more more' : ℕ) (stack : List Alternative)
    → ((b k : ℕ) → kids' b k ≡ kids b k) → ((a : Alternative) → taken' a ≡ taken a) → more' ≡ more → Points kids len n taken more stack
    → Points kids' len n taken' more' stack
points_same kids kids' len n taken taken' more more' stack k t m h =
    subst (λ f. Points f len n taken' more' stack) (λ i b j. sym (k b j) i)
    (subst (λ f. Points kids len n f more' stack) (λ i a. sym (t a) i) (subst (λ u. Points kids len n taken u stack) (sym m) h))

module _ {E : Type 0} where
  untaken_snoc : (pieces : List (Piece E)) (w b k : ℕ) → untaken (pieces ++ new_piece w b k ∷ []) ≡ untaken pieces
  untaken_snoc [] w b k = refl
  untaken_snoc (x ∷ pieces) w b k = let h = untaken_snoc pieces w b k in omega arith

  abbrev pub weight : Piece E → ℕ
  weight x = if is_taken_status x.status then 0 else length x.published

  pub untaken_change : (f : Piece E → Piece E) (i : ℕ) (pieces : List (Piece E)) (x : Piece E) → slice_get pieces i ≡ Some x
      → untaken (change i f pieces) + weight x ≡ untaken pieces + weight (f x)
  untaken_change f zero [] x e = absurd (none_not_some x e)
  untaken_change f (suc i) [] x e = absurd (none_not_some x e)
  untaken_change f zero (y ∷ pieces) x e = let a : weight y ≡ weight x = ap weight (some_is y x e) in
      let b : weight (f y) ≡ weight (f x) = ap (λ z. weight (f z)) (some_is y x e) in
      let c : untaken (y ∷ pieces) ≡ weight y + untaken pieces = refl in let d : untaken (f y ∷ pieces) ≡ weight (f y) + untaken pieces = refl in omega arith
  untaken_change f (suc i) (y ∷ pieces) x e = let h = untaken_change f i pieces x e in
      let c : untaken (y ∷ pieces) ≡ weight y + untaken pieces = refl in
      let d : untaken (y ∷ change i f pieces) ≡ weight y + untaken (change i f pieces) = refl in omega arith

  pub weight_untaken : (x : Piece E) (t : Bool) → is_taken_status x.status ≡ t → t ≡ false → weight x ≡ length x.published
  weight_untaken x t e f = ap (λ b. if b then 0 else length x.published) (e ∙ f)

module _ {N E : Type 0} (alternatives : N → List (Owed E)) (p : PoolData N E) (s : Shaped alternatives p) (stack : List Alternative)
    (points : PointsIn alternatives p stack) where
  pub points_claimed : (w b k : ℕ) → MayClaim alternatives p w b k → PointsIn alternatives (claimed p w b k) stack
  points_claimed w b k may =
      let y : Piece E = new_piece w b k in
      let apart = apart_snoc p.pieces y s.apart may.untried.free in
      points_same (kids_of p.pieces) (kids_of (p.pieces ++ y ∷ [])) (length_of alternatives p) (length p.batches) (is_taken p.pieces)
      (is_taken (p.pieces ++ y ∷ [])) (untaken p.pieces) (untaken (p.pieces ++ y ∷ [])) stack
      (λ c j. read_snoc published_by p.pieces y refl may.untried.free apart (record { batch = c; k = j }))
      (read_snoc is_taken_piece p.pieces y refl may.untried.free apart)
      (untaken_snoc p.pieces w b k) points

  pub points_reported : (i : ℕ) (x : Piece E) (report : Owed E) → slice_get p.pieces i ≡ Some x → x.status ≡ Open
      → PointsIn alternatives (reported p i report) stack
  points_reported i x report e o =
      let f : Piece E → Piece E = with_status (Closed report) in
      let was : is_taken_status x.status ≡ false = ap is_taken_status o in
      let h = untaken_change f i p.pieces x e in let a = weight_untaken x _ refl was in let b : weight (f x) ≡ length x.published = refl in
      points_same (kids_of p.pieces) (kids_of (change i f p.pieces)) (length_of alternatives p) (length p.batches) (is_taken p.pieces)
      (is_taken (change i f p.pieces)) (untaken p.pieces) (untaken (change i f p.pieces)) stack
      (λ c j. read_same f (λ x. refl) (λ x. refl) published_by i p.pieces x refl s.apart e (record { batch = c; k = j }))
      (read_same f (λ x. refl) (λ x. refl) is_taken_piece i p.pieces x (sym was) s.apart e)
      (omega arith) points

  pub points_published : (i : ℕ) (x : Piece E) (b : N) → MayGrow alternatives p i x b → PointsIn alternatives (published p i b (length (alternatives b))) stack
  points_published i x b may =
      let n = length p.batches in let m = length (alternatives b) in
      let q : PoolData N E = published p i b m in
      let f : Piece E → Piece E = with_batch n in
      let into = insert_after (place x) (alternatives_of n m) in
      let t = is_taken p.pieces in
      let old = rest (kids_of p.pieces) (length_of alternatives p) n in
      let new = rest (kids_of q.pieces) (length_of alternatives q) (length q.batches) in
      let valid : Every (λ (e : Alternative). e.batch < n) stack =
      every_more (λ (e : Alternative). e.k < length_of alternatives p e.batch) (λ (e : Alternative). e.batch < n) stack
      (λ e h. owed_before alternatives p.batches e.batch e.k h) points.valid in
      let left : last_first new stack ≡ flat_map into (last_first old stack) =
      last_first_same new (λ e. flat_map into (old e)) stack
      (every_more (λ (e : Alternative). e.batch < n) (λ (e : Alternative). new e ≡ flat_map into (old e)) stack
      (λ e h. rest_published alternatives p s i x b may e.batch e.k h) valid) ∙ sym (flat_last_first into old stack) in
      let was : is_taken_status x.status ≡ false = ap is_taken_status may.open_still in
      let h = untaken_change f i p.pieces x may.piece in let a = weight_untaken x _ refl was in
      let c : weight (f x) ≡ length (x.published ++ n ∷ []) = weight_untaken (f x) _ refl was in
      let l = length_more x.published n in let l' = length_more p.batches b in let d = points.deep in
      subst (λ (t : Alternative → Bool). Points (kids_of q.pieces) (length_of alternatives q) (length q.batches) t (untaken q.pieces) stack)
      (λ j a. sym (taken_same alternatives p s i x b may a) j) (record {
        front = points.front;
        order = walk_published alternatives p s i x b may ∙ (ap (flat_map into) points.order
            ∙ (flat_map-append into points.front (last_first old stack)
            ∙ (λ j. front_same t (place x) (alternatives_of n m) (not_taken_here alternatives p s i x b may) points.front points.before j ++ sym left j)));
        before = points.before;
        others = ap (list_all (λ a. not (t a))) left ∙ back_same (λ a. not (t a)) (place x) (alternatives_of n m)
            (all_new (λ a. not (t a)) n (λ k. ap (λ o. not (is_taken_piece o)) (none_new alternatives p s i x b may k)) 0 m) (last_first old stack)
            points.others;
        valid = every_more (λ (e : Alternative). e.k < length_of alternatives p e.batch) (λ (e : Alternative). e.k < length_of alternatives q e.batch) stack
            (λ e h. let w = owed_before alternatives p.batches e.batch e.k h in
            subst (λ os. e.k < length os) (sym (same alternatives p s i x b may e.batch (λ z. omega arith))) h) points.valid;
        deep = omega arith;
      })

pub every_append : {X : Type 0} (P : X → Type 0) (xs ys : List X) → Every P xs → Every P ys → Every P (xs ++ ys)
every_append P [] ys h g = g
every_append P (x ∷ xs) ys h g = (h.0, every_append P xs ys h.1 g)

pub every_front : {X : Type 0} (P : X → Type 0) (xs ys : List X) → Every P (xs ++ ys) → Every P xs
every_front P [] ys h = tt
every_front P (x ∷ xs) ys h = (h.0, every_front P xs ys h.1)

every_last : {X : Type 0} (P : X → Type 0) (xs : List X) (y : X) → Every P (xs ++ y ∷ []) → P y
every_last P [] y h = h.0
every_last P (x ∷ xs) y h = every_last P xs y h.1

every_map : {X Y : Type 0} (P : Y → Type 0) (f : X → Y) (xs : List X) → Every (λ x. P (f x)) xs → Every P (map f xs)
every_map P f [] h = tt
every_map P f (x ∷ xs) h = (h.0, every_map P f xs h.1)

next_valid : (len : ℕ → ℕ) (e : Alternative) → Every (λ (e : Alternative). e.k < len e.batch) (next_of len e) × (length (next_of len e) ≤ 1)
next_valid len e = ⊎_elim
    (λ (h : e.k + 1 < len e.batch). subst (λ t. Every (λ (e : Alternative). e.k < len e.batch) (if t then record { batch = e.batch; k = e.k + 1 } ∷ [] else [])
    × (length {A = Alternative} (if t then record { batch = e.batch; k = e.k + 1 } ∷ [] else []) ≤ 1)) (sym (lt-ltb (e.k + 1) (len e.batch) h)) (
      (h, tt),
      omega arith,
    ))
    (λ (h : len e.batch ≤ e.k + 1). subst (λ t. Every (λ (e : Alternative). e.k < len e.batch) (if t then record { batch = e.batch; k = e.k + 1 } ∷ [] else [])
    × (length {A = Alternative} (if t then record { batch = e.batch; k = e.k + 1 } ∷ [] else []) ≤ 1)) (sym (le-ltb (e.k + 1) (len e.batch) h)) (
      tt,
      omega arith,
    ))
    (cases_lt (e.k + 1) (len e.batch))

module _ {N E : Type 0} (alternatives : N → List (Owed E)) (p : PoolData N E) (s : Shaped alternatives p) (base : List Alternative) (e : Alternative)
    (points : PointsIn alternatives p (base ++ e ∷ [])) where
  -- the alternative on top, with what follows it in walk order
  abbrev pub after_top : List ℕ → List Alternative
  after_top published = (base ++ next_of (length_of alternatives p) e) ++ map begin published

  pub top_inside : e.k < length_of alternatives p e.batch
  top_inside = every_last (λ (e : Alternative). e.k < length_of alternatives p e.batch) base e points.valid

  pub step : last_first (rest (kids_of p.pieces) (length_of alternatives p) (length p.batches)) (base ++ e ∷ []) ≡ e
      ∷ last_first (rest (kids_of p.pieces) (length_of alternatives p) (length p.batches)) (after_top (kids_of p.pieces e.batch e.k))
  step = stack_step (kids_of p.pieces) (length_of alternatives p) (length p.batches) (ends alternatives p)
      (λ b k inside. every_more (λ c. (b < c) × (c < length p.batches)) (λ c. b < c) (kids_of p.pieces b k) (λ c h. h.0)
      (kids_within p.pieces (length p.batches) s.only b k)) base e top_inside

  -- and it is not taken
  pub top_untaken : is_taken p.pieces e ≡ false
  top_untaken = false_from_not (is_taken p.pieces e) (and_parts (not (is_taken p.pieces e)) _
      (subst (λ l. list_all (λ a. not (is_taken p.pieces a)) l ≡ true) step points.others)).0

  module _ (i : ℕ) (x : Piece E) (report : Owed E) (at : slice_get p.pieces i ≡ Some x) (b : x.batch ≡ e.batch) (k : x.k ≡ e.k)
      (closed : x.status ≡ Closed report) where
    its_kids : kids_of p.pieces e.batch e.k ≡ x.published
    its_kids = ap published_by (found p.pieces s.apart i x e at b k)

    same_place : place x ≡ e
    same_place = λ j. record { batch = b j; k = k j }

    pub may_take : MayTake alternatives p i x report
    may_take = record {
      piece = at;
      closed = closed;
      next = record {
        front = points.front;
        back = last_first (rest (kids_of p.pieces) (length_of alternatives p) (length p.batches)) (after_top (kids_of p.pieces e.batch e.k));
        order = points.order ∙ ap (λ l. points.front ++ l) (step
            ∙ ap (λ a. a ∷ last_first (rest (kids_of p.pieces) (length_of alternatives p) (length p.batches)) (after_top (kids_of p.pieces e.batch e.k)))
            (sym same_place));
        before = points.before;
        untaken = ap (is_taken p.pieces) same_place ∙ top_untaken;
      };
    }

    pub points_took : ((c : ℕ) → c < length p.batches → 0 < length_of alternatives p c) → PointsIn alternatives (took p i) (after_top x.published)
    points_took filled =
        let f : Piece E → Piece E = with_status Taken in
        let t : Alternative → Bool = is_taken p.pieces in
        let t' : Alternative → Bool = is_taken (change i f p.pieces) in
        let old = rest (kids_of p.pieces) (length_of alternatives p) (length p.batches) in
        let len = length_of alternatives p in
        let back : List Alternative = last_first old (after_top (kids_of p.pieces e.batch e.k)) in
        let now : (a : Alternative) → is_of a x ≡ true → t' a ≡ true =
        λ a h. ap is_taken_piece (piece_here f (λ x. refl) (λ x. refl) i p.pieces x s.apart at a h) in
        let others : (a : Alternative) → is_of a x ≡ false → t' a ≡ t a =
        λ a h. ap is_taken_piece (piece_elsewhere f (λ x. refl) (λ x. refl) i p.pieces x at a h) in
        let here_true : is_of e x ≡ true = is_of_from e x b k in
        let order : walk alternatives p ≡ points.front ++ e ∷ back = points.order ∙ ap (λ l. points.front ++ l) step in
        let untaken_all : list_all (λ a. not (t a)) (e ∷ back) ≡ true = subst (λ l. list_all (λ a. not (t a)) l ≡ true) step points.others in
        let one : total (is_at (place x)) (points.front ++ e ∷ back) ≡ 1 = ap (total (is_at (place x))) (sym order) ∙ unique alternatives p s i x at in
        let two = total-append (is_at (place x)) points.front (e ∷ back) in
        let self : is_at (place x) e ≡ 1 = ap one_if here_true in
        let none : total (is_at (place x)) back ≡ 0 = omega arith in
        let nv = next_valid len e in let nl = nv.1 in
        let l1 = length-append (base ++ next_of len e) (map begin x.published) in let l2 = length-append base (next_of len e) in
        let l3 = length-map x.published begin in let l4 = length-append base (e ∷ []) in
        let u : untaken (change i f p.pieces) + weight x ≡ untaken p.pieces + 0 = untaken_change f i p.pieces x at in
        let w = weight_untaken x _ refl (ap is_taken_status closed) in
        let d = points.deep in
        let half : Points (kids_of p.pieces) len (length p.batches) t' (untaken (change i f p.pieces)) (after_top x.published) =
        subst (λ ks. Points (kids_of p.pieces) len (length p.batches) t' (untaken (change i f p.pieces)) (after_top ks)) its_kids (record {
          front = points.front ++ e ∷ [];
          order = order ∙ sym (append_assoc points.front (e ∷ []) back);
          before = list_all-append t' points.front (e ∷ []) ∙ and_from (list_all t' points.front) (list_all t' (e ∷ []))
              (all_more t t' points.front (λ a h. ⊎_elim (λ (y : is_of a x ≡ true). now a y) (λ (y : is_of a x ≡ false). others a y ∙ h)
              (cases_Bool (is_of a x))) points.before)
              (and_from (t' e) true (now e here_true) refl);
          others = untaken_elsewhere t t' (place x) others back none (and_parts (not (t e)) (list_all (λ a. not (t a)) back) untaken_all).1;
          valid = every_append (λ (a : Alternative). a.k < len a.batch) (base ++ next_of len e) (map begin (kids_of p.pieces e.batch e.k))
              (every_append (λ (a : Alternative). a.k < len a.batch) base (next_of len e)
              (every_front (λ (a : Alternative). a.k < len a.batch) base (e ∷ []) points.valid) nv.0)
              (every_map (λ (a : Alternative). a.k < len a.batch) begin (kids_of p.pieces e.batch e.k)
              (every_more (λ c. (e.batch < c) × (c < length p.batches)) (λ c. 0 < len c) (kids_of p.pieces e.batch e.k) (λ c h. filled c h.1)
              (kids_within p.pieces (length p.batches) s.only e.batch e.k)));
          deep = subst (λ ks. length (after_top ks) + untaken (change i f p.pieces) ≤ length p.batches) (sym its_kids) (omega arith);
        }) in
        points_same (kids_of p.pieces) (kids_of (change i f p.pieces)) len (length p.batches) t' t' (untaken (change i f p.pieces))
        (untaken (change i f p.pieces)) (after_top x.published)
        (λ c j. read_same f (λ x. refl) (λ x. refl) published_by i p.pieces x refl s.apart at (record { batch = c; k = j })) (λ a. refl) refl half
