-- A report and a taking keep a pool sound.
use Rattle.std.proofs.Common.{◌≡◌, ℕ, zero, suc, ◌+◌, ◌-◌, List, [], ◌∷◌, ◌++◌, Bool, true, false, not, length, refl, sym, ap, ◌∙◌, subst, ⊎_elim, arith}
use Rattle.std.proofs.Common.{append_assoc, eqb, ◌&&◌, Option, Some}
use Rattle.std.specs.Prelude.{slice_get}
use Rattle.std.specs.List.{list_all}
use Rattle.std.proofs.lemmas.Bool.{cases_Bool, cases_eq, false≢true, true≢false, and_parts, and_from, not_from_true}
use Rattle.std.proofs.lemmas.List.Folds.{list_all-append}
use Rattle.ll_list_laws.proofs.CallerLemmas.{some_is, none_not_some}
use Rattle.ll_laws.specs.Pool.{Owed, Status, Open, Closed, Taken, Piece, PoolData, Alternative}
use Rattle.ll_laws.specs.Spread.{is_of, piece_of, kids_of, published_by, share, owes_of, length_of, walk}
use Rattle.ll_laws.specs.Sound.{Each, Reported, report_of, Shaped, Sound, HasPiece, is_open, is_taken, is_taken_piece, is_taken_status, count_open, count_of}
use Rattle.ll_laws.specs.Sound.{TakenFirst}
use Rattle.ll_laws.specs.CoreEvents.{change, with_status, reported, took, MayTake}
use Rattle.ll_core.specs.Given.{total}
use Rattle.ll_core.proofs.events.Conditions.{MayReport}
use Rattle.ll_core.proofs.walks.Walks.{walk_same, is_alternative}
use Rattle.ll_core.proofs.walks.Once.{one_if, is_at, total-append}
use Rattle.ll_core.proofs.walks.Unique.{unique}
use Rattle.ll_laws.specs.Pool.{place}
use Rattle.ll_core.proofs.events.Pieces.{Apart, Changed, change_get, change_at, change_other, length-change, flat_change_same, found, find_change_other}
use Rattle.ll_core.proofs.events.Pieces.{is_of_parts, is_of_from}

pub each_changed : {X : Type 0} (P Q : X → Type 0) (i : ℕ) (f : X → X) (xs : List X) → Each xs P → ((x : X) → slice_get xs i ≡ Some x → P x → Q (f x))
    → ((x : X) → P x → Q x) → Each (change i f xs) Q
each_changed P Q i f xs each at others j y e =
    let c = change_get i f xs j y e in
    ⊎_elim
    (λ (h : (j ≡ i) × (y ≡ f c.0)). subst Q (sym h.1) (at c.0 (subst (λ m. slice_get xs m ≡ Some c.0) h.0 c.1) (each j c.0 c.1)))
    (λ (h : (j ≡ i → ⊥) × (y ≡ c.0)). subst Q (sym h.1) (others c.0 (each j c.0 c.1)))
    c.2

module _ {E : Type 0} (f : Piece E → Piece E) (same_batch : (x : Piece E) → (f x).batch ≡ x.batch) (same_k : (x : Piece E) → (f x).k ≡ x.k) where
  pub apart_changed : (i : ℕ) (pieces : List (Piece E)) → Apart pieces → Apart (change i f pieces)
  apart_changed i pieces apart j k x y e g b h =
      let c = change_get i f pieces j x e in let d = change_get i f pieces k y g in
      apart j k c.0 d.0 c.1 d.1 (sym (kept c) ∙ (b ∙ kept d)) (sym (kept_k c) ∙ (h ∙ kept_k d))
    where
      kept : {j : ℕ} {y : Piece E} (c : (x : Piece E) × (slice_get pieces j ≡ Some x) × Changed f i j x y) → y.batch ≡ c.0.batch
      kept {j = j} {y = y} c = ⊎_elim (λ (h : (j ≡ i) × (y ≡ f c.0)). ap (λ (z : Piece E). z.batch) h.1 ∙ same_batch c.0)
          (λ (h : (j ≡ i → ⊥) × (y ≡ c.0)). ap (λ (z : Piece E). z.batch) h.1) c.2

      kept_k : {j : ℕ} {y : Piece E} (c : (x : Piece E) × (slice_get pieces j ≡ Some x) × Changed f i j x y) → y.k ≡ c.0.k
      kept_k {j = j} {y = y} c = ⊎_elim (λ (h : (j ≡ i) × (y ≡ f c.0)). ap (λ (z : Piece E). z.k) h.1 ∙ same_k c.0)
          (λ (h : (j ≡ i → ⊥) × (y ≡ c.0)). ap (λ (z : Piece E). z.k) h.1) c.2

  -- the piece of the changed piece's alternative is the changed one
  pub piece_here : (i : ℕ) (pieces : List (Piece E)) (x : Piece E) → Apart pieces → slice_get pieces i ≡ Some x → (a : Alternative) → is_of a x ≡ true
      → piece_of (change i f pieces) a ≡ Some (f x)
  piece_here i pieces x apart e a t = let h = is_of_parts a x t in
      found (change i f pieces) (apart_changed i pieces apart) i (f x) a (change_at i f pieces x e) (same_batch x ∙ h.0) (same_k x ∙ h.1)

  pub piece_elsewhere : (i : ℕ) (pieces : List (Piece E)) (x : Piece E) → slice_get pieces i ≡ Some x → (a : Alternative) → is_of a x ≡ false
      → piece_of (change i f pieces) a ≡ piece_of pieces a
  piece_elsewhere i pieces x e a t = find_change_other (is_of a) i f pieces (λ y g.
      let s : is_of a y ≡ false = ap (is_of a) (some_is y x (sym g ∙ e)) ∙ t in
      (s, ap (λ b. eqb a.batch b && eqb a.k (f y).k) (same_batch y) ∙ (ap (λ k. eqb a.batch y.batch && eqb a.k k) (same_k y) ∙ s)))

  -- what is read off a piece and kept by the change is kept for each alternative
  pub read_same : {V : Type 0} (v : Option (Piece E) → V) (i : ℕ) (pieces : List (Piece E)) (x : Piece E) → v (Some (f x)) ≡ v (Some x) → Apart pieces
      → slice_get pieces i ≡ Some x → (a : Alternative) → v (piece_of (change i f pieces) a) ≡ v (piece_of pieces a)
  read_same v i pieces x keeps apart e a = ⊎_elim
      (λ (t : is_of a x ≡ true). let h = is_of_parts a x t in
      ap v (piece_here i pieces x apart e a t) ∙ (keeps ∙ ap v (sym (found pieces apart i x a e h.0 h.1))))
      (λ (t : is_of a x ≡ false). ap v (piece_elsewhere i pieces x e a t))
      (cases_Bool (is_of a x))

  pub has_piece_changed : (i : ℕ) (pieces : List (Piece E)) (b k : ℕ) → HasPiece pieces b k → HasPiece (change i f pieces) b k
  has_piece_changed i pieces b k h = ⊎_elim
      (λ (e : h.0 ≡ i). (i, f h.1, change_at i f pieces h.1 (subst (λ j. slice_get pieces j ≡ Some h.1) e h.2), same_batch h.1 ∙ h.3, same_k h.1 ∙ h.4))
      (λ (e : h.0 ≡ i → ⊥). (h.0, h.1, change_other i f pieces h.0 e ∙ h.2, h.3, h.4))
      (cases_eq h.0 i)

  pub open_changed : (i : ℕ) (pieces : List (Piece E)) (x : Piece E) → slice_get pieces i ≡ Some x
      → count_open (change i f pieces) + one_if (is_open x.status) ≡ count_open pieces + one_if (is_open (f x).status)
  open_changed zero [] x e = absurd (none_not_some x e)
  open_changed (suc i) [] x e = absurd (none_not_some x e)
  open_changed zero (y ∷ pieces) x e = let a : one_if (is_open y.status) ≡ one_if (is_open x.status) =
      ap (λ (z : Piece E). one_if (is_open z.status)) (some_is y x e) in
      let b : one_if (is_open (f y).status) ≡ one_if (is_open (f x).status) = ap (λ (z : Piece E). one_if (is_open (f z).status)) (some_is y x e) in omega arith
  open_changed (suc i) (y ∷ pieces) x e = let h = open_changed i pieces x e in omega arith

module _ {N E : Type 0} (alternatives : N → List (Owed E)) (p : PoolData N E) (s : Shaped alternatives p) where
  -- a piece that is closed or taken where it was not so before
  pub shaped_status : (i : ℕ) (x : Piece E) (to : Status E) (busy : ℕ) → slice_get p.pieces i ≡ Some x → is_open to ≡ false
      → busy ≡ count_open (change i (with_status to) p.pieces)
      → TakenFirst (λ a. is_taken_piece (piece_of (change i (with_status to) p.pieces) a)) (walk alternatives p)
      → Shaped alternatives (record p { pieces = change i (with_status to) p.pieces; busy = busy })
  shaped_status i x to busy e closed busy_is first =
      let f : Piece E → Piece E = with_status to in
      let same : (b k : ℕ) → kids_of (change i f p.pieces) b k ≡ kids_of p.pieces b k =
      λ b k. read_same f (λ x. refl) (λ x. refl) published_by i p.pieces x refl s.apart e (record { batch = b; k = k }) in
      record {
        named = each_changed _ _ i f p.pieces s.named (λ y g h. h) (λ y h. h);
        apart = apart_changed f (λ x. refl) (λ x. refl) i p.pieces s.apart;
        first = each_changed _ _ i f p.pieces s.first (λ y g h j low. has_piece_changed f (λ x. refl) (λ x. refl) i p.pieces y.batch j (h j low))
            (λ y h j low. has_piece_changed f (λ x. refl) (λ x. refl) i p.pieces y.batch j (h j low));
        once = λ b low high. ap (count_of b) (flat_change_same (λ (y : Piece E). y.published) i f p.pieces (λ y. refl)) ∙ s.once b low high;
        only = each_changed _ _ i f p.pieces s.only (λ y g h. h) (λ y h. h);
        busy = busy_is;
        total = s.total;
        small = s.small;
        untried = ap (λ n. p.untried + n) (length-change i f p.pieces) ∙ s.untried;
        taken = subst (TakenFirst (λ a. is_taken_piece (piece_of (change i f p.pieces) a)))
            (sym (walk_same (kids_of p.pieces) (kids_of (change i f p.pieces)) (length_of alternatives p) same (length p.batches) 0)) first;
        workers = each_changed _ _ i f p.pieces s.workers (λ y g h. h) (λ y h. h);
        one_open = λ j k y z g h o q w.
            let c = change_get i f p.pieces j y g in let d = change_get i f p.pieces k z h in
            let c' = stays to closed i j c.0 y o c.2 in let d' = stays to closed i k d.0 z q d.2 in
            s.one_open j k c.0 d.0 c.1 d.1 (subst (λ (u : Piece E). u.status ≡ Open) c' o) (subst (λ (u : Piece E). u.status ≡ Open) d' q)
            (sym (ap (λ (u : Piece E). u.worker) c') ∙ (w ∙ ap (λ (u : Piece E). u.worker) d'));
      }
    where
      stays : (to : Status E) → is_open to ≡ false → (i j : ℕ) (x y : Piece E) → y.status ≡ Open → Changed (with_status to) i j x y → y ≡ x
      stays to closed i j x y o c = ⊎_elim
          (λ (h : (j ≡ i) × (y ≡ with_status to x)). absurd (true≢false (ap is_open (sym o) ∙ (ap (λ (u : Piece E). is_open u.status) h.1 ∙ closed))))
          (λ (h : (j ≡ i → ⊥) × (y ≡ x)). h.1)
          c

  is_taken_same : (i : ℕ) (x : Piece E) (to : Status E) → slice_get p.pieces i ≡ Some x → is_taken_status to ≡ is_taken_status x.status → (a : Alternative)
      → is_taken (change i (with_status to) p.pieces) a ≡ is_taken p.pieces a
  is_taken_same i x to e same a = read_same (with_status to) (λ x. refl) (λ x. refl) is_taken_piece i p.pieces x same s.apart e a

  pub shaped_reported : (i : ℕ) (x : Piece E) (report : Owed E) → slice_get p.pieces i ≡ Some x → x.status ≡ Open → Shaped alternatives (reported p i report)
  shaped_reported i x report e open_still =
      let f : Piece E → Piece E = with_status (Closed report) in
      let was : one_if (is_open x.status) ≡ 1 = ap (λ t. one_if (is_open t)) open_still in
      let count : count_open (change i f p.pieces) + one_if (is_open x.status) ≡ count_open p.pieces + 0 =
      open_changed f (λ x. refl) (λ x. refl) i p.pieces x e in
      let b = s.busy in
      let was_taken : is_taken_status x.status ≡ false = ap is_taken_status open_still in
      shaped_status i x (Closed report) (p.busy - 1) e refl (omega arith)
      (subst (λ t. TakenFirst t (walk alternatives p)) (λ j a. sym (is_taken_same i x (Closed report) e (sym was_taken) a) j) s.taken)

cons_parts : {X : Type 0} (x y : X) (xs ys : List X) → x ∷ xs ≡ y ∷ ys → (x ≡ y) × (xs ≡ ys)
cons_parts x y xs ys e = (cc, cc)

-- where the taken ones come first, what follows them is what was found not to be taken, and the rest
pub split_same : {X : Type 0} (taken : X → Bool) (front back front' back' : List X) (x : X) → front ++ back ≡ front' ++ x ∷ back' → list_all taken front ≡ true
    → list_all (λ a. not (taken a)) back ≡ true
    → list_all taken front' ≡ true → taken x ≡ false → (front ≡ front') × (back ≡ x ∷ back')
split_same taken [] back [] back' x e t n t' h = (refl, e)
split_same taken [] [] (z ∷ front') back' x e t n t' h = absurd (let e' : [] ≡ z ∷ (front' ++ x ∷ back') = e in cc)
split_same taken [] (y ∷ back) (z ∷ front') back' x e t n t' h =
    let c = cons_parts y z back (front' ++ x ∷ back') e in
    let a = (and_parts (not (taken y)) (list_all (λ a. not (taken a)) back) n).0 in
    let b = (and_parts (taken z) (list_all taken front') t').0 in
    absurd (false≢true (sym (not_from_true (taken y) (ap taken c.0 ∙ b)) ∙ a))
split_same taken (y ∷ front) back [] back' x e t n t' h =
    let c = cons_parts y x (front ++ back) back' e in
    absurd (false≢true (sym h ∙ (sym (ap taken c.0) ∙ (and_parts (taken y) (list_all taken front) t).0)))
split_same taken (y ∷ front) back (z ∷ front') back' x e t n t' h =
    let c = cons_parts y z (front ++ back) (front' ++ x ∷ back') e in
    let r = split_same taken front back front' back' x c.1 (and_parts (taken y) (list_all taken front) t).1 n (and_parts (taken z) (list_all taken front') t').1
    h in
    ((λ i. c.0 i ∷ r.0 i), r.1)

pub all_more : {X : Type 0} (p q : X → Bool) (xs : List X) → ((x : X) → p x ≡ true → q x ≡ true) → list_all p xs ≡ true → list_all q xs ≡ true
all_more p q [] h e = refl
all_more p q (x ∷ xs) h e = let a = and_parts (p x) (list_all p xs) e in and_from (q x) (list_all q xs) (h x a.0) (all_more p q xs h a.1)

pub untaken_elsewhere : (taken taken' : Alternative → Bool) (at : Alternative) → ((a : Alternative) → is_alternative a at ≡ false → taken' a ≡ taken a)
    → (back : List Alternative) → total (is_at at) back ≡ 0 → list_all (λ a. not (taken a)) back ≡ true → list_all (λ a. not (taken' a)) back ≡ true
untaken_elsewhere taken taken' at same [] none e = refl
untaken_elsewhere taken taken' at same (a ∷ back) none e =
    let h = and_parts (not (taken a)) (list_all (λ a. not (taken a)) back) e in
    and_from (not (taken' a)) (list_all (λ a. not (taken' a)) back)
    (ap not (same a (⊎_elim (λ (t : is_alternative a at ≡ true). let o : is_at at a ≡ 1 = ap one_if t in
    absurd (omega arith)) (λ (t : is_alternative a at ≡ false). t) (cases_Bool (is_alternative a at)))) ∙ h.0)
    (untaken_elsewhere taken taken' at same back (omega arith) h.1)

module _ {N E : Type 0} (alternatives : N → List (Owed E)) (p : PoolData N E) (s : Shaped alternatives p) where
  pub shaped_took : (i : ℕ) (x : Piece E) (report : Owed E) → MayTake alternatives p i x report → Shaped alternatives (took p i)
  shaped_took i x report may =
      let f : Piece E → Piece E = with_status Taken in
      let at : Alternative = place x in
      let t : Alternative → Bool = is_taken p.pieces in
      let t' : Alternative → Bool = is_taken (change i f p.pieces) in
      let e = may.piece in
      let not_yet : t at ≡ false = ap is_taken_piece (found p.pieces s.apart i x at e refl refl) ∙ ap is_taken_status may.closed in
      let now : (a : Alternative) → is_of a x ≡ true → t' a ≡ true =
      λ a h. ap is_taken_piece (piece_here f (λ x. refl) (λ x. refl) i p.pieces x s.apart e a h) in
      let others : (a : Alternative) → is_of a x ≡ false → t' a ≡ t a =
      λ a h. ap is_taken_piece (piece_elsewhere f (λ x. refl) (λ x. refl) i p.pieces x e a h) in
      let split = split_same t s.taken.0 s.taken.1 may.next.front may.next.back at (sym s.taken.2 ∙ may.next.order) s.taken.3 s.taken.4 may.next.before not_yet
      in
      let untaken : list_all (λ a. not (t a)) (at ∷ may.next.back) ≡ true = subst (λ l. list_all (λ a. not (t a)) l ≡ true) split.1 s.taken.4 in
      let one : total (is_at at) (may.next.front ++ at ∷ may.next.back) ≡ 1 = ap (total (is_at at)) (sym may.next.order) ∙ unique alternatives p s i x e in
      let two = total-append (is_at at) may.next.front (at ∷ may.next.back) in
      let self : is_at at at ≡ 1 = ap one_if (is_of_from at x refl refl) in
      let none : total (is_at at) may.next.back ≡ 0 = omega arith in
      let count : count_open (change i f p.pieces) + one_if (is_open x.status) ≡ count_open p.pieces + 0 =
      open_changed f (λ x. refl) (λ x. refl) i p.pieces x e in
      let was : one_if (is_open x.status) ≡ 0 = ap (λ z. one_if (is_open z)) may.closed in
      let b = s.busy in
      shaped_status alternatives p s i x Taken p.busy e refl (omega arith) (
        may.next.front ++ at ∷ [],
        may.next.back,
        may.next.order ∙ sym (append_assoc may.next.front (at ∷ []) may.next.back),
        list_all-append t' may.next.front (at ∷ []) ∙ and_from (list_all t' may.next.front) (list_all t' (at ∷ []))
            (all_more t t' may.next.front (λ a h. ⊎_elim (λ (y : is_of a x ≡ true). now a y) (λ (y : is_of a x ≡ false). others a y ∙ h)
            (cases_Bool (is_of a x))) may.next.before)
            (and_from (t' at) true (now at (is_of_from at x refl refl)) refl),
        untaken_elsewhere t t' at others may.next.back none (and_parts (not (t at)) (list_all (λ a. not (t a)) may.next.back) untaken).1,
      )

module _ {N Of E : Type 0} (of : N → Of) (alternatives : N → List (Owed E)) (p : PoolData N E) (problem : Of) (pair : Owed E)
    (s : Sound of alternatives p problem pair) where
  sound_status : (i : ℕ) (x : Piece E) (to : Status E) (busy : ℕ) → slice_get p.pieces i ≡ Some x → Reported (share (owes_of alternatives p) x) to
      → Shaped alternatives (record p { pieces = change i (with_status to) p.pieces; busy = busy })
      → Sound of alternatives (record p { pieces = change i (with_status to) p.pieces; busy = busy }) problem pair
  sound_status i x to busy e report shape = let f : Piece E → Piece E = with_status to in record {
    shape = shape;
    root = s.root;
    events = each_changed _ _ i f p.pieces s.events (λ y g h. h) (λ y h. h);
    costs = each_changed _ _ i f p.pieces s.costs (λ y g h. h) (λ y h. h);
    reports = each_changed (λ (y : Piece E). Reported (share (owes_of alternatives p) y) y.status)
        (λ (y : Piece E). Reported (share (owes_of alternatives p) y) y.status) i f p.pieces s.reports
        (λ y g h. subst (λ (z : Piece E). Reported (share (owes_of alternatives p) z) to) (some_is x y (sym e ∙ g)) report) (λ y h. h);
    alike = s.alike;
  }

  pub sound_reported : (i : ℕ) (x : Piece E) (report : Owed E) → MayReport alternatives p i x report → Sound of alternatives (reported p i report) problem pair
  sound_reported i x report may = sound_status i x (Closed report) (p.busy - 1) may.piece may.whole
      (shaped_reported alternatives p s.shape i x report may.piece may.open_still)

  pub sound_took : (i : ℕ) (x : Piece E) (report : Owed E) → MayTake alternatives p i x report → Sound of alternatives (took p i) problem pair
  sound_took i x report may = sound_status i x Taken p.busy may.piece tt (shaped_took alternatives p s.shape i x report may)

  -- what is taken is what the piece owes
  pub took_share : (i : ℕ) (x : Piece E) (report : Owed E) → MayTake alternatives p i x report → report ≡ report_of (share (owes_of alternatives p) x)
  took_share i x report may = subst (λ t. Reported (share (owes_of alternatives p) x) t) may.closed (s.reports i x may.piece)
