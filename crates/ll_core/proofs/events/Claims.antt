-- A claim keeps a pool sound.
use Rattle.std.proofs.Common.{◌≡◌, ℕ, ◌+◌, ◌-◌, List, [], ◌∷◌, ◌++◌, Bool, true, false, length, refl, sym, ap, ◌∙◌, subst, ⊎_elim, arith, append-nil, Option}
use Rattle.std.proofs.Common.{Some, None, take}
use Rattle.std.specs.Prelude.{slice_get}
use Rattle.std.proofs.lemmas.Bool.{cases_Bool}
use Rattle.std.proofs.lemmas.List.{take_all, length-append}
use Rattle.std.proofs.lemmas.List.Concat.{flat_map-append}
use Rattle.ll_laws.specs.Pool.{Owed, Piece, PoolData, Alternative}
use Rattle.ll_laws.specs.Spread.{is_of, piece_of, kids_of, published_by, share, owed_at, owes_of, length_of, walk}
use Rattle.ll_laws.specs.Sound.{Each, Reported, Shaped, Sound, HasPiece, is_taken, is_taken_piece, count_open, all_published, count_of, TakenFirst}
use Rattle.ll_laws.specs.CoreEvents.{new_piece, claimed}
use Rattle.ll_core.proofs.events.Conditions.{MayClaim}
use Rattle.ll_core.proofs.walks.Walks.{walk_same}
use Rattle.ll_core.proofs.events.Pieces.{Apart, get_front, get_seam, get_snoc, found, find_none, find_snoc_other, is_of_parts}

pub each_snoc : {X : Type 0} (P Q : X → Type 0) (xs : List X) (y : X) → Each xs P → ((x : X) → P x → Q x) → Q y → Each (xs ++ y ∷ []) Q
each_snoc P Q xs y each more here i x e = ⊎_elim (λ (h : slice_get xs i ≡ Some x). more x (each i x h))
    (λ (h : (i ≡ length xs) × (x ≡ y)). subst Q (sym h.1) here) (get_snoc xs y i x e)

module _ {E : Type 0} where
  open_snoc : (pieces : List (Piece E)) (w b k : ℕ) → count_open (pieces ++ new_piece w b k ∷ []) ≡ count_open pieces + 1
  open_snoc [] w b k = refl
  open_snoc (x ∷ pieces) w b k = let h = open_snoc pieces w b k in omega arith

  -- what is read off a new piece as off none is kept for each alternative
  pub read_snoc : {V : Type 0} (v : Option (Piece E) → V) (pieces : List (Piece E)) (y : Piece E) → v (Some y) ≡ v None
      → ((i : ℕ) (x : Piece E) → slice_get pieces i ≡ Some x → x.batch ≡ y.batch → x.k ≡ y.k → ⊥) → Apart (pieces ++ y ∷ [])
      → (a : Alternative) → v (piece_of (pieces ++ y ∷ []) a) ≡ v (piece_of pieces a)
  read_snoc v pieces y same free apart a = ⊎_elim
      (λ (t : is_of a y ≡ true). let h = is_of_parts a y t in
      ap v (found (pieces ++ y ∷ []) apart (length pieces) y a (get_seam pieces y) h.0 h.1)
      ∙
      (same
      ∙ ap v
      (sym (find_none (is_of a) pieces (λ i x e. ⊎_elim (λ (u : is_of a x ≡ true). let g = is_of_parts a x u in
      absurd (free i x e (g.0 ∙ sym h.0) (g.1 ∙ sym h.1))) (λ (u : is_of a x ≡ false). u) (cases_Bool (is_of a x)))))))
      (λ (t : is_of a y ≡ false). ap v (find_snoc_other (is_of a) pieces y t))
      (cases_Bool (is_of a y))

  pub apart_snoc : (pieces : List (Piece E)) (y : Piece E) → Apart pieces
      → ((i : ℕ) (x : Piece E) → slice_get pieces i ≡ Some x → x.batch ≡ y.batch → x.k ≡ y.k → ⊥) → Apart (pieces ++ y ∷ [])
  apart_snoc pieces y apart free i j x z e g b k = ⊎_elim
      (λ (h : slice_get pieces i ≡ Some x). ⊎_elim
      (λ (l : slice_get pieces j ≡ Some z). apart i j x z h l b k)
      (λ (l : (j ≡ length pieces) × (z ≡ y)). absurd (free i x h (b ∙ ap (λ (u : Piece E). u.batch) l.1) (k ∙ ap (λ (u : Piece E). u.k) l.1)))
      (get_snoc pieces y j z g))
      (λ (h : (i ≡ length pieces) × (x ≡ y)). ⊎_elim
      (λ (l : slice_get pieces j ≡ Some z). absurd (free j z l (sym b ∙ ap (λ (u : Piece E). u.batch) h.1) (sym k ∙ ap (λ (u : Piece E). u.k) h.1)))
      (λ (l : (j ≡ length pieces) × (z ≡ y)). h.0 ∙ sym l.0)
      (get_snoc pieces y j z g))
      (get_snoc pieces y i x e)

  has_more : (pieces : List (Piece E)) (y : Piece E) (b k : ℕ) → HasPiece pieces b k → HasPiece (pieces ++ y ∷ []) b k
  has_more pieces y b k h = (h.0, h.1, get_front pieces (y ∷ []) h.0 h.1 h.2, h.3, h.4)

module _ {N E : Type 0} (alternatives : N → List (Owed E)) (p : PoolData N E) (s : Shaped alternatives p) where
  pub shaped_claimed : (w b k : ℕ) → MayClaim alternatives p w b k → Shaped alternatives (claimed p w b k)
  shaped_claimed w b k may =
      let y : Piece E = new_piece w b k in
      let pieces : List (Piece E) = p.pieces ++ y ∷ [] in
      let free : (i : ℕ) (x : Piece E) → slice_get p.pieces i ≡ Some x → x.batch ≡ b → x.k ≡ k → ⊥ = may.untried.free in
      let apart : Apart pieces = apart_snoc p.pieces y s.apart free in
      let same : (c j : ℕ) → kids_of pieces c j ≡ kids_of p.pieces c j =
      λ c j. read_snoc published_by p.pieces y refl free apart (record { batch = c; k = j }) in
      let taken : (a : Alternative) → is_taken pieces a ≡ is_taken p.pieces a = read_snoc is_taken_piece p.pieces y refl free apart in
      let walks : walk alternatives (claimed p w b k) ≡ walk alternatives p =
      walk_same (kids_of p.pieces) (kids_of pieces) (length_of alternatives p) same (length p.batches) 0 in
      let some = may.untried.some in
      let untried = s.untried in
      let long = length-append p.pieces (y ∷ []) in
      record {
        named = each_snoc _ _ p.pieces y s.named (λ x h. h) may.untried.inside;
        apart = apart;
        first = each_snoc _ _ p.pieces y s.first (λ x h j low. has_more p.pieces y x.batch j (h j low))
            (λ j low. has_more p.pieces y b j (may.untried.next j low));
        once = λ c low high. ap (count_of c) (flat_map-append (λ (x : Piece E). x.published) p.pieces (y ∷ []) ∙ append-nil (all_published p.pieces))
            ∙ s.once c low high;
        only = each_snoc _ _ p.pieces y s.only (λ x h. h) tt;
        busy = ap (λ n. n + 1) s.busy ∙ sym (open_snoc p.pieces w b k);
        total = s.total;
        small = s.small;
        untried = omega arith;
        taken = subst (λ (t : Alternative → Bool). TakenFirst t (walk alternatives (claimed p w b k))) (λ i a. sym (taken a) i)
            (subst (TakenFirst (is_taken p.pieces)) (sym walks) s.taken);
        workers = each_snoc _ _ p.pieces y s.workers (λ x h. h) may.worker;
        one_open = λ i j x z e g o q same_worker. ⊎_elim
            (λ (h : slice_get p.pieces i ≡ Some x). ⊎_elim
            (λ (l : slice_get p.pieces j ≡ Some z). s.one_open i j x z h l o q same_worker)
            (λ (l : (j ≡ length p.pieces) × (z ≡ y)). absurd (may.none_open i x h o (same_worker ∙ ap (λ (u : Piece E). u.worker) l.1)))
            (get_snoc p.pieces y j z g))
            (λ (h : (i ≡ length p.pieces) × (x ≡ y)). ⊎_elim
            (λ (l : slice_get p.pieces j ≡ Some z). absurd (may.none_open j z l q (sym same_worker ∙ ap (λ (u : Piece E). u.worker) h.1)))
            (λ (l : (j ≡ length p.pieces) × (z ≡ y)). h.0 ∙ sym l.0)
            (get_snoc p.pieces y j z g))
            (get_snoc p.pieces y i x e);
      }

module _ {N Of E : Type 0} (of : N → Of) (alternatives : N → List (Owed E)) (p : PoolData N E) (problem : Of) (pair : Owed E)
    (s : Sound of alternatives p problem pair) where
  pub sound_claimed : (w b k : ℕ) → MayClaim alternatives p w b k → Sound of alternatives (claimed p w b k) problem pair
  sound_claimed w b k may =
      let y : Piece E = new_piece w b k in
      let all : take (length (owed_at (owes_of alternatives p) b k).events - 0) (owed_at (owes_of alternatives p) b k).events
      ≡ (owed_at (owes_of alternatives p) b k).events = take_all _ _ (omega arith) in record {
        shape = shaped_claimed alternatives p s.shape w b k may;
        root = s.root;
        events = each_snoc _ _ p.pieces y s.events (λ x h. h) (sym all ∙ sym (append-nil _));
        costs = each_snoc _ _ p.pieces y s.costs (λ x h. h) (omega arith);
        reports = each_snoc (λ (x : Piece E). Reported (share (owes_of alternatives p) x) x.status)
            (λ (x : Piece E). Reported (share (owes_of alternatives p) x) x.status) p.pieces y s.reports (λ x h. h) tt;
        alike = s.alike;
      }
