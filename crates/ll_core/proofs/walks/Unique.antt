-- Each claimed alternative stands in the walk of a sound pool exactly once.
use Rattle.std.proofs.Common.{◌≡◌, ℕ, zero, suc, ◌<◌, List, [], ◌∷◌, ◌++◌, true, false, length, refl, sym, ap, ◌∙◌, subst, ⊎_elim, arith, Option, Some, None}
use Rattle.std.specs.Prelude.{slice_get}
use Rattle.std.proofs.lemmas.Bool.{cases_Bool, cases_eq, false≢true}
use Rattle.ll_list_laws.proofs.CallerLemmas.{some_is, none_not_some}
use Rattle.ll_laws.specs.Pool.{Owed, Piece, PoolData, Alternative}
use Rattle.ll_laws.specs.Spread.{is_of, piece_of, kids_of, published_by, length_of, walk}
use Rattle.ll_laws.specs.Sound.{Every, Shaped, count_of, all_published}
use Rattle.ll_core.specs.Given.{total}
use Rattle.ll_core.proofs.walks.Walks.{every_more}
use Rattle.ll_core.proofs.walks.Once.{total_flat, total-append, one_if, hit, is_at, count_is_total, hit_other, met_once}
use Rattle.ll_laws.specs.Pool.{place}
use Rattle.ll_core.proofs.events.Pieces.{found, lookup, is_of_from, is_of_parts}
use Rattle.ll_core.proofs.sound.Facts.{kids_within, owed_before}

module _ {X : Type 0} (f : X → ℕ) where
  zero_all : (xs : List X) → total f xs ≡ 0 → (j : ℕ) (y : X) → slice_get xs j ≡ Some y → f y ≡ 0
  zero_all [] z j y e = absurd (none_not_some y e)
  zero_all (x ∷ xs) z zero y e = let h : f y ≡ f x = ap f (sym (some_is x y e)) in omega arith
  zero_all (x ∷ xs) z (suc j) y e = zero_all xs (omega arith) j y e

  abbrev Holder : List X → Type 0
  Holder xs = (i : ℕ) × (x : X) × (slice_get xs i ≡ Some x) × (f x ≡ 1) × ((j : ℕ) (y : X) → slice_get xs j ≡ Some y → (j ≡ i → ⊥) → f y ≡ 0)

  others_later : (x : X) (xs : List X) (i : ℕ) → f x ≡ 0 → ((j : ℕ) (y : X) → slice_get xs j ≡ Some y → (j ≡ i → ⊥) → f y ≡ 0) → (j : ℕ) (y : X)
      → slice_get (x ∷ xs) j ≡ Some y → (j ≡ suc i → ⊥) → f y ≡ 0
  others_later x xs i z h zero y e n = ap f (sym (some_is x y e)) ∙ z
  others_later x xs i z h (suc j) y e n = h j y e (λ s. n (ap suc s))

  others_first : (x : X) (xs : List X) → total f xs ≡ 0 → (j : ℕ) (y : X) → slice_get (x ∷ xs) j ≡ Some y → (j ≡ 0 → ⊥) → f y ≡ 0
  others_first x xs z zero y e n = absurd (n refl)
  others_first x xs z (suc j) y e n = zero_all xs z j y e

  pub one_holder : (xs : List X) → total f xs ≡ 1 → Holder xs
  one_holder [] e = absurd (omega arith)
  one_holder (x ∷ xs) e = ⊎_elim
      (λ (z : f x ≡ 0). let h = one_holder xs (omega arith) in (suc h.0, h.1, h.2, h.3, others_later x xs h.0 z h.4))
      (λ (z : f x ≡ 0 → ⊥). let one : f x ≡ 1 = omega arith in (0, x, refl, one, others_first x xs (omega arith)))
      (cases_eq (f x) 0)

pub count_in : (P : ℕ → Type 0) (c : ℕ) (ks : List ℕ) → Every P ks → count_of c ks ≡ 1 → P c
count_in P c [] h e = absurd (omega arith)
count_in P c (k ∷ ks) h e = ⊎_elim (λ (s : k ≡ c). subst P s h.0) (λ (s : k ≡ c → ⊥). let z = hit_other c k s in
    count_in P c ks h.1 (omega arith)) (cases_eq k c)

module _ {N E : Type 0} (alternatives : N → List (Owed E)) (p : PoolData N E) (s : Shaped alternatives p) where
  by_piece : (c i : ℕ) (x : Piece E) (a : Alternative) → ((j : ℕ) (y : Piece E) → slice_get p.pieces j ≡ Some y → (j ≡ i → ⊥) → count_of c y.published ≡ 0)
      → slice_get p.pieces i ≡ Some x → is_of a x ≡ false → (o : Option (Piece E)) → piece_of p.pieces a ≡ o → count_of c (published_by o) ≡ 0
  by_piece c i x a others e not_at None h = refl
  by_piece c i x a others e not_at (Some y) h =
      let l = lookup p.pieces a y h in
      others l.0 y l.1 (λ (j_is : l.0 ≡ i).
      let same : x ≡ y = some_is x y (sym e ∙ (sym (ap (slice_get p.pieces) j_is) ∙ l.1)) in
      false≢true (sym not_at ∙ (ap (is_of a) same ∙ is_of_from a y l.2 l.3)))

  above : (c : ℕ) → 0 < c → c < length p.batches → (at : Alternative) × (at.batch < c) × (at.k < length_of alternatives p at.batch)
      × ((a : Alternative) → count_of c (kids_of p.pieces a.batch a.k) ≡ is_at at a)
  above c low high =
      let f : Piece E → ℕ = λ x. count_of c x.published in
      let sum : total f p.pieces ≡ 1 = (λ i. total (λ (x : Piece E). count_is_total c x.published i) p.pieces)
      ∙ (sym (total_flat (hit c) (λ (x : Piece E). x.published) p.pieces) ∙ (sym (count_is_total c (all_published p.pieces)) ∙ s.once c low high)) in
      let h = one_holder f p.pieces sum in
      let x = h.1 in
      let up : (x.batch < c) × (c < length p.batches) = count_in (λ d. (x.batch < d) × (d < length p.batches)) c x.published (s.only h.0 x h.2) h.3 in (
        place x,
        up.0,
        s.named h.0 x h.2,
        λ a. ⊎_elim
            (λ (t : is_of a x ≡ true). let q = is_of_parts a x t in
            ap (λ o. count_of c (published_by o)) (found p.pieces s.apart h.0 x a h.2 q.0 q.1) ∙ (h.3 ∙ sym (ap one_if t)))
            (λ (t : is_of a x ≡ false). by_piece c h.0 x a h.4 h.2 t (piece_of p.pieces a) refl ∙ sym (ap one_if t))
            (cases_Bool (is_of a x)),
      )

  pub stands_once : (b k : ℕ) → k < length_of alternatives p b → total (is_at (record { batch = b; k = k })) (walk alternatives p) ≡ 1
  stands_once b k inside = met_once (kids_of p.pieces) (length_of alternatives p) (length p.batches)
      (λ c j. every_more (λ d. (c < d) × (d < length p.batches)) (λ d. c < d) (kids_of p.pieces c j) (λ d h. h.0)
      (kids_within p.pieces (length p.batches) s.only c j)) above (suc b) b k (omega arith) (owed_before alternatives p.batches b k inside) inside

  pub unique : (i : ℕ) (x : Piece E) → slice_get p.pieces i ≡ Some x → total (is_at (place x)) (walk alternatives p) ≡ 1
  unique i x e = stands_once x.batch x.k (s.named i x e)

  -- so it does not stand behind itself
  pub unique_behind : (i : ℕ) (x : Piece E) (front back : List Alternative) → slice_get p.pieces i ≡ Some x → walk alternatives p ≡ front ++ place x ∷ back
      → total (is_at (place x)) back ≡ 0
  unique_behind i x front back e order =
      let one : total (is_at (place x)) (front ++ place x ∷ back) ≡ 1 = ap (total (is_at (place x))) (sym order) ∙ unique i x e in
      let two = total-append (is_at (place x)) front (place x ∷ back) in
      let self : is_at (place x) (place x) ≡ 1 = ap one_if (is_of_from (place x) x refl refl) in
      omega arith
