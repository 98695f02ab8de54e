-- The first bad element of a list, found by going from language to language.
use Rattle.std.proofs.Common.{◌≡◌, ℕ, zero, suc, ◌+◌, ◌<◌, List, [], ◌∷◌, ◌++◌, length, take, drop, slice_get, Option, Some, None, refl, ap, sym, subst, ◌∙◌}
use Rattle.std.proofs.Common.{arith, length-drop, append_assoc, ◌-◌, inl, inr}
use Rattle.std.proofs.Math.Nat.{eq-or-lt_of_le}
use Rattle.std.proofs.Math.Seq.{take-add}
use Rattle.std.proofs.lemmas.Bool.{cases_lt}
use Rattle.std.proofs.lemmas.List.{take-append-drop}
use Rattle.std.specs.Prelude.{MatchOption}
use Rattle.ll_top.specs.forms.Begins.{Begins, IsFirstBad, Leads}

module _ {A : Type 0} where
  take-none : (xs : List A) → take 0 xs ≡ []
  take-none [] = refl
  take-none (x ∷ xs) = refl

  pub drop-none : (xs : List A) → drop 0 xs ≡ xs
  drop-none [] = refl
  drop-none (x ∷ xs) = refl

  pub drop-next : (xs : List A) (n : ℕ) (x : A) → slice_get xs n ≡ Some x → drop n xs ≡ x ∷ drop (n + 1) xs
  drop-next [] n x e = cc
  drop-next (y ∷ xs) zero x e = let f : y ≡ x = cc in ap (λ z. z ∷ xs) f ∙ ap (λ l. x ∷ l) (sym (drop-none xs))
  drop-next (y ∷ xs) (suc n) x e = drop-next xs n x e ∙ ap (λ m. x ∷ drop m (y ∷ xs)) (let h : suc (n + 1) ≡ suc n + 1 = omega arith in h)

  pub drop-end : (xs : List A) (n : ℕ) → slice_get xs n ≡ None → drop n xs ≡ []
  drop-end [] zero e = refl
  drop-end [] (suc n) e = refl
  drop-end (y ∷ xs) zero e = cc
  drop-end (y ∷ xs) (suc n) e = drop-end xs n e

  -- nothing leads from a language to itself
  pub leads-start : (L : List A → Type 0) (xs : List A) → Leads L L xs 0
  leads-start L xs = record {
    within = omega arith;
    good = λ h. subst L (drop-none xs) h;
    bad = λ k h. subst (λ m. IsFirstBad L xs m) (let e : k ≡ 0 + k = omega arith in e) (subst (λ l. IsFirstBad L l k) (drop-none xs) h);
  }

  begins-cons : (M N : List A → Type 0) (x : A) → ((ys : List A) → N ys → M (x ∷ ys)) → (ys : List A) → Begins N ys → Begins M (x ∷ ys)
  begins-cons M N x to ys b = (b.0, to (ys ++ b.0) b.1)

  -- one element more
  bad-cons : (M N : List A → Type 0) (x : A) → ((ys : List A) → N ys → M (x ∷ ys)) → ((ys : List A) → M (x ∷ ys) → N ys) → (ys : List A) (k : ℕ)
      → IsFirstBad N ys k → IsFirstBad M (x ∷ ys) (suc k)
  bad-cons M N x to from ys k h = record {
    within = let w = h.within in omega arith;
    before = begins-cons M N x to (take k ys) h.before;
    here = λ l b. h.here (omega arith) (
      b.0,
      from (take (k + 1) ys ++ b.0)
          (subst (λ m. M (take m (x ∷ ys) ++ b.0)) (let e : suc k + 1 ≡ suc (k + 1) = omega arith in e) b.1),
    );
    at_end = λ e m. h.at_end (omega arith) (from ys m);
  }

  pub leads-next : (L M N : List A → Type 0) (xs : List A) (n : ℕ) (x : A) → ((ys : List A) → N ys → M (x ∷ ys)) → ((ys : List A) → M (x ∷ ys) → N ys)
      → Leads L M xs n → slice_get xs n ≡ Some x → Leads L N xs (n + 1)
  leads-next L M N xs n x to from h e =
      let d = drop-next xs n x e in
      let len = ap length d in
      let l = length-drop n xs in
      record {
        within = omega arith;
        good = λ g. h.good (subst M (sym d) (to (drop (n + 1) xs) g));
        bad = λ k b. subst (λ m. IsFirstBad L xs m) (let s : n + suc k ≡ (n + 1) + k = omega arith in s)
            (h.bad (suc k) (subst (λ ys. IsFirstBad M ys (suc k)) (sym d) (bad-cons M N x to from (drop (n + 1) xs) k b)));
      }

  -- no member of a language goes on so
  abbrev pub IsStuck : (List A → Type 0) → Option A → Type 0
  IsStuck M next = MatchOption next (M [] → ⊥) (λ x. (ys : List A) → M (x ∷ ys) → ⊥)

  bad-here : (M : List A → Type 0) (ys : List A) (next : Option A) → slice_get ys 0 ≡ next → Begins M [] → IsStuck M next → IsFirstBad M ys 0
  bad-here M [] None e b s = record { within = omega arith; before = b; here = λ l. absurd (omega arith); at_end = λ _ m. s m }
  bad-here M [] (Some x) e b s = cc
  bad-here M (y ∷ ys) None e b s = cc
  bad-here M (y ∷ ys) (Some x) e b s = record {
    within = omega arith;
    before = b;
    here = λ l h. s h.0 (subst (λ z. M (z ∷ h.0)) (let f : y ≡ x = cc in f) h.1);
    at_end = λ z m. absurd (omega arith);
  }

  get-dropped : (xs : List A) (n : ℕ) → slice_get (drop n xs) 0 ≡ slice_get xs n
  get-dropped [] zero = refl
  get-dropped [] (suc n) = refl
  get-dropped (x ∷ xs) zero = refl
  get-dropped (x ∷ xs) (suc n) = get-dropped xs n

  pub leads-bad : (L M : List A → Type 0) (xs : List A) (n : ℕ) → Leads L M xs n → Begins M [] → IsStuck M (slice_get xs n) → IsFirstBad L xs n
  leads-bad L M xs n h b s =
      subst (λ m. IsFirstBad L xs m) (let e : n + 0 ≡ n = omega arith in e) (h.bad 0 (bad-here M (drop n xs) (slice_get xs n) (get-dropped xs n) b s))

  -- a member has no bad element
  pub good-or-bad : (L : List A → Type 0) (xs : List A) (n : ℕ) → L xs → IsFirstBad L xs n → ⊥
  good-or-bad L xs n m h =
      elim (eq-or-lt_of_le h.within) [ inl e ↦ h.at_end e m | inr l ↦ h.here l (drop (n + 1) xs, subst L (sym (take-append-drop (n + 1) xs)) m) ]

  begins-less : (L : List A → Type 0) (xs : List A) (n m : ℕ) → n < m → Begins L (take m xs) → Begins L (take (n + 1) xs)
  begins-less L xs n m l b =
      let j = m - (n + 1) in
      let e : (n + 1) + j ≡ m = omega arith in
      let t : take m xs ≡ take (n + 1) xs ++ take j (drop (n + 1) xs) = ap (λ k. take k xs) (sym e) ∙ take-add (n + 1) j xs in
      (take j (drop (n + 1) xs) ++ b.0, subst L (ap (λ l. l ++ b.0) t ∙ append_assoc (take (n + 1) xs) (take j (drop (n + 1) xs)) b.0) b.1)

  not-less : (L : List A → Type 0) (xs : List A) (n m : ℕ) → IsFirstBad L xs n → IsFirstBad L xs m → n < m → ⊥
  not-less L xs n m h k l = h.here (let w = k.within in omega arith) (begins-less L xs n m l k.before)

  -- there is one first bad element
  pub one-bad : (L : List A → Type 0) (xs : List A) (n m : ℕ) → IsFirstBad L xs n → IsFirstBad L xs m → n ≡ m
  one-bad L xs n m h k =
      elim (cases_lt n m) [
        | inl l ↦ absurd (not-less L xs n m h k l)
        | inr g ↦ elim (cases_lt m n)
            [ inl l ↦ absurd (not-less L xs m n k h l) | inr f ↦ omega arith ]
      ]
