-- Lists of pieces: one more, or one changed.
use Rattle.std.proofs.Common.{◌≡◌, ◌⊎◌, ℕ, zero, suc, ◌<◌, List, [], ◌∷◌, ◌++◌, Bool, true, false, length, refl, sym, ap, ◌∙◌, ⊎_elim, inl, inr, arith, eqb}
use Rattle.std.proofs.Common.{Some, None}
use Rattle.std.specs.Prelude.{flat_map, slice_get, find, cond}
use Rattle.std.proofs.lemmas.Bool.{eqb-true, eq-eqb, cases_Bool, and_parts, and_from, cond-true, cond-false}
use Rattle.ll_list_laws.proofs.CallerLemmas.{some_is, none_not_some}
use Rattle.ll_laws.specs.Pool.{Piece, Alternative}
use Rattle.ll_laws.specs.Spread.{is_of, piece_of}
use Rattle.ll_laws.specs.CoreEvents.{change}

module _ {X : Type 0} where
  pub get_front : (xs ys : List X) (i : ℕ) (x : X) → slice_get xs i ≡ Some x → slice_get (xs ++ ys) i ≡ Some x
  get_front [] ys i x e = absurd (none_not_some x e)
  get_front (y ∷ xs) ys zero x e = e
  get_front (y ∷ xs) ys (suc i) x e = get_front xs ys i x e

  pub get_seam : (xs : List X) (y : X) → slice_get (xs ++ y ∷ []) (length xs) ≡ Some y
  get_seam [] y = refl
  get_seam (x ∷ xs) y = get_seam xs y

  pub get_snoc : (xs : List X) (y : X) (i : ℕ) (x : X) → slice_get (xs ++ y ∷ []) i ≡ Some x → (slice_get xs i ≡ Some x) ⊎ ((i ≡ length xs) × (x ≡ y))
  get_snoc [] y zero x e = inr (refl, some_is x y (sym e))
  get_snoc [] y (suc i) x e = absurd (none_not_some x e)
  get_snoc (z ∷ xs) y zero x e = inl e
  get_snoc (z ∷ xs) y (suc i) x e = ⊎_elim (λ (h : slice_get xs i ≡ Some x). inl h) (λ (h : (i ≡ length xs) × (x ≡ y)). inr (ap suc h.0, h.1))
      (get_snoc xs y i x e)

  pub get_below : (xs : List X) (i : ℕ) (x : X) → slice_get xs i ≡ Some x → i < length xs
  get_below [] i x e = absurd (none_not_some x e)
  get_below (y ∷ xs) zero x e = omega arith
  get_below (y ∷ xs) (suc i) x e = let h = get_below xs i x e in omega arith

  -- one changed
  abbrev pub Changed : (X → X) → ℕ → ℕ → X → X → Type 0
  Changed f i j x y = ((j ≡ i) × (y ≡ f x)) ⊎ ((j ≡ i → ⊥) × (y ≡ x))

  suc_changed : (f : X → X) (i j : ℕ) (x y : X) → Changed f i j x y → Changed f (suc i) (suc j) x y
  suc_changed f i j x y c = ⊎_elim (λ (h : (j ≡ i) × (y ≡ f x)). inl (ap suc h.0, h.1))
      (λ (h : (j ≡ i → ⊥) × (y ≡ x)). inr ((λ e. h.0 (let e' : suc j ≡ suc i = e in omega arith)), h.1)) c

  pub change_get : (i : ℕ) (f : X → X) (xs : List X) (j : ℕ) (y : X) → slice_get (change i f xs) j ≡ Some y
      → (x : X) × (slice_get xs j ≡ Some x) × Changed f i j x y
  change_get zero f [] j y e = absurd (none_not_some y e)
  change_get (suc i) f [] j y e = absurd (none_not_some y e)
  change_get zero f (x ∷ xs) zero y e = (x, refl, inl (refl, some_is y (f x) (sym e)))
  change_get zero f (x ∷ xs) (suc j) y e = (y, e, inr ((λ (h : suc j ≡ 0). omega arith), refl))
  change_get (suc i) f (x ∷ xs) zero y e = (x, refl, inr ((λ (h : 0 ≡ suc i). omega arith), some_is y x (sym e)))
  change_get (suc i) f (x ∷ xs) (suc j) y e = let h = change_get i f xs j y e in (h.0, h.1, suc_changed f i j h.0 y h.2)

  pub change_at : (i : ℕ) (f : X → X) (xs : List X) (x : X) → slice_get xs i ≡ Some x → slice_get (change i f xs) i ≡ Some (f x)
  change_at zero f [] x e = absurd (none_not_some x e)
  change_at (suc i) f [] x e = absurd (none_not_some x e)
  change_at zero f (y ∷ xs) x e = ap (λ z. Some (f z)) (some_is y x e)
  change_at (suc i) f (y ∷ xs) x e = change_at i f xs x e

  pub change_other : (i : ℕ) (f : X → X) (xs : List X) (j : ℕ) → (j ≡ i → ⊥) → slice_get (change i f xs) j ≡ slice_get xs j
  change_other zero f [] j h = refl
  change_other (suc i) f [] j h = refl
  change_other zero f (y ∷ xs) zero h = absurd (h refl)
  change_other zero f (y ∷ xs) (suc j) h = refl
  change_other (suc i) f (y ∷ xs) zero h = refl
  change_other (suc i) f (y ∷ xs) (suc j) h = change_other i f xs j (λ e. h (ap suc e))

  pub length-change : (i : ℕ) (f : X → X) (xs : List X) → length (change i f xs) ≡ length xs
  length-change zero f [] = refl
  length-change (suc i) f [] = refl
  length-change zero f (y ∷ xs) = refl
  length-change (suc i) f (y ∷ xs) = ap suc (length-change i f xs)

  pub flat_change_same : {A : Type 0} (g : X → List A) (i : ℕ) (f : X → X) (xs : List X) → ((x : X) → g (f x) ≡ g x)
      → flat_map g (change i f xs) ≡ flat_map g xs
  flat_change_same g zero f [] h = refl
  flat_change_same g (suc i) f [] h = refl
  flat_change_same g zero f (y ∷ xs) h = ap (λ l. l ++ flat_map g xs) (h y)
  flat_change_same g (suc i) f (y ∷ xs) h = ap (λ l. g y ++ l) (flat_change_same g i f xs h)

  -- the first that passes
  abbrev pub AlsoPasses : (X → Bool) → List X → ℕ → Type 0
  AlsoPasses p xs i = (j : ℕ) (y : X) → slice_get xs j ≡ Some y → p y ≡ true → i ≡ j

  pub find_only : (p : X → Bool) (xs : List X) (i : ℕ) (x : X) → slice_get xs i ≡ Some x → p x ≡ true → AlsoPasses p xs i → find p xs ≡ Some x
  find_only p [] i x e t only = absurd (none_not_some x e)
  find_only p (y ∷ xs) zero x e t only = cond-true (p y) (Some y) (find p xs) (ap p (some_is y x e) ∙ t) ∙ e
  find_only p (y ∷ xs) (suc i) x e t only = ⊎_elim
      (λ (h : p y ≡ true). absurd (let z : suc i ≡ 0 = only 0 y refl h in omega arith))
      (λ (h : p y ≡ false). cond-false (p y) (Some y) (find p xs) h
      ∙ find_only p xs i x e t (λ j z g u. let s : suc i ≡ suc j = only (suc j) z g u in omega arith))
      (cases_Bool (p y))

  pub find_some : (p : X → Bool) (xs : List X) (x : X) → find p xs ≡ Some x → (i : ℕ) × (slice_get xs i ≡ Some x) × (p x ≡ true)
  find_some p [] x e = absurd (none_not_some x e)
  find_some p (y ∷ xs) x e = ⊎_elim
      (λ (h : p y ≡ true). let s : Some y ≡ Some x = sym (cond-true (p y) (Some y) (find p xs) h) ∙ e in (0, s, ap p (sym (some_is y x s)) ∙ h))
      (λ (h : p y ≡ false). let r = find_some p xs x (sym (cond-false (p y) (Some y) (find p xs) h) ∙ e) in (suc r.0, r.1, r.2))
      (cases_Bool (p y))

  pub find_none : (p : X → Bool) (xs : List X) → ((i : ℕ) (x : X) → slice_get xs i ≡ Some x → p x ≡ false) → find p xs ≡ None
  find_none p [] h = refl
  find_none p (y ∷ xs) h = cond-false (p y) (Some y) (find p xs) (h 0 y refl) ∙ find_none p xs (λ i x e. h (suc i) x e)

  pub find_change_other : (p : X → Bool) (i : ℕ) (f : X → X) (xs : List X) → ((x : X) → slice_get xs i ≡ Some x → (p x ≡ false) × (p (f x) ≡ false))
      → find p (change i f xs) ≡ find p xs
  find_change_other p zero f [] h = refl
  find_change_other p (suc i) f [] h = refl
  find_change_other p zero f (y ∷ xs) h = let t = h y refl in
      cond-false (p (f y)) (Some (f y)) (find p xs) t.1 ∙ sym (cond-false (p y) (Some y) (find p xs) t.0)
  find_change_other p (suc i) f (y ∷ xs) h = ap (λ r. cond (p y) (Some y) r) (find_change_other p i f xs h)

  pub find_snoc_other : (p : X → Bool) (xs : List X) (y : X) → p y ≡ false → find p (xs ++ y ∷ []) ≡ find p xs
  find_snoc_other p [] y h = cond-false (p y) (Some y) None h
  find_snoc_other p (x ∷ xs) y h = ap (λ r. cond (p x) (Some x) r) (find_snoc_other p xs y h)

module _ {E : Type 0} where
  abbrev pub Apart : List (Piece E) → Type 0
  Apart pieces = (i j : ℕ) (x y : Piece E) → slice_get pieces i ≡ Some x → slice_get pieces j ≡ Some y → x.batch ≡ y.batch → x.k ≡ y.k → i ≡ j

  pub is_of_parts : (a : Alternative) (x : Piece E) → is_of a x ≡ true → (x.batch ≡ a.batch) × (x.k ≡ a.k)
  is_of_parts a x t = let h = and_parts (eqb a.batch x.batch) (eqb a.k x.k) t in (sym (eqb-true a.batch x.batch h.0), sym (eqb-true a.k x.k h.1))

  pub is_of_from : (a : Alternative) (x : Piece E) → x.batch ≡ a.batch → x.k ≡ a.k → is_of a x ≡ true
  is_of_from a x b k = and_from (eqb a.batch x.batch) (eqb a.k x.k) (eq-eqb a.batch x.batch (sym b)) (eq-eqb a.k x.k (sym k))

  -- with no two pieces at one alternative, the piece of an alternative is the one that names it
  pub found : (pieces : List (Piece E)) → Apart pieces → (i : ℕ) (x : Piece E) (a : Alternative) → slice_get pieces i ≡ Some x → x.batch ≡ a.batch → x.k ≡ a.k
      → piece_of pieces a ≡ Some x
  found pieces apart i x a e b k = find_only (is_of a) pieces i x e (is_of_from a x b k) (λ j y g t. let h = is_of_parts a y t in
      apart i j x y e g (b ∙ sym h.0) (k ∙ sym h.1))

  pub lookup : (pieces : List (Piece E)) (a : Alternative) (x : Piece E) → piece_of pieces a ≡ Some x
      → (i : ℕ) × (slice_get pieces i ≡ Some x) × (x.batch ≡ a.batch) × (x.k ≡ a.k)
  lookup pieces a x e = let h = find_some (is_of a) pieces x e in let t = is_of_parts a x h.2 in (h.0, h.1, t.0, t.1)
