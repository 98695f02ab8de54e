-- Variables by the numbers of their names, and by the texts of these.
use Rattle.std.proofs.Common.{◌≡◌, ◌≢◌, ℕ, ◌+◌, Bool, true, false, cond, ◌||◌, List, [], ◌∷◌, ◌++◌, length, position, Option, Some, None, if◌then◌else◌, refl}
use Rattle.std.proofs.Common.{sym, subst, ap, ◌∙◌, arith, true≢false}
use Rattle.std.specs.Prelude.{nat_eq, unwrap_or}
use Rattle.std.specs.List.{list_any, position_or_len}
use Rattle.std.specs.Ordering.{nat_cmp}
use Rattle.std.specs.BTreeMap.{is_at}
use Rattle.std.proofs.lemmas.Bool.{le-ltb, ne_eqb, eq-eqb, eqb-true, eqb-false}
use Rattle.std.proofs.lemmas.List.Folds.{list_any-append, position_or_len_push}
use Rattle.ll_polarity.specs.Numbered.{has_number, numbered, with_number, AreNumbered}
use Rattle.std.proofs.lemmas.Bool.Decides.{nat_tests}
use Rattle.ll_list_laws.proofs.CallerLemmas.{position_within as place_within}
use Rattle.ll_polarity.proofs.reading.Grows.{place_is}

-- ---- the first place at which a test passes, with one more element

module _ {X : Type 0} (p : X → Bool) where
  past_all : (xs : List X) → list_any p xs ≡ false → position_or_len p xs ≡ length xs
  past_all [] h = refl
  past_all (x ∷ xs) h = by (p x) refl (past_all xs)
    where
      by : (b : Bool) → p x ≡ b → (list_any p xs ≡ false → position_or_len p xs ≡ length xs) → position_or_len p (x ∷ xs) ≡ length (x ∷ xs)
      by true e more = absurd (true≢false (sym (ap (λ b. b || list_any p xs) e) ∙ h))
      by false e more = let i = more (sym (ap (λ b. b || list_any p xs) e) ∙ h) in rw e (omega arith)

  pub finds_none : (xs : List X) → list_any p xs ≡ false → position p xs ≡ None
  finds_none xs h = rw (past_all xs h) (ap (λ b. cond b (let o : Option ℕ = Some (length xs) in o) None) (le-ltb (length xs) (length xs) (omega arith)))

  pub finds_last : (xs : List X) (y : X) → list_any p xs ≡ false → p y ≡ true → position p (xs ++ y ∷ []) ≡ Some (length xs)
  finds_last xs y h e =
      let a : list_any p (xs ++ y ∷ []) ≡ true = list_any-append p xs (y ∷ []) ∙ (ap (λ b. b || (p y || false)) h ∙ ap (λ b. b || false) e) in
      let q = position_or_len_push p xs y in
      let w = past_all xs h in
      place_is p (xs ++ y ∷ []) a ∙ ap (λ n. let o : Option ℕ = Some n in
      o) (q ∙ rw (w, e) (ap (λ b. cond b (length xs + 0) (length xs)) (eq-eqb (length xs) (length xs) refl) ∙ omega arith))

  pub keeps_place : (xs : List X) (y : X) → list_any p xs ≡ true → position p (xs ++ y ∷ []) ≡ position p xs
  keeps_place xs y h =
      let a : list_any p (xs ++ y ∷ []) ≡ true = list_any-append p xs (y ∷ []) ∙ ap (λ b. b || (p y || false)) h in
      let l = place_within p xs h in
      let ne : position_or_len p xs ≢ length xs = λ e. (let x = e in omega arith) in
      place_is p (xs ++ y ∷ []) a
      ∙ (ap (λ n. let o : Option ℕ = Some n in o)
      (position_or_len_push p xs y ∙ ap (λ b. cond b (length xs + cond (p y) 0 1) (position_or_len p xs)) (ne_eqb _ _ ne))
      ∙ sym (place_is p xs h))

-- ---- the table of numbers

any_found : (variables : List (Option ℕ)) (n k : ℕ) → position (has_number n) variables ≡ Some k → list_any (has_number n) variables ≡ true
any_found variables n k e = by (list_any (has_number n) variables) refl
  where
    by : (b : Bool) → list_any (has_number n) variables ≡ b → b ≡ true
    by true h = refl
    by false h = let x : None ≡ Some k = sym (finds_none (has_number n) variables h) ∙ e in absurd (cc)

none_found : (variables : List (Option ℕ)) (n : ℕ) → position (has_number n) variables ≡ None → list_any (has_number n) variables ≡ false
none_found variables n e = by (list_any (has_number n) variables) refl
  where
    by : (b : Bool) → list_any (has_number n) variables ≡ b → b ≡ false
    by false h = refl
    by true h = let x : Some (position_or_len (has_number n) variables) ≡ None = sym (place_is (has_number n) variables h) ∙ e in absurd (cc)

pub known_variable : (lookup : ℕ → Option ℕ) (variables : List (Option ℕ)) (n k : ℕ) → AreNumbered lookup variables → Some k ≡ lookup n
    → variables ≡ with_number variables n
known_variable lookup variables n k are e = ap (λ b. if b then variables else variables ++ Some n ∷ []) (sym (any_found variables n k (sym (are n) ∙ sym e)))

pub new_variable : (lookup : ℕ → Option ℕ) (variables : List (Option ℕ)) (n : ℕ) → AreNumbered lookup variables → None ≡ lookup n
    → variables ++ Some n ∷ [] ≡ with_number variables n
new_variable lookup variables n are e = ap (λ b. if b then variables else variables ++ Some n ∷ []) (sym (none_found variables n (sym (are n) ∙ sym e)))

pub new_number : (lookup : ℕ → Option ℕ) (variables : List (Option ℕ)) (n : ℕ) → AreNumbered lookup variables → None ≡ lookup n
    → length variables ≡ numbered (variables ++ Some n ∷ []) n
new_number lookup variables n are e =
    ap (λ o. unwrap_or o 0) (sym (finds_last (has_number n) variables (Some n) (none_found variables n (sym (are n) ∙ sym e)) (eq-eqb n n refl)))

pub numbered_more : (lookup later : ℕ → Option ℕ) (variables : List (Option ℕ)) (n : ℕ) → AreNumbered lookup variables → None ≡ lookup n
    → ((q : ℕ) → later q ≡ cond (nat_eq n q) (Some (length variables)) (lookup q)) → AreNumbered later (variables ++ Some n ∷ [])
numbered_more lookup later variables n are e u q = u q ∙ by (nat_eq n q) refl (list_any (has_number q) variables) refl
  where
    new : list_any (has_number n) variables ≡ false
    new = none_found variables n (sym (are n) ∙ sym e)

    by : (b : Bool) → nat_eq n q ≡ b → (a : Bool) → list_any (has_number q) variables ≡ a
        → cond b (let o : Option ℕ = Some (length variables) in o) (lookup q) ≡ position (has_number q) (variables ++ Some n ∷ [])
    by true same a h =
        let s : n ≡ q = eqb-true n q same in
        subst (λ m. Some (length variables) ≡ position (has_number m) (variables ++ Some n ∷ [])) s
        (sym (finds_last (has_number n) variables (Some n) new (eq-eqb n n refl)))
    by false other true h = are q ∙ sym (keeps_place (has_number q) variables (Some n) h)
    by false other false h =
        let ne : nat_eq q n ≡ false = ne_eqb q n (λ s. eqb-false n q other (sym s)) in
        are q ∙ (finds_none (has_number q) variables h
        ∙ sym (finds_none (has_number q) (variables ++ Some n ∷ [])
        (list_any-append (has_number q) variables (Some n ∷ []) ∙ (ap (λ b. b || (nat_eq q n || false)) h ∙ ap (λ b. b || false) ne))))

-- a place of a map by numbers
pub at_nat : (n q : ℕ) → is_at (nat_cmp n) q ≡ nat_eq n q
at_nat n q = grind (arith, nat_tests)
