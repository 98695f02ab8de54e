-- Rows of places, and what is found in them.
use Rattle.std.proofs.Common.{◌≡◌, ℕ, suc, zero, ◌+◌, ◌-◌, ◌≤◌, ◌<◌, refl, ap, sym, subst, ◌∙◌, List, [], ◌∷◌, ◌++◌, length, get_or, take, drop, arith}
use Rattle.std.specs.Prelude.{Bool, true, false, ◌||◌, ◌&&◌, cond, nat_eq, nat_lt, nat_le, Option, Some, None}
use Rattle.std.proofs.Common.{length-take, drop-cons}
use Rattle.std.proofs.Math.Bool.{and-false}
use Rattle.std.proofs.lemmas.Bool.Decides.{nat_tests}
use Rattle.std.specs.Ordering.{nat_cmp}
use Rattle.std.specs.BTreeMap.{is_at}
use Rattle.std.specs.List.{list_any}
use Rattle.std.proofs.lemmas.Bool.{ltb-true, ltb-false, lt-ltb}
use Rattle.std.proofs.lemmas.List.{take_all, drop_all, take_more}
use Rattle.ll_list_laws.proofs.CallerLemmas.{lt_false}
use Rattle.ll_trace.specs.declared.picks.Pick.{Pick}
use Rattle.ll_trace.specs.declared.places.Place.{Place}
use Rattle.ll_trace.specs.Picks.{is_pick, is_used_between}
use Rattle.ll_trace.specs.Places.{places_of, RisesFrom, is_hit}

le_false : (a b : ℕ) → b < a → nat_le a b ≡ false
le_false a b h = grind (arith, nat_tests)

le_true : (a b : ℕ) → a ≤ b → nat_le a b ≡ true
le_true a b h = grind (arith, nat_tests)

-- ---- rows rise

rises_lower : (m n : ℕ) (ps : List Place) → m ≤ n → RisesFrom n ps → RisesFrom m ps
rises_lower m n [] h r = tt
rises_lower m n (p ∷ ps) h r = (let q = r.0 in omega (arith, h, q), r.1)

pub places-rise : (n m at : ℕ) (ps : List (Option Pick)) → m ≤ at → RisesFrom m (places_of n at ps)
places-rise n m at [] h = tt
places-rise n m at (None ∷ ps) h = places-rise n m (at + 1) ps (omega (arith, h))
places-rise n m at (Some p ∷ ps) h = step (nat_eq n p.label) (places-rise n m (at + 1) ps (omega (arith, h))) (places-rise n at (at + 1) ps (omega arith))
  where
    step : (b : Bool) → RisesFrom m (places_of n (at + 1) ps) → RisesFrom at (places_of n (at + 1) ps)
        → RisesFrom m (cond b (record { at = at; level = p.level } ∷ places_of n (at + 1) ps) (places_of n (at + 1) ps))
    step true r s = (h, s)
    step false r s = r

rises_drop : (n k : ℕ) (ps : List Place) → RisesFrom n ps → RisesFrom n (drop k ps)
rises_drop n zero ps r = r
rises_drop n (suc k) [] r = tt
rises_drop n (suc k) (p ∷ ps) r = rises_lower n p.at (drop k ps) r.0 (rises_drop p.at k ps r.1)

rise_above : (n j : ℕ) (ps : List Place) (d : Place) → RisesFrom n ps → j < length ps → n ≤ (get_or ps j d).at
rise_above n j [] d r h = absurd (omega (arith, h))
rise_above n zero (p ∷ ps) d r h = r.0
rise_above n (suc j) (p ∷ ps) d r h = let q = r.0 in let s = rise_above p.at j ps d r.1 (omega (arith, h)) in omega (arith, q, s)

pub rises-at : (n i j : ℕ) (ps : List Place) (d : Place) → RisesFrom n ps → i ≤ j → j < length ps → (get_or ps i d).at ≤ (get_or ps j d).at
rises-at n i j [] d r h k = absurd (omega (arith, k))
rises-at n zero zero (p ∷ ps) d r h k = omega arith
rises-at n zero (suc j) (p ∷ ps) d r h k = rise_above p.at j ps d r.1 (omega (arith, k))
rises-at n (suc i) zero (p ∷ ps) d r h k = absurd (omega (arith, h))
rises-at n (suc i) (suc j) (p ∷ ps) d r h k = rises-at p.at i j ps d r.1 (omega (arith, h)) (omega (arith, k))

minus_none : (n : ℕ) → n - 0 ≡ n
minus_none n = omega arith

-- ---- hits

no_hit_below : (b from to : ℕ) (p : Place) → p.at < from → is_hit b from to p ≡ false
no_hit_below b from to p h = ap (λ c. c && (nat_lt p.at to && nat_eq b p.level)) (le_false from p.at h)

no_hit_above : (b from to : ℕ) (p : Place) → to ≤ p.at → is_hit b from to p ≡ false
no_hit_above b from to p h = ap (λ c. nat_le from p.at && (c && nat_eq b p.level)) (lt_false p.at to h) ∙ and-false (nat_le from p.at)

hit_level : (b from to : ℕ) (p : Place) → from ≤ p.at → p.at < to → is_hit b from to p ≡ nat_eq b p.level
hit_level b from to p h k = ap (λ c. c && (nat_lt p.at to && nat_eq b p.level)) (le_true from p.at h) ∙ ap (λ c. c && nat_eq b p.level) (lt-ltb p.at to k)

none_after : (b from to n : ℕ) (ps : List Place) → to ≤ n → RisesFrom n ps → list_any (is_hit b from to) ps ≡ false
none_after b from to n [] h r = refl
none_after b from to n (p ∷ ps) h r =
    let q = r.0 in ap (λ c. c || list_any (is_hit b from to) ps) (no_hit_above b from to p (omega (arith, h, q)))
    ∙ none_after b from to p.at ps (omega (arith, h, q)) r.1

pub hits-begin : (b from to start : ℕ) (ps : List Place) → ((k : ℕ) (d : Place) → k < start → (get_or ps k d).at < from)
    → list_any (is_hit b from to) (drop start ps) ≡ list_any (is_hit b from to) ps
hits-begin b from to zero ps h = refl
hits-begin b from to (suc s) [] h = refl
hits-begin b from to (suc s) (p ∷ ps) h =
    hits-begin b from to s ps (λ k d l. h (suc k) d (omega (arith, l)))
    ∙ sym (ap (λ c. c || list_any (is_hit b from to) ps) (no_hit_below b from to p (h 0 p (omega arith))))

-- one place of a row
pub hits-drop : (b from to k : ℕ) (ps : List Place) (p : Place) → drop k ps ≡ p ∷ drop (k + 1) ps → RisesFrom 0 ps → from ≤ p.at
    → list_any (is_hit b from to) (drop k ps) ≡ (nat_lt p.at to && (nat_eq b p.level || list_any (is_hit b from to) (drop (k + 1) ps)))
hits-drop b from to k ps p d r h = ap (list_any (is_hit b from to)) d ∙ step (nat_lt p.at to) refl (subst (λ xs. RisesFrom 0 xs) d (rises_drop 0 k ps r))
  where
    step : (c : Bool) → nat_lt p.at to ≡ c → RisesFrom 0 (p ∷ drop (k + 1) ps)
        → list_any (is_hit b from to) (p ∷ drop (k + 1) ps) ≡ (c && (nat_eq b p.level || list_any (is_hit b from to) (drop (k + 1) ps)))
    step true c s = ap (λ z. z || list_any (is_hit b from to) (drop (k + 1) ps)) (hit_level b from to p h (ltb-true p.at to c))
    step false c s = let z = ltb-false p.at to c in none_after b from to p.at (p ∷ drop (k + 1) ps) z (omega arith, s.1)

abbrev no_picks : List (Option Pick)
no_picks = []

empty_take : (i j : ℕ) → take i (drop j no_picks) ≡ no_picks
empty_take i j = ap (take i) (drop_all j no_picks (omega arith)) ∙ take_all i no_picks (omega arith)

-- what is found among the places of a label is what its nodes pick between the bounds
pub hits-picks : (n b from to at : ℕ) (ps : List (Option Pick))
    → list_any (is_hit b from to) (places_of n at ps) ≡ list_any (is_pick n b) (take ((to - at) - (from - at)) (drop (from - at) ps))
hits-picks n b from to at [] = ap (list_any (is_pick n b)) (sym (empty_take ((to - at) - (from - at)) (from - at)))
hits-picks n b from to at (o ∷ ps) = begins (nat_lt at from) refl (hits-picks n b from to (at + 1) ps)
  where
    early : (o : Option Pick) → at < from → list_any (is_hit b from to) (places_of n at (o ∷ ps)) ≡ list_any (is_hit b from to) (places_of n (at + 1) ps)
    early None h = refl
    early (Some p) h = pick (nat_eq n p.label)
      where
        pick : (c : Bool) → list_any (is_hit b from to) (cond c (record { at = at; level = p.level } ∷ places_of n (at + 1) ps) (places_of n (at + 1) ps))
            ≡ list_any (is_hit b from to) (places_of n (at + 1) ps)
        pick true = ap (λ z. z || list_any (is_hit b from to) (places_of n (at + 1) ps)) (no_hit_below b from to (record { at = at; level = p.level }) h)
        pick false = refl

    inside : (o : Option Pick) → from ≤ at → at < to → list_any (is_hit b from to) (places_of n at (o ∷ ps))
        ≡ (is_pick n b o || list_any (is_hit b from to) (places_of n (at + 1) ps))
    inside None h k = refl
    inside (Some p) h k = pick (nat_eq n p.label)
      where
        pick : (c : Bool) → list_any (is_hit b from to) (cond c (record { at = at; level = p.level } ∷ places_of n (at + 1) ps) (places_of n (at + 1) ps))
            ≡ ((c && nat_eq b p.level) || list_any (is_hit b from to) (places_of n (at + 1) ps))
        pick true = ap (λ z. z || list_any (is_hit b from to) (places_of n (at + 1) ps)) (hit_level b from to (record { at = at; level = p.level }) h k)
        pick false = refl

    ends : (c : Bool) → nat_lt at to ≡ c → from ≤ at → list_any (is_hit b from to) (places_of n (at + 1) ps)
        ≡ list_any (is_pick n b) (take ((to - (at + 1)) - (from - (at + 1))) (drop (from - (at + 1)) ps))
        → list_any (is_hit b from to) (places_of n at (o ∷ ps)) ≡ list_any (is_pick n b) (take ((to - at) - (from - at)) (drop (from - at) (o ∷ ps)))
    ends true c h i =
        let k = ltb-true at to c in
        let f : from - at ≡ 0 = omega (arith, h) in let f1 : from - (at + 1) ≡ 0 = omega (arith, h) in
        let t : to - at ≡ suc (to - (at + 1)) = omega (arith, k) in
        inside o h k
        ∙ (ap (λ z. is_pick n b o || z) (i ∙ ap (λ m. list_any (is_pick n b) (take ((to - (at + 1)) - m) (drop m ps))) f1)
        ∙ sym (ap (λ m. list_any (is_pick n b) (take ((to - at) - m) (drop m (o ∷ ps)))) f
        ∙ ap (λ m. list_any (is_pick n b) (take m (o ∷ ps))) (minus_none (to - at) ∙ t)
        ∙ ap (λ m. is_pick n b o || list_any (is_pick n b) (take m ps)) (sym (minus_none (to - (at + 1))))))
    ends false c h i =
        let k = ltb-false at to c in let t : (to - at) - (from - at) ≡ 0 = omega (arith, k) in
        none_after b from to at (places_of n at (o ∷ ps)) k (places-rise n at at (o ∷ ps) (omega arith))
        ∙ sym (ap (λ m. list_any (is_pick n b) (take m (drop (from - at) (o ∷ ps)))) t)

    begins : (c : Bool) → nat_lt at from ≡ c → list_any (is_hit b from to) (places_of n (at + 1) ps)
        ≡ list_any (is_pick n b) (take ((to - (at + 1)) - (from - (at + 1))) (drop (from - (at + 1)) ps))
        → list_any (is_hit b from to) (places_of n at (o ∷ ps)) ≡ list_any (is_pick n b) (take ((to - at) - (from - at)) (drop (from - at) (o ∷ ps)))
    begins true c i =
        let h = ltb-true at from c in let f : from - at ≡ suc (from - (at + 1)) = omega (arith, h) in
        let t : (to - at) - (from - at) ≡ (to - (at + 1)) - (from - (at + 1)) = omega (arith, h) in
        early o h ∙ (i ∙ (ap (λ m. list_any (is_pick n b) (take m (drop (from - (at + 1)) ps))) (sym t)
        ∙ ap (λ m. list_any (is_pick n b) (take ((to - at) - (from - at)) (drop m (o ∷ ps)))) (sym f)))
    begins false c i = ends (nat_lt at to) refl (ltb-false at from c) i

pub used-found : (n b from to : ℕ) (picks : List (Option Pick)) (row : List Place) → row ≡ places_of n 0 picks
    → list_any (is_hit b from to) row ≡ is_used_between picks n b from to
used-found n b from to picks row e =
    ap (list_any (is_hit b from to)) e ∙ (hits-picks n b from to 0 picks
    ∙ (ap (λ m. list_any (is_pick n b) (take (m - (from - 0)) (drop (from - 0) picks))) (minus_none to)
    ∙ ap (λ m. list_any (is_pick n b) (take (to - m) (drop m picks))) (minus_none from)))

-- ---- the index

places_append : (n at : ℕ) (ps qs : List (Option Pick)) → places_of n at (ps ++ qs) ≡ places_of n at ps ++ places_of n (at + length ps) qs
places_append n at [] qs = let e : at ≡ at + 0 = omega arith in ap (λ i. places_of n i qs) e
places_append n at (None ∷ ps) qs = places_append n (at + 1) ps qs
    ∙ ap (λ i. places_of n (at + 1) ps ++ places_of n i qs) (let e : at + 1 + length ps ≡ at + suc (length ps) = omega arith in e)
places_append n at (Some p ∷ ps) qs = step (nat_eq n p.label)
    (places_append n (at + 1) ps qs ∙ ap (λ i. places_of n (at + 1) ps ++ places_of n i qs) (let e : at + 1 + length ps ≡ at + suc (length ps) = omega arith in
    e))
  where
    step : (c : Bool) → places_of n (at + 1) (ps ++ qs) ≡ places_of n (at + 1) ps ++ places_of n (at + suc (length ps)) qs
        → cond c (record { at = at; level = p.level } ∷ places_of n (at + 1) (ps ++ qs)) (places_of n (at + 1) (ps ++ qs))
        ≡ cond c (record { at = at; level = p.level } ∷ places_of n (at + 1) ps) (places_of n (at + 1) ps) ++ places_of n (at + suc (length ps)) qs
    step true e = ap (λ xs. record { at = at; level = p.level } ∷ xs) e
    step false e = e

pub index-step : (n k : ℕ) (picks : List (Option Pick)) (o : Option Pick) (old new : List Place) → k < length picks → o ≡ get_or picks k o
    → old ≡ places_of n 0 (take k picks) → new ≡ old ++ places_of n k (o ∷ []) → new ≡ places_of n 0 (take (k + 1) picks)
index-step n k picks o old new h e a b =
    let l = length-take k picks in let z : 0 + length (take k picks) ≡ k = omega (arith, l, h) in
    b
    ∙
    (ap (λ xs. xs ++ places_of n k (o ∷ [])) a ∙ (sym (places_append n 0 (take k picks) (o ∷ [])
    ∙ ap (λ i. places_of n 0 (take k picks) ++ places_of n i (o ∷ [])) z)
    ∙ ap (places_of n 0) (sym (take_more picks k o h ∙ ap (λ (x : Option Pick). take k picks ++ x ∷ []) (sym e)))))

pub at_nat : (n q : ℕ) → is_at (nat_cmp n) q ≡ nat_eq q n
at_nat n q = grind (arith, nat_tests)

pub at-default : {A : Type 0} (xs : List A) (i : ℕ) (d e : A) → i < length xs → get_or xs i d ≡ get_or xs i e
at-default [] i d e h = absurd (omega (arith, h))
at-default (x ∷ xs) zero d e h = refl
at-default (x ∷ xs) (suc i) d e h = at-default xs i d e (omega (arith, h))

pub drop-at : {A : Type 0} (xs : List A) (k : ℕ) (d : A) → k < length xs → drop k xs ≡ get_or xs k d ∷ drop (k + 1) xs
drop-at {A = A} xs k d h = let q : suc k ≡ k + 1 = omega arith in drop-cons xs k d h ∙ ap (λ (i : ℕ). get_or xs k d ∷ drop i xs) q

pub none-of : (o : Option Pick) → ((p : Pick) → o ≡ Some p → ⊥) → o ≡ None
none-of None h = refl
none-of (Some p) h = absurd (h p refl)

pub below-more : (row : List Place) (from m : ℕ) (e : Place) → RisesFrom 0 row → m < length row → (get_or row m e).at < from → (k : ℕ) (d : Place) → k < m + 1
    → (get_or row k d).at < from
below-more row from m e r h b k d l =
    let a = rises-at 0 k m row d r (omega (arith, l)) h in let q = ap (λ (p : Place). p.at) (at-default row m d e h) in omega (arith, a, q, b)

pub above-more : (row : List Place) (from m : ℕ) (e : Place) → RisesFrom 0 row → m < length row → from ≤ (get_or row m e).at → (k : ℕ) (d : Place) → m ≤ k
    → k < length row → from ≤ (get_or row k d).at
above-more row from m e r h b k d l n =
    let a = rises-at 0 m k row d r l n in let q = ap (λ (p : Place). p.at) (at-default row m d e h) in omega (arith, a, q, b)

pub hits-past : (b from to k : ℕ) (row : List Place) (e : Place) → RisesFrom 0 row → k < length row → from ≤ (get_or row k e).at → to ≤ (get_or row k e).at
    → list_any (is_hit b from to) (drop k row) ≡ false
hits-past b from to k row e r h l m =
    hits-drop b from to k row (get_or row k e) (drop-at row k e h) r l
    ∙ ap (λ c. c && (nat_eq b (get_or row k e).level || list_any (is_hit b from to) (drop (k + 1) row))) (lt_false (get_or row k e).at to m)
