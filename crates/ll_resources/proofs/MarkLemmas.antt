-- Live marks one by one, and what both sides of `&` leave.
use Rattle.std.proofs.Common.{◌≡◌, ℕ, zero, suc, ◌+◌, ◌-◌, ◌<◌, ◌≤◌, Bool, true, false, ◌||◌, ◌&&◌, not, List, [], ◌∷◌, length, get_or, set, below_more, refl}
use Rattle.std.proofs.Common.{ap, sym, ◌∙◌, inl, inr, arith}
use Rattle.std.specs.Prelude.{reverse}
use Rattle.std.proofs.lemmas.List.{length-reverse, get_or-reverse, get_or_past, get_or-set_same, get_or-set_other}
use Rattle.std.proofs.lemmas.Bool.{false≢true, cases_lt}
use Rattle.std.proofs.Math.Bool.{and-false}
use Rattle.ll_list_laws.proofs.CallerLemmas.{and_true_left as and-left}
use Rattle.ll_laws.specs.Settle.{within, both_live, join_by, kept_if}
use Rattle.ll_resources.specs.Seen.{filled}
use Rattle.ll_resources.proofs.SeenLemmas.{length-filled}

and-not : (a b : Bool) → (a && not b) ≡ true → b ≡ false
and-not true true h = absurd (false≢true h)
and-not true false h = refl
and-not false b h = absurd (false≢true h)

-- the mark at a place of so many
pub get-filled : (n : ℕ) (bs : List Bool) (i : ℕ) → i < n → get_or (filled n bs) i false ≡ get_or bs i false
get-filled zero bs i l = absurd (omega (arith, l))
get-filled (suc n) [] zero l = refl
get-filled (suc n) [] (suc i) l = get-filled n [] i (omega (arith, l))
get-filled (suc n) (b ∷ bs) zero l = refl
get-filled (suc n) (b ∷ bs) (suc i) l = get-filled n bs i (omega (arith, l))

-- marks that are live in others one by one
within-all : (as' bs : List Bool) → length as' ≡ length bs → ((k : ℕ) → k < length as' → get_or as' k false ≡ true → get_or bs k false ≡ true)
    → within as' bs ≡ true
within-all [] bs l h = refl
within-all (a ∷ as') [] l h = refl
within-all (false ∷ as') (b ∷ bs) l h = within-all as' bs (omega (arith, l)) (λ k i e. h (suc k) (omega (arith, i)) e)
within-all (true ∷ as') (b ∷ bs) l h =
    ap (λ x. x && within as' bs) (h 0 (omega arith) refl) ∙ within-all as' bs (omega (arith, l)) (λ k i e. h (suc k) (omega (arith, i)) e)

-- one that is not
within-not : (as' bs : List Bool) (k : ℕ) → k < length as' → length as' ≡ length bs → get_or as' k false ≡ true → get_or bs k false ≡ false
    → within as' bs ≡ false
within-not [] bs k i l e f = absurd (omega (arith, i))
within-not (a ∷ as') [] k i l e f = absurd (omega (arith, l))
within-not (a ∷ as') (b ∷ bs) zero i l e f = ap (λ x. (not x || b) && within as' bs) e ∙ ap (λ y. y && within as' bs) f
within-not (a ∷ as') (b ∷ bs) (suc k) i l e f =
    ap (λ w. (not a || b) && w) (within-not as' bs k (omega (arith, i)) (omega (arith, l)) e f) ∙ and-false (not a || b)

implied : (a b : Bool) → (a && not b) ≡ false → a ≡ true → b ≡ true
implied true true h e = refl
implied true false h e = absurd (false≢true (sym h))
implied false b h e = absurd (false≢true e)

-- all of so many entries passed the test
pub within-passed : (count n : ℕ) (as' bs : List Bool) → ((k : ℕ) → k < n → (get_or as' k false && not (get_or bs k false)) ≡ false)
    → ((k : ℕ) → k < length as' → k < count → k < n)
    → within (filled count as') (filled count bs) ≡ true
within-passed count n as' bs h far =
    let la = length-filled count as' in let lb = length-filled count bs in
    within-all (filled count as') (filled count bs) (la ∙ sym lb) (λ k i e.
    let inside : k < count = omega (arith, i, la) in
    let live : get_or as' k false ≡ true = sym (get-filled count as' k inside) ∙ e in
    get-filled count bs k inside ∙ (elim (cases_lt k (length as')) [
      | inl l ↦ implied (get_or as' k false) (get_or bs k false) (h k (far k l inside)) live
      | inr g ↦ absurd (false≢true (sym (get_or_past as' k false g) ∙ live))
    ]))

-- one of them did not
pub within-failed : (count i : ℕ) (as' bs : List Bool) → i < count → (get_or as' i false && not (get_or bs i false)) ≡ true
    → within (filled count as') (filled count bs) ≡ false
within-failed count i as' bs l e =
    let la = length-filled count as' in let lb = length-filled count bs in
    within-not (filled count as') (filled count bs) i (omega (arith, la, l)) (la ∙ sym lb)
    (get-filled count as' i l ∙ and-left (get_or as' i false) (not (get_or bs i false)) e)
    (get-filled count bs i l ∙ and-not (get_or as' i false) (get_or bs i false) e)

rest : List Bool → List Bool
rest [] = []
rest (b ∷ bs) = bs

filled-first : (n : ℕ) (bs : List Bool) → filled (suc n) bs ≡ get_or bs 0 false ∷ filled n (rest bs)
unfolding rest
filled-first n [] = refl
filled-first n (b ∷ bs) = refl

get-rest : (bs : List Bool) (k : ℕ) → get_or (rest bs) k false ≡ get_or bs (suc k) false
unfolding rest
get-rest [] k = refl
get-rest (b ∷ bs) k = refl

-- what is live in both, one by one
both-filled : (n : ℕ) (as' bs cs : List Bool) → ((k : ℕ) → get_or cs k false ≡ (get_or as' k false && get_or bs k false))
    → filled n cs ≡ both_live (filled n as') (filled n bs)
both-filled zero as' bs cs h = refl
both-filled (suc n) as' bs cs h =
    let ih = both-filled n (rest as') (rest bs) (rest cs) (λ k. get-rest cs k ∙ (h (suc k)
    ∙ (ap (λ x. x && get_or bs (suc k) false) (sym (get-rest as' k)) ∙ ap (λ y. get_or (rest as') k false && y) (sym (get-rest bs k))))) in
    filled-first n cs
    ∙ (ap (λ x. x ∷ filled n (rest cs)) (h 0)
    ∙ (ap (λ xs. (get_or as' 0 false && get_or bs 0 false) ∷ xs) ih
    ∙ (ap (λ ys. both_live (get_or as' 0 false ∷ filled n (rest as')) ys) (sym (filled-first n bs))
    ∙ ap (λ xs. both_live xs (filled (suc n) bs)) (sym (filled-first n as')))))

-- one mark more is done
pub done-more : (as' bs xs ys : List Bool) (i : ℕ) (v : Bool) → i < length xs → ys ≡ set xs i v
    → v ≡ (get_or bs i false && get_or (reverse as') (length bs - 1 - i) false)
    → ((k : ℕ) → k < i → get_or xs k false ≡ (get_or bs k false && get_or (reverse as') (length bs - 1 - k) false))
    → (k : ℕ) → k < i + 1 → get_or ys k false ≡ (get_or bs k false && get_or (reverse as') (length bs - 1 - k) false)
done-more as' bs xs ys i v l e h done = below_more _ i
    (λ k below. ap (λ zs. get_or zs k false) e ∙ (get_or-set_other xs i k v false (λ q. absurd (omega (arith, q, below))) ∙ done k below))
    (ap (λ zs. get_or zs i false) e ∙ (get_or-set_same xs i v false l ∙ h))

-- and those behind it are left
pub left-more : (bs xs ys : List Bool) (i : ℕ) (v : Bool) → ys ≡ set xs i v → ((k : ℕ) → i ≤ k → get_or xs k false ≡ get_or bs k false)
    → (k : ℕ) → i + 1 ≤ k → get_or ys k false ≡ get_or bs k false
left-more bs xs ys i v e left k l =
    ap (λ zs. get_or zs k false) e ∙ (get_or-set_other xs i k v false (λ q. absurd (omega (arith, q, l))) ∙ left k (omega (arith, l)))

-- from the oldest to the newest
pub both-done : (as' bs cs : List Bool) → length cs ≡ length bs
    → ((k : ℕ) → k < length bs → get_or cs k false ≡ (get_or bs k false && get_or (reverse as') (length bs - 1 - k) false))
    → (n : ℕ) → filled n (reverse cs) ≡ both_live (filled n (reverse as')) (filled n (reverse bs))
both-done as' bs cs l h n = both-filled n (reverse as') (reverse bs) (reverse cs) each
  where
    swap-and : (a b : Bool) → (a && b) ≡ (b && a)
    swap-and true true = refl
    swap-and true false = refl
    swap-and false true = refl
    swap-and false false = refl

    each : (k : ℕ) → get_or (reverse cs) k false ≡ (get_or (reverse as') k false && get_or (reverse bs) k false)
    each k = elim (cases_lt k (length bs)) [
      | inl i ↦
          let at : length cs - 1 - k ≡ length bs - 1 - k = omega (arith, l) in
          let back : length bs - 1 - (length bs - 1 - k) ≡ k = omega (arith, i) in
          get_or-reverse cs k false (omega (arith, l, i))
          ∙ (ap (λ j. get_or cs j false) at
          ∙ (h (length bs - 1 - k) (omega (arith, i))
          ∙ (ap (λ j. get_or bs (length bs - 1 - k) false && get_or (reverse as') j false) back
          ∙ (ap (λ b. b && get_or (reverse as') k false) (sym (get_or-reverse bs k false i))
          ∙ swap-and (get_or (reverse bs) k false) (get_or (reverse as') k false)))))
      | inr g ↦
          let n1 = length-reverse cs in let n2 = length-reverse bs in
          get_or_past (reverse cs) k false (omega (arith, n1, l, g))
          ∙ (sym (and-false (get_or (reverse as') k false)) ∙ ap (λ b. get_or (reverse as') k false && b)
          (sym (get_or_past (reverse bs) k false (omega (arith, n2, g)))))
    ]

-- marks within others are what is live in both
both-within : (as' bs : List Bool) → length as' ≡ length bs → within as' bs ≡ true → both_live as' bs ≡ as'
both-within [] bs l h = refl
both-within (a ∷ as') [] l h = absurd (omega (arith, l))
both-within (false ∷ as') (b ∷ bs) l h = ap (λ xs. false ∷ xs) (both-within as' bs (omega (arith, l)) h)
both-within (true ∷ as') (false ∷ bs) l h = absurd (false≢true h)
both-within (true ∷ as') (true ∷ bs) l h = ap (λ xs. true ∷ xs) (both-within as' bs (omega (arith, l)) h)

-- from either side
both-over : (as' bs : List Bool) → length as' ≡ length bs → within bs as' ≡ true → both_live as' bs ≡ bs
both-over [] [] l h = refl
both-over [] (b ∷ bs) l h = absurd (omega (arith, l))
both-over (a ∷ as') [] l h = absurd (omega (arith, l))
both-over (true ∷ as') (true ∷ bs) l h = ap (λ xs. true ∷ xs) (both-over as' bs (omega (arith, l)) h)
both-over (true ∷ as') (false ∷ bs) l h = ap (λ xs. false ∷ xs) (both-over as' bs (omega (arith, l)) h)
both-over (false ∷ as') (false ∷ bs) l h = ap (λ xs. false ∷ xs) (both-over as' bs (omega (arith, l)) h)
both-over (false ∷ as') (true ∷ bs) l h = absurd (false≢true h)

-- what both sides leave is what is live in both, where they agree
pub joined : (f s : Bool) (as' bs : List Bool) → length as' ≡ length bs
    → join_by f s as' bs ≡ kept_if ((f || within as' bs) && (s || within bs as')) (both_live as' bs) (f && s)
joined false false as' bs l = step (within as' bs) (within bs as') (both-within as' bs l)
  where
    step : (p q : Bool) → (p ≡ true → both_live as' bs ≡ as') → kept_if (p && q) as' false ≡ kept_if (p && q) (both_live as' bs) false
    step false q h = refl
    step true q h = ap (λ xs. kept_if q xs false) (sym (h refl))
joined false true as' bs l = step (within as' bs) (both-within as' bs l)
  where
    step : (p : Bool) → (p ≡ true → both_live as' bs ≡ as') → kept_if p as' false ≡ kept_if (p && true) (both_live as' bs) false
    step false h = refl
    step true h = ap (λ xs. kept_if true xs false) (sym (h refl))
joined true false as' bs l = step (within bs as') (both-over as' bs l)
  where
    step : (q : Bool) → (q ≡ true → both_live as' bs ≡ bs) → kept_if q bs false ≡ kept_if q (both_live as' bs) false
    step false h = refl
    step true h = ap (λ xs. kept_if true xs false) (sym (h refl))
joined true true as' bs l = refl
