-- Each alternative stands in the walk exactly once.
use Rattle.std.proofs.Common.{◌≡◌, ℕ, zero, suc, ◌+◌, ◌<◌, ◌≤◌, List, [], ◌∷◌, ◌++◌, Bool, refl, sym, ap, ◌∙◌, subst, ⊎_elim, arith, eqb, if◌then◌else◌, ◌&&◌}
use Rattle.std.specs.Prelude.{flat_map}
use Rattle.std.proofs.lemmas.Bool.{eq-eqb, ne_eqb, cases_eq}
use Rattle.ll_laws.specs.Pool.{Alternative}
use Rattle.ll_laws.specs.Spread.{numbers, last_first, walk_alternative, walk_deep}
use Rattle.ll_laws.specs.Sound.{Every, count_of}
use Rattle.ll_core.specs.Given.{total}
use Rattle.ll_core.proofs.walks.Walks.{every_more, is_alternative}

pub total-append : {X : Type 0} (f : X → ℕ) (xs ys : List X) → total f (xs ++ ys) ≡ total f xs + total f ys
total-append f [] ys = omega arith
total-append f (x ∷ xs) ys = let h = total-append f xs ys in omega arith

pub total_same : {X : Type 0} (f g : X → ℕ) (xs : List X) → Every (λ x. f x ≡ g x) xs → total f xs ≡ total g xs
total_same f g [] h = refl
total_same f g (x ∷ xs) h = let a = h.0 in let b = total_same f g xs h.1 in omega arith

pub total_sum : {X : Type 0} (f g : X → ℕ) (xs : List X) → total (λ x. f x + g x) xs ≡ total f xs + total g xs
total_sum f g [] = refl
total_sum f g (x ∷ xs) = let b = total_sum f g xs in omega arith

pub total_flat : {X Y : Type 0} (w : Y → ℕ) (f : X → List Y) (xs : List X) → total w (flat_map f xs) ≡ total (λ x. total w (f x)) xs
total_flat w f [] = refl
total_flat w f (x ∷ xs) = let a = total-append w (f x) (flat_map f xs) in let b = total_flat w f xs in omega arith

pub total_last_first : {X Y : Type 0} (w : Y → ℕ) (f : X → List Y) (xs : List X) → total w (last_first f xs) ≡ total (λ x. total w (f x)) xs
total_last_first w f [] = refl
total_last_first w f (x ∷ xs) = let a = total-append w (last_first f xs) (f x) in let b = total_last_first w f xs in omega arith

pub total_numbers : (f g : ℕ → ℕ) (from n : ℕ) → ((k : ℕ) → from ≤ k → k < from + n → f k ≡ g k) → total f (numbers from n) ≡ total g (numbers from n)
total_numbers f g from zero h = refl
total_numbers f g from (suc n) h = let a = h from (omega arith) (omega arith) in
    let b = total_numbers f g (suc from) n (λ k p q. h k (omega arith) (omega arith)) in omega arith

pub total_zero : (f : ℕ → ℕ) (from n : ℕ) → ((k : ℕ) → from ≤ k → k < from + n → f k ≡ 0) → total f (numbers from n) ≡ 0
total_zero f from zero h = refl
total_zero f from (suc n) h = let a = h from (omega arith) (omega arith) in let b = total_zero f (suc from) n (λ k p q. h k (omega arith) (omega arith)) in
    omega arith

abbrev pub one_if : Bool → ℕ
one_if t = if t then 1 else 0

abbrev pub hit : ℕ → ℕ → ℕ
hit c d = one_if (eqb d c)

abbrev pub is_at : Alternative → Alternative → ℕ
is_at at a = one_if (is_alternative a at)

pub count_is_total : (c : ℕ) (ks : List ℕ) → count_of c ks ≡ total (hit c) ks
count_is_total c [] = refl
count_is_total c (k ∷ ks) = ap (λ n. hit c k + n) (count_is_total c ks)

pub hit_self : (c : ℕ) → hit c c ≡ 1
hit_self c = ap one_if (eq-eqb c c refl)

pub hit_other : (c d : ℕ) → (d ≡ c → ⊥) → hit c d ≡ 0
hit_other c d h = ap one_if (ne_eqb d c h)

pub one_number : (k from n : ℕ) → from ≤ k → k < from + n → total (λ j. hit k j) (numbers from n) ≡ 1
one_number k from zero low high = absurd (omega arith)
one_number k from (suc n) low high = ⊎_elim
    (λ (e : from ≡ k). let a : hit k from ≡ 1 = ap (hit k) e ∙ hit_self k in
    let b = total_zero (λ j. hit k j) (suc from) n (λ j p q. hit_other k j (λ f. omega arith)) in omega arith)
    (λ (e : from ≡ k → ⊥). let a = hit_other k from e in let b = one_number k (suc from) n (let m : from < k = omega arith in m) (omega arith) in omega arith)
    (cases_eq from k)

pub is_at_other : (b c j k : ℕ) → (b ≡ c → ⊥) → is_at (record { batch = c; k = k }) (record { batch = b; k = j }) ≡ 0
is_at_other b c j k h = ap (λ t. one_if (t && eqb j k)) (ne_eqb b c h)

pub is_at_here : (b c j k : ℕ) → b ≡ c → is_at (record { batch = c; k = k }) (record { batch = b; k = j }) ≡ hit k j
is_at_here b c j k h = ap (λ t. one_if (t && eqb j k)) (eq-eqb b c h)

module _ (kids : ℕ → ℕ → List ℕ) (len : ℕ → ℕ) (n : ℕ) (up : (b k : ℕ) → Every (λ c. b < c) (kids b k)) where
  abbrev count_at : ℕ → Alternative → ℕ
  count_at c a = count_of c (kids a.batch a.k)

  in_batch : (b c k : ℕ) → k < len c → total (λ j. is_at (record { batch = c; k = k }) (record { batch = b; k = j })) (numbers 0 (len b)) ≡ hit c b
  in_batch b c k inside = ⊎_elim
      (λ (e : b ≡ c). total_numbers (λ j. is_at (record { batch = c; k = k }) (record { batch = b; k = j })) (λ j. hit k j) 0 (len b)
      (λ j p q. is_at_here b c j k e)
      ∙ (one_number k 0 (len b) (omega arith) (subst (λ m. k < 0 + len m) (sym e) (omega arith)) ∙ sym (ap (hit c) e ∙ hit_self c)))
      (λ (e : b ≡ c → ⊥). total_zero (λ j. is_at (record { batch = c; k = k }) (record { batch = b; k = j })) 0 (len b) (λ j p q. is_at_other b c j k e)
      ∙ sym (hit_other c b e))
      (cases_eq b c)

  -- an alternative of batch c comes as often as c is met below another, and once more where the walk begins with c
  met : (c k : ℕ) → c < n → k < len c → (deep b : ℕ) → n ≤ b + deep
      → total (is_at (record { batch = c; k = k })) (walk_deep kids len deep b) ≡ hit c b + total (count_at c) (walk_deep kids len deep b)
  met c k low inside zero b enough = let a = hit_other c b (λ e. omega arith) in omega arith
  met c k low inside (suc deep) b enough =
      let w : Alternative → ℕ = is_at (record { batch = c; k = k }) in
      let W : ℕ → List Alternative = walk_deep kids len deep in
      let below : ℕ → List Alternative = walk_alternative kids W b in
      let here : ℕ → ℕ = λ j. w (record { batch = b; k = j }) in
      let e1 : total w (flat_map below (numbers 0 (len b))) ≡ total (λ j. total w (below j)) (numbers 0 (len b)) = total_flat w below (numbers 0 (len b)) in
      let e2 : total (λ j. total w (below j)) (numbers 0 (len b)) ≡ total (λ j. here j + total (count_at c) (below j)) (numbers 0 (len b)) =
      total_numbers (λ j. total w (below j)) (λ j. here j + total (count_at c) (below j)) 0 (len b) (λ j p q.
      let ks : List ℕ = kids b j in
      let a1 : total w (last_first W ks) ≡ total (λ d. total w (W d)) ks = total_last_first w W ks in
      let a2 : total (λ d. total w (W d)) ks ≡ total (λ d. hit c d + total (count_at c) (W d)) ks =
      total_same (λ d. total w (W d)) (λ d. hit c d + total (count_at c) (W d)) ks
      (every_more (λ d. b < d) (λ d. total w (W d) ≡ hit c d + total (count_at c) (W d)) ks (λ d more. met c k low inside deep d (omega arith)) (up b j)) in
      let a3 : total (λ d. hit c d + total (count_at c) (W d)) ks ≡ total (hit c) ks + total (λ d. total (count_at c) (W d)) ks =
      total_sum (hit c) (λ d. total (count_at c) (W d)) ks in
      let a4 : total (count_at c) (last_first W ks) ≡ total (λ d. total (count_at c) (W d)) ks = total_last_first (count_at c) W ks in
      let a5 : count_of c ks ≡ total (hit c) ks = count_is_total c ks in
      omega arith) in
      let e3 : total (λ j. here j + total (count_at c) (below j)) (numbers 0 (len b)) ≡ total here (numbers 0 (len b))
      + total (λ j. total (count_at c) (below j)) (numbers 0 (len b)) = total_sum here (λ j. total (count_at c) (below j)) (numbers 0 (len b)) in
      let e4 : total here (numbers 0 (len b)) ≡ hit c b = in_batch b c k inside in
      let e5 : total (count_at c) (flat_map below (numbers 0 (len b))) ≡ total (λ j. total (count_at c) (below j)) (numbers 0 (len b)) =
      total_flat (count_at c) below (numbers 0 (len b)) in
      omega arith

  zero_total : {X : Type 0} (f : X → ℕ) (xs : List X) → ((x : X) → f x ≡ 0) → total f xs ≡ 0
  zero_total f [] h = refl
  zero_total f (x ∷ xs) h = let a = h x in let b = zero_total f xs h in omega arith

  not_below : (b : ℕ) (ks : List ℕ) → Every (λ c. b < c) ks → count_of 0 ks ≡ 0
  not_below b [] h = refl
  not_below b (k ∷ ks) h = let low = h.0 in let a = hit_other 0 k (λ e. omega arith) in let r = not_below b ks h.1 in omega arith

  -- all that the walk from batch 0 needs: each other batch stands below one alternative of an older batch, once
  pub met_once : ((c : ℕ) → 0 < c → c < n → (at : Alternative) × (at.batch < c) × (at.k < len at.batch) × ((a : Alternative) → count_at c a ≡ is_at at a))
      → (bound c k : ℕ) → c < bound → c < n → k < len c → total (is_at (record { batch = c; k = k })) (walk_deep kids len n 0) ≡ 1
  met_once above zero c k below low inside = absurd (omega arith)
  met_once above (suc bound) zero k below low inside =
      let a = met 0 k low inside n 0 (omega arith) in
      let z = zero_total (count_at 0) (walk_deep kids len n 0) (λ x. not_below x.batch (kids x.batch x.k) (up x.batch x.k)) in
      let h = hit_self 0 in omega arith
  met_once above (suc bound) (suc c) k below low inside =
      let a = met (suc c) k low inside n 0 (omega arith) in
      let p = above (suc c) (omega arith) low in
      let older = p.1 in
      let one : total (is_at p.0) (walk_deep kids len n 0) ≡ 1 = met_once above bound p.0.batch p.0.k (omega arith) (omega arith) p.2 in
      let s : total (count_at (suc c)) (walk_deep kids len n 0) ≡ total (is_at p.0) (walk_deep kids len n 0) =
      ap (λ f. total f (walk_deep kids len n 0)) (λ i x. p.3 x i) in
      let h = hit_other (suc c) 0 (λ e. omega arith) in omega arith
