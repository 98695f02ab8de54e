-- The stack of `ready`: one step, and a batch more.
use Rattle.std.proofs.Common.{◌≡◌, ℕ, zero, suc, ◌+◌, ◌-◌, ◌<◌, ◌≤◌, List, [], ◌∷◌, ◌++◌, map, refl, sym, ap, ◌∙◌, ⊎_elim, arith, append_assoc, append-nil}
use Rattle.std.proofs.Common.{if◌then◌else◌}
use Rattle.std.specs.Prelude.{flat_map}
use Rattle.std.proofs.lemmas.Bool.{cases_lt, lt-ltb, le-ltb}
use Rattle.ll_laws.specs.Pool.{Alternative}
use Rattle.ll_laws.specs.Spread.{numbers, last_first, walk_alternative, walk_deep}
use Rattle.ll_laws.specs.Sound.{Every}
use Rattle.ll_core.specs.Cursor.{rest, begin, next_of}
use Rattle.ll_core.proofs.walks.Walks.{every_more, last_first_same, last_first_snoc, flat_numbers}

last_first-append : {X A : Type 0} (f : X → List A) (xs ys : List X) → last_first f (xs ++ ys) ≡ last_first f ys ++ last_first f xs
last_first-append f [] ys = sym (append-nil (last_first f ys))
last_first-append f (x ∷ xs) ys = ap (λ l. l ++ f x) (last_first-append f xs ys) ∙ append_assoc (last_first f ys) (last_first f xs) (f x)

last_first-map : {X Y A : Type 0} (f : Y → List A) (g : X → Y) (xs : List X) → last_first f (map g xs) ≡ last_first (λ x. f (g x)) xs
last_first-map f g [] = refl
last_first-map f g (x ∷ xs) = ap (λ l. l ++ f (g x)) (last_first-map f g xs)

pub every_all : {X : Type 0} (P : X → Type 0) → ((x : X) → P x) → (xs : List X) → Every P xs
every_all P h [] = tt
every_all P h (x ∷ xs) = (h x, every_all P h xs)

module _ (kids : ℕ → ℕ → List ℕ) (len : ℕ → ℕ) (n : ℕ) (ends : (b : ℕ) → n ≤ b → len b ≡ 0) (up : (b k : ℕ) → k < len b → Every (λ c. b < c) (kids b k)) where
  none_past : (deep b : ℕ) → n ≤ b → walk_deep kids len deep b ≡ []
  none_past zero b h = refl
  none_past (suc deep) b h = ap (λ l. flat_map (walk_alternative kids (walk_deep kids len deep) b) (numbers 0 l)) (ends b h)

  walk_enough : (deep deep' b : ℕ) → n ≤ b + deep → n ≤ b + deep' → walk_deep kids len deep b ≡ walk_deep kids len deep' b
  walk_enough zero deep' b h h' = sym (none_past deep' b (omega arith))
  walk_enough (suc deep) zero b h h' = none_past (suc deep) b (omega arith)
  walk_enough (suc deep) (suc deep') b h h' =
      flat_numbers (walk_alternative kids (walk_deep kids len deep) b) (walk_alternative kids (walk_deep kids len deep') b) 0 (len b) (λ k p q.
      ap (λ l. record { batch = b; k = k } ∷ l) (last_first_same (walk_deep kids len deep) (walk_deep kids len deep') (kids b k)
      (every_more (λ c. b < c) (λ c. walk_deep kids len deep c ≡ walk_deep kids len deep' c) (kids b k)
      (λ c more. walk_enough deep deep' c (omega arith) (omega arith)) (up b k (omega arith)))))

  pub rest_begin : (c : ℕ) → rest kids len n (begin c) ≡ walk_deep kids len n c
  rest_begin c = let z : len c - 0 ≡ len c = omega arith in ap (λ l. flat_map (walk_alternative kids (walk_deep kids len n) c) (numbers 0 l)) z
      ∙ walk_enough (suc n) n c (omega arith) (omega arith)

  rest_step : (e : Alternative) → e.k < len e.batch → rest kids len n e ≡ e
      ∷ (last_first (walk_deep kids len n) (kids e.batch e.k) ++ rest kids len n (record { batch = e.batch; k = e.k + 1 }))
  rest_step e low =
      let z : len e.batch - e.k ≡ suc (len e.batch - (e.k + 1)) = omega arith in
      let y : suc e.k ≡ e.k + 1 = omega arith in
      let f : ℕ → List Alternative = walk_alternative kids (walk_deep kids len n) e.batch in
      ap (λ l. flat_map f (numbers e.k l)) z ∙ ap (λ k. f e.k ++ flat_map f (numbers k (len e.batch - (e.k + 1)))) y

  next_is : (e : Alternative) → last_first (rest kids len n) (next_of len e) ≡ rest kids len n (record { batch = e.batch; k = e.k + 1 })
  next_is e = ⊎_elim
      (λ (h : e.k + 1 < len e.batch). ap (λ t. last_first (rest kids len n) (if t then record { batch = e.batch; k = e.k + 1 } ∷ [] else []))
      (lt-ltb (e.k + 1) (len e.batch) h))
      (λ (h : len e.batch ≤ e.k + 1). let z : len e.batch - (e.k + 1) ≡ 0 = omega arith in
      ap (λ t. last_first (rest kids len n) (if t then record { batch = e.batch; k = e.k + 1 } ∷ [] else [])) (le-ltb (e.k + 1) (len e.batch) h)
      ∙ sym (ap (λ l. flat_map (walk_alternative kids (walk_deep kids len n) e.batch) (numbers (e.k + 1) l)) z))
      (cases_lt (e.k + 1) (len e.batch))

  -- the top is the next in walk order; after it come its batches, the last first, and then the rest of its own batch
  pub stack_step : (base : List Alternative) (e : Alternative) → e.k < len e.batch
      → last_first (rest kids len n) (base ++ e ∷ []) ≡ e ∷ last_first (rest kids len n) ((base ++ next_of len e) ++ map begin (kids e.batch e.k))
  stack_step base e low =
      let r : Alternative → List Alternative = rest kids len n in
      let below : last_first r (map begin (kids e.batch e.k)) ≡ last_first (walk_deep kids len n) (kids e.batch e.k) =
      last_first-map r begin (kids e.batch e.k) ∙ last_first_same (λ c. r (begin c)) (walk_deep kids len n) (kids e.batch e.k)
      (every_all (λ c. r (begin c) ≡ walk_deep kids len n c) rest_begin (kids e.batch e.k)) in
      last_first_snoc r base e
      ∙ (ap (λ l. l ++ last_first r base) (rest_step e low)
      ∙ ap (λ l. e ∷ l) (append_assoc (last_first (walk_deep kids len n) (kids e.batch e.k)) (r (record { batch = e.batch; k = e.k + 1 })) (last_first r base)
      ∙ sym (last_first-append r (base ++ next_of len e) (map begin (kids e.batch e.k))
      ∙ (λ i. below i ++ (last_first-append r base (next_of len e) ∙ ap (λ l. l ++ last_first r base) (next_is e)) i))))
