-- The walk over a pool's tree.
use Rattle.std.proofs.Common.{◌≡◌, ℕ, zero, suc, ◌+◌, ◌-◌, ◌<◌, ◌≤◌, List, [], ◌∷◌, ◌++◌, Bool, true, false, refl, sym, ap, ◌∙◌, arith, append_assoc}
use Rattle.std.proofs.Common.{append-nil, eqb, if◌then◌else◌, ◌&&◌}
use Rattle.std.specs.Prelude.{flat_map}
use Rattle.std.proofs.lemmas.List.Concat.{flat_map-append, flat_map_single}
use Rattle.ll_laws.specs.Pool.{Alternative}
use Rattle.ll_laws.specs.Spread.{numbers, last_first, walk_alternative, walk_deep}
use Rattle.ll_laws.specs.Sound.{Every}
use Rattle.ll_laws.specs.Spread.{alternatives_of}

pub every_more : {X : Type 0} (P Q : X → Type 0) (xs : List X) → ((x : X) → P x → Q x) → Every P xs → Every Q xs
every_more P Q [] f h = tt
every_more P Q (x ∷ xs) f h = (f x h.0, every_more P Q xs f h.1)

pub every_snoc : {X : Type 0} (P : X → Type 0) (xs : List X) (y : X) → Every P xs → P y → Every P (xs ++ y ∷ [])
every_snoc P [] y h p = (p, tt)
every_snoc P (x ∷ xs) y h p = (h.0, every_snoc P xs y h.1 p)

pub flat_twice : {X Y A : Type 0} (g : Y → List A) (f : X → List Y) (xs : List X) → flat_map g (flat_map f xs) ≡ flat_map (λ x. flat_map g (f x)) xs
flat_twice g f [] = refl
flat_twice g f (x ∷ xs) = flat_map-append g (f x) (flat_map f xs) ∙ ap (λ l. flat_map g (f x) ++ l) (flat_twice g f xs)

pub flat_last_first : {X Y A : Type 0} (g : Y → List A) (f : X → List Y) (xs : List X) → flat_map g (last_first f xs) ≡ last_first (λ x. flat_map g (f x)) xs
flat_last_first g f [] = refl
flat_last_first g f (x ∷ xs) = flat_map-append g (last_first f xs) (f x) ∙ ap (λ l. l ++ flat_map g (f x)) (flat_last_first g f xs)

pub last_first_same : {X A : Type 0} (f g : X → List A) (xs : List X) → Every (λ x. f x ≡ g x) xs → last_first f xs ≡ last_first g xs
last_first_same f g [] h = refl
last_first_same f g (x ∷ xs) h = λ i. last_first_same f g xs h.1 i ++ h.0 i

pub last_first_snoc : {X A : Type 0} (f : X → List A) (xs : List X) (y : X) → last_first f (xs ++ y ∷ []) ≡ f y ++ last_first f xs
last_first_snoc f [] y = sym (append-nil (f y))
last_first_snoc f (x ∷ xs) y = ap (λ l. l ++ f x) (last_first_snoc f xs y) ∙ append_assoc (f y) (last_first f xs) (f x)

pub flat_numbers : {A : Type 0} (f g : ℕ → List A) (from n : ℕ) → ((k : ℕ) → from ≤ k → k < from + n → f k ≡ g k)
    → flat_map f (numbers from n) ≡ flat_map g (numbers from n)
flat_numbers f g from zero h = refl
flat_numbers f g from (suc n) h = λ i. h from (omega arith) (omega arith) i ++ flat_numbers f g (suc from) n (λ k a b. h k (omega arith) (omega arith)) i

module _ (kids : ℕ → ℕ → List ℕ) (len : ℕ → ℕ) (n : ℕ) (ends : (b : ℕ) → n ≤ b → len b ≡ 0) (up : (b k : ℕ) → k < len b → Every (λ c. b < c) (kids b k)) where
  -- what each alternative gives, with what the batches below it owe, is what it owes: then the walk gives what the batch owes
  pub walk_gives : {A : Type 0} (value : Alternative → List A) (one : ℕ → ℕ → List A) (whole : ℕ → List A)
      → ((b : ℕ) → whole b ≡ flat_map (one b) (numbers 0 (len b)))
      → ((b k : ℕ) → k < len b → value (record { batch = b; k = k }) ++ last_first whole (kids b k) ≡ one b k)
      → (deep b : ℕ) → n ≤ b + deep → flat_map value (walk_deep kids len deep b) ≡ whole b
  walk_gives value one whole whole_is parts zero b enough = sym (whole_is b ∙ ap (λ m. flat_map (one b) (numbers 0 m)) (ends b (omega arith)))
  walk_gives {A = A} value one whole whole_is parts (suc deep) b enough =
      let below : ℕ → List A = λ c. flat_map value (walk_deep kids len deep c) in
      flat_twice value (walk_alternative kids (walk_deep kids len deep) b) (numbers 0 (len b))
      ∙ (flat_numbers (λ k. flat_map value (walk_alternative kids (walk_deep kids len deep) b k)) (one b) 0 (len b) (λ k low high.
      let inside : k < len b = omega arith in
      ap (λ l. value (record { batch = b; k = k }) ++ l)
      (flat_last_first value (walk_deep kids len deep) (kids b k)
      ∙ last_first_same below whole (kids b k) (every_more (λ c. b < c) (λ c. below c ≡ whole c) (kids b k)
      (λ c more. walk_gives value one whole whole_is parts deep c (omega arith)) (up b k inside)))
      ∙ parts b k inside)
      ∙ sym (whole_is b))

-- a new batch below one alternative
abbrev pub is_alternative : Alternative → Alternative → Bool
is_alternative a b = eqb a.batch b.batch && eqb a.k b.k

abbrev pub insert_after : Alternative → List Alternative → Alternative → List Alternative
insert_after at new a = a ∷ (if is_alternative a at then new else [])

abbrev if_here : Bool → List Alternative → List Alternative
if_here t new = if t then new else []

module _ (kids kids' : ℕ → ℕ → List ℕ) (len len' : ℕ → ℕ) (n m : ℕ) (at : Alternative)
    (ends : (b : ℕ) → n ≤ b → len b ≡ 0)
    (within : (b k : ℕ) → k < len b → Every (λ c. (b < c) × (c < n)) (kids b k))
    (len_same : (b : ℕ) → b < n → len' b ≡ len b) (len_new : len' n ≡ m) (kids_new : (k : ℕ) → kids' n k ≡ [])
    (kids_at : (b k : ℕ) → is_alternative (record { batch = b; k = k }) at ≡ true → kids' b k ≡ kids b k ++ n ∷ [])
    (kids_same : (b k : ℕ) → is_alternative (record { batch = b; k = k }) at ≡ false → kids' b k ≡ kids b k) where
  walk_new : (deep : ℕ) → walk_deep kids' len' (suc deep) n ≡ alternatives_of n m
  walk_new deep =
      flat_numbers (walk_alternative kids' (walk_deep kids' len' deep) n) (λ k. record { batch = n; k = k } ∷ []) 0 (len' n)
      (λ k low high. ap (λ ks. record { batch = n; k = k } ∷ last_first (walk_deep kids' len' deep) ks) (kids_new k))
      ∙ (flat_map_single (λ k. record { batch = n; k = k }) (numbers 0 (len' n))
      ∙ ap (alternatives_of n) len_new)

  one_more : (walk : ℕ → List Alternative) → walk n ≡ alternatives_of n m → (b k : ℕ) (t : Bool) → is_alternative (record { batch = b; k = k }) at ≡ t
      → last_first walk (kids' b k) ≡ if_here t (alternatives_of n m) ++ last_first walk (kids b k)
  one_more walk there b k true is = ap (last_first walk) (kids_at b k is)
      ∙ (last_first_snoc walk (kids b k) n ∙ ap (λ l. l ++ last_first walk (kids b k)) there)
  one_more walk there b k false is = ap (last_first walk) (kids_same b k is)

  -- the walk after a batch was published: its alternatives come right after the piece
  pub walk_inserted : (deep b : ℕ) → b < n → n ≤ b + deep → walk_deep kids' len' (suc deep) b
      ≡ flat_map (insert_after at (alternatives_of n m)) (walk_deep kids len deep b)
  walk_inserted zero b low enough = absurd (omega arith)
  walk_inserted (suc deep) b low enough =
      let old : ℕ → List Alternative = walk_deep kids len deep in
      let new : ℕ → List Alternative = walk_deep kids' len' (suc deep) in
      let into : Alternative → List Alternative = insert_after at (alternatives_of n m) in
      ap (λ l. flat_map (walk_alternative kids' new b) (numbers 0 l)) (len_same b low)
      ∙ (flat_numbers (walk_alternative kids' new b) (λ k. flat_map into (walk_alternative kids old b k)) 0 (len b) (λ k from high.
      let inside : k < len b = omega arith in
      let here : List Alternative = if_here (is_alternative (record { batch = b; k = k }) at) (alternatives_of n m) in
      ap (λ l. record { batch = b; k = k } ∷ l)
      (one_more new (walk_new deep) b k (is_alternative (record { batch = b; k = k }) at) refl
      ∙ ap (λ l. here ++ l)
      (last_first_same new (λ c. flat_map into (old c)) (kids b k)
      (every_more (λ c. (b < c) × (c < n)) (λ c. new c ≡ flat_map into (old c)) (kids b k) (λ c more. let up = more.0 in
      walk_inserted deep c more.1 (omega arith)) (within b k inside))
      ∙ sym (flat_last_first into old (kids b k)))))
      ∙ sym (flat_twice into (walk_alternative kids old b) (numbers 0 (len b))))

  -- the same of what is left of a batch
  pub rest_inserted : (b from : ℕ) → b < n → flat_map (walk_alternative kids' (walk_deep kids' len' (suc n)) b) (numbers from (len' b - from))
      ≡ flat_map (insert_after at (alternatives_of n m)) (flat_map (walk_alternative kids (walk_deep kids len n) b) (numbers from (len b - from)))
  rest_inserted b from low =
      let old : ℕ → List Alternative = walk_deep kids len n in
      let new : ℕ → List Alternative = walk_deep kids' len' (suc n) in
      let into : Alternative → List Alternative = insert_after at (alternatives_of n m) in
      ap (λ l. flat_map (walk_alternative kids' new b) (numbers from (l - from))) (len_same b low)
      ∙ (flat_numbers (walk_alternative kids' new b) (λ k. flat_map into (walk_alternative kids old b k)) from (len b - from) (λ k above high.
      let inside : k < len b = omega arith in
      let here : List Alternative = if_here (is_alternative (record { batch = b; k = k }) at) (alternatives_of n m) in
      ap (λ l. record { batch = b; k = k } ∷ l)
      (one_more new (walk_new n) b k (is_alternative (record { batch = b; k = k }) at) refl
      ∙ ap (λ l. here ++ l)
      (last_first_same new (λ c. flat_map into (old c)) (kids b k)
      (every_more (λ c. (b < c) × (c < n)) (λ c. new c ≡ flat_map into (old c)) (kids b k) (λ c more. walk_inserted n c more.1 (omega arith))
      (within b k inside))
      ∙ sym (flat_last_first into old (kids b k)))))
      ∙ sym (flat_twice into (walk_alternative kids old b) (numbers from (len b - from))))

-- the same walk, read from lists and lengths that agree
pub walk_same : (kids kids' : ℕ → ℕ → List ℕ) (len : ℕ → ℕ) → ((b k : ℕ) → kids' b k ≡ kids b k) → (deep b : ℕ)
    → walk_deep kids' len deep b ≡ walk_deep kids len deep b
walk_same kids kids' len same deep b = ap (λ f. walk_deep f len deep b) (λ i b k. same b k i)
