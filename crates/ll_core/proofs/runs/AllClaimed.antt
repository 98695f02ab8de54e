-- Where as many pieces as alternatives are there, each alternative has one.
use Rattle.std.proofs.Common.{eqb, append-nil, ◌≡◌, ℕ, zero, suc, ◌+◌, ◌<◌, ◌≤◌, List, [], ◌∷◌, ◌++◌, true, false, length, map, refl, sym, ap, ◌∙◌, subst}
use Rattle.std.proofs.Common.{⊎_elim, arith, Option, Some}
use Rattle.std.specs.Prelude.{flat_map, slice_get, sum_by}
use Rattle.std.proofs.lemmas.Bool.{cases_Bool, cases_eq, cases_lt, and_parts, eqb-true}
use Rattle.std.proofs.lemmas.List.{length-append, length-map, map-append}
use Rattle.std.proofs.lemmas.List.Sums.{sum_by-cons}
use Rattle.ll_list_laws.proofs.CallerLemmas.{some_is, none_not_some, slice_get-append_left}
use Rattle.ll_laws.specs.Pool.{Owed, Piece, PoolData, Alternative}
use Rattle.ll_laws.specs.Spread.{list_or_empty, numbers, alternatives_of, owed_by, owes_of, length_of, is_of}
use Rattle.ll_laws.specs.Sound.{Each, Shaped, HasPiece, is_open, count_open, count_of, all_published}
use Rattle.ll_laws.specs.Later.{Later}
use Rattle.ll_core.specs.Given.{total}
use Rattle.ll_core.proofs.walks.Unique.{one_holder, count_in}
use Rattle.ll_core.proofs.sound.Forming.{length_numbers}
use Rattle.ll_core.proofs.walks.Walks.{is_alternative}
use Rattle.ll_core.proofs.walks.Once.{count_is_total, total_flat, one_if, hit, hit_other, hit_self, is_at, is_at_here, is_at_other, one_number, total_numbers}
use Rattle.ll_core.proofs.walks.Once.{total_zero, total_sum}
use Rattle.ll_core.proofs.events.Pieces.{Apart, is_of_parts, get_below}
use Rattle.ll_laws.specs.Pool.{place}
use Rattle.ll_core.proofs.sound.Facts.{owed_before}

total_swap : {X Y : Type 0} (f : X → Y → ℕ) (xs : List X) (ys : List Y) → total (λ x. total (f x) ys) xs ≡ total (λ y. total (λ x. f x y) xs) ys
total_swap f [] [] = refl
total_swap f [] (y ∷ ys) = let h = total_swap f [] ys in omega arith
total_swap f (x ∷ xs) ys = let h = total_swap f xs ys in let e = total_sum (f x) (λ y. total (λ x. f x y) xs) ys in omega arith

-- where no part is above 1 and the sum is the number of parts, each part is 1
full : {X : Type 0} (f : X → ℕ) → ((x : X) → f x ≤ 1) → (xs : List X) → total f xs ≤ length xs
full f h [] = omega arith
full f h (x ∷ xs) = let a = h x in let b = full f h xs in omega arith

each_one : {X : Type 0} (f : X → ℕ) → ((x : X) → f x ≤ 1) → (xs : List X) → total f xs ≡ length xs → (g : X → ℕ) (c : X) → ((x : X) → 0 < g x → f x ≡ f c)
    → 0 < total g xs → f c ≡ 1
each_one f h [] e g c same some = absurd (omega arith)
each_one f h (x ∷ xs) e g c same some =
    let a = h x in let b = full f h xs in
    ⊎_elim (λ (z : 0 < g x). let q = same x z in omega arith) (λ (z : g x ≤ 0). each_one f h xs (omega arith) g c same (omega arith)) (cases_lt 0 (g x))

total_each : {X : Type 0} (f : X → ℕ) (xs : List X) → Each xs (λ x. f x ≡ 1) → total f xs ≡ length xs
total_each f [] h = refl
total_each f (x ∷ xs) h = let a = h 0 x refl in let b = total_each f xs (λ i y e. h (suc i) y e) in omega arith

module _ {E : Type 0} where
  none_here : (a : Alternative) (pieces : List (Piece E)) → ((i : ℕ) (x : Piece E) → slice_get pieces i ≡ Some x → is_of a x ≡ true → ⊥)
      → total (λ (x : Piece E). is_at (place x) a) pieces ≡ 0
  none_here a [] h = refl
  none_here a (x ∷ pieces) h = let z : is_at (place x) a ≡ 0 =
      ap one_if (⊎_elim (λ (t : is_of a x ≡ true). absurd (h 0 x refl t)) (λ (t : is_of a x ≡ false). t) (cases_Bool (is_of a x))) in let r =
      none_here a pieces (λ i y e t. h (suc i) y e t) in omega arith

  -- no alternative has two pieces
  at_most_one : (a : Alternative) (pieces : List (Piece E)) → Apart pieces → total (λ (x : Piece E). is_at (place x) a) pieces ≤ 1
  at_most_one a [] apart = omega arith
  at_most_one a (x ∷ pieces) apart = ⊎_elim
      (λ (t : is_of a x ≡ true). let o : is_at (place x) a ≡ 1 = ap one_if t in
      let p = is_of_parts a x t in
      let z = none_here a pieces (λ i y e u. let q = is_of_parts a y u in let c : 0 ≡ suc i = apart 0 (suc i) x y refl e (p.0 ∙ sym q.0) (p.1 ∙ sym q.1) in
      omega arith) in omega arith)
      (λ (t : is_of a x ≡ false). let o : is_at (place x) a ≡ 0 = ap one_if t in
      let r = at_most_one a pieces (λ i j y z e g b k. let c : suc i ≡ suc j = apart (suc i) (suc j) y z e g b k in omega arith) in omega arith)
      (cases_Bool (is_of a x))

  has_one : (a : Alternative) (pieces : List (Piece E)) → total (λ (x : Piece E). is_at (place x) a) pieces ≡ 1 → HasPiece pieces a.batch a.k
  has_one a [] e = absurd (omega arith)
  has_one a (x ∷ pieces) e = ⊎_elim
      (λ (t : is_of a x ≡ true). let p = is_of_parts a x t in (0, x, refl, p.0, p.1))
      (λ (t : is_of a x ≡ false). let o : is_at (place x) a ≡ 0 = ap one_if t in let r = has_one a pieces (omega arith) in (suc r.0, r.1, r.2, r.3, r.4))
      (cases_Bool (is_of a x))

-- all alternatives of the batches from this one on
abbrev everything : (ℕ → ℕ) → ℕ → ℕ → List Alternative
everything len from n = flat_map (λ b. alternatives_of b (len b)) (numbers from n)

once_batch : (c k b m : ℕ) → (b ≡ c → k < m) → total (is_at (record { batch = c; k = k })) (alternatives_of b m) ≡ hit c b
once_batch c k b m inside = total_of_map (is_at (record { batch = c; k = k })) (λ j. record { batch = b; k = j }) (numbers 0 m) ∙ ⊎_elim
    (λ (e : b ≡ c). total_numbers (λ j. is_at (record { batch = c; k = k }) (record { batch = b; k = j })) (λ j. hit k j) 0 m (λ j p q. is_at_here b c j k e)
    ∙ (one_number k 0 m (omega arith) (let i = inside e in omega arith) ∙ sym (ap (hit c) e ∙ hit_self c)))
    (λ (e : b ≡ c → ⊥). total_zero (λ j. is_at (record { batch = c; k = k }) (record { batch = b; k = j })) 0 m (λ j p q. is_at_other b c j k e)
    ∙ sym (hit_other c b e))
    (cases_eq b c)
  where
    total_of_map : {X Y : Type 0} (w : Y → ℕ) (f : X → Y) (xs : List X) → total w (map f xs) ≡ total (λ x. w (f x)) xs
    total_of_map w f [] = refl
    total_of_map w f (x ∷ xs) = ap (λ m. w (f x) + m) (total_of_map w f xs)

once_everything : (len : ℕ → ℕ) (n c k : ℕ) → c < n → k < len c → total (is_at (record { batch = c; k = k })) (everything len 0 n) ≡ 1
once_everything len n c k low inside = total_flat (is_at (record { batch = c; k = k })) (λ b. alternatives_of b (len b)) (numbers 0 n)
    ∙ (total_numbers (λ b. total (is_at (record { batch = c; k = k })) (alternatives_of b (len b))) (λ b. hit c b) 0 n
    (λ b p q. once_batch c k b (len b) (λ e. subst (λ d. k < len d) (sym e) inside))
    ∙ one_number c 0 n (omega arith) (omega arith))

len_flat : {X A : Type 0} (f : X → List A) (xs : List X) → length (flat_map f xs) ≡ total (λ x. length (f x)) xs
len_flat f [] = refl
len_flat f (x ∷ xs) = let a = length-append (f x) (flat_map f xs) in let b = len_flat f xs in omega arith

total_suc : (f : ℕ → ℕ) (from n : ℕ) → total f (numbers (suc from) n) ≡ total (λ k. f (suc k)) (numbers from n)
total_suc f from zero = refl
total_suc f from (suc n) = ap (λ m. f (suc from) + m) (total_suc f (suc from) n)

pub total_by_index : {X : Type 0} (h : Option X → ℕ) (xs : List X) → total (λ k. h (slice_get xs k)) (numbers 0 (length xs)) ≡ total (λ x. h (Some x)) xs
total_by_index h [] = refl
total_by_index h (x ∷ xs) = ap (λ m. h (Some x) + m) (total_suc (λ k. h (slice_get (x ∷ xs) k)) 0 (length xs) ∙ total_by_index h xs)

pub sum_total : {X : Type 0} (f : X → ℕ) (xs : List X) → sum_by f xs ≡ total f xs
sum_total f [] = refl
sum_total f (x ∷ xs) = sum_by-cons f x xs ∙ ap (λ m. f x + m) (sum_total f xs)

module _ {N E : Type 0} (alternatives : N → List (Owed E)) (p : PoolData N E) (s : Shaped alternatives p) where
  all_long : length (everything (length_of alternatives p) 0 (length p.batches)) ≡ p.total
  all_long =
      let owes = owes_of alternatives p in
      let len = length_of alternatives p in
      len_flat (λ b. alternatives_of b (len b)) (numbers 0 (length p.batches))
      ∙ (total_numbers (λ b. length (alternatives_of b (len b))) len 0 (length p.batches)
      (λ b q r. length-map (numbers 0 (len b)) (λ k. record { batch = b; k = k }) ∙ length_numbers 0 (len b))
      ∙ (ap (λ n. total len (numbers 0 n)) (sym (length-map p.batches alternatives))
      ∙ (total_by_index (λ o. length (list_or_empty o)) owes ∙ (sym (sum_total length owes) ∙ sym s.total))))

  -- where nothing is untried, each alternative is claimed
  pub all_claimed : p.untried ≡ 0 → (b k : ℕ) → k < length_of alternatives p b → HasPiece p.pieces b k
  all_claimed none b k inside =
      let len = length_of alternatives p in let n = length p.batches in
      let A = everything len 0 n in
      let f : Alternative → ℕ = λ a. total (λ (x : Piece E). is_at (place x) a) p.pieces in
      let low = owed_before alternatives p.batches b k inside in
      let sum : total f A ≡ length p.pieces = total_swap (λ a (x : Piece E). is_at (place x) a) A p.pieces
      ∙ total_each (λ (x : Piece E). total (is_at (place x)) A) p.pieces
      (λ i x e. once_everything len n x.batch x.k (owed_before alternatives p.batches x.batch x.k (s.named i x e)) (s.named i x e)) in
      let u = s.untried in let l = all_long in
      let some : total (is_at (record { batch = b; k = k })) A ≡ 1 = once_everything len n b k low inside in
      has_one (record { batch = b; k = k }) p.pieces (each_one f (λ a. at_most_one a p.pieces s.apart) A (omega arith) (is_at (record { batch = b; k = k }))
      (record { batch = b; k = k }) (λ a h. ap f (same_alternative a b k h)) (omega arith))
    where
      same_alternative : (a : Alternative) (b k : ℕ) → 0 < is_at (record { batch = b; k = k }) a → a ≡ record { batch = b; k = k }
      same_alternative a b k h = ⊎_elim
          (λ (t : is_alternative a (record { batch = b; k = k }) ≡ true). let q = and_parts (eqb a.batch b) (eqb a.k k) t in
          λ i. record { batch = eqb-true a.batch b q.0 i; k = eqb-true a.k k q.1 i })
          (λ (t : is_alternative a (record { batch = b; k = k }) ≡ false). let z : is_at (record { batch = b; k = k }) a ≡ 0 = ap one_if t in
          absurd (omega arith))
          (cases_Bool (is_alternative a (record { batch = b; k = k })))

  pub closed_all : p.busy ≡ 0 → (i : ℕ) (x : Piece E) → slice_get p.pieces i ≡ Some x → is_open x.status ≡ false
  closed_all none i x e = none_open p.pieces (sym s.busy ∙ none) i x e
    where
      none_open : (pieces : List (Piece E)) → count_open pieces ≡ 0 → (i : ℕ) (x : Piece E) → slice_get pieces i ≡ Some x → is_open x.status ≡ false
      none_open [] z i x e = absurd (none_not_some x e)
      none_open (y ∷ pieces) z zero x e = ap (λ (u : Piece E). is_open u.status) (sym (some_is y x e))
          ∙ ⊎_elim (λ (t : is_open y.status ≡ true). let o : one_if (is_open y.status) ≡ 1 = ap one_if t in
          absurd (omega arith)) (λ (t : is_open y.status ≡ false). t) (cases_Bool (is_open y.status))
      none_open (y ∷ pieces) z (suc i) x e = none_open pieces (omega arith) i x e

module _ {N E : Type 0} (alternatives : N → List (Owed E)) (p q : PoolData N E) (s : Shaped alternatives p) (t : Shaped alternatives q) (later : Later p q)
    (untried : p.untried ≡ 0) (busy : p.busy ≡ 0) (rooted : 0 < length p.batches) where
  -- a later piece of an old batch is an old piece, with the batches that it had
  old_piece : (j : ℕ) (y : Piece E) → slice_get q.pieces j ≡ Some y → y.batch < length p.batches
      → (x : Piece E) × (slice_get p.pieces j ≡ Some x) × (y.published ≡ x.published)
  old_piece j y e low =
      let inside : y.k < length_of alternatives q y.batch = t.named j y e in
      let same : length_of alternatives q y.batch ≡ length_of alternatives p y.batch =
      ap (λ bs. length (owed_by (map alternatives bs) y.batch)) later.batches
      ∙ ap (λ l. length (list_or_empty (slice_get l y.batch))) (map-append alternatives p.batches later.more)
      ∙ ap (λ o. length (list_or_empty o)) (slice_get-append_left (map alternatives p.batches) (map alternatives later.more) y.batch (let l =
      length-map p.batches alternatives in omega arith)) in
      let h = all_claimed alternatives p s untried y.batch y.k (omega arith) in
      let z = later.pieces h.0 h.1 h.2 in
      let f = z.2 in
      let at : h.0 ≡ j = t.apart h.0 j z.0 y z.1 e (f.batch ∙ h.3) (f.k ∙ h.4) in
      let is : z.0 ≡ y = some_is z.0 y (sym z.1 ∙ (ap (slice_get q.pieces) at ∙ e)) in (
        h.1,
        ap (slice_get p.pieces) (sym at) ∙ h.2,
        ap (λ (u : Piece E). u.published) (sym is)
            ∙ (f.published ∙ (ap (λ l. h.1.published ++ l) (f.no_more (closed_all alternatives p s busy h.0 h.1 h.2)) ∙ append-nil h.1.published)),
      )

  no_batch : (bound c : ℕ) → c < bound → c < length q.batches → c < length p.batches
  no_batch zero c below low = absurd (omega arith)
  no_batch (suc bound) zero below low = rooted
  no_batch (suc bound) (suc c) below low =
      let f : Piece E → ℕ = λ x. count_of (suc c) x.published in
      let sum : total f q.pieces ≡ 1 = (λ i. total (λ (x : Piece E). count_is_total (suc c) x.published i) q.pieces)
      ∙ (sym (total_flat (hit (suc c)) (λ (x : Piece E). x.published) q.pieces)
      ∙ (sym (count_is_total (suc c) (all_published q.pieces)) ∙ t.once (suc c) (omega arith) low)) in
      let h = one_holder f q.pieces sum in
      let y = h.1 in
      let up : (y.batch < suc c) × (suc c < length q.batches) =
      count_in (λ d. (y.batch < d) × (d < length q.batches)) (suc c) y.published (t.only h.0 y h.2) h.3 in
      let u = up.0 in
      let older : y.batch < length p.batches = no_batch bound y.batch (omega arith) (omega arith) in
      let o = old_piece h.0 y h.2 older in
      (count_in (λ d. (o.0.batch < d) × (d < length p.batches)) (suc c) o.0.published (s.only h.0 o.0 o.1) (sym (ap (count_of (suc c)) o.2) ∙ h.3)).1

  same_batches : length q.batches ≡ length p.batches
  same_batches =
      let l = length-append p.batches later.more in let e : length q.batches ≡ length (p.batches ++ later.more) = ap length later.batches in
      ⊎_elim (λ (h : length p.batches < length q.batches). let z = no_batch (suc (length p.batches)) (length p.batches) (omega arith) h in
      absurd (omega arith)) (λ (h : length q.batches ≤ length p.batches). omega arith) (cases_lt (length p.batches) (length q.batches))

  get_some : {X : Type 0} (xs : List X) (i : ℕ) → i < length xs → (x : X) × (slice_get xs i ≡ Some x)
  get_some [] i low = absurd (omega arith)
  get_some (x ∷ xs) zero low = (x, refl)
  get_some (x ∷ xs) (suc i) low = get_some xs i (omega arith)

  -- nothing comes after all is claimed and closed
  pub nothing_new : (length q.batches ≡ length p.batches) × (length q.pieces ≡ length p.pieces)
  nothing_new = let b = same_batches in (
    b,
    ⊎_elim
        (λ (h : length p.pieces < length q.pieces).
        let y = get_some q.pieces (length p.pieces) h in
        let w = owed_before alternatives q.batches y.0.batch y.0.k (t.named (length p.pieces) y.0 y.1) in
        let o = old_piece (length p.pieces) y.0 y.1 (omega arith) in
        let z = get_below p.pieces (length p.pieces) o.0 o.1 in absurd (omega arith))
        (λ (h : length q.pieces ≤ length p.pieces). ⊎_elim
        (λ (g : length q.pieces < length p.pieces).
        let x = get_some p.pieces (length q.pieces) g in
        let y = later.pieces (length q.pieces) x.0 x.1 in
        let z = get_below q.pieces (length q.pieces) y.0 y.1 in absurd (omega arith))
        (λ (g : length p.pieces ≤ length q.pieces). omega arith)
        (cases_lt (length q.pieces) (length p.pieces)))
        (cases_lt (length p.pieces) (length q.pieces)),
  )
