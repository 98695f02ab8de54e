-- Chains of the places of keys, and what is linked behind two places.
use Rattle.std.proofs.Common.{inl, inr, ◌≡◌, ◌<◌, ◌≤◌, ℕ, zero, suc, ◌+◌, Bool, true, false, List, [], ◌∷◌, length, drop, refl, ap, sym, subst, ◌∙◌, arith}
use Rattle.std.proofs.Common.{nat_eq, add-one}
use Rattle.std.specs.Prelude.{◌||◌, if◌then◌else◌, slice_index, slice_index_or, slice_set, slice_get, Option, Some, unwrap_or, min, cond}
use Rattle.std.proofs.lemmas.Bool.{eq-eqb, ne_eqb, cases_lt, or_left, or_right}
use Rattle.std.proofs.lemmas.List.{drop-set}
use Rattle.std.proofs.Math.Seq.{drop-cons}
use Rattle.ll_index.specs.Chained.{first_from, links_from, behind, linked_from}

-- ---- reads

-- what stands at a place of a list of numbers, whatever stands for want of it
pub index-same : (xs : List ℕ) (i d : ℕ) → i < length xs → slice_index xs i ≡ slice_index_or xs i d
index-same [] i d h = absurd (omega arith)
index-same (x ∷ xs) zero d h = refl
index-same (x ∷ xs) (suc i) d h = index-same xs i d (omega arith)

-- ---- tests of places

elsewhere : (p i : ℕ) → i < p → nat_eq p i ≡ false
elsewhere p i h = ne_eqb p i (λ e. let q : ⊥ = absurd (omega arith) in q)

module _ {K : Type 0} (eq : K → K → Bool) where
  -- ---- where first places and links lie

  first_from-from : (i : ℕ) (ks : List K) (key : K) → i ≤ first_from eq i ks key
  first_from-from i [] key = omega arith
  first_from-from i (k ∷ ks) key = step (eq k key) (first_from-from (suc i) ks key)
    where
      step : (b : Bool) → suc i ≤ first_from eq (suc i) ks key → i ≤ (if b then i else first_from eq (suc i) ks key)
      step true h = omega arith
      step false h = omega arith

  first_from-to : (i : ℕ) (ks : List K) (key : K) → first_from eq i ks key ≤ i + length ks
  first_from-to i [] key = omega arith
  first_from-to i (k ∷ ks) key = step (eq k key) (first_from-to (suc i) ks key)
    where
      step : (b : Bool) → first_from eq (suc i) ks key ≤ suc i + length ks → (if b then i else first_from eq (suc i) ks key) ≤ i + suc (length ks)
      step true h = omega arith
      step false h = omega arith

  pub length-links : (i : ℕ) (ks : List K) → length (links_from eq i ks) ≡ length ks
  length-links i [] = refl
  length-links i (k ∷ ks) = ap (λ n. suc n) (length-links (suc i) ks)

  -- each link leads on, and not past the end
  links-rise : (i : ℕ) (ks : List K) (at : ℕ) → at < length ks
      → (i + at < slice_index (links_from eq i ks) at) × (slice_index (links_from eq i ks) at ≤ i + length ks)
  links-rise i [] at h = absurd (omega arith)
  links-rise i (k ∷ ks) zero h = let a = first_from-from (suc i) ks k in let b = first_from-to (suc i) ks k in (omega arith, omega arith)
  links-rise i (k ∷ ks) (suc at) h = let w = links-rise (suc i) ks at (omega arith) in let a = w.0 in let b = w.1 in (omega arith, omega arith)

  pub rising : (ks : List K) (ns : List ℕ) → ns ≡ links_from eq 0 ks → (at : ℕ) → at < length ns → (at < slice_index ns at) × (slice_index ns at ≤ length ns)
  rising ks ns e at h =
      subst (λ (xs : List ℕ). (at < slice_index xs at) × (slice_index xs at ≤ length xs)) (sym e)
      (let n = length-links 0 ks in let l : length ns ≡ length (links_from eq 0 ks) = ap length e in
      let w = links-rise 0 ks at (omega arith) in let a = w.0 in let b = w.1 in (omega arith, omega arith))

-- ---- the next of what is linked

pointed : ℕ → ℕ → ℕ → Bool
pointed i p q = nat_eq p i || nat_eq q i

module _ {A : Type 0} where
  -- an item at neither place is passed
  linked-pass : (i : ℕ) (x : A) (xs : List A) (n : ℕ) (ns : List ℕ) (p q : ℕ) → i < p → i < q
      → linked_from i (x ∷ xs) (n ∷ ns) p q ≡ linked_from (suc i) xs ns p q
  linked-pass i x xs n ns p q l m =
      ap (λ b. if b || nat_eq q i then x ∷ linked_from (suc i) xs ns (behind i n p) (behind i n q) else linked_from (suc i) xs ns p q) (elsewhere p i l)
      ∙ ap (λ b. if b then x ∷ linked_from (suc i) xs ns (behind i n p) (behind i n q) else linked_from (suc i) xs ns p q) (elsewhere q i m)

  -- an item at one of them is the next
  linked-take : (i : ℕ) (x : A) (xs : List A) (n : ℕ) (ns : List ℕ) (p q : ℕ) → pointed i p q ≡ true
      → linked_from i (x ∷ xs) (n ∷ ns) p q ≡ x ∷ linked_from (suc i) xs ns (behind i n p) (behind i n q)
  unfolding pointed
  linked-take i x xs n ns p q h = ap (λ b. if b then x ∷ linked_from (suc i) xs ns (behind i n p) (behind i n q) else linked_from (suc i) xs ns p q) h

behind-past : (i n p : ℕ) → i ≤ p → i < n → i < behind i n p
behind-past i n p l m = elim (cases_lt i p) [
  | inl h ↦ subst (λ b. i < (if b then n else p)) (sym (elsewhere p i h)) h
  | inr h ↦ let e : p ≡ i = omega arith in subst (λ b. i < (if b then n else p)) (sym (eq-eqb p i e)) m
]

min-at : (i p q : ℕ) → i ≤ p → i ≤ q → min p q ≡ i → pointed i p q ≡ true
unfolding pointed
min-at i p q l m e = elim (cases_lt i p) [
  | inl h ↦ let f : q ≡ i = omega arith in or_right (nat_eq p i) (nat_eq q i) (eq-eqb q i f)
  | inr h ↦ let f : p ≡ i = omega arith in or_left (nat_eq p i) (nat_eq q i) (eq-eqb p i f)
]

module _ {A : Type 0} where
  linked-next-from : (i : ℕ) (xs : List A) (ns : List ℕ) (p q k : ℕ) (x : A) (n : ℕ) → i ≤ p → i ≤ q → min p q ≡ i + k → slice_get xs k ≡ Some x
      → slice_get ns k ≡ Some n → i + k < n
      → linked_from i xs ns p q ≡ x ∷ linked_from i xs ns (behind (i + k) n p) (behind (i + k) n q)
  linked-next-from i [] ns p q k x n l m e g h r = cc
  linked-next-from i (y ∷ xs) [] p q k x n l m e g h r = cc
  linked-next-from i (y ∷ xs) (o ∷ ns) p q zero x n l m e g h r =
      let a : y ≡ x = cc in
      let b : o ≡ n = cc in
      let z : i + 0 ≡ i = omega arith in
      let r' : i < n = omega arith in
      subst (λ j. linked_from i (y ∷ xs) (o ∷ ns) p q ≡ x ∷ linked_from i (y ∷ xs) (o ∷ ns) (behind j n p) (behind j n q)) (sym z)
      (linked-take i y xs o ns p q (min-at i p q l m (e ∙ z))
      ∙ (ap (λ v. v ∷ linked_from (suc i) xs ns (behind i o p) (behind i o q)) a
      ∙ (ap (λ v. x ∷ linked_from (suc i) xs ns (behind i v p) (behind i v q)) b
      ∙ ap (λ v. x ∷ v) (sym (linked-pass i y xs o ns (behind i n p) (behind i n q) (behind-past i n p l r') (behind-past i n q m r'))))))
  linked-next-from i (y ∷ xs) (o ∷ ns) p q (suc k) x n l m e g h r =
      let z : suc i + k ≡ i + suc k = omega arith in
      let lp : i < p = omega arith in
      let lq : i < q = omega arith in
      let r' : suc i + k < n = omega arith in
      let e' : min p q ≡ suc i + k = e ∙ sym z in
      let w = linked-next-from (suc i) xs ns p q k x n (omega arith) (omega arith) e' g h r' in
      let bp : i < behind (suc i + k) n p = behind-stays p lp in
      let bq : i < behind (suc i + k) n q = behind-stays q lq in
      linked-pass i y xs o ns p q lp lq
      ∙ (w ∙ (ap (λ v. x ∷ v) (sym (linked-pass i y xs o ns (behind (suc i + k) n p) (behind (suc i + k) n q) bp bq))
      ∙ ap (λ j. x ∷ linked_from i (y ∷ xs) (o ∷ ns) (behind j n p) (behind j n q)) z))
    where
      behind-stays : (v : ℕ) → i < v → i < behind (suc i + k) n v
      behind-stays v lv = step (nat_eq v (suc i + k))
        where
          step : (b : Bool) → i < (if b then n else v)
          step true = omega arith
          step false = lv

  -- the lesser place has the next item, and what is linked behind it stays
  pub linked-next : (xs : List A) (ns : List ℕ) (p q k : ℕ) (x : A) (n : ℕ) → min p q ≡ k → slice_get xs k ≡ Some x → slice_get ns k ≡ Some n → k < n
      → linked_from 0 xs ns p q ≡ x ∷ linked_from 0 xs ns (behind k n p) (behind k n q)
  linked-next xs ns p q k x n e g h r =
      let z : 0 + k ≡ k = omega arith in
      subst (λ j. linked_from 0 xs ns p q ≡ x ∷ linked_from 0 xs ns (behind j n p) (behind j n q)) z
      (linked-next-from 0 xs ns p q k x n (omega arith) (omega arith) (e ∙ sym z) g h (omega arith))

  linked-none-from : (i : ℕ) (xs : List A) (ns : List ℕ) (p q : ℕ) → i + length xs ≤ p → i + length xs ≤ q → linked_from i xs ns p q ≡ []
  linked-none-from i [] ns p q l m = refl
  linked-none-from i (x ∷ xs) [] p q l m = refl
  linked-none-from i (x ∷ xs) (n ∷ ns) p q l m = linked-pass i x xs n ns p q (omega arith) (omega arith)
      ∙ linked-none-from (suc i) xs ns p q (omega arith) (omega arith)

  -- past the end there is nothing
  pub linked-none : (xs : List A) (ns : List ℕ) (p q : ℕ) → length xs ≤ min p q → linked_from 0 xs ns p q ≡ []
  linked-none xs ns p q l = linked-none-from 0 xs ns p q (omega arith) (omega arith)

-- ---- what is linked from the first places of two keys

-- the items whose keys are among the two
abbrev pub kept : {K A : Type 0} → (K → K → Bool) → K → K → List K → List A → List A
kept eq key other (k ∷ ks) (x ∷ xs) = if eq k key || eq k other then x ∷ kept eq key other ks xs else kept eq key other ks xs
kept eq key other _ _ = []

module _ {K : Type 0} (eq : K → K → Bool) (same : (x y : K) → eq x y ≡ true → x ≡ y) where
  -- the place of a key, seen from a place that has it or not
  seen : (i : ℕ) (k : K) (ks : List K) (key : K) (b : Bool) → eq k key ≡ b
      → (nat_eq (first_from eq i (k ∷ ks) key) i ≡ b) × (behind i (first_from eq (suc i) ks k) (first_from eq i (k ∷ ks) key) ≡ first_from eq (suc i) ks key)
  seen i k ks key true e =
      let at : first_from eq i (k ∷ ks) key ≡ i = ap (λ (b : Bool). if b then i else first_from eq (suc i) ks key) e in
      let t : nat_eq (first_from eq i (k ∷ ks) key) i ≡ true = eq-eqb _ _ at in
      (t, ap (λ (b : Bool). if b then first_from eq (suc i) ks k else first_from eq i (k ∷ ks) key) t ∙ ap (first_from eq (suc i) ks) (same k key e))
  seen i k ks key false e =
      let at : first_from eq i (k ∷ ks) key ≡ first_from eq (suc i) ks key = ap (λ (b : Bool). if b then i else first_from eq (suc i) ks key) e in
      let past = first_from-from eq (suc i) ks key in
      let t : nat_eq (first_from eq i (k ∷ ks) key) i ≡ false = elsewhere (first_from eq i (k ∷ ks) key) i (omega arith) in
      (t, ap (λ (b : Bool). if b then first_from eq (suc i) ks k else first_from eq i (k ∷ ks) key) t ∙ at)

  linked-kept-from : {A : Type 0} (i : ℕ) (ks : List K) (xs : List A) (key other : K) → length ks ≡ length xs
      → linked_from i xs (links_from eq i ks) (first_from eq i ks key) (first_from eq i ks other) ≡ kept eq key other ks xs
  linked-kept-from i [] [] key other l = refl
  linked-kept-from i [] (x ∷ xs) key other l = absurd (omega arith)
  linked-kept-from i (k ∷ ks) [] key other l = absurd (omega arith)
  linked-kept-from i (k ∷ ks) (x ∷ xs) key other l =
      let rest = linked-kept-from (suc i) ks xs key other (omega arith) in
      let u = seen i k ks key (eq k key) refl in
      let v = seen i k ks other (eq k other) refl in
      let p = first_from eq i (k ∷ ks) key in
      let q = first_from eq i (k ∷ ks) other in
      let n = first_from eq (suc i) ks k in
      let ls = links_from eq (suc i) ks in
      ap (λ b. if b || nat_eq q i then x ∷ linked_from (suc i) xs ls (behind i n p) (behind i n q) else linked_from (suc i) xs ls p q) u.0
      ∙ (ap (λ b. if eq k key || b then x ∷ linked_from (suc i) xs ls (behind i n p) (behind i n q) else linked_from (suc i) xs ls p q) v.0
      ∙ by (eq k key) (eq k other) refl refl u.1 v.1 rest)
    where
      ls : List ℕ
      ls = links_from eq (suc i) ks

      n : ℕ
      n = first_from eq (suc i) ks k

      p : ℕ
      p = first_from eq i (k ∷ ks) key

      q : ℕ
      q = first_from eq i (k ∷ ks) other

      by : (b d : Bool) → eq k key ≡ b → eq k other ≡ d → behind i n p ≡ first_from eq (suc i) ks key → behind i n q ≡ first_from eq (suc i) ks other
          → linked_from (suc i) xs ls (first_from eq (suc i) ks key) (first_from eq (suc i) ks other) ≡ kept eq key other ks xs
          → (if b || d then x ∷ linked_from (suc i) xs ls (behind i n p) (behind i n q) else linked_from (suc i) xs ls p q)
          ≡ (if b || d then x ∷ kept eq key other ks xs else kept eq key other ks xs)
      by true d e f g h r = ap (λ v. x ∷ linked_from (suc i) xs ls v (behind i n q)) g
          ∙ (ap (λ v. x ∷ linked_from (suc i) xs ls (first_from eq (suc i) ks key) v) h ∙ ap (λ v. x ∷ v) r)
      by false true e f g h r = ap (λ v. x ∷ linked_from (suc i) xs ls v (behind i n q)) g
          ∙ (ap (λ v. x ∷ linked_from (suc i) xs ls (first_from eq (suc i) ks key) v) h ∙ ap (λ v. x ∷ v) r)
      by false false e f g h r =
          let a : p ≡ first_from eq (suc i) ks key = ap (λ (b : Bool). if b then i else first_from eq (suc i) ks key) e in
          let b : q ≡ first_from eq (suc i) ks other = ap (λ (b : Bool). if b then i else first_from eq (suc i) ks other) f in
          ap (λ v. linked_from (suc i) xs ls v q) a ∙ (ap (λ v. linked_from (suc i) xs ls (first_from eq (suc i) ks key) v) b ∙ r)

  -- the items of two keys, in order
  pub linked-kept : {A : Type 0} (ks : List K) (xs : List A) (key other : K) → length ks ≡ length xs
      → linked_from 0 xs (links_from eq 0 ks) (first_from eq 0 ks key) (first_from eq 0 ks other) ≡ kept eq key other ks xs
  linked-kept ks xs key other l = linked-kept-from 0 ks xs key other l

-- ---- chains that are built from their end

module _ {K : Type 0} (eq : K → K → Bool) (keys : List K) (next : List ℕ) (at i n : ℕ) (key d : K) (one : at ≡ suc i) (inside : i < length keys)
    (read : slice_index_or keys i d ≡ key)
    (old new : K → Option ℕ) (updates : (q : K) → new q ≡ cond (eq key q) (Some i) (old q))
    (first : (q : K) → unwrap_or (old q) n ≡ first_from eq at (drop at keys) q) where
  front : drop i keys ≡ key ∷ drop at keys
  front = drop-cons keys i d inside ∙ (ap (λ k. k ∷ drop (suc i) keys) read ∙ ap (λ k. key ∷ drop k keys) (sym one))

  -- one link more
  pub links-step : length next ≡ length keys → drop at next ≡ links_from eq at (drop at keys)
      → drop i (slice_set next i (unwrap_or (old key) n)) ≡ links_from eq i (drop i keys)
  links-step size links =
      drop-set next i (unwrap_or (old key) n) (omega arith)
      ∙ (ap (λ k. unwrap_or (old key) n ∷ drop k next) (add-one i)
      ∙ (ap (λ v. v ∷ drop (suc i) next) (first key ∙ ap (λ k. first_from eq k (drop at keys) key) one)
      ∙ (ap (λ k. first_from eq (suc i) (drop at keys) key ∷ drop k next) (sym one)
      ∙ (ap (λ ns. first_from eq (suc i) (drop at keys) key ∷ ns) (links ∙ ap (λ k. links_from eq k (drop at keys)) one)
      ∙ ap (links_from eq i) (sym front)))))

  -- and one first place
  pub first-step : (q : K) → unwrap_or (new q) n ≡ first_from eq i (drop i keys) q
  first-step q =
      ap (λ o. unwrap_or o n) (updates q) ∙ (by (eq key q) ∙ ap (λ ks. first_from eq i ks q) (sym front))
    where
      by : (b : Bool) → unwrap_or (cond b (Some i) (old q)) n ≡ (if b then i else first_from eq (suc i) (drop at keys) q)
      by true = refl
      by false = first q ∙ ap (λ k. first_from eq k (drop at keys) q) one
