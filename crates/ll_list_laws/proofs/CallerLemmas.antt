-- Laws of tests, numbers, options, results and lists that the standard library lacks, for every type of elements. All crates may cite them.
use Rattle.std.proofs.Common.{◌≡◌, refl, Bool, true, false, ◌&&◌, sym, ℕ, ◌≤◌, arith, Some, None, ap, List, [], ◌∷◌, map, All, suc, length, zero, subst}
use Rattle.std.proofs.Common.{reverse, ◌++◌, ◌<◌, get_or, inl, inr, length-append, ◌+◌, ◌||◌, ◌∙◌, true≢false, cond, take, drop, ◌-◌}
use Rattle.std.proofs.Math.ListN.{get_or-append}
use Rattle.std.proofs.Math.Seq.{get_or-append_seam}
use Rattle.std.proofs.lemmas.Bool.{eq-eqb, ne_eqb, eqb-true, eqb-false, ltb-true, lt-ltb, cases_lt}
use Rattle.std.proofs.lemmas.Bool.Decides.{nat_tests}
use Rattle.std.proofs.lemmas.List.{reverse-append, length_push, get_or_push, append-nil, length-drop}
use Rattle.std.proofs.lemmas.List.Elements.{All-head, All-tail, All-push}
use Rattle.std.specs.List.{list_any, position_or_len, list_all, prefix_len}
use Rattle.std.specs.Prelude.{not, nat_eq, nat_lt, Result, Ok, Err, OnOk, OnErr, IfOk, slice_get, slice_index}

-- ---- tests

-- what is not so is false
pub false_from_not : (b : Bool) → not b ≡ true → b ≡ false
false_from_not true h = cc
false_from_not false h = refl

-- what is not false is so
pub true_from_not : (b : Bool) → not b ≡ false → b ≡ true
true_from_not true h = refl
true_from_not false h = cc

-- where both hold, the first does
pub and_true_left : (a b : Bool) → (a && b) ≡ true → a ≡ true
and_true_left true b h = refl
and_true_left false b h = h

-- where both hold, the second does
pub and_true_right : (a b : Bool) → (a && b) ≡ true → b ≡ true
and_true_right true b h = h
and_true_right false b h = cc

-- where both hold, each does
pub and_true_both : (a b : Bool) → (a && b) ≡ true → (a ≡ true) × (b ≡ true)
and_true_both true true h = (refl, refl)
and_true_both true false h = absurd cc
and_true_both false b h = absurd cc

-- where neither holds, the first does not
pub or_false_left : (a b : Bool) → (a || b) ≡ false → a ≡ false
or_false_left false b h = refl
or_false_left true b h = cc

-- where neither holds, the second does not
pub or_false_right : (a b : Bool) → (a || b) ≡ false → b ≡ false
or_false_right false b h = h
or_false_right true b h = cc

-- an alternative that is false changes nothing
pub or_false : (b : Bool) → b ≡ (b || false)
or_false true = refl
or_false false = refl

-- of three alternatives any two may stand together
pub or_assoc : (a b c : Bool) → ((a || b) || c) ≡ (a || (b || c))
or_assoc true b c = refl
or_assoc false b c = refl

-- the first two of three alternatives may change places
pub or_exchange : (a b c : Bool) → (a || (b || c)) ≡ (b || (a || c))
or_exchange true true c = refl
or_exchange true false c = refl
or_exchange false b c = refl

-- where one of two holds, what follows from each follows
pub or_elim : {P : Type 0} → (a b : Bool) → (a || b) ≡ true → (a ≡ true → P) → (b ≡ true → P) → P
or_elim true b h p q = p refl
or_elim false b h p q = q h

-- tests that hold together are the same
pub same_from_both_ways : (a b : Bool) → (a ≡ true → b ≡ true) → (b ≡ true → a ≡ true) → a ≡ b
same_from_both_ways true b f g = sym (f refl)
same_from_both_ways false true f g = g refl
same_from_both_ways false false f g = refl

-- ---- numbers

-- a number is equal to itself
pub eq-refl : (n : ℕ) → nat_eq n n ≡ true
eq-refl n = eq-eqb n n refl

-- numbers that differ differ the other way round
pub not_eq_sym : (m n : ℕ) → nat_eq m n ≡ false → nat_eq n m ≡ false
not_eq_sym m n h = ne_eqb n m (λ e. eqb-false m n h (sym e))

-- images are equal where the numbers are, if no two of these numbers have one image
pub eq-moved : (r : ℕ → ℕ) (m n : ℕ) → (r m ≡ r n → m ≡ n) → nat_eq (r m) (r n) ≡ nat_eq m n
eq-moved r m n one = same_from_both_ways (nat_eq (r m) (r n)) (nat_eq m n) (λ e. eq-eqb m n (one (eqb-true (r m) (r n) e)))
    (λ e. eq-eqb (r m) (r n) (ap r (eqb-true m n e)))

-- a number is not below one that is at most as great
pub lt_false : (a b : ℕ) → b ≤ a → nat_lt a b ≡ false
lt_false a b h = grind (arith, nat_tests)

-- what is below a number is below a greater one
pub lt_more : (k m n : ℕ) → m ≤ n → nat_lt k m ≡ true → nat_lt k n ≡ true
lt_more k m n le h = let l = ltb-true k m h in lt-ltb k n (omega arith)

-- nothing is below 0
pub lt_zero : {P : Type 0} → (k : ℕ) → nat_lt k 0 ≡ true → P
lt_zero k h = let l = ltb-true k 0 h in absurd (omega arith)

-- ---- options and results

-- what one option has, an equal one has
pub some_is : {X : Type 0} (x y : X) → Some x ≡ Some y → x ≡ y
some_is x y e = cc

-- nothing is not something
pub none_not_some : {X : Type 0} (x : X) → None ≡ Some x → ⊥
none_not_some x e = cc

-- what follows from a fact on success
pub OnOk-weaker : {T E P Q : Type 0} (r : Result T E) → (P → Q) → OnOk r P → OnOk r Q
OnOk-weaker (Ok x) f p = f p
OnOk-weaker (Err e) f p = tt

-- what follows from a fact on failure
pub OnErr-weaker : {T E P Q : Type 0} (r : Result T E) → (P → Q) → OnErr r P → OnErr r Q
OnErr-weaker (Err e) f p = f p
OnErr-weaker (Ok x) f p = tt

-- what holds anyway holds on failure
pub OnErr-always : {T E P : Type 0} (r : Result T E) → P → OnErr r P
OnErr-always (Err e) p = p
OnErr-always (Ok x) p = tt

-- what follows from a fact on the value of a success
pub IfOk-each : {T E : Type 0} (r : Result T E) (P Q : T → Type 0) → ((a : T) → P a → Q a) → IfOk r P → IfOk r Q
IfOk-each (Ok a) P Q f h = f a h
IfOk-each (Err e) P Q f h = tt

-- ---- lists, element by element

-- a function over a function
pub map_map : {A B C : Type 0} (f : B → C) (g : A → B) (xs : List A) → map f (map g xs) ≡ map (λ x. f (g x)) xs
map_map f g [] = refl
map_map f g (x ∷ xs) = ap (λ ys. f (g x) ∷ ys) (map_map f g xs)

-- functions that agree everywhere give the same list
pub map_same : {A B : Type 0} (f g : A → B) → ((x : A) → f x ≡ g x) → (xs : List A) → map f xs ≡ map g xs
map_same f g h [] = refl
map_same f g h (x ∷ xs) = let e1 = h x in let e2 = map_same f g h xs in cc

-- functions that agree on what a list has give the same list
pub map_same_on : {A B : Type 0} (f g : A → B) (P : A → Type 0) (xs : List A) → ((x : A) → P x → f x ≡ g x) → All P xs → map f xs ≡ map g xs
map_same_on f g P [] h a = refl
map_same_on f g P (x ∷ xs) h a = let e1 = h x (All-head P x xs a) in let e2 = map_same_on f g P xs h (All-tail P x xs a) in cc

-- counting each number up leaves their number
pub length-map_suc : (xs : List ℕ) → length (map (λ n. suc n) xs) ≡ length xs
length-map_suc [] = refl
length-map_suc (x ∷ xs) = ap suc (length-map_suc xs)

-- a number of a list that is counted up
pub slice_get-map_suc : (xs : List ℕ) (k n : ℕ) → slice_get xs k ≡ Some n → slice_get (map (λ n. suc n) xs) k ≡ Some (suc n)
slice_get-map_suc [] k n h = cc
slice_get-map_suc (x ∷ xs) zero n h = let e : x ≡ n = cc in ap (λ z. Some (suc z)) e
slice_get-map_suc (x ∷ xs) (suc k) n h = slice_get-map_suc xs k n h

-- what holds of all holds of all in reverse
pub All-reverse : {A : Type 0} (P : A → Type 0) (xs : List A) → All P xs → All P (reverse xs)
All-reverse P [] h = h
All-reverse P (x ∷ xs) h =
    subst (λ ys. All P ys) (sym (reverse-append (x ∷ []) xs)) (All-push P (reverse xs) x (All-reverse P xs (All-tail P x xs h)) (All-head P x xs h))

-- what holds of all holds of all but the last
pub All-front : {A : Type 0} (P : A → Type 0) (xs : List A) (x : A) → All P (xs ++ x ∷ []) → All P xs
All-front P xs x h k d l = subst P (get_or-append xs (x ∷ []) d k l) (h k d (let e = length_push xs x in omega arith))

-- what holds of all holds of the last
pub All-last : {A : Type 0} (P : A → Type 0) (xs : List A) (x : A) → All P (xs ++ x ∷ []) → P x
All-last P xs x h = subst P (get_or_push xs x x (length xs) refl) (h (length xs) x (let e = length_push xs x in omega arith))

-- what holds of all holds of each
pub All-slice_get : {X : Type 0} (P : X → Type 0) (xs : List X) (i : ℕ) (x : X) → All P xs → slice_get xs i ≡ Some x → P x
All-slice_get P [] i x h e = absurd (let n : ⊥ = cc in n)
All-slice_get P (y ∷ xs) zero x h e = let d : y ≡ x = cc in subst P d (All-head P y xs h)
All-slice_get P (y ∷ xs) (suc i) x h e = All-slice_get P xs i x (All-tail P y xs h) e

-- what holds of each place of a list, and of one more at its end, holds of each place of both
pub each-push : {A : Type 0} (P : ℕ → A → Type 0) (xs : List A) (x : A) → ((k : ℕ) (d : A) → k < length xs → P k (get_or xs k d)) → P (length xs) x
    → (k : ℕ) (d : A) → k < length (xs ++ x ∷ []) → P k (get_or (xs ++ x ∷ []) k d)
each-push P xs x h p k d lt =
    elim (cases_lt k (length xs)) [
      | inl l ↦ subst (P k) (sym (get_or-append xs (x ∷ []) d k l)) (h k d l)
      | inr l ↦
          let e : length xs ≡ k = omega (arith, length-append xs (x ∷ [])) in
          subst (λ z. P z (get_or (xs ++ x ∷ []) z d)) e (subst (P (length xs)) (sym (get_or-append_seam xs x [] d)) p)
    ]

-- ---- places of lists

-- the front of a list has its elements at their places
pub slice_get-append_left : {A : Type 0} (xs ys : List A) (k : ℕ) → k < length xs → slice_get (xs ++ ys) k ≡ slice_get xs k
slice_get-append_left [] ys k h = absurd (omega arith)
slice_get-append_left (x ∷ xs) ys zero h = refl
slice_get-append_left (x ∷ xs) ys (suc k) h = slice_get-append_left xs ys k (omega arith)

-- the back of a list has its elements behind the front
pub slice_get-append_right : {A : Type 0} (xs ys : List A) (k j : ℕ) → length xs + j ≡ k → slice_get (xs ++ ys) k ≡ slice_get ys j
slice_get-append_right [] ys k j h = ap (slice_get ys) (let e : k ≡ j = omega arith in e)
slice_get-append_right (x ∷ xs) ys zero j h = absurd (omega arith)
slice_get-append_right (x ∷ xs) ys (suc k) j h = slice_get-append_right xs ys k j (omega arith)

-- where a list has an element it has a place
pub slice_get-inside : {A : Type 0} (xs : List A) (k : ℕ) (n : A) → slice_get xs k ≡ Some n → k < length xs
slice_get-inside [] k n h = cc
slice_get-inside (x ∷ xs) zero n h = omega arith
slice_get-inside (x ∷ xs) (suc k) n h = let e = slice_get-inside xs k n h in omega arith

-- a number in the front of a list stands at its place
pub slice_index-append : (xs ys : List ℕ) (x : ℕ) → x < length xs → slice_index (xs ++ ys) x ≡ slice_index xs x
slice_index-append xs ys x l = get_or-append xs ys 0 x l

-- where some element passes, the first that does lies in the list
pub position_within : {X : Type 0} (p : X → Bool) (xs : List X) → list_any p xs ≡ true → position_or_len p xs < length xs
position_within p [] h = absurd (true≢false (sym h))
position_within p (x ∷ xs) h = by (p x) refl (position_within p xs)
  where
    by : (b : Bool) → p x ≡ b → (list_any p xs ≡ true → position_or_len p xs < length xs) → position_or_len p (x ∷ xs) < length (x ∷ xs)
    by true e rest = rw e (omega arith)
    by false e rest = let k = rest (sym (ap (λ b. b || list_any p xs) e) ∙ h) in rw e (omega arith)

-- the longest front that passes passes
pub run_passes : (p : ℕ → Bool) (bs : List ℕ) → list_all p (take (prefix_len p bs) bs) ≡ true
run_passes p [] = refl
run_passes p (b ∷ bs) = by-test (p b) refl (run_passes p bs)
  where
    by-test : (v : Bool) → p b ≡ v → list_all p (take (prefix_len p bs) bs) ≡ true → list_all p (take (cond v (1 + prefix_len p bs) 0) (b ∷ bs)) ≡ true
    by-test true e ih = let s : 1 + prefix_len p bs ≡ suc (prefix_len p bs) = omega arith in rw s (rw e ih)
    by-test false e ih = refl

-- ---- whole lists

-- the elements behind a front
pub slice_get-drop : {A : Type 0} (n k : ℕ) (xs : List A) → slice_get (drop n xs) k ≡ slice_get xs (n + k)
slice_get-drop zero k xs = let e : k ≡ 0 + k = omega arith in ap (slice_get xs) e
slice_get-drop (suc n) k [] = refl
slice_get-drop (suc n) k (x ∷ xs) = let e : suc (n + k) ≡ suc n + k = omega arith in slice_get-drop n k xs ∙ ap (slice_get (x ∷ xs)) e

-- a front of a list is at most as long
pub length-take_most : {A : Type 0} (k : ℕ) (xs : List A) → length (take k xs) ≤ length xs
length-take_most zero xs = omega arith
length-take_most (suc k) [] = omega arith
length-take_most (suc k) (x ∷ xs) = let h = length-take_most k xs in omega (arith, h)

-- lists of one length are of one length where as many are dropped in front
pub length-drop_same : {A : Type 0} (k : ℕ) (xs ys : List A) → length xs ≡ length ys → length (drop k xs) ≡ length (drop k ys)
length-drop_same k xs ys e = length-drop k xs ∙ (ap (λ n. n - k) e ∙ sym (length-drop k ys))

-- the last of a list is the first in reverse
pub reverse-push : {A : Type 0} (xs : List A) (x : A) → reverse (xs ++ x ∷ []) ≡ x ∷ reverse xs
reverse-push xs x = reverse-append xs (x ∷ [])

-- a list of length 0 is empty
pub empty_from_length : {F : Type 0} → (items : List F) → length items ≡ 0 → items ≡ []
empty_from_length [] e = refl
empty_from_length (x ∷ items) e = absurd (omega arith)

-- a front of a list that is as long is the list
pub same_front : {A : Type 0} (xs ys zs : List A) → xs ≡ ys ++ zs → length ys ≡ length xs → ys ≡ xs
same_front xs ys [] e l = sym (e ∙ append-nil ys)
same_front xs ys (z ∷ zs) e l =
    let a : length xs ≡ length ys + suc (length zs) = ap (λ us. length us) e ∙ length-append ys (z ∷ zs) in absurd (omega (arith, a, l))

-- ---- places

-- the first of two lists in a row
pub take-front : {A : Type 0} (xs ys : List A) (n : ℕ) → length xs ≡ n → take n (xs ++ ys) ≡ xs
take-front [] ys zero e = refl
take-front [] ys (suc n) e = absurd (omega (arith, e))
take-front (x ∷ xs) ys zero e = absurd (omega (arith, e))
take-front (x ∷ xs) ys (suc n) e = ap (λ zs. x ∷ zs) (take-front xs ys n (omega (arith, e)))

-- from a place of a list to its end there is less after a step
pub fewer_left : (n i : ℕ) → i < n → n - (i + 1) < n - i
fewer_left n i l = omega arith
