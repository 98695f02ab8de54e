-- Sets of numbers as tests, and the least number above all of a list.
use Rattle.std.proofs.Common.{◌≡◌, ℕ, zero, suc, ◌<◌, ◌≤◌, Bool, true, false, cond, eqb, ltb, List, [], ◌∷◌, ◌++◌, length, All, max, get_or, refl, sym, ◌∙◌}
use Rattle.std.proofs.Common.{inl, inr, arith}
use Rattle.std.specs.Ordering.{nat_cmp, is_eq}
use Rattle.std.specs.declared.cmp.Ordering.TheVariants.{Less, Equal, Greater}
use Rattle.std.specs.List.{list_any}
use Rattle.std.specs.BTreeMap.{is_at}
use Rattle.std.proofs.lemmas.Bool.{or_left, or_right, or_cases, eqb-true, eq-eqb, ltb-true}
use Rattle.std.proofs.lemmas.List.Elements.{All-head, All-tail}

-- one more than the greatest, or 0
abbrev pub ceiling : List ℕ → ℕ
ceiling [] = 0
ceiling (x ∷ xs) = max (suc x) (ceiling xs)

-- a number that stands last is below it
pub last_below : (xs : List ℕ) (k : ℕ) → k < ceiling (xs ++ k ∷ [])
last_below [] k = omega arith
last_below (x ∷ xs) k = let h = last_below xs k in omega arith

-- it is at most a number that is above all
pub ceiling-le : (xs : List ℕ) (k : ℕ) → All (λ x. x < k) xs → ceiling xs ≤ k
ceiling-le [] k h = omega arith
ceiling-le (x ∷ xs) k h = let a = All-head (λ x. x < k) x xs h in let b = ceiling-le xs k (All-tail (λ x. x < k) x xs h) in omega arith

-- two numbers compare as equal where they are
pub is_at-nat : (a b : ℕ) → is_at (nat_cmp a) b ≡ eqb a b
is_at-nat a b = by (ltb a b) refl (eqb a b) refl
  where
    by : (l : Bool) → ltb a b ≡ l → (e : Bool) → eqb a b ≡ e → is_eq (cond l Less (cond e Equal Greater)) ≡ e
    by true h true k = absurd (let x = ltb-true a b h in let y = eqb-true a b k in omega arith)
    by true h false k = refl
    by false h true k = refl
    by false h false k = refl

pub Less-nat : (a b : ℕ) → nat_cmp a b ≡ Less → a < b
Less-nat a b = by (ltb a b) refl (eqb a b)
  where
    by : (l : Bool) → ltb a b ≡ l → (e : Bool) → cond l Less (cond e Equal Greater) ≡ Less → a < b
    by true h e k = ltb-true a b h
    by false h true k = absurd (let x : ⊥ = cc in x)
    by false h false k = absurd (let x : ⊥ = cc in x)

-- a set has a key where its list does
pub has_at : (keys : List ℕ) (at i d : ℕ) → i < length keys → get_or keys i d ≡ at → list_any (is_at (nat_cmp at)) keys ≡ true
has_at [] at i d l e = absurd (omega arith)
has_at (k ∷ keys) at zero d l e = or_left (is_at (nat_cmp at) k) (list_any (is_at (nat_cmp at)) keys) (is_at-nat at k ∙ eq-eqb at k (sym e))
has_at (k ∷ keys) at (suc i) d l e = or_right (is_at (nat_cmp at) k) (list_any (is_at (nat_cmp at)) keys) (has_at keys at i d (omega arith) e)

-- what a set of numbers has is below a bound that its numbers are below
pub has_below : (keys : List ℕ) (at k : ℕ) → All (λ x. x < k) keys → list_any (is_at (nat_cmp at)) keys ≡ true → at < k
has_below [] at k h e = absurd (let x : ⊥ = cc in x)
has_below (x ∷ keys) at k h e = elim (or_cases (is_at (nat_cmp at) x) (list_any (is_at (nat_cmp at)) keys) e) [
  | inl p ↦ let q = eqb-true at x (sym (is_at-nat at x) ∙ p) in let b = All-head (λ x. x < k) x keys h in omega arith
  | inr p ↦ has_below keys at k (All-tail (λ x. x < k) x keys h) p
]

-- a list has a number where a test of it passes
pub any_from_Contains : (xs : List ℕ) (at i d : ℕ) → i < length xs → get_or xs i d ≡ at → list_any (eqb at) xs ≡ true
any_from_Contains [] at i d l e = absurd (omega arith)
any_from_Contains (x ∷ xs) at zero d l e = or_left (eqb at x) (list_any (eqb at) xs) (eq-eqb at x (sym e))
any_from_Contains (x ∷ xs) at (suc i) d l e = or_right (eqb at x) (list_any (eqb at) xs) (any_from_Contains xs at i d (omega arith) e)

pub any_below : (xs : List ℕ) (at k : ℕ) → All (λ x. x < k) xs → list_any (eqb at) xs ≡ true → at < k
any_below [] at k h e = absurd (let x : ⊥ = cc in x)
any_below (x ∷ xs) at k h e = elim (or_cases (eqb at x) (list_any (eqb at) xs) e) [
  | inl p ↦ let q = eqb-true at x p in let b = All-head (λ x. x < k) x xs h in omega arith
  | inr p ↦ any_below xs at k (All-tail (λ x. x < k) x xs h) p
]
