-- What names mean: a bound place of the scope, and one that may be a predicate exactly where it is that of a local constant.
use Rattle.std.proofs.Common.{◌≡◌, ℕ, suc, ◌+◌, ◌-◌, ◌<◌, ◌≤◌, Bool, true, false, List, [], ◌∷◌, map, length, refl, subst, arith, if◌then◌else◌}
use Rattle.std.specs.Prelude.{nat_lt, slice_index_or}
use Rattle.std.specs.Str.{bytes_eq}
use Rattle.std.proofs.lemmas.Bool.{lt-ltb}
use Rattle.std.proofs.lemmas.List.{length-map}
use Rattle.ll_laws.specs.Valid as valid
use Rattle.ll_polarity.specs.Scope.{Binder, Scope, Meaning, Bound, Local, Free, Constant, bound_by, unbound, is_variable, meaning_from, meaning}

-- the scope as it is seen where problems are valid: which places are those of local constants
abbrev pub places : Scope → valid.Scope
places scope = map (λ b. b.local) scope

-- a place k or further out, in a scope of which k binders were passed
record IsPlace (k : ℕ) (scope : Scope) (j : ℕ) : Type 0 where
  above : k ≤ j
  below : j < k + length scope

-- and which is that of a local constant
record IsLocal (k : ℕ) (scope : Scope) (j : ℕ) : Type 0 where
  place : IsPlace k scope j
  may : slice_index_or (places scope) (j - k) false ≡ true

abbrev MeansFrom : ℕ → Scope → Meaning → Type 0
MeansFrom k scope (Bound j) = IsPlace k scope j
MeansFrom k scope (Local j) = IsLocal k scope j
MeansFrom k scope Free = Unit {0}
MeansFrom k scope Constant = Unit {0}

means_unbound : (k : ℕ) (scope : Scope) (b : Bool) → MeansFrom k scope (unbound b)
means_unbound k scope true = tt
means_unbound k scope false = tt

means_here : (k : ℕ) (b : Binder) (scope : Scope) (l : Bool) → b.local ≡ l → MeansFrom k (b ∷ scope) (bound_by l k)
means_here k b scope true e = record {
  place = record { above = omega arith; below = omega arith };
  may = subst (λ i. slice_index_or (places (b ∷ scope)) i false ≡ true) (let z : 0 ≡ k - k = omega arith in z) e;
}
means_here k b scope false e = record { above = omega arith; below = omega arith }

means_there : (k : ℕ) (b : Binder) (scope : Scope) (m : Meaning) → MeansFrom (suc k) scope m → MeansFrom k (b ∷ scope) m
means_there k b scope (Bound j) h = record { above = omega (arith, h.above); below = omega (arith, h.below) }
means_there k b scope (Local j) h = record {
  place = record { above = omega (arith, h.place.above); below = omega (arith, h.place.below) };
  may = subst (λ i. slice_index_or (places (b ∷ scope)) i false ≡ true) (let z : suc (j - suc k) ≡ j - k = omega (arith, h.place.above) in z) h.may;
}
means_there k b scope Free h = tt
means_there k b scope Constant h = tt

means_from : (k : ℕ) (scope : Scope) (w : List ℕ) → MeansFrom k scope (meaning_from k scope w)
means_from k [] w = means_unbound k [] (is_variable w)
means_from k (b ∷ scope) w = by (bytes_eq w b.text) (means_from (suc k) scope w)
  where
    by : (t : Bool) → MeansFrom (suc k) scope (meaning_from (suc k) scope w)
        → MeansFrom k (b ∷ scope) (if t then bound_by b.local k else meaning_from (suc k) scope w)
    by true h = means_here k b scope b.local refl
    by false h = means_there k b scope (meaning_from (suc k) scope w) h

-- a place that a name means is one of the scope, and that of a local constant may be a predicate
abbrev pub Means : Scope → Meaning → Type 0
Means scope (Bound j) = nat_lt j (length (places scope)) ≡ true
Means scope (Local j) = (nat_lt j (length (places scope)) ≡ true) × (slice_index_or (places scope) j false ≡ true)
Means scope Free = Unit {0}
Means scope Constant = Unit {0}

pub means : (scope : Scope) (w : List ℕ) → Means scope (meaning scope w)
means scope w = by (meaning scope w) (means_from 0 scope w)
  where
    is_below : (j : ℕ) → IsPlace 0 scope j → nat_lt j (length (places scope)) ≡ true
    is_below j h = lt-ltb j (length (places scope)) (omega (arith, h.below, length-map scope (λ b. b.local)))

    by : (m : Meaning) → MeansFrom 0 scope m → Means scope m
    by (Bound j) h = is_below j h
    by (Local j) h = (is_below j h.place, subst (λ i. slice_index_or (places scope) i false ≡ true) (let z : j - 0 ≡ j = omega arith in z) h.may)
    by Free h = tt
    by Constant h = tt
