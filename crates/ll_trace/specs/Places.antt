-- The places where labels are picked, by the labels.
use Rattle.std.specs.Prelude.{◌≡◌, ◌≤◌, ◌<◌, ℕ, ◌+◌, Bool, ◌&&◌, nat_eq, nat_lt, nat_le, cond, List, [], ◌∷◌, length, slice_index_or, Option, Some, None}
use Rattle.std.proofs.Common.{Vec, Global}
use Rattle.ll_trace.specs.declared.picks.Pick.{Pick}
use Rattle.ll_trace.specs.declared.places.Place.{Place}

-- the places at which nodes pick a label, where the first node stands at a place
abbrev pub places_of : ℕ → ℕ → List (Option Pick) → List Place
places_of n at [] = []
places_of n at (None ∷ ps) = places_of n (at + 1) ps
places_of n at (Some p ∷ ps) = cond (nat_eq n p.label) (record { at = at; level = p.level } ∷ places_of n (at + 1) ps) (places_of n (at + 1) ps)

-- a row of places, or none
abbrev pub row_of : Option (Vec Place Global) → List Place
row_of None = []
row_of (Some row) = row.items

-- each label has the row of its places
abbrev pub AreIndexed : (ℕ → Option (Vec Place Global)) → List (Option Pick) → Type 0
AreIndexed lookup picks = (n : ℕ) → row_of (lookup n) ≡ places_of n 0 picks

-- the places do not fall, from one on
abbrev pub RisesFrom : ℕ → List Place → Type 0
RisesFrom n [] = Unit {0}
RisesFrom n (p ∷ ps) = (n ≤ p.at) × RisesFrom p.at ps

-- a place between two bounds has the level
abbrev pub is_hit : ℕ → ℕ → ℕ → Place → Bool
is_hit b from to p = nat_le from p.at && (nat_lt p.at to && nat_eq b p.level)

-- so many places are below a bound, and the others are not
pub record BeginsAt (row : List Place) (from start : ℕ) : Type 0 where
  pub within : start ≤ length row
  pub below : (k : ℕ) (d : Place) → k < start → (slice_index_or row k d).at < from
  pub above : (k : ℕ) (d : Place) → start ≤ k → k < length row → from ≤ (slice_index_or row k d).at
