-- The order in which alternatives are claimed.
use Rattle.std.specs.Prelude.{◌≡◌, ℕ, ◌<◌, List, Some, slice_get}
use Rattle.ll_laws.specs.Pool.{Alternative}
use Rattle.ll_laws.specs.Sound.{Each}

-- each alternative stands in the list once, after the ones of its batch with smaller k
pub record Orderly (len : ℕ → ℕ) (order : List Alternative) : Type 0 where
  pub inside : Each order (λ a. a.k < len a.batch)
  pub apart : (i j : ℕ) (a : Alternative) → slice_get order i ≡ Some a → slice_get order j ≡ Some a → i ≡ j
  pub next : (i : ℕ) (a : Alternative) → slice_get order i ≡ Some a → (j : ℕ) → j < a.k
      → (h : ℕ) × (h < i) × (slice_get order h ≡ Some (record { batch = a.batch; k = j }))
  pub all : (b k : ℕ) → k < len b → (i : ℕ) × (slice_get order i ≡ Some (record { batch = b; k = k }))
