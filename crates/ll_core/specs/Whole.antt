-- What holds of each pool, its stack among it.
use Rattle.std.specs.Prelude.{◌≡◌, ℕ, ◌+◌, ◌<◌, ◌≤◌, List, ◌++◌, Some, slice_get, slice_index, map, length}
use Rattle.ll_laws.specs.Pool.{Owed, PoolData, Alternative}
use Rattle.ll_laws.specs.Spread.{length_of}
use Rattle.ll_laws.specs.Sound.{Shaped}
use Rattle.ll_core.specs.Cursor.{PointsIn}
use Rattle.ll_core.specs.Formed.{Formed, place_of, place_in}
use Rattle.ll_laws.specs.declared.Event.{Event}
use Rattle.ll_core.specs.declared.room.Waiting.{Waiting}

pub record Whole {N : Type 0} (alternatives : N → List (Owed Event)) (v : PoolData N Event) (waiting : List (Waiting N)) (starts : List ℕ)
    (stack : List Alternative) (capacity stack_capacity : ℕ) : Type 0 where
  pub formed : Formed alternatives v.batches v.pieces waiting capacity v.busy
  pub shaped : Shaped alternatives v
  pub points : PointsIn alternatives v stack
  pub filled : (c : ℕ) → c < length v.batches → 0 < length_of alternatives v c
  pub begins : (b k : ℕ) → k < length_of alternatives v b → slice_get (map place_of v.pieces ++ map (λ (w : Waiting N). place_in w) waiting)
      (slice_index starts b + k) ≡ Some (record { batch = b; k = k })
  pub long : length starts ≡ length v.batches
  pub wide : length v.batches ≤ stack_capacity
