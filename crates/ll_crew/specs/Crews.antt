-- The seats of a crew.
use Rattle.std.specs.Prelude.{◌≡◌, ◌⊎◌, ℕ, suc, List, [], ◌∷◌, Option, Some, None, length, map}
use Rattle.ll_turn.specs.Views.{without}
use Rattle.ll_laws.specs.declared.Event.{Event}
use Rattle.ll_laws.specs.Pool.{Owed}
use Rattle.ll_laws.specs.CoreEvents.{opening}
use Rattle.ll_laws.specs.Sound.{Every}
use Rattle.ll_pool.specs.declared.data.PoolProblem.{PoolProblem}
use Rattle.ll_pool.specs.Fits.{problem_of}
use Rattle.ll_pool.specs.Turns.{PoolSight, SeatSight, HasQuit}
use Rattle.ll_crew.specs.Seats.{Sat, HasLeft}
use Rattle.ll_crew.specs.Turns.{Worked}

abbrev pub worker_of : Sat → ℕ
worker_of s = s.mine.worker

module _ {N Of : Type 0} where
  -- the same, whatever the batches of the seat's pool are
  abbrev pub number_of : SeatSight N Of → ℕ
  number_of s = s.mine.worker

  -- it is a seat of this pool, and has no open piece or has seen that the pool is starved or stopped
  abbrev pub MayJoin : PoolSight → SeatSight N Of → Type 0
  MayJoin pool seat = (seat.table ≡ pool.table) × ((seat.mine.piece ≡ None) ⊎ HasQuit seat.mine.seen)

  -- it is a seat of this pool, which is of this, and has no open piece
  abbrev pub MayBegin : PoolSight → Option (PoolProblem Of) → SeatSight N Of → Type 0
  MayBegin pool problem seat = (seat.table ≡ pool.table) × (seat.problem ≡ problem) × (seat.mine.piece ≡ None)

-- the numbers of a list that are none of these
abbrev pub without_all : List ℕ → List ℕ → List ℕ
without_all [] xs = xs
without_all (a ∷ rest) xs = without_all rest (without a xs)

-- a new pool with this root for so many workers, the seat of its first worker, and the seats of all others: a seat for each worker
pub record IsCrew {N Of : Type 0} (of : N → Of) (alternatives : N → List (Owed Event)) (root : N) (workers : ℕ) (pool : PoolSight)
    (first : SeatSight N Of) (others : List (SeatSight N Of)) : Type 0 where
  pub leads : MayBegin pool (Some (problem_of of alternatives root)) first
  pub worker : first.mine.worker ≡ 0
  pub seen : first.mine.seen ≡ opening root workers
  pub follow : Every (MayBegin pool (Some (problem_of of alternatives root))) others
  pub numbers : without_all (map number_of others) first.given ≡ []
  pub each : suc (length others) ≡ workers

-- seats after their work, in the same order
abbrev pub EachWorked : List Sat → List Sat → Type 0
EachWorked [] [] = Unit {0}
EachWorked [] (y ∷ ys) = ⊥
EachWorked (x ∷ xs) [] = ⊥
EachWorked (x ∷ xs) (y ∷ ys) = Worked x y × EachWorked xs ys

-- a seat of this pool that may be taken back
pub record IsBack (pool : PoolSight) (seat : Sat) : Type 0 where
  pub table : seat.table ≡ pool.table
  pub done : (seat.mine.piece ≡ None) ⊎ HasLeft seat
