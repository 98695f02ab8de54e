-- What workers know of their seats.
use Rattle.std.specs.Prelude.{◌≡◌, ◌+◌, ◌<◌, List, length, Some, None}
use Rattle.ll_laws.specs.declared.Event.{Event}
use Rattle.ll_laws.specs.Pool.{Owed, PoolData}
use Rattle.ll_laws.specs.Sound.{Sound}
use Rattle.ll_laws.specs.Later.{Later}
use Rattle.ll_pool.specs.Turns.{PoolSight, SeatSight, HasQuit}
use Rattle.ll_pool.specs.declared.data.PoolProblem.{PoolProblem}
use Rattle.ll_core.specs.Given.{SameTaken}
use Rattle.ll_laws.specs.Problem.{ProblemTree}
use Rattle.ll_freeze.specs.Frozen.{FrozenSight, problem_owes, alternatives_in}

abbrev pub of_batch : FrozenSight → ProblemTree
of_batch b = b.problem

-- a seat of a pool of batches of problems
abbrev pub Sat : Type 0
Sat = SeatSight FrozenSight ProblemTree

abbrev pub asked : ProblemTree → PoolProblem ProblemTree
asked problem = record { of = problem; owes = problem_owes problem }

-- the pool is sound for this problem
abbrev pub IsSound : PoolData FrozenSight Event → ProblemTree → Type 0
IsSound p problem = Sound of_batch alternatives_in p problem (problem_owes problem)

-- it is a seat of this pool, whose root owes the whole search of the problem
pub record IsSeat (pool : PoolSight) (its : ProblemTree) (seat : Sat) : Type 0 where
  pub table : seat.table ≡ pool.table
  pub problem : seat.problem ≡ Some (asked its)

-- it is the same seat still, of the same worker, with the same seats made from it
pub record Same (before after : Sat) : Type 0 where
  pub table : after.table ≡ before.table
  pub problem : after.problem ≡ before.problem
  pub worker : after.mine.worker ≡ before.mine.worker
  pub given : after.given ≡ before.given

-- Some turns, none of which starved or stopped the pool or took a report. Worker 0 sees the same pieces taken
pub record Calm (before after : Sat) : Type 0 where
  pub same : Same before after
  pub quit : after.mine.quit ≡ before.mine.quit
  pub later : Later before.mine.seen after.mine.seen
  pub taken : before.mine.worker ≡ 0 → SameTaken before.mine.seen after.mine.seen
  pub sound : (problem : ProblemTree) → before.problem ≡ Some (asked problem) → IsSound before.mine.seen problem → IsSound after.mine.seen problem

-- the pool that the seat has last seen is starved or stopped
abbrev pub HasLeft : Sat → Type 0
HasLeft seat = HasQuit seat.mine.seen

module _ {N Of : Type 0} where
  -- The pool that the seat has last seen has no place for so many alternatives: a pool has at most 4294967295
  abbrev pub HasNoPlaceFor : List (Owed Event) → SeatSight N Of → Type 0
  HasNoPlaceFor alternatives seat = 4294967295 < seat.mine.seen.total + length alternatives

-- the same of the alternatives of a batch
abbrev pub HasNoPlace : FrozenSight → Sat → Type 0
HasNoPlace batch seat = HasNoPlaceFor (alternatives_in batch) seat

-- nothing is untried or open in the pool that the seat has last seen, which is sound, and the seat has no open piece
pub record IsOver (problem : ProblemTree) (seat : Sat) : Type 0 where
  pub sound : IsSound seat.mine.seen problem
  pub untried : seat.mine.seen.untried ≡ 0
  pub busy : seat.mine.seen.busy ≡ 0
  pub rests : seat.mine.piece ≡ None
