-- How a worker goes on from a turn, or leaves.
use Rattle.std.specs.Prelude.{◌≡◌, ◌⊎◌, true, None}
use Rattle.ll_pool.specs.Turns.{PoolSight}
use Rattle.ll_laws.specs.Problem.{ProblemTree}
use Rattle.ll_crew.specs.Seats.{Sat, IsSeat, IsSound, Same, HasLeft}

-- it goes on with the same seat, and with what stands
pub record Stays (standing : Type 0) (before after : Sat) : Type 0 where
  pub same : Same before after
  pub quit : after.mine.quit ≡ before.mine.quit
  pub stands : standing

-- it goes on with the same seat, the same open piece, and what stands
pub record KeepsPiece (standing : Type 0) (before after : Sat) : Type 0 where
  pub same : Same before after
  pub piece : after.mine.piece ≡ before.mine.piece
  pub quit : after.mine.quit ≡ before.mine.quit
  pub stands : standing

-- It leaves with the same seat, whose pool is starved or stopped. Unless the outlet refused an event, it was not this worker that did so
pub record LeavesPool (end refused : Type 0) (before after : Sat) : Type 0 where
  pub same : Same before after
  pub left : HasLeft after
  pub quit : (refused → ⊥) → after.mine.quit ≡ before.mine.quit
  pub stopped : end

-- it has come to the end: nothing is untried or open in the pool
pub record Ended (standing : Type 0) (problem : ProblemTree) (before after : Sat) : Type 0 where
  pub stays : Stays standing before after
  pub piece : after.mine.piece ≡ None
  pub sound : IsSound after.mine.seen problem
  pub untried : after.mine.seen.untried ≡ 0
  pub busy : after.mine.seen.busy ≡ 0

-- it gave up because memory ran out: the pool is starved
pub record Fails (end : Type 0) (before after : Sat) : Type 0 where
  pub same : Same before after
  pub starved : after.mine.seen.starved ≡ true
  pub stopped : end

-- a seat that may begin to work
pub record CanWork (pool : PoolSight) (problem : ProblemTree) (its : Sat) : Type 0 where
  pub seat : IsSeat pool problem its
  pub rests : its.mine.piece ≡ None

-- a seat after its work, which may be taken back
pub record Worked (before after : Sat) : Type 0 where
  pub table : after.table ≡ before.table
  pub worker : after.mine.worker ≡ before.mine.worker
  pub done : (after.mine.piece ≡ None) ⊎ HasLeft after
