-- How a worker goes on, or leaves, with what it has at hand.
use Rattle.std.specs.Prelude.{◌≡◌, ℕ, ◌+◌, List}
use Rattle.std.specs.Arc.{arc_value}
use Rattle.ll_laws.specs.declared.Event.{Event}
use Rattle.ll_laws.specs.Pool.{Owed}
use Rattle.ll_order.specs.declared.outlet.Outlet.{Ghosts}
use Rattle.ll_freeze.specs.Frozen.{alternatives_in}
use Rattle.ll_engine.specs.Seen.{Owing}
use Rattle.ll_crew.specs.Alternatives.{events_in, cost_in}
use Rattle.ll_crew.specs.Leading.{Stands, Stopped, WasRefused}
use Rattle.ll_crew.specs.Pieces.{IsOwed}
use Rattle.ll_crew.specs.Turns as turns
use Rattle.ll_crew.specs.declared.job.Job.{Job}
use Rattle.ll_crew.specs.Runs as runs
use Rattle.ll_crew.specs.declared.piece.Alternative.{Alternative}
use Rattle.ll_crew.specs.declared.piece.Ending.{Ending}
use Rattle.ll_crew.specs.declared.piece.Ran.{Ran}
use Rattle.ll_crew.specs.declared.piece.Rest.{Rest}
use Rattle.ll_crew.specs.declared.worker.ClaimOutcome.{ClaimOutcome}
use Rattle.ll_crew.specs.declared.worker.Worker.{Worker}

-- it has the same seat and the same outlet still, and leads if it did
pub record Holds {O F : Type 0} (before after : Worker O F) : Type 0 where
  pub leads : after.told.now.leads ≡ before.told.now.leads
  pub seat : after.seat.ghost_name ≡ before.seat.ghost_name
  pub told : after.told.ghost_name ≡ before.told.ghost_name
  pub kept : after.kept.ghost_name ≡ before.kept.ghost_name
  pub out : after.out.ghost_name ≡ before.out.ghost_name

module _ {R G O F : Type 0} (ways : Ghosts O F) (job : Job R G O F) where
  -- if it leads, the outlet refused nothing
  abbrev pub Standing : Worker O F → Type 0
  Standing w = Stands ways job w.seat.now w.out.now w.told.now

  -- it stopped, since the outlet refused an event, or since the pool was starved
  abbrev pub Stopping : Worker O F → Type 0
  Stopping w = Stopped ways job w.out.now w.told.now

  -- what `Turns` and `Runs` say of seats, said of the workers that have them
  abbrev pub Stays : Worker O F → Worker O F → Type 0
  Stays before after = turns.Stays (Standing after) before.seat.now after.seat.now

  abbrev pub Leaves : Worker O F → Worker O F → Type 0
  Leaves before after = turns.LeavesPool (Stopping after) (WasRefused after.told.now) before.seat.now after.seat.now

  abbrev pub Ended : Worker O F → Worker O F → Type 0
  Ended before after = turns.Ended (Standing after) job.problem.now before.seat.now after.seat.now

  abbrev pub RunsTo : Ran → Worker O F → Worker O F → List Event → Owing → Type 0
  RunsTo ran before after = runs.RunsTo (Standing after) (Stopping after) (WasRefused after.told.now) job.problem.now ran before.seat.now
      after.seat.now

  abbrev pub RunsAlone : Worker O F → Worker O F → List Event → Owing → List Event → Owing → Type 0
  RunsAlone before after = runs.RunsAlone (Standing after) before.seat.now after.seat.now

  -- this alternative was run to its end
  abbrev pub RunsOne : Worker O F → Worker O F → List Event → Alternative → List Event → ℕ → Type 0
  RunsOne before after found claimed events n = (owes : Owed Event) → IsOwed claimed owes
      → runs.RunsOne (Standing after) before.seat.now after.seat.now found owes events n

  -- all alternatives of the batch that came back were run
  abbrev pub RunsAll : Worker O F → Worker O F → List Event → Rest → List Event → ℕ → Type 0
  RunsAll before after found rest = runs.RunsAll (Standing after) before.seat.now after.seat.now found
      (events_in (alternatives_in (arc_value rest.batch))) (rest.inferences + cost_in (alternatives_in (arc_value rest.batch)))

  abbrev pub Reports : Worker O F → Worker O F → List Event → ℕ → Type 0
  Reports before after = runs.Reports (Standing after) before.seat.now after.seat.now

  abbrev pub EndsTo : Ending → Worker O F → Worker O F → List Event → Type 0
  EndsTo ending before after = runs.EndsTo (Standing after) (Stopping after) (WasRefused after.told.now) job.problem.now ending
      before.seat.now after.seat.now

  abbrev pub WentTo : ClaimOutcome → Worker O F → Worker O F → Type 0
  WentTo went before after = runs.WentTo (Standing after) (Stopping after) (WasRefused after.told.now) job.problem.now went
      before.seat.now after.seat.now
