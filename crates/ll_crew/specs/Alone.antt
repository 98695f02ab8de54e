-- How far a search by the caller alone has come.
use Rattle.std.specs.Prelude.{◌≡◌, ◌+◌, List}
use Rattle.ll_laws.specs.declared.Event.{Event}
use Rattle.ll_laws.specs.declared.Counts.{Counts}
use Rattle.ll_laws.specs.Search.{cut_count}
use Rattle.ll_laws.specs.Problem.{ProblemTree, problem_events, problem_cost}
use Rattle.ll_order.specs.declared.outlet.Outlet.{Ghosts}
use Rattle.ll_order.specs.Drained.{Counting, Giving}
use Rattle.ll_engine.specs.Seen.{Owing}

-- some events of the problem were given to the outlet and counted, and the engine owes the rest
pub record IsAlone {O F : Type 0} (ways : Ghosts O F) (start : O) (p : ProblemTree) (engine : Owing) (out : O) (counts : Counts) : Type 0 where
  pub done : List Event
  pub giving : Giving ways.takes ways.welcome ways.faults start (problem_events p) out done engine.events
  pub counting : Counting (record { answers = 0; reached = 0; inferences = 0 }) counts done
  pub cost : cut_count (engine.made + engine.cost) ≡ cut_count (problem_cost p)
  pub problem : engine.problem ≡ p
