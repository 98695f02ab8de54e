-- Engines that begin with an alternative of a frozen choice point.
use Rattle.std.specs.Prelude.{◌≡◌, ◌-◌, ℕ, Bool, true, false, Option}
use Rattle.ll_laws.specs.declared.Event.{Event}
use Rattle.ll_laws.specs.State.{State}
use Rattle.ll_laws.specs.Pool.{Owed}
use Rattle.ll_laws.specs.Search.{events, cost}
use Rattle.ll_laws.specs.Problem.{ProblemTree, setting_of}
use Rattle.ll_laws.specs.Tried.{events_from, number_from}
use Rattle.ll_freeze.specs.Frozen.{FrozenSight, first_by}
use Rattle.ll_engine.specs.Seen.{Owing}
use Rattle.ll_engine.specs.Owed.{work}
use Rattle.ll_engine.specs.Steps.{fresh}

-- an engine before its first step whose search begins in this state, if there is one, where a branch may make n inferences
abbrev pub beginning : ProblemTree → ℕ → Option State → Owing
beginning p n first =
    record {
      problem = p;
      events = events_from (events (setting_of p) n) first;
      cost = number_from (cost (setting_of p) n) first;
      points = 0;
      first = first;
      splits = 0;
      work = number_from (work (setting_of p) n) first;
      made = 0;
      spent = false;
    }

abbrev pub resumed_by : Bool → FrozenSight → ℕ → Owing
resumed_by true f k = fresh f.problem
resumed_by false f k = beginning f.problem (f.left - 1) (first_by false f k)

-- the engine of alternative k before its first step: that of the start is the engine of the problem
abbrev pub resumed : FrozenSight → ℕ → Owing
resumed f k = resumed_by f.starts f k

-- The engine owes what the alternative owes, and has made no inference.
pub record Resumes (its : ProblemTree) (owes : Owed Event) (e : Owing) : Type 0 where
  pub problem : e.problem ≡ its
  pub events : e.events ≡ owes.events
  pub cost : e.cost ≡ owes.cost
  pub made : e.made ≡ 0
  pub going : e.spent ≡ false
