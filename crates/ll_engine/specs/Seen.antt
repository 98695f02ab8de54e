-- What contracts see of choice points, of a machine with its choice points, and of engines.
use Rattle.std.specs.Prelude.{ℕ, Bool, List, Option}
use Rattle.ll_laws.specs.declared.Candidate.{Candidate}
use Rattle.ll_laws.specs.declared.Event.{Event}
use Rattle.ll_laws.specs.State.{State}
use Rattle.ll_laws.specs.Problem.{ProblemTree}

-- a choice point: a settled state with a goal in front, the candidates of this goal that were not tried yet, and the number of
-- inferences that a branch may make after one of them
pub record Point : Type 0 where
  pub state : State
  pub left : ℕ
  pub untried : List Candidate

-- a machine with its choice points, the newest in front, and the state in which its search began; none where the alternative in
-- which it was to begin gives none
pub record Choices : Type 0 where
  pub problem : ProblemTree
  pub first : Option State
  pub now : State
  pub left : ℕ
  pub points : List Point

-- an engine
pub record Owing : Type 0 where
  pub problem : ProblemTree
  -- the events that are still to come, in order
  pub events : List Event
  -- how many inferences are still to be made
  pub cost : ℕ
  -- how many choice points have a candidate that was not tried yet
  pub points : ℕ
  -- the state in which the search began
  pub first : Option State
  -- how many batches were split off
  pub splits : ℕ
  -- the steps to the end are at most so many
  pub work : ℕ
  -- how many inferences were made, as it is told
  pub made : ℕ
  -- a step was refused
  pub spent : Bool
