-- What candidates of a settled state owe: the events and the inferences of the states that they give.
use Rattle.std.specs.Prelude.{ℕ, ◌+◌, List, [], ◌∷◌, ◌++◌, Option, Some, None}
use Rattle.ll_laws.specs.declared.Candidate.{Candidate}
use Rattle.ll_laws.specs.declared.Event.{Event}
use Rattle.ll_laws.specs.Module.{Setting}
use Rattle.ll_laws.specs.State.{State}
use Rattle.ll_laws.specs.Attempt.{attempt}
use Rattle.ll_laws.specs.Search.{events, cost}
use Rattle.ll_laws.specs.Pool.{Owed}

-- the events of the state that a candidate gives, if it gives one
abbrev pub events_from : (State → List Event) → Option State → List Event
events_from f None = []
events_from f (Some u) = f u

-- a number of the state that a candidate gives, if it gives one
abbrev pub number_from : (State → ℕ) → Option State → ℕ
number_from f None = 0
number_from f (Some u) = f u

-- the events that candidates of the settled state t owe, in order, where a branch may make n inferences after one of them
abbrev pub tried_events : Setting → ℕ → State → List Candidate → List Event
tried_events beside n t [] = []
tried_events beside n t (c ∷ cs) = events_from (events beside n) (attempt beside t c) ++ tried_events beside n t cs

-- the inferences that they owe
abbrev pub tried_cost : Setting → ℕ → State → List Candidate → ℕ
tried_cost beside n t [] = 0
tried_cost beside n t (c ∷ cs) = number_from (cost beside n) (attempt beside t c) + tried_cost beside n t cs

-- what one candidate owes
abbrev pub candidate_owes : Setting → ℕ → State → Candidate → Owed Event
candidate_owes beside n t c = record { events = events_from (events beside n) (attempt beside t c); cost = number_from (cost beside n) (attempt beside t c) }
