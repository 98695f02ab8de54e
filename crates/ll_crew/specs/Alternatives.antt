-- What alternatives owe, one after the other.
use Rattle.std.specs.Prelude.{ℕ, List, flat_map, sum_by}
use Rattle.ll_laws.specs.declared.Event.{Event}
use Rattle.ll_laws.specs.Pool.{Owed}

-- their events
abbrev pub events_in : List (Owed Event) → List Event
events_in os = flat_map (λ (o : Owed Event). o.events) os

-- their inferences
abbrev pub cost_in : List (Owed Event) → ℕ
cost_in os = sum_by (λ (o : Owed Event). o.cost) os
