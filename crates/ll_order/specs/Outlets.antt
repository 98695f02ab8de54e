-- What was given to an outlet, and counted.
use Rattle.std.specs.Prelude.{◌≡◌, ◌⊎◌, ℕ, ◌<◌, List, [], ◌∷◌, ◌++◌, count_by, flat_map, sum_by}
use Rattle.ll_laws.specs.declared.Event.{Event}
use Rattle.ll_laws.specs.declared.Counts.{Counts}
use Rattle.ll_laws.specs.Pool.{Owed, PoolData}
use Rattle.ll_laws.specs.Search.{cut_count, is_answer, is_reached}
use Rattle.ll_laws.specs.CoreEvents.{reports_left}

-- a count rose: it is greater after than before, or stands at the greatest u64
abbrev pub Rose : ℕ → ℕ → Type 0
Rose before after = (before < after) ⊎ (after ≡ 18446744073709551615)

-- the outlet took the events, one after the other; what else is given in order, as the queries of a session are, is taken in the same way
abbrev pub Gives : {O X : Type 0} → (O → X → O → Type 0) → O → List X → O → Type 0
Gives takes before [] after = after ≡ before
Gives {O = O} takes before (e ∷ es) after = (between : O) × takes before e between × Gives takes between es after

-- the outlet took the events in front of one that it refused
pub record Refuses {O X : Type 0} (takes breaks : O → X → O → Type 0) (before : O) (events : List X) (after : O) : Type 0 where
  pub front : List X
  pub refused : X
  pub back : List X
  pub between : O
  pub order : events ≡ front ++ refused ∷ back
  pub given : Gives takes before front between
  pub broke : breaks between refused after

-- a prefix of the events was given, and the outlet may have refused the next one
abbrev pub GivesPrefix : {O : Type 0} → (O → Event → O → Type 0) → (O → Event → O → Type 0) → O → List Event → O → Type 0
GivesPrefix takes breaks before events after = ((front : List Event) × (back : List Event) × (events ≡ front ++ back) × Gives takes before front after)
    ⊎ Refuses takes breaks before events after

-- the numbers of answers, of branches that reached the bound and of inferences, each cut at the greatest u64
abbrev pub CountsOf : Counts → List Event → ℕ → Type 0
CountsOf counts events cost = (counts.answers ≡ cut_count (count_by is_answer events)) × (counts.reached ≡ cut_count (count_by is_reached events))
    × (counts.inferences ≡ cut_count cost)

module _ {N : Type 0} (alternatives : N → List (Owed Event)) where
  -- the events of the reports that are still to be taken, in walk order
  abbrev pub events_left : PoolData N Event → List Event
  events_left p = flat_map (λ (o : Owed Event). o.events) (reports_left alternatives p)

  -- and their cost
  abbrev pub cost_left : PoolData N Event → ℕ
  cost_left p = sum_by (λ (o : Owed Event). o.cost) (reports_left alternatives p)
