-- What the piece of a worker owes, while its engine runs.
use Rattle.std.specs.Prelude.{◌≡◌, ℕ, ◌+◌, ◌-◌, ◌<◌, ◌≤◌, List, [], ◌++◌, Bool, true, false, Option, Some, None, IsSomeAnd, slice_get}
use Rattle.std.specs.Arc.{arc_value}
use Rattle.std.specs.declared.sync.Arc.{Arc}
use Rattle.std.specs.declared.alloc.Global.{Global}
use Rattle.ll_laws.specs.declared.Event.{Event}
use Rattle.ll_laws.specs.Pool.{Owed}
use Rattle.ll_laws.specs.Search.{cut_count}
use Rattle.ll_laws.specs.Problem.{ProblemTree}
use Rattle.ll_pool.specs.declared.data.OpenPiece.{OpenPiece}
use Rattle.ll_freeze.specs.Frozen.{FrozenSight, alternatives_in}
use Rattle.ll_engine.specs.Seen.{Owing}
use Rattle.ll_crew.specs.Alternatives.{events_in, cost_in}
use Rattle.ll_crew.specs.declared.piece.Alternative.{Alternative}

-- a worker has kept no engine, or one of this problem
abbrev pub IsKeptOf : ProblemTree → Option Owing → Type 0
IsKeptOf problem None = Unit {0}
IsKeptOf problem (Some engine) = engine.problem ≡ problem

-- an alternative that was claimed owes this
abbrev pub IsOwed : Alternative → Owed Event → Type 0
IsOwed claimed owes = slice_get (alternatives_in (arc_value claimed.batch)) claimed.k ≡ Some owes

-- an engine went on for a while, and its events were put behind those that there were
pub record Stretched (done : Bool) (before : List Event) (old : Owing) (after : List Event) (new : Owing) : Type 0 where
  pub problem : new.problem ≡ old.problem
  pub events : after ++ new.events ≡ before ++ old.events
  pub cost : new.cost ≤ old.cost
  pub made : cut_count new.made ≡ cut_count (old.made + (old.cost - new.cost))
  pub ended : done ≡ true → (new.events ≡ []) × (new.cost ≡ 0)
  pub less : done ≡ false → new.work < old.work

-- so many steps of it
pub record Stretching (before : List Event) (old : Owing) (after : List Event) (new : Owing) (count : ℕ) : Type 0 where
  pub problem : new.problem ≡ old.problem
  pub events : after ++ new.events ≡ before ++ old.events
  pub cost : new.cost ≤ old.cost
  pub made : cut_count new.made ≡ cut_count (old.made + (old.cost - new.cost))
  pub work : new.work + count ≤ old.work

-- The piece owes the events that were found, then what the engine owes, and then what these alternatives owe. The inferences that the
-- engine tells are those of what was found
pub record Owes (piece : OpenPiece) (found : List Event) (engine : Owing) (rest : List (Owed Event)) : Type 0 where
  pub done : ℕ
  pub events : piece.owes.events ≡ found ++ (engine.events ++ events_in rest)
  pub cost : piece.owes.cost ≡ done + (engine.cost + cost_in rest)
  pub made : cut_count engine.made ≡ cut_count done

abbrev pub OwesAll : Option OpenPiece → List Event → Owing → List (Owed Event) → Type 0
OwesAll piece events engine rest = IsSomeAnd piece (λ (x : OpenPiece). Owes x events engine rest)

-- a piece has these events and inferences, and then those of these alternatives
pub record Lacks (found : List Event) (inferences : ℕ) (rest : List (Owed Event)) (piece : OpenPiece) : Type 0 where
  pub events : piece.owes.events ≡ found ++ events_in rest
  pub cost : cut_count piece.owes.cost ≡ cut_count (inferences + cost_in rest)

abbrev pub back_alternatives : Option (Arc FrozenSight Global) → List (Owed Event)
back_alternatives None = []
back_alternatives (Some batch) = alternatives_in (arc_value batch)

-- after a sharing: the piece owes what came back, too
pub record OwesAfter (piece : Option OpenPiece) (events : List Event) (old new : Owing) (back : Option (Arc FrozenSight Global)) : Type 0 where
  pub owes : OwesAll piece events new (back_alternatives back)
  pub problem : new.problem ≡ old.problem
  pub work : new.work ≤ old.work
  pub of : (batch : Arc FrozenSight Global) → back ≡ Some batch → (arc_value batch).problem ≡ old.problem
