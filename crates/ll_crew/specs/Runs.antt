-- How the run of an engine ends, and the turns of a worker.
use Rattle.std.specs.Prelude.{◌≡◌, ℕ, ◌+◌, ◌<◌, List, [], ◌++◌, take, Option, Some, None, IsSomeAnd}
use Rattle.std.specs.Arc.{arc_value}
use Rattle.ll_laws.specs.declared.Event.{Event}
use Rattle.ll_laws.specs.Pool.{Owed}
use Rattle.ll_laws.specs.Search.{cut_count}
use Rattle.ll_laws.specs.Sound.{report_of}
use Rattle.ll_pool.specs.declared.data.OpenPiece.{OpenPiece}
use Rattle.ll_laws.specs.Problem.{ProblemTree}
use Rattle.ll_freeze.specs.Frozen.{alternatives_in}
use Rattle.ll_engine.specs.Seen.{Owing}
use Rattle.ll_crew.specs.Seats.{Sat}
use Rattle.ll_crew.specs.Alternatives.{events_in, cost_in}
use Rattle.ll_crew.specs.Pieces.{OwesAll, OwesAfter, Lacks}
use Rattle.ll_crew.specs.Turns.{Stays, KeepsPiece, LeavesPool, Ended}
use Rattle.ll_crew.specs.declared.piece.Shared.{Shared}
use Rattle.ll_crew.specs.declared.piece.Shared.TheVariants.{Nothing, Published}
use Rattle.ll_crew.specs.declared.piece.Shared.TheVariants as share
use Rattle.ll_crew.specs.declared.piece.Ran.{Ran}
use Rattle.ll_crew.specs.declared.piece.Ran.TheVariants.{Done, Back, Left}
use Rattle.ll_crew.specs.declared.piece.Ending.{Ending}
use Rattle.ll_crew.specs.declared.piece.Ending.TheVariants as ending
use Rattle.ll_crew.specs.declared.worker.ClaimOutcome.{ClaimOutcome}
use Rattle.ll_crew.specs.declared.worker.ClaimOutcome.TheVariants as went

-- nothing was left to share, or the oldest choice point was published and there is one less, or the batch came back
abbrev pub SharesTo : Option OpenPiece → List Event → Owing → Owing → Shared → Type 0
SharesTo piece events old new Nothing = OwesAfter piece events old new None
SharesTo piece events old new Published = OwesAfter piece events old new None × (new.points < old.points)
SharesTo piece events old new (share.Back batch) = OwesAfter piece events old new (Some batch)

-- the engine has nothing left, or the piece owes a batch that came back, too, or the worker leaves
abbrev pub RunsTo : Type 0 → Type 0 → Type 0 → ProblemTree → Ran → Sat → Sat → List Event → Owing → Type 0
RunsTo standing end refused problem Done before after events engine =
    Stays standing before after × OwesAll after.mine.piece events engine [] × (engine.events ≡ []) × (engine.cost ≡ 0)
RunsTo standing end refused problem (Back batch) before after events engine =
    Stays standing before after × OwesAll after.mine.piece events engine (alternatives_in (arc_value batch)) × ((arc_value batch).problem ≡ problem)
RunsTo standing end refused problem Left before after events engine = LeavesPool end refused before after

-- the engine gave all that it owed, and nothing was published
pub record RunsAlone (standing : Type 0) (before after : Sat) (found : List Event) (old : Owing) (events : List Event) (new : Owing) : Type 0 where
  pub goes : KeepsPiece standing before after
  pub whole : events ≡ found ++ old.events
  pub made : cut_count new.made ≡ cut_count (old.made + old.cost)

-- an alternative was run to its end: its events were added, and nothing was published
pub record RunsOne (standing : Type 0) (before after : Sat) (found : List Event) (owes : Owed Event) (events : List Event) (inferences : ℕ) : Type 0 where
  pub goes : KeepsPiece standing before after
  pub whole : events ≡ found ++ owes.events
  pub made : cut_count inferences ≡ cut_count owes.cost

-- so many inferences were added, and these events, and nothing was published
pub record RunsAll (standing : Type 0) (before after : Sat) (found owed : List Event) (cost : ℕ) (events : List Event) (inferences : ℕ) : Type 0 where
  pub goes : KeepsPiece standing before after
  pub whole : events ≡ found ++ owed
  pub counted : inferences ≡ cut_count cost

-- the first k alternatives of a batch were run
abbrev pub RunsFirst : Type 0 → Sat → Sat → List Event → ℕ → List (Owed Event) → ℕ → List Event → ℕ → Type 0
RunsFirst standing before after found first owed k events inferences =
    RunsAll standing before after found (events_in (take k owed)) (first + cost_in (take k owed)) events inferences

-- the piece is to be closed with these events and inferences
pub record Reports (standing : Type 0) (before after : Sat) (events : List Event) (inferences : ℕ) : Type 0 where
  pub stays : Stays standing before after
  pub whole : IsSomeAnd after.mine.piece (λ (piece : OpenPiece). record { events = events; cost = inferences } ≡ report_of piece.owes)

-- the engine of a piece has nothing left: the piece is to be closed, or owes a batch that came back, unless the worker leaves
abbrev pub EndsTo : Type 0 → Type 0 → Type 0 → ProblemTree → Ending → Sat → Sat → List Event → Type 0
EndsTo standing end refused problem (ending.Whole n) before after events = Reports standing before after events n
EndsTo standing end refused problem (ending.Partly n batch) before after events =
    Stays standing before after × IsSomeAnd after.mine.piece (Lacks events n (alternatives_in (arc_value batch))) × ((arc_value batch).problem ≡ problem)
EndsTo standing end refused problem ending.Left before after events = LeavesPool end refused before after

-- how a claim went: the seat has no open piece, unless the worker leaves
abbrev pub WentTo : Type 0 → Type 0 → Type 0 → ProblemTree → ClaimOutcome → Sat → Sat → Type 0
WentTo standing end refused problem went.Worked before after = Stays standing before after × (after.mine.piece ≡ None)
WentTo standing end refused problem went.Idle before after = Stays standing before after × (after.mine.piece ≡ None)
WentTo standing end refused problem went.Ended before after = Ended standing problem before after
WentTo standing end refused problem went.Left before after = LeavesPool end refused before after

-- where nothing was untried the worker's seat has taken a turn since
abbrev pub TakesTurn : ClaimOutcome → Sat → Sat → Type 0
TakesTurn went.Worked before after = Unit {0}
TakesTurn went.Idle before after = before.mine.turns < after.mine.turns
TakesTurn went.Ended before after = Unit {0}
TakesTurn went.Left before after = Unit {0}
