-- The calls of a pool as core events.
use Rattle.std.specs.Prelude.{◌≡◌, ℕ, List, Some, slice_get}
use Rattle.std.specs.Arc.{arc_value}
use Rattle.std.specs.declared.result.Result.{Result}
use Rattle.std.specs.declared.result.Result.TheVariants.{Ok, Err}
use Rattle.ll_laws.specs.Pool.{Owed, PoolData}
use Rattle.ll_laws.specs.CoreEvents.{Claims, Looks, PublishAnswer, Done, ReadyAnswer, Overview}
use Rattle.ll_laws.specs.CoreEvents as event
use Rattle.ll_laws.specs.declared.Event.{Event}
use Rattle.ll_core.specs.declared.answers.Claimed.{Claimed}
use Rattle.ll_core.specs.declared.answers.Claimed.TheVariants.{Work, Idle, Finished, Starved, Stopped}
use Rattle.ll_core.specs.declared.answers.PublishFault.{PublishFault}
use Rattle.ll_core.specs.declared.answers.PublishFault.TheVariants.{Full, OutOfMemory}
use Rattle.ll_core.specs.declared.answers.Look.{Look}
use Rattle.ll_core.specs.declared.answers.Ready.{Ready}
use Rattle.ll_core.specs.declared.answers.Ready.TheVariants.{Events, NotYet, All}

-- what a look shows
abbrev pub overview : Look → Overview
overview look = record { untried = look.untried; busy = look.busy; starved = look.starved; stopped = look.stopped }

module _ {N : Type 0} where
  -- the claim of a worker with this answer: with work comes the batch itself
  abbrev pub ClaimsAs : (N → List (Owed Event)) → PoolData N Event → ℕ → Claimed N → PoolData N Event → Type 0
  ClaimsAs alternatives p w (Work piece batch k) q = (b : ℕ) × (slice_get p.batches b ≡ Some (arc_value batch))
      × Claims alternatives p w (event.Work piece b k) q
  ClaimsAs alternatives p w (Idle busy) q = Claims alternatives p w (event.Idle busy) q
  ClaimsAs alternatives p w Finished q = Claims alternatives p w event.Finished q
  ClaimsAs alternatives p w Starved q = Claims alternatives p w event.Starved q
  ClaimsAs alternatives p w Stopped q = Claims alternatives p w event.Stopped q

  abbrev pub publish_answer : Result (Unit {0}) (PublishFault N) → PublishAnswer
  publish_answer (Ok done) = Done
  publish_answer (Err (Full total batch)) = event.Full total
  publish_answer (Err (OutOfMemory batch)) = event.NoMemory

  -- a fault holds the batch that was to be published
  abbrev pub HandsBack : N → Result (Unit {0}) (PublishFault N) → Type 0
  HandsBack n (Ok done) = Unit {0}
  HandsBack n (Err (Full total batch)) = arc_value batch ≡ n
  HandsBack n (Err (OutOfMemory batch)) = arc_value batch ≡ n

  -- a look with this answer
  abbrev pub LooksAs : (N → List (Owed Event)) → PoolData N Event → Look → PoolData N Event → Type 0
  LooksAs alternatives p look q = Looks alternatives p (overview look) q

abbrev pub ready_answer : {E : Type 0} → Ready E → ReadyAnswer Event
ready_answer (Events report) = event.Events report
ready_answer (NotYet piece) = event.NotYet piece
ready_answer All = event.All
