-- What worker 0 has told the outlet.
use Rattle.std.specs.Prelude.{◌≡◌, ◌↔◌, ◌≤◌, List, ◌++◌, Bool, true, None, IsSome, MatchOption}
use Rattle.ll_laws.specs.declared.Event.{Event}
use Rattle.ll_laws.specs.declared.Counts.{Counts}
use Rattle.ll_laws.specs.Pool.{Owed, PoolData}
use Rattle.ll_laws.specs.Sound.{Every}
use Rattle.ll_core.specs.Given.{Given}
use Rattle.ll_order.specs.Outlets.{Rose, Gives, Refuses, CountsOf}
use Rattle.ll_order.specs.declared.outlet.Outlet.{Ghosts}
use Rattle.ll_order.specs.declared.outlet.OutFault.{OutFault}
use Rattle.ll_order.specs.declared.outlet.OutFault.TheVariants.{Write}
use Rattle.ll_laws.specs.Problem.{ProblemTree}
use Rattle.ll_freeze.specs.Frozen.{FrozenSight, problem_owes, alternatives_in}
use Rattle.ll_crew.specs.Alternatives.{events_in, cost_in}
use Rattle.ll_crew.specs.Seats.{Sat, IsSound, of_batch}
use Rattle.ll_crew.specs.declared.job.Job.{Job}
use Rattle.ll_crew.specs.declared.lead.Delivery.{Delivery}

-- nothing was told yet
abbrev pub nothing_told : Bool → Delivery
nothing_told leads = record { leads = leads; counts = record { answers = 0; reached = 0; inferences = 0 }; fault = None }

-- the worker leads, and the outlet refused an event
abbrev pub WasRefused : Delivery → Type 0
WasRefused told = (told.leads ≡ true) × IsSome told.fault

-- what the ghost members of an outlet say of it
module _ {O F : Type 0} (ways : Ghosts O F) where
  -- the outlet's count has not fallen, and the same events are welcome to it
  pub record Kept (start out : O) : Type 0 where
    pub no_fewer : ways.faults start ≤ ways.faults out
    pub same_welcome : (e : Event) → ways.welcome start e ↔ ways.welcome out e

  -- The reports that are taken from the pool were given to the outlet, and counted. All events of the problem are welcome still
  pub record Leads (start : O) (problem : ProblemTree) (seen : PoolData FrozenSight Event) (out : O) (counts : Counts) : Type 0 where
    pub sound : IsSound seen problem
    pub reports : List (Owed Event)
    pub taken : Given of_batch alternatives_in seen reports
    pub given : Gives ways.takes start (events_in reports) out
    pub counted : CountsOf counts (events_in reports) (cost_in reports)
    pub wanted : Every (ways.welcome out) (problem_owes problem).events
    pub kept : Kept start out

  -- a prefix of the events was given, and the outlet refused the next one
  pub record Broke (start : O) (problem : ProblemTree) (out : O) (fault : OutFault) : Type 0 where
    pub refused : Refuses ways.takes ways.breaks start (problem_owes problem).events out
    pub write : fault ≡ Write → Rose (ways.faults start) (ways.faults out)

  -- a prefix of the events was given
  abbrev pub PrefixGiven : O → ProblemTree → O → Type 0
  PrefixGiven start problem out = (front : List Event) × (back : List Event) × ((problem_owes problem).events ≡ front ++ back)
      × Gives ways.takes start front out

  -- A worker that leads is worker 0, and the outlet refused nothing
  abbrev pub StandsOf : O → ProblemTree → Sat → O → Delivery → Type 0
  StandsOf start problem seat out told = told.leads ≡ true
      → (seat.mine.worker ≡ 0) × (told.fault ≡ None) × Leads start problem seat.mine.seen out told.counts

  -- it stopped, since the outlet refused an event, or since the pool was starved
  abbrev pub StoppedOf : O → ProblemTree → O → Delivery → Type 0
  StoppedOf start problem out told = told.leads ≡ true
      → Kept start out × MatchOption told.fault (PrefixGiven start problem out) (λ f. Broke start problem out f)

-- the same of what a job searches, and of the outlet as the crew was given it
module _ {R G O F : Type 0} (ways : Ghosts O F) (job : Job R G O F) where
  abbrev pub Stands : Sat → O → Delivery → Type 0
  Stands = StandsOf ways job.start.now.value job.problem.now

  abbrev pub Stopped : O → Delivery → Type 0
  Stopped = StoppedOf ways job.start.now.value job.problem.now
