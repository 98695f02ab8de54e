-- What the public calls of an engine do.
use Rattle.std.specs.Prelude.{suc, ◌+◌, ◌-◌, ◌≡◌, ◌≤◌, false, List, [], ◌∷◌, ◌++◌, drop, length, Some}
use Rattle.ll_laws.specs.declared.Event.{Event}
use Rattle.ll_laws.specs.declared.Event.TheVariants.{Answer}
use Rattle.ll_laws.specs.State.{State}
use Rattle.ll_laws.specs.Search.{forks, cut_count}
use Rattle.ll_laws.specs.Problem.{ProblemTree, setting_of, start_of, problem_events, problem_cost}
use Rattle.ll_engine.specs.Seen.{Owing}
use Rattle.ll_engine.specs.Owed.{work}
use Rattle.ll_engine.specs.declared.engine.Step2.{Step2}
use Rattle.ll_engine.specs.declared.engine.Step2.TheVariants.{Moved, Event as Found, Done}
use Rattle.ll_engine.specs.declared.engine.Progress.{Progress}
use Rattle.ll_engine.specs.declared.engine.Progress.TheVariants.{Moved as Goes, Noted, Done as Over}

-- the engine of a problem before its first step: it owes the whole search
abbrev pub fresh : ProblemTree → Owing
fresh p =
    record {
      problem = p;
      events = problem_events p;
      cost = problem_cost p;
      points = 0;
      first = Some (start_of p);
      splits = 0;
      work = work (setting_of p) p.bound (start_of p);
      made = 0;
      spent = false;
    }

-- the event that a step told
abbrev pub found_in : Step2 → List Event
found_in (Found e) = e ∷ []
found_in _ = []

-- the engine is done where nothing is owed, no cost is left and no point has an untried candidate; each other step lessens the work
abbrev pub Ends : Owing → Step2 → Owing → Type 0
Ends old Done new = (new ≡ old) × (old.events ≡ []) × (old.cost ≡ 0) × (old.points ≡ 0)
Ends old _ new = suc new.work ≤ old.work

-- after an answer at least the forks of its branch from the first state, less the splits, are still open
abbrev pub KeepsForks : Step2 → Owing → Type 0
KeepsForks (Found (Answer a)) new =
    (f : State) → new.first ≡ Some f → forks (setting_of new.problem) (drop (length f.steps) a.steps) f ≤ new.splits + new.points
KeepsForks _ new = Unit {0}

-- One step that was not refused. It takes its event off what is owed, and tells as many more inferences as the cost falls.
pub record Steps (old : Owing) (s : Step2) (new : Owing) : Type 0 where
  pub problem : new.problem ≡ old.problem
  pub first : new.first ≡ old.first
  pub splits : new.splits ≡ old.splits
  pub going : new.spent ≡ false
  pub events : old.events ≡ found_in s ++ new.events
  pub cost : new.cost ≤ old.cost
  pub made : new.made ≡ cut_count (old.made + (old.cost - new.cost))
  pub ends : Ends old s new
  pub forks : KeepsForks s new

-- one step, whose event was put behind those that there were
abbrev pub Notes : Owing → Progress → List Event → List Event → Owing → Type 0
Notes old Goes before after new = Steps old Moved new × (after ≡ before)
Notes old Noted before after new = (e : Event) × Steps old (Found e) new × (after ≡ before ++ e ∷ [])
Notes old Over before after new = Steps old Done new × (after ≡ before)
