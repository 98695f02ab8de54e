-- What a stack of choice points owes, and the work that it still makes.
use Rattle.std.specs.Prelude.{ℕ, zero, suc, ◌+◌, ◌≡◌, Bool, true, false, List, [], ◌∷◌, ◌++◌, None}
use Rattle.ll_laws.specs.declared.Candidate.{Candidate}
use Rattle.ll_laws.specs.declared.Event.{Event}
use Rattle.ll_laws.specs.Module.{Setting}
use Rattle.ll_laws.specs.State.{State, settle}
use Rattle.ll_laws.specs.Attempt.{tries, attempt}
use Rattle.ll_laws.specs.Search.{events, cost}
use Rattle.ll_laws.specs.Tried.{number_from, tried_events, tried_cost}
use Rattle.ll_laws.specs.Problem.{setting_of}
use Rattle.ll_engine.specs.Seen.{Point, Choices, Owing}

-- what choice points owe, the newest first
abbrev pub owed : Setting → List Point → List Event
owed beside [] = []
owed beside (p ∷ ps) = tried_events beside p.left p.state p.untried ++ owed beside ps

-- the inferences that choice points owe
abbrev pub cost_left : Setting → List Point → ℕ
cost_left beside [] = 0
cost_left beside (p ∷ ps) = tried_cost beside p.left p.state p.untried + cost_left beside ps

-- 1 where there is a candidate
abbrev pub one_if_some : List Candidate → ℕ
one_if_some [] = 0
one_if_some (c ∷ cs) = 1

-- how many choice points have an untried candidate
abbrev pub open_points : List Point → ℕ
open_points [] = 0
open_points (p ∷ ps) = one_if_some p.untried + open_points ps

-- one step for each candidate, with the steps of the state that it gives, and one that finds none left
abbrev pub work_by : (State → ℕ) → Setting → State → List Candidate → ℕ
work_by f beside t [] = 1
work_by f beside t (c ∷ cs) = suc (number_from f (attempt beside t c) + work_by f beside t cs)

-- the steps that the search of a state takes, at most
unfoldable pub work : Setting → ℕ → State → ℕ
work beside zero s = 1
work beside (suc n) s = suc (number_from (λ t. work_by (work beside n) beside t (tries t)) (settle s))

-- the steps that choice points take, at most
abbrev pub work_left : Setting → List Point → ℕ
work_left beside [] = 0
work_left beside (p ∷ ps) = work_by (work beside p.left) beside p.state p.untried + work_left beside ps

-- the first where a state is still to be searched, and otherwise the second
abbrev pub if_running : {A : Type 0} → Bool → A → A → A
if_running true x y = x
if_running false x y = y

-- what a machine with its choice points owes, where its own state is still to be searched or not
abbrev pub events_of_choices : Bool → Choices → List Event
events_of_choices running z = if_running running (events (setting_of z.problem) z.left z.now) [] ++ owed (setting_of z.problem) z.points

-- the inferences that it owes
abbrev pub cost_of_choices : Bool → Choices → ℕ
cost_of_choices running z = if_running running (cost (setting_of z.problem) z.left z.now) 0 + cost_left (setting_of z.problem) z.points

-- the steps that it takes, at most
abbrev pub work_of_choices : Bool → Choices → ℕ
work_of_choices running z = if_running running (work (setting_of z.problem) z.left z.now) 0 + work_left (setting_of z.problem) z.points

-- the first list has the candidates of the second, in order, without some that give nothing
pub data Thins (beside : Setting) (t : State) : List Candidate → List Candidate → Type 0 where
  thin_end : Thins beside t [] []
  thin_keep : {c : Candidate} {cs ds : List Candidate} → Thins beside t cs ds → Thins beside t (c ∷ cs) (c ∷ ds)
  thin_skip : {d : Candidate} {cs ds : List Candidate} → attempt beside t d ≡ None → Thins beside t cs ds → Thins beside t cs (d ∷ ds)

-- one choice point more, where it has an untried candidate
abbrev pub put_point : State → ℕ → List Candidate → List Point → List Point
put_point t n [] ps = ps
put_point t n (c ∷ cs) ps = record { state = t; left = n; untried = c ∷ cs } ∷ ps

-- what is seen of an engine
abbrev pub owing : Choices → Bool → ℕ → ℕ → Bool → Owing
owing z running made splits spent =
    record {
      problem = z.problem;
      events = events_of_choices running z;
      cost = cost_of_choices running z;
      points = open_points z.points;
      first = z.first;
      splits = splits;
      work = work_of_choices running z;
      made = made;
      spent = spent;
    }
