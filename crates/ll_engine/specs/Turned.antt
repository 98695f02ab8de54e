-- What the calls of a machine with choice points do, and one turn of an engine.
use Rattle.std.specs.Prelude.{ℕ, suc, ◌+◌, ◌≡◌, ◌≤◌, Bool, true, false, not, ◌||◌, List, [], ◌∷◌, ◌++◌, drop, length, Option, Some, None}
use Rattle.ll_bank.specs.Form.{Form}
use Rattle.ll_laws.specs.declared.Candidate.{Candidate}
use Rattle.ll_laws.specs.declared.Event.{Event}
use Rattle.ll_laws.specs.declared.Event.TheVariants.{Answer}
use Rattle.ll_laws.specs.Settle.{Item, has_live}
use Rattle.ll_laws.specs.State.{State, settle}
use Rattle.ll_laws.specs.Attempt.{tries, attempt}
use Rattle.ll_laws.specs.Search.{forks}
use Rattle.ll_laws.specs.Problem.{ProblemTree, setting_of}
use Rattle.ll_engine.specs.Seen.{Point, Choices}
use Rattle.ll_engine.specs.Owed.{Thins, put_point, open_points, events_of_choices, cost_of_choices, work_of_choices}
use Rattle.ll_engine.specs.Healthy.{Distinct, Healthy}

-- nothing is left to prove
abbrev pub is_empty : List (Item Form) → Bool
is_empty [] = true
is_empty (i ∷ is) = false

-- there is no choice point
abbrev pub has_none : List Point → Bool
has_none [] = true
has_none (p ∷ ps) = false

-- a state with nothing left to prove is an answer
abbrev pub answers : State → Bool
answers t = not (has_live t.context) || t.flag

-- at the start of a problem's search
abbrev pub starting : ProblemTree → State → Choices
starting p s = record { problem = p; first = Some s; now = s; left = p.bound; points = [] }

-- the state alone was settled, or its settling fails
abbrev pub Settles : Choices → Bool → Choices → Type 0
Settles old true new = (new ≡ record old { now = new.now }) × (settle old.now ≡ Some new.now)
Settles old false new = (new ≡ record old { now = new.now }) × (settle old.now ≡ None)

-- a candidate gave the present state, or none
abbrev pub Gave : Option State → ℕ → Bool → Choices → Type 0
Gave o n true new = (o ≡ Some new.now) × (new.left ≡ n)
Gave o n false new = o ≡ None

-- the first of the candidates of t was attempted, and a point keeps the others, if there are any
abbrev pub Chose : Choices → State → ℕ → List Candidate → List Point → Bool → Choices → Type 0
Chose old t n [] ps running new = (new ≡ record old { now = new.now; left = new.left; points = ps }) × (running ≡ false)
Chose old t n (c ∷ cs) ps running new =
    (new ≡ record old { now = new.now; left = new.left; points = put_point t n cs ps }) × Gave (attempt (setting_of old.problem) t c) n running new

-- the present state's goal was taken apart by its first candidate that may give a state
pub record Expands (old : Choices) (running : Bool) (new : Choices) : Type 0 where
  pub candidates : List Candidate
  pub left : ℕ
  pub left_is : old.left ≡ suc left
  pub thins : Thins (setting_of old.problem) old.now candidates (tries old.now)
  pub distinct : Distinct (tries old.now)
  pub chose : Chose old old.now left candidates old.points running new

-- the newest of these points gave its first untried candidate
abbrev pub RetriesAt : Choices → List Point → Bool → Choices → Type 0
RetriesAt old [] running new = ⊥
RetriesAt old (p ∷ ps) running new = Chose old p.state p.left p.untried ps running new

-- the newest point gave its first untried candidate
abbrev pub Retries : Choices → Bool → Choices → Type 0
Retries old running new = RetriesAt old old.points running new

-- after an answer at least the forks of its branch, less the splits k, are still open
abbrev pub ForksKept : Choices → ℕ → List Event → Choices → Type 0
ForksKept old k (Answer a ∷ es) new =
    (f : State) → old.first ≡ Some f → forks (setting_of old.problem) (drop (length f.steps) a.steps) f ≤ k + open_points new.points
ForksKept old k _ new = Unit {0}

-- One turn: the events found and the inferences made go off what is owed, and there is less work.
pub record Turned (old : Choices) (was : Bool) (found : List Event) (made : ℕ) (new : Choices) (running : Bool) : Type 0 where
  pub problem : new.problem ≡ old.problem
  pub first : new.first ≡ old.first
  pub events : events_of_choices was old ≡ found ++ events_of_choices running new
  pub cost : cost_of_choices was old ≡ made + cost_of_choices running new
  pub work : suc (work_of_choices running new) ≤ work_of_choices was old
  pub healthy : (k : ℕ) → Healthy k was old → Healthy k running new
  pub forks : (k : ℕ) → Healthy k was old → ForksKept old k found new
