-- The search of one depth-first engine: its events in order, what it costs, and where it forks.
use Rattle.std.specs.Prelude.{ℕ, zero, suc, Bool, true, false, ◌||◌, ◌&&◌, not, List, [], ◌∷◌, length, replicate, nat_eq, Option, Some, None, is_some}
use Rattle.std.specs.Prelude.{if◌then◌else◌, flat_map, sum_by, min}
use Rattle.std.specs.List.{list_any}
use Rattle.ll_bank.specs.Form.{Form}
use Rattle.ll_laws.specs.declared.Step.{Step}
use Rattle.ll_laws.specs.declared.Step.TheVariants.{Right, Clause as ClauseStep}
use Rattle.ll_laws.specs.declared.Candidate.{Candidate}
use Rattle.ll_laws.specs.declared.Event.{Event}
use Rattle.ll_laws.specs.declared.Event.TheVariants.{Answer, Reached}
use Rattle.ll_laws.specs.Module.{ClauseTree, Setting}
use Rattle.ll_laws.specs.Settle.{Entry, Item, Goal, has_live}
use Rattle.ll_laws.specs.State.{State, settle}
use Rattle.ll_laws.specs.Attempt.{is_linear, vars_from, tries, attempt, successors}

-- the entries of a program's clauses, the first of the text in front, with labels from n on
abbrev pub program_entries : ℕ → List ClauseTree → List (Entry Form)
program_entries n [] = []
program_entries n (c ∷ cs) = record { label = n; kind = c.kind; live = is_linear c.kind; clause = c.form } ∷ program_entries (suc n) cs

-- the state in which the search of a goal over program clauses starts, with so many variables asked for
abbrev pub start : List ClauseTree → Form → ℕ → State
start clauses goal asked =
    record {
      agenda = Goal goal ∷ [];
      context = program_entries 0 clauses;
      flag = false;
      levels = replicate asked 0;
      eigens = 0;
      terms = vars_from 0 asked;
      label = length clauses;
      steps = [];
    }

-- a state with nothing left to prove is an answer where no linear entry is live or the flag is set
abbrev pub answer_of : State → List Event
answer_of t = if not (has_live t.context) || t.flag then Answer (record { terms = t.terms; steps = t.steps }) ∷ [] else []

-- the events of a settled state with this agenda, where `more` gives those of a state with a goal in front
abbrev pub events_of : (State → List Event) → State → List (Item Form) → List Event
events_of more t [] = answer_of t
events_of more t (i ∷ rest) = more t

-- the events of what settling gave
abbrev pub events_settled : (State → List Event) → Option State → List Event
events_settled more None = []
events_settled more (Some t) = events_of more t t.agenda

-- the events of a state with the bound n: what `search` is in the README
unfoldable pub events : Setting → ℕ → State → List Event
events m zero s = events_settled (λ t. Reached ∷ []) (settle s)
events m (suc n) s = events_settled (λ t. flat_map (events m n) (successors m t)) (settle s)

-- the cost of a settled state with this agenda, where `more` gives that of a state with a goal in front
abbrev pub cost_of : (State → ℕ) → State → List (Item Form) → ℕ
cost_of more t [] = 0
cost_of more t (i ∷ rest) = more t

-- the cost of what settling gave
abbrev pub cost_settled : (State → ℕ) → Option State → ℕ
cost_settled more None = 0
cost_settled more (Some t) = cost_of more t t.agenda

-- the number of inferences of a state with the bound n
unfoldable pub cost : Setting → ℕ → State → ℕ
cost m zero s = 0
cost m (suc n) s = cost_settled (λ t. suc (sum_by (cost m n) (successors m t))) (settle s)

-- an event is an answer
abbrev pub is_answer : Event → Bool
is_answer Reached = false
is_answer (Answer a) = true

-- an event says that the bound was reached
abbrev pub is_reached : Event → Bool
is_reached Reached = true
is_reached (Answer a) = false

-- some event says that the bound was reached
abbrev pub any_reached : List Event → Bool
any_reached es = list_any is_reached es

-- a count that is printed or kept in 64 bits: the exact one, cut at the greatest number of 64 bits
abbrev pub cut_count : ℕ → ℕ
cut_count n = min n 18446744073709551615

-- the candidate that a step took
abbrev pub candidate_of : Step → Candidate
candidate_of Right = record { label = 0; leaf = 1 }
candidate_of (ClauseStep label k) = record { label = label; leaf = k }
candidate_of _ = record { label = 0; leaf = 0 }

-- two candidates are the same
abbrev pub same_candidate : Candidate → Candidate → Bool
same_candidate c d = nat_eq c.label d.label && nat_eq c.leaf d.leaf

-- the candidates after this one
abbrev pub later : Candidate → List Candidate → List Candidate
later c [] = []
later c (d ∷ ds) = if same_candidate c d then ds else later c ds

-- some of the candidates gives a state
abbrev pub gives_some : Setting → State → List Candidate → Bool
gives_some m s cs = list_any (λ c. is_some (attempt m s c)) cs

-- one more where a later candidate gives a state
abbrev pub count_fork : Bool → ℕ → ℕ
count_fork true n = suc n
count_fork false n = n

-- the forks from the state that a candidate gave
abbrev pub forks_after : (State → ℕ) → Option State → ℕ
forks_after go None = 0
forks_after go (Some u) = go u

-- the forks of a state that settling gave, from the step that took this candidate on
abbrev pub forks_settled : Setting → Candidate → (State → ℕ) → Option State → ℕ
forks_settled m c go None = 0
forks_settled m c go (Some t) = count_fork (gives_some m t (later c (tries t))) (forks_after go (attempt m t c))

-- at how many of these steps from the state on a candidate after the taken one gives a state
unfoldable pub forks : Setting → List Step → State → ℕ
forks m [] s = 0
forks m (c ∷ cs) s = forks_settled m (candidate_of c) (forks m cs) (settle s)
