-- What contracts see of frozen choice points, and what their alternatives owe.
use Rattle.std.specs.Prelude.{◌≡◌, ◌<◌, ◌-◌, ◌^◌, ℕ, Bool, true, false, List, [], ◌∷◌, map, length, All, Option, Some, slice_get, option_and_then}
use Rattle.std.specs.List.{Contains}
use Rattle.ll_laws.specs.declared.Candidate.{Candidate}
use Rattle.ll_laws.specs.declared.Event.{Event}
use Rattle.ll_laws.specs.State.{State}
use Rattle.ll_laws.specs.Attempt.{tries, attempt}
use Rattle.ll_laws.specs.Pool.{Owed}
use Rattle.ll_laws.specs.Problem.{ProblemTree, setting_of, start_of, problem_events, problem_cost}
use Rattle.ll_laws.specs.Tried.{candidate_owes}
use Rattle.ll_freeze.specs.Parts.{Parts, Base, base_of}
use Rattle.ll_freeze.specs.Shown.{state_of}
use Rattle.ll_freeze.specs.Fits.{Fits}

-- A frozen choice point: the state of a search of this problem, how many inferences a branch may still make in it, and candidates of its goal
-- that are to be tried. At the start of the search there is no choice yet: one candidate stands for the whole search, and is not tried.
pub record FrozenSight : Type 0 where
  pub problem : ProblemTree
  pub state : State
  pub left : ℕ
  pub untried : List Candidate
  pub starts : Bool
  -- what the terms of its machines are read in when they are made
  pub base : Base
  -- how many of the batches that it goes on from share with it
  pub depth : ℕ

-- what the whole search of a problem owes
abbrev pub problem_owes : ProblemTree → Owed Event
problem_owes p = record { events = problem_events p; cost = problem_cost p }

-- the alternative of the start owes the whole search, and any other one what its candidate owes
abbrev pub alternatives_by : Bool → FrozenSight → List (Owed Event)
alternatives_by true f = problem_owes f.problem ∷ []
alternatives_by false f = map (candidate_owes (setting_of f.problem) (f.left - 1) f.state) f.untried

-- what each alternative owes, in order
abbrev pub alternatives_in : FrozenSight → List (Owed Event)
alternatives_in f = alternatives_by f.starts f

-- the state that alternative k gives, at the start the one in which the search starts; none where its candidate gives none
abbrev pub first_by : Bool → FrozenSight → ℕ → Option State
first_by true f k = Some (start_of f.problem)
first_by false f k = option_and_then (attempt (setting_of f.problem) f.state) (slice_get f.untried k)

abbrev pub first_in : FrozenSight → ℕ → Option State
first_in f k = first_by f.starts f k

-- all are candidates of the state's first goal
abbrev pub AreTries : State → List Candidate → Type 0
AreTries s cs = All (λ c. Contains (tries s) c) cs

-- where nothing is chosen
abbrev pub no_choice : Candidate
no_choice = record { label = 0; leaf = 0 }

-- at the start the state is the one in which the search starts, with the whole bound; otherwise an inference by a candidate is still allowed
abbrev pub StandsBy : Bool → FrozenSight → Type 0
StandsBy true f = (f.state ≡ start_of f.problem) × (f.left ≡ f.problem.bound) × (f.untried ≡ no_choice ∷ [])
StandsBy false f = (0 < f.left) × AreTries f.state f.untried

abbrev pub FrozenStands : FrozenSight → Type 0
FrozenStands f = StandsBy f.starts f

-- the start of a problem's search, which shares with no other
abbrev pub opening : ProblemTree → Base → FrozenSight
opening p base = record { problem = p; state = start_of p; left = p.bound; untried = no_choice ∷ []; starts = true; base = base; depth = 0 }

-- the parts of a machine with these candidates as a frozen choice point, which shares with so many
abbrev pub sight_of : Parts → List Candidate → Bool → ℕ → FrozenSight
sight_of m cs starts depth = record { problem = m.problem; state = state_of m; left = m.left; untried = cs; starts = starts; base = base_of m; depth = depth }

-- what a frozen choice point keeps
pub record IsFrozen (m : Parts) (cs : List Candidate) (starts : Bool) (depth : ℕ) : Type 0 where
  pub fits : Fits m
  pub stands : FrozenStands (sight_of m cs starts depth)
  pub count : length cs < 2 ^ 32

-- the machine is in the state as it was frozen
pub record Thaws (f : FrozenSight) (m : Parts) : Type 0 where
  pub problem : m.problem ≡ f.problem
  pub state : state_of m ≡ f.state
  pub left : m.left ≡ f.left
  pub base : base_of m ≡ f.base
  pub fits : Fits m
