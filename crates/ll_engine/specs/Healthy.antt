-- What holds of an engine's choice points: each of them is on a way from the first state, with no more forks than are open.
use Rattle.std.specs.Prelude.{ℕ, ◌+◌, ◌≡◌, ◌≤◌, Bool, true, false, List, [], ◌∷◌, ◌++◌, Option, Some, None}
use Rattle.std.specs.List.{list_any}
use Rattle.ll_laws.specs.declared.Candidate.{Candidate}
use Rattle.ll_laws.specs.Module.{Setting}
use Rattle.ll_laws.specs.State.{State, settle}
use Rattle.ll_laws.specs.Attempt.{tries, attempt}
use Rattle.ll_laws.specs.Search.{same_candidate, gives_some, count_fork}
use Rattle.ll_laws.specs.Problem.{setting_of}
use Rattle.ll_engine.specs.Seen.{Point, Choices}
use Rattle.ll_engine.specs.Owed.{Thins, open_points}

-- no candidate stands twice
abbrev pub Distinct : List Candidate → Type 0
Distinct [] = Unit {0}
Distinct (c ∷ cs) = (list_any (same_candidate c) cs ≡ false) × Distinct cs

-- the state is reached from the state f by inferences so many of which are forks: a later candidate gives a state too
pub data Path (beside : Setting) (f : State) : State → ℕ → Type 0 where
  here : Path beside f f 0
  next : {u : State} {m : ℕ} (s t : State) (k : ℕ) (pre post : List Candidate) (c : Candidate) → Path beside f s k → settle s ≡ Some t
      → tries t ≡ pre ++ c ∷ post → list_any (same_candidate c) pre ≡ false → attempt beside t c ≡ Some u → m ≡ count_fork (gives_some beside t post) k
      → Path beside f u m

-- a point on a way from the first state: its untried candidates are what is left of its tries after those already taken, and at
-- most m forks lie before it
pub record IsPoint (beside : Setting) (f : State) (m : ℕ) (p : Point) : Type 0 where
  pub s : State
  pub forks : ℕ
  pub path : Path beside f s forks
  pub settled : settle s ≡ Some p.state
  pub fits : forks ≤ m
  pub distinct : Distinct (tries p.state)
  pub pre : List Candidate
  pub post : List Candidate
  pub cut : tries p.state ≡ pre ++ post
  pub thins : Thins beside p.state p.untried post

-- each point has before it at most k forks and one for each older point with an untried candidate
abbrev pub ArePoints : Setting → State → ℕ → List Point → Type 0
ArePoints beside f k [] = Unit {0}
ArePoints beside f k (p ∷ ps) = IsPoint beside f (k + open_points ps) p × ArePoints beside f k ps

-- a state on a way from the first state, with at most m forks before it
pub record IsNow (beside : Setting) (f s : State) (m : ℕ) : Type 0 where
  pub forks : ℕ
  pub path : Path beside f s forks
  pub fits : forks ≤ m

-- a state that is still to be searched has before it at most k forks and one for each point with an untried candidate
abbrev pub RunsFrom : Setting → State → ℕ → Bool → State → List Point → Type 0
RunsFrom beside f k true s ps = IsNow beside f s (k + open_points ps)
RunsFrom beside f k false s ps = Unit {0}

-- a search without a first state has nothing to do
abbrev pub HealthyFrom : Option State → ℕ → Bool → Choices → Type 0
HealthyFrom None k running z = (running ≡ false) × (z.points ≡ [])
HealthyFrom (Some f) k running z = ArePoints (setting_of z.problem) f k z.points × RunsFrom (setting_of z.problem) f k running z.now z.points

-- all points, and the state where it is still to be searched, are on ways from the first state, after k splits
abbrev pub Healthy : ℕ → Bool → Choices → Type 0
Healthy k running z = HealthyFrom z.first k running z
