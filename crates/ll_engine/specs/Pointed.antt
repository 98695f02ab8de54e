-- Choice points, which are marks of a machine with the candidates not tried yet.
use Rattle.std.specs.Prelude.{◌-◌, ◌<◌, ◌≡◌, ◌≢◌, Bool, true, false, List, [], ◌∷◌, reverse, map, All, Option, Some, None}
use Rattle.std.specs.List.{Contains}
use Rattle.std.specs.Arc.{arc_value}
use Rattle.ll_laws.specs.declared.Candidate.{Candidate}
use Rattle.ll_laws.specs.Attempt.{tries}
use Rattle.ll_laws.specs.State.{State}
use Rattle.ll_laws.specs.Problem.{ProblemTree}
use Rattle.ll_freeze.specs.declared.machine.Machine.{Machine}
use Rattle.ll_freeze.specs.Parts.{Parts, parts_of, parts_at, IsGood, IsBefore}
use Rattle.ll_engine.specs.declared.choices.ChoicePoint.{ChoicePoint}
use Rattle.ll_engine.specs.declared.choices.Choices.{Choices as Stored}
use Rattle.ll_freeze.specs.Shown.{state_of}
use Rattle.ll_freeze.specs.Fits.{Fits}
use Rattle.ll_freeze.specs.Indexed.{IsIndexOf}
use Rattle.ll_engine.specs.Based.{IsBased}
use Rattle.ll_engine.specs.Seen.{Point, Choices}
use Rattle.ll_engine.specs.Owed.{put_point}
use Rattle.ll_engine.specs.Turned.{is_empty, Chose}

-- what a choice point keeps: the parts of a machine, and the candidates not tried yet, the first one last
pub record Held : Type 0 where
  pub parts : Parts
  pub untried : List Candidate

-- the parts that the machine had at the mark
abbrev pub held_of : Machine → ChoicePoint → Held
held_of m k = record { parts = parts_at k.mark m; untried = k.untried.items }

abbrev pub helds : Machine → List ChoicePoint → List Held
helds m ps = map (held_of m) ps

-- the choice point that these are
abbrev pub point_of : Held → Point
point_of h = record { state = state_of h.parts; left = h.parts.left - 1; untried = reverse h.untried }

-- choice points that are kept with the newest last
abbrev pub points_of : List Held → List Point
points_of ps = map point_of (reverse ps)

-- a machine with its choice points, of a search that began in this state, if there was one
abbrev pub choices_at : Option State → ProblemTree → Parts → List Held → Choices
choices_at first p m ps = record { problem = p; first = first; now = state_of m; left = m.left; points = points_of ps }

-- the state of the machine with which a search began, if it did
abbrev pub began_in : Bool → Parts → Option State
began_in true m = Some (state_of m)
began_in false m = None

abbrev pub first_of : Stored → Option State
first_of z = began_in z.began (parts_of z.origin.value)

abbrev pub choices_of : Stored → Choices
choices_of z = choices_at (first_of z) z.problem.now (parts_of z.machine) (helds z.machine z.points.items)

-- all are candidates of the machine's first goal
abbrev pub AreTries : Parts → List Candidate → Type 0
AreTries m cs = All (λ c. Contains (tries (state_of m)) c) cs

-- a machine with a goal in front and a bound left, of a search of this problem
pub record IsOpen (p : ProblemTree) (m : Parts) : Type 0 where
  pub fits : Fits m
  pub problem : m.problem ≡ p
  pub goal : is_empty (state_of m).agenda ≡ false
  pub left : 0 < m.left

-- a choice point of a search of this problem, with a candidate that was not tried yet
pub record IsKept (p : ProblemTree) (h : Held) : Type 0 where
  pub opened : IsOpen p h.parts
  pub tries : AreTries h.parts h.untried
  pub some : h.untried ≢ []

-- choice points of a search of this problem
abbrev pub AreKept : ProblemTree → List Held → Type 0
AreKept p ps = All (IsKept p) ps

-- a machine that is still to be searched is one of a search of this problem; nothing is said of another
abbrev pub IsRunning : Bool → ProblemTree → Parts → Type 0
IsRunning true p m = Fits m × (m.problem ≡ p)
IsRunning false p m = Unit {0}

-- a machine with choice points, of which the machine is still to be searched or not
pub record IsSoundAt (running : Bool) (p : ProblemTree) (m : Parts) (ps : List Held) : Type 0 where
  pub points : AreKept p ps
  pub machine : IsRunning running p m

-- each mark is before the later ones
abbrev pub Rises : List ChoicePoint → Type 0
Rises [] = Unit {0}
Rises (k ∷ ks) = All (λ j. IsBefore k.mark j.mark) ks × Rises ks

-- the machine can go back to each choice point, the newest first
pub record AreMarks (m : Machine) (ps : List ChoicePoint) : Type 0 where
  pub good : All (λ k. IsGood k.mark m) ps
  pub rise : Rises ps

pub record IsSound (running : Bool) (z : Stored) : Type 0 where
  pub index : IsIndexOf z.problem.now (arc_value z.index)
  pub sound : IsSoundAt running z.problem.now (parts_of z.machine) (helds z.machine z.points.items)
  pub marks : AreMarks z.machine z.points.items
  pub based : IsBased z.machine z.points.items z.ancestor

-- one point more, where it has an untried candidate; they are kept with the first one last
abbrev pub Puts : Parts → List Candidate → List Held → List Held → Type 0
Puts m cs ps qs = points_of qs ≡ put_point (state_of m) (m.left - 1) (reverse cs) (points_of ps)

-- with a machine and candidates of its first goal, the points stay those of a search
abbrev pub KeepsKept : Parts → List Candidate → List Held → List Held → Type 0
KeepsKept m cs ps qs = (p : ProblemTree) → IsOpen p m → AreTries m cs → AreKept p ps → AreKept p qs

-- the last of these candidates was attempted, and a point keeps the others
abbrev pub ChoseOf : Stored → List Candidate → Bool → Stored → Type 0
ChoseOf old cs running new =
    Chose (choices_of old) (state_of (parts_of old.machine)) (old.machine.left - 1) (reverse cs) (points_of (helds old.machine old.points.items)) running
    (choices_of new)
