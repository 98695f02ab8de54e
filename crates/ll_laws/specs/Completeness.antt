-- The laws by which a search finds whatever a derivation shows.
use Rattle.std.specs.Prelude.{◌≡◌, ◌≤◌, ◌<◌, ◌+◌, ℕ, suc, true, false, List, [], ◌∷◌, map, length, take, slice_get, slice_index, Some, Contains}
use Rattle.std.specs.List.{list_any, list_all}
use Rattle.ll_bank.specs.Term.{Term, sub, is_closed, eigens_below}
use Rattle.ll_laws.specs.declared.Event.{Event}
use Rattle.ll_laws.specs.declared.Event.TheVariants.{Reached, Answer}
use Rattle.ll_laws.specs.Answered.{Answered}
use Rattle.ll_laws.specs.Module.{Setting}
use Rattle.ll_laws.specs.State.{State, sub_state}
use Rattle.ll_laws.specs.Search.{events, cut_count}
use Rattle.ll_laws.specs.Problem.{ProblemTree, setting_of, start_of, problem_events}
use Rattle.ll_laws.specs.Valid.{AreModules, IsValid}
use Rattle.ll_laws.specs.Consistent.{IsConsistent}
use Rattle.ll_laws.specs.Line.{DerivationLines, counts_numbers}
use Rattle.ll_laws.specs.Verdict.{DerivationShows}
use Rattle.ll_laws.specs.Run.{Run, run_start}
use Rattle.ll_laws.specs.Dealt.{asked_terms}
use Rattle.ll_laws.specs.Instance.{IsInstance, hide}
use Rattle.ll_laws.specs.Output.{run_status}

-- ---- from dealings to leftovers

-- A derivation that shows the query with closed terms for its variables, and without whole-number goals.
pub record ShowsClosed (p : ProblemTree) (d : DerivationLines) : Type 0 where
  pub shows : DerivationShows p d
  pub closed : list_all is_closed d.asked ≡ true
  pub numberless : list_any counts_numbers d.nodes ≡ false

-- What a derivation shows, as many inferences of a run bring to an answer, from the start where its terms for the query's variables
-- have lost their eigenvariables, whatever the variables are named that take their place.
abbrev pub ShownRuns : Type 0
ShownRuns =
    (p : ProblemTree) (d : DerivationLines) (name : Term → ℕ) → IsValid p → ShowsClosed p d
    → Run (setting_of p) (length d.nodes) (run_start p (map (hide name) d.asked))

-- The variables can be named so that closed terms are an instance of what is left of them.
abbrev pub HiddenCover : Type 0
HiddenCover = (ts : List Term) → list_all is_closed ts ≡ true → (name : Term → ℕ) × IsInstance (map (hide name) ts) ts

-- ---- lifting

-- a closed term for each variable, whose eigenvariables are below the variable's level
pub record FitLevels (levels : List ℕ) (f : ℕ → Term) : Type 0 where
  pub closed : (x : ℕ) → is_closed (f x) ≡ true
  pub below : (x : ℕ) → x < length levels → eigens_below (slice_index levels x) (f x) ≡ true

-- an answer of a search with this bound, of whose terms `terms` are an instance, with so many steps
pub record Covers (m : Setting) (n : ℕ) (s : State) (terms : List Term) (steps : ℕ) : Type 0 where
  pub answer : Answered
  pub found : Contains (events m n s) (Answer answer)
  pub instance : IsInstance (take (length terms) answer.terms) terms
  pub count : length answer.steps ≡ steps

-- What a run brings to an answer from a consistent state with closed terms put for its variables, a search with as great a bound finds
-- from the state itself.
abbrev pub RunsAreFound : Type 0
RunsAreFound =
    (names : ℕ) (m : Setting) (s : State) (f : ℕ → Term) (size bound : ℕ) → AreModules names m.modules m.modules → IsConsistent m s → FitLevels s.levels f
    → Run m size (sub_state f s) → size ≤ bound → Covers m bound s (map (sub f) s.terms) (length s.steps + size)

-- ---- completeness

-- Of each derivation that shows the query with at most so many nodes, the terms are an instance of those of an answer of the search with
-- this bound, and the answer's branch has as many steps as the derivation has nodes.
abbrev pub ShownIsFound : Type 0
ShownIsFound =
    (p : ProblemTree) (d : DerivationLines) (bound : ℕ) → IsValid p → ShowsClosed p d → length d.nodes ≤ bound
    → Covers (setting_of p) bound (start_of p) d.asked (length d.nodes)

-- the same of the search of a problem
abbrev pub ShownIsAnswered : Type 0
ShownIsAnswered =
    (p : ProblemTree) (d : DerivationLines) → IsValid p → ShowsClosed p d → length d.nodes ≤ p.bound
    → (a : Answered) × Contains (problem_events p) (Answer a) × IsInstance (asked_terms p a) d.asked × (length a.steps ≡ length d.nodes)

-- the answers among events, in order
abbrev pub answers_in : List Event → List Answered
answers_in [] = []
answers_in (Reached ∷ es) = answers_in es
answers_in (Answer a ∷ es) = a ∷ answers_in es

-- The number names an answer of the problem's search, counted from 1 and cut as counts are, of whose terms those of the derivation are an
-- instance, and whose branch has as many steps as the derivation has nodes.
pub record NamesCover (p : ProblemTree) (d : DerivationLines) (number : ℕ) : Type 0 where
  pub place : ℕ
  pub counted : number ≡ cut_count (suc place)
  pub answer : Answered
  pub is : slice_get (answers_in (problem_events p)) place ≡ Some answer
  pub instance : IsInstance (asked_terms p answer) d.asked
  pub steps : length answer.steps ≡ length d.nodes

-- there is a number that names such an answer
abbrev pub ShownIsNumbered : Type 0
ShownIsNumbered = (p : ProblemTree) (d : DerivationLines) → IsValid p → ShowsClosed p d → length d.nodes ≤ p.bound → (number : ℕ) × NamesCover p d number

-- where a problem's run ends with status 1, having found no answer and reached no bound, no derivation without whole-number goals shows the
-- query, whatever its terms and its size
abbrev pub NothingIsShown : Type 0
NothingIsShown = (p : ProblemTree) (d : DerivationLines) → IsValid p → run_status p ≡ 1 → ShowsClosed p d → ⊥
