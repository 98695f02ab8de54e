-- The bound of a series that decides a problem.
use Rattle.std.specs.Prelude.{◌≡◌, ◌⊎◌, ℕ, ◌+◌, ◌*◌, ◌<◌, ◌≤◌, Bool, true, false, ◌||◌, not, List, count_by}
use Rattle.std.specs.List.{list_any}
use Rattle.ll_laws.specs.declared.Event.{Event}
use Rattle.ll_laws.specs.declared.Counts.{Counts}
use Rattle.ll_laws.specs.Problem.{ProblemTree, setting_of, start_of}
use Rattle.ll_laws.specs.Search.{events, cost, cut_count, is_answer, is_reached, any_reached}
use Rattle.ll_deepen.specs.declared.series.Series.{Series}

-- the events of a problem's search with this bound
abbrev pub events_within : ProblemTree → ℕ → List Event
events_within p n = events (setting_of p) n (start_of p)

-- the number of its inferences
abbrev pub cost_within : ProblemTree → ℕ → ℕ
cost_within p n = cost (setting_of p) n (start_of p)

-- the numbers of answers, of branches that reached the bound and of inferences, each cut at the greatest u64
abbrev pub CountsOf : Counts → List Event → ℕ → Type 0
CountsOf counts events cost =
    (counts.answers ≡ cut_count (count_by is_answer events)) × (counts.reached ≡ cut_count (count_by is_reached events)) × (counts.inferences ≡ cut_count cost)

-- events with an answer, or of a search of which no branch reached the bound, so that a greater one gives nothing else
abbrev pub is_decisive : List Event → Bool
is_decisive es = list_any is_answer es || not (any_reached es)

-- the search with this bound decides
abbrev pub decides : ProblemTree → ℕ → Bool
decides p n = is_decisive (events_within p n)

-- the limits of a series
pub record IsSeries (series : Series) : Type 0 where
  pub order : series.from ≤ series.to
  pub greatest : series.to ≤ 1000000
  pub steps : 0 < series.by

-- the bound is one of the series, and none in front of it decides
pub record IsUndecidedTo (p : ProblemTree) (series : Series) (n : ℕ) : Type 0 where
  pub place : ℕ
  pub is : n ≡ series.from + place * series.by
  pub within : n ≤ series.to
  pub earlier : (i : ℕ) → i < place → decides p (series.from + i * series.by) ≡ false

-- the deciding bound: the first of the series that decides, and its last one where there is none
pub record IsDeciding (p : ProblemTree) (series : Series) (n : ℕ) : Type 0 where
  pub first : IsUndecidedTo p series n
  pub last : (decides p n ≡ true) ⊎ (series.to < n + series.by)
