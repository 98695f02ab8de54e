-- How the search of a run ends, its status by its counts, and why a run is refused.
use Rattle.std.specs.Prelude.{◌≡◌, ◌≤◌, ◌<◌, ⊤, ℕ, zero, suc, List, Option, Some, IfSome, count_by}
use Rattle.ll_edge.specs.Counts.{Rose}
use Rattle.ll_laws.specs.Output.{counts_text}
use Rattle.ll_laws.specs.Problem.{ProblemTree, problem_events, problem_cost}
use Rattle.ll_laws.specs.Search.{is_answer}
use Rattle.ll_order.specs.Outlets.{CountsOf}
use Rattle.ll_top.specs.declared.texts.refusing.Refusal.{Refusal}
use Rattle.ll_top.specs.declared.texts.refusing.Refusal.TheVariants.{Text, Unwritable, OutOfMemory}
use Rattle.ll_top.specs.declared.run.Ended.{Ended}
use Rattle.ll_top.specs.declared.run.Ended.TheVariants.{Whole, Stopped}
use Rattle.ll_top.specs.Outcome.{stopped_text}

-- the status by the numbers of answers and of branches that reached the bound
abbrev pub status_of_counts : ℕ → ℕ → ℕ
status_of_counts zero zero = 1
status_of_counts zero (suc reached) = 2
status_of_counts (suc answers) reached = 0

-- why a run is refused: the sink failed, and its count rose, or memory ran out
abbrev pub IsRunRefusal : ℕ → ℕ → Refusal → Type 0
IsRunRefusal before after Unwritable = Rose before after
IsRunRefusal before after OutOfMemory = ⊤
IsRunRefusal before after (Text role refusal) = ⊥

-- How the search of a problem ended, of which all answers are wanted, or so many: it stopped where it had these, or had fewer and came to its own
-- end, with these counts.
abbrev pub IsEndOf : Option ℕ → ProblemTree → Ended → Type 0
IsEndOf limit p (Whole counts) =
    IfSome limit (λ k. count_by is_answer (problem_events p) < k) × CountsOf counts (problem_events p) (problem_cost p)
IsEndOf limit p (Stopped k) = (limit ≡ Some k) × (k ≤ count_by is_answer (problem_events p))

-- the last line of a run whose search ended so
abbrev pub ended_text : Ended → List ℕ
ended_text (Whole counts) = counts_text counts.answers counts.reached counts.inferences
ended_text (Stopped k) = stopped_text k

-- and its status
abbrev pub ended_status : Ended → ℕ
ended_status (Whole counts) = status_of_counts counts.answers counts.reached
ended_status (Stopped k) = 0
