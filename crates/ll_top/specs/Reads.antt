-- What a run read and wrote, by the logs of its shelf and its sink alone.
use Rattle.std.specs.Prelude.{◌≡◌, ℕ, List, ◌++◌}
use Rattle.ll_edge.specs.Log.{Entry}
use Rattle.ll_laws.specs.Problem.{ProblemTree}
use Rattle.ll_top.specs.forms.Words.{RunWords}
use Rattle.ll_top.specs.texts.Outcome.{ReadsWhatAsks}
use Rattle.ll_top.specs.Outcome.{text_of_run, status_of_run}

-- The calls of the shelf read a run's program and then its query, each whole, and nothing else; the two ask a problem; and what the sink took
-- and the status are those of the problem's run.
pub record RunReads (run : RunWords) (before after : List Entry) (taken later : List ℕ) (status : ℕ) : Type 0 where
  pub problem : ProblemTree
  pub reads : ReadsWhatAsks run before after problem
  pub takes : later ≡ taken ++ text_of_run run.first run.proofs problem
  pub status_is : status ≡ status_of_run run.first problem
