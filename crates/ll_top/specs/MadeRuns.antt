-- What a run of a program that is made comes to, and how it ends.
use Rattle.std.specs.Prelude.{◌≡◌, ℕ, List, count_by}
use Rattle.ll_laws.specs.Problem.{ProblemTree, problem_events, problem_cost}
use Rattle.ll_laws.specs.Search.{is_answer, is_reached}
use Rattle.ll_laws.specs.Output.{run_status, summary_text}
use Rattle.ll_make.specs.Kinds.{query_text}
use Rattle.ll_top.specs.Making.{make_text}
use Rattle.ll_top.specs.forms.Making.{MadeRunWords}
use Rattle.ll_top.specs.texts.Judging.{TextsAsk}

-- the program that is made and the query of its kind ask this problem
abbrev pub MadeAsks : MadeRunWords → ProblemTree → Type 0
MadeAsks run p = TextsAsk (make_text run.make) (query_text run.make.kind) run.bound p

-- the last line of the text of a run of the problem
abbrev pub last_line : ProblemTree → List ℕ
last_line p = summary_text (count_by is_answer (problem_events p)) (count_by is_reached (problem_events p)) (problem_cost p)

-- what a run of a program that is made comes to: the last line of the text of its search, with the status of this
pub record MadeRunComesTo (run : MadeRunWords) (status : ℕ) (text : List ℕ) : Type 0 where
  pub problem : ProblemTree
  pub asks : MadeAsks run problem
  pub status_is : status ≡ run_status problem
  pub is : text ≡ last_line problem
