-- What a run comes to, by its words and the texts on the shelf.
use Rattle.std.specs.Prelude.{◌≡◌, ℕ, Bool, true, false, List, [], ◌∷◌, ◌++◌, Option, Some, None, is_some, if◌then◌else◌, codes, decimal}
use Rattle.std.specs.List.{concat}
use Rattle.ll_edge.specs.Texts.{Texts}
use Rattle.ll_first.specs.Upto.{upto}
use Rattle.ll_laws.specs.declared.Event.{Event}
use Rattle.ll_laws.specs.Problem.{ProblemTree, problem_events}
use Rattle.ll_laws.specs.Output.{run_text, run_status}
use Rattle.ll_laws.specs.ProofText.{proved_run_text}
use Rattle.ll_top.specs.forms.Words.{RunWords}
use Rattle.ll_top.specs.texts.Faults.{Cause, fault_text, cause_status}
use Rattle.ll_top.specs.texts.Outcome.{RunFails, RunAsks}
use Rattle.ll_top.specs.lines.Running.{all_lines}

-- the text of a whole search of a problem, with proofs or without
abbrev pub whole_text : Bool → ProblemTree → List ℕ
whole_text false p = run_text p
whole_text true p = proved_run_text p

-- the events up to so many answers, where only these are wanted and there are as many
abbrev pub front_events : Option ℕ → ProblemTree → Option (List Event)
front_events None p = None
front_events (Some k) p = upto (problem_events p) k

-- the line behind the answers of a run that stops after so many: `stopped after K`
abbrev pub stopped_text : ℕ → List ℕ
stopped_text number = concat (codes "stopped after " ∷ decimal number ∷ codes "\n" ∷ [])

-- the answers that are wanted and the line that says so, or the whole text where there are not so many
abbrev pub stopped_or_whole : Bool → ProblemTree → ℕ → Option (List Event) → List ℕ
stopped_or_whole proofs p k None = whole_text proofs p
stopped_or_whole proofs p k (Some front) = all_lines proofs p 0 front ++ stopped_text k

-- The text of a run of a problem: the whole text of its search. Where only so many answers are wanted and the search has as many, it is
-- these, with proofs or without, and behind them the line that says that the run stopped.
abbrev pub text_of_run : Option ℕ → Bool → ProblemTree → List ℕ
text_of_run None proofs p = whole_text proofs p
text_of_run (Some k) proofs p = stopped_or_whole proofs p k (upto (problem_events p) k)

-- the status of a run: that of its search; or 0 where it stops after the answers that are wanted
abbrev pub status_of_run : Option ℕ → ProblemTree → ℕ
status_of_run wanted p = if is_some (front_events wanted p) then 0 else run_status p

-- what a run comes to: its text, or a fault line, each with its status
pub data RunComesTo (told : Option Texts) (absence read_failed : List ℕ → Type 0) (run : RunWords) (status : ℕ) (text : List ℕ) : Type 0 where
  ran : (p : ProblemTree) → RunAsks told run p → status ≡ status_of_run run.first p → text ≡ text_of_run run.first run.proofs p
      → RunComesTo told absence read_failed run status text
  failed : (cause : Cause) → RunFails told absence read_failed run cause → status ≡ cause_status cause → text ≡ fault_text cause
      → RunComesTo told absence read_failed run status text
