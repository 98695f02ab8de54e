-- What iterative deepening (Korf 1985) comes to: a run with the bound that decides.
use Rattle.std.specs.Prelude.{◌≡◌, ℕ, List, ◌++◌, Option, None, codes, decimal}
use Rattle.ll_edge.specs.Texts.{Texts}
use Rattle.ll_deepen.specs.Deciding.{IsDeciding}
use Rattle.ll_laws.specs.Output.{line, run_status}
use Rattle.ll_laws.specs.Problem.{ProblemTree}
use Rattle.ll_top.specs.texts.Faults.{Cause, fault_text, cause_status}
use Rattle.ll_top.specs.texts.Outcome.{RunAsks, RunFails}
use Rattle.ll_top.specs.Outcome.{whole_text}
use Rattle.ll_top.specs.forms.Words.{RunWords, DeepenWords}

-- the run with one of its bounds
abbrev pub run_within : DeepenWords → ℕ → RunWords
run_within deepen n = record { program = deepen.program; query = deepen.query; bound = n; workers = deepen.workers; proofs = deepen.proofs; first = None }

-- the first line, with the bound that decides
abbrev pub bound_line : ℕ → List ℕ
bound_line n = line (codes "bound " ++ decimal n)

-- What a deepening comes to: the first bound of the series at which the search has an answer, or reaches no bound, or the last bound if there
-- is none, and the text and the status of the run with it; or a fault line. The faults are those of a run, whatever its bound.
pub data DeepenComesTo (told : Option Texts) (absence read_failed : List ℕ → Type 0) (deepen : DeepenWords) (status : ℕ) (text : List ℕ) : Type 0 where
  deepened : (n : ℕ) (p : ProblemTree) → RunAsks told (run_within deepen n) p → IsDeciding p deepen.series n → status ≡ run_status p
      → text ≡ bound_line n ++ whole_text deepen.proofs p
      → DeepenComesTo told absence read_failed deepen status text
  deepen_failed : (cause : Cause) → RunFails told absence read_failed (run_within deepen deepen.series.from) cause → status ≡ cause_status cause
      → text ≡ fault_text cause
      → DeepenComesTo told absence read_failed deepen status text
