-- How the parts of a deepening end, in the program's own types.
use Rattle.std.specs.Prelude.{◌≡◌, ℕ, Bool, List, ◌++◌, Option}
use Rattle.ll_deepen.specs.declared.series.Series.{Series}
use Rattle.ll_deepen.specs.Deciding.{IsDeciding}
use Rattle.ll_edge.specs.Texts.{Texts}
use Rattle.ll_laws.specs.Problem.{ProblemTree}
use Rattle.ll_laws.specs.Output.{run_status}
use Rattle.ll_top.specs.declared.texts.judge.Role.{Role}
use Rattle.ll_top.specs.declared.texts.refusing.TextRefusal.{TextRefusal}
use Rattle.ll_top.specs.Deepening.{run_within, bound_line}
use Rattle.ll_top.specs.texts.Endings.{cause_of}
use Rattle.ll_top.specs.texts.Outcome.{name_of, RunFails}
use Rattle.ll_top.specs.Outcome.{whole_text}
use Rattle.ll_top.specs.forms.Words.{RunWords, DeepenWords}

-- the problem with another bound
abbrev pub with_bound : ProblemTree → ℕ → ProblemTree
with_bound p n = record p { bound = n }

-- the run whose texts are judged: that with the first bound
abbrev pub first_run : DeepenWords → RunWords
first_run deepen = run_within deepen deepen.series.from

-- why a deepening refuses a text
abbrev pub DeepenRefuses : Option Texts → (List ℕ → Type 0) → (List ℕ → Type 0) → DeepenWords → Role → TextRefusal → Type 0
DeepenRefuses told absence read_failed deepen role refusal =
    RunFails told absence read_failed (first_run deepen) (cause_of (name_of (first_run deepen) role) refusal)

-- what the deepening of a problem comes to: the run with the bound that decides, and its line in front
pub record DeepensTo (proofs : Bool) (series : Series) (p : ProblemTree) (status : ℕ) (text : List ℕ) : Type 0 where
  pub bound : ℕ
  pub decides : IsDeciding p series bound
  pub status_is : status ≡ run_status (with_bound p bound)
  pub text_is : text ≡ bound_line bound ++ whole_text proofs (with_bound p bound)
