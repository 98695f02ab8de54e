-- How a run ends, in the program's own types.
use Rattle.std.specs.Prelude.{◌≡◌, ℕ, List, Option, Result, Ok, Err}
use Rattle.std.specs.Io.KnownBytes.{append_known}
use Rattle.ll_edge.specs.Pieces.{AppendsFront}
use Rattle.ll_edge.specs.Texts.{Texts}
use Rattle.ll_laws.specs.Problem.{ProblemTree}
use Rattle.ll_laws.specs.Valid.{IsValid}
use Rattle.ll_top.specs.declared.run.Found.{Found}
use Rattle.ll_top.specs.declared.run.Found.TheVariants.{Answer, Nothing, Bound}
use Rattle.ll_top.specs.declared.texts.refusing.Refusal.{Refusal}
use Rattle.ll_top.specs.declared.texts.refusing.Refusal.TheVariants.{Text, Unwritable, OutOfMemory}
use Rattle.ll_top.specs.forms.Words.{RunWords}
use Rattle.ll_top.specs.texts.Outcome.{name_of, RunFails, RunAsks}
use Rattle.ll_top.specs.texts.Endings.{cause_of}
use Rattle.ll_top.specs.Outcome.{status_of_run, text_of_run, RunComesTo}
use Rattle.ll_top.specs.texts.CallEnds.{AppendsOwn}

-- the status of what a run found
abbrev pub status_of_found : Found → ℕ
status_of_found Answer = 0
status_of_found Nothing = 1
status_of_found Bound = 2

-- how the search of a run ended, before any fault line is written
abbrev pub RunEnds : Option Texts → (List ℕ → Type 0) → (List ℕ → Type 0) → Type 0 → RunWords → Option (List ℕ) → Option (List ℕ) → Result Found Refusal
    → Type 0
RunEnds told absence read_failed write_failed run before after (Ok found) =
    (p : ProblemTree) × RunAsks told run p × IsValid p × (status_of_found found ≡ status_of_run run.first p)
    × (after ≡ append_known before (text_of_run run.first run.proofs p))
RunEnds told absence read_failed write_failed run before after (Err (Text role refusal)) =
    RunFails told absence read_failed run (cause_of (name_of run role) refusal) × (after ≡ before)
RunEnds told absence read_failed write_failed run before after (Err Unwritable) =
    (p : ProblemTree) × RunAsks told run p × write_failed × AppendsFront before (text_of_run run.first run.proofs p) after
RunEnds told absence read_failed write_failed run before after (Err OutOfMemory) = AppendsOwn (RunComesTo told absence read_failed run) before after
