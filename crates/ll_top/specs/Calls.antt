-- What a call of the program comes to, by its words and the texts on its shelf.
use Rattle.std.specs.Prelude.{◌≡◌, ◌⊎◌, ℕ, List, Option, Some, None}
use Rattle.std.specs.Io.KnownBytes.{append_known}
use Rattle.ll_edge.specs.Texts.{Texts}
use Rattle.ll_top.specs.texts.Faults.{Usage, fault_text}
use Rattle.ll_top.specs.Making.{MakeComesTo}
use Rattle.ll_top.specs.forms.Making.{MakeWords, MadeRunWords}
use Rattle.ll_top.specs.MadeRuns.{MadeRunComesTo}
use Rattle.ll_top.specs.forms.Words.{RunWords, SessionWords, DeepenWords, CheckWords, ConvertWords, IsBadWord, IsRun, IsSession, IsDeepen, IsPrint, IsCheck}
use Rattle.ll_top.specs.forms.Words.{IsConvert, IsMake, IsMadeRun}
use Rattle.ll_laws.specs.Problem.{ProblemTree}
use Rattle.ll_laws.specs.Output.{run_status}
use Rattle.ll_top.specs.Outcome.{RunComesTo, whole_text}
use Rattle.ll_top.specs.texts.Outcome.{AnyName, NoName, RunAsks, PrintComesTo}
use Rattle.ll_top.specs.checks.Outcome.{CheckComesTo}
use Rattle.ll_top.specs.Sessions.{SessionComesTo}
use Rattle.ll_top.specs.Deepening.{DeepenComesTo}
use Rattle.ll_top.specs.texts.Converting.{ConvertComesTo}

-- what a call with these words comes to: the status and the whole text, where memory does not run out and no write fails
pub data ComesTo (words : List (List ℕ)) (told : Option Texts) (absence read_failed : List ℕ → Type 0) (status : ℕ) (text : List ℕ) : Type 0 where
  misused : (number : ℕ) → IsBadWord words number → status ≡ 3 → text ≡ fault_text (Usage number) → ComesTo words told absence read_failed status text
  runs : (run : RunWords) → IsRun words run → RunComesTo told absence read_failed run status text → ComesTo words told absence read_failed status text
  sessions : (session : SessionWords) → IsSession words session → SessionComesTo told absence read_failed session status text
      → ComesTo words told absence read_failed status text
  deepens : (deepen : DeepenWords) → IsDeepen words deepen → DeepenComesTo told absence read_failed deepen status text
      → ComesTo words told absence read_failed status text
  prints : (name : List ℕ) → IsPrint words name → PrintComesTo told absence read_failed name status text → ComesTo words told absence read_failed status text
  checks : (check : CheckWords) → IsCheck words check → CheckComesTo told absence read_failed check status text
      → ComesTo words told absence read_failed status text
  converts : (convert : ConvertWords) → IsConvert words convert → ConvertComesTo told absence read_failed convert status text
      → ComesTo words told absence read_failed status text
  runs_made : (run : MadeRunWords) → IsMadeRun words run → MadeRunComesTo run status text → ComesTo words told absence read_failed status text
  makes : (make : MakeWords) → IsMake words make → MakeComesTo make status text → ComesTo words told absence read_failed status text

-- A call with these words is complete: where the texts are told, and neither a read nor a write failed, it ends with the one status and
-- the one whole text that its words and texts come to, or memory ran out.
abbrev pub Completes : List (List ℕ) → Option Texts → Type 0 → Type 0 → Option (List ℕ) → Option (List ℕ) → ℕ → Type 0
Completes words told read_failed write_failed before after status =
    (texts : Texts) (meant : ℕ) (text : List ℕ) → told ≡ Some texts → (read_failed → ⊥) → (write_failed → ⊥)
    → ComesTo words (Some texts) AnyName NoName meant text
    → ((status ≡ meant) × (after ≡ append_known before text)) ⊎ (status ≡ 10)

-- The headline, for a run of whole searches, whatever its number of workers: where the texts are told and ask a problem, and neither a read
-- nor a write failed nor memory ran out, what was written is the text of the problem's search by one engine, and the status is that of the
-- search.
abbrev pub Headline : List (List ℕ) → Option Texts → Option (List ℕ) → Option (List ℕ) → ℕ → Type 0
Headline words told before after status =
    (run : RunWords) (texts : Texts) (p : ProblemTree) → IsRun words run → run.first ≡ None → told ≡ Some texts → RunAsks (Some texts) run p
    → (status ≡ 5 → ⊥) → (status ≡ 6 → ⊥) → (status ≡ 10 → ⊥)
    → (after ≡ append_known before (whole_text run.proofs p)) × (status ≡ run_status p)
