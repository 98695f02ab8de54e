-- The laws of printed derivations: a check says yes to each of them, and a cover with the run's bound names its answer or an earlier one.
use Rattle.std.specs.Prelude.{◌≡◌, ◌≤◌, ℕ, suc, false, List, length, None, Some, slice_get, Contains}
use Rattle.std.specs.List.{list_any}
use Rattle.ll_edge.specs.Texts.{Texts}
use Rattle.ll_laws.specs.declared.Event.TheVariants.{Answer}
use Rattle.ll_laws.specs.Answered.{Answered}
use Rattle.ll_laws.specs.Problem.{ProblemTree, problem_events}
use Rattle.ll_laws.specs.Search.{cut_count}
use Rattle.ll_laws.specs.Completeness.{answers_in}
use Rattle.ll_laws.specs.Line.{DerivationLines, counts_numbers}
use Rattle.ll_laws.specs.Dealt.{dealt}
use Rattle.ll_laws.specs.ProofText.{proof_text}
use Rattle.ll_top.specs.forms.Words.{RunWords, CheckWords, IsRun, IsCheck}
use Rattle.ll_top.specs.texts.Outcome.{AnyName, NoName, IsRead, RunAsks}
use Rattle.ll_top.specs.checks.Verdicts.{yes_text, covered_text}
use Rattle.ll_top.specs.Calls.{ComesTo}

-- A run's texts ask a problem, and `d` is the derivation of one of its answers, which the run prints with `--proofs`. A check of the same program
-- text, the same query text and the printed text, each on its shelf with at most 16,777,216 bytes, comes to yes, with as many nodes as the answer's
-- branch has steps. The two shelves may be one.
abbrev pub PrintedIsAccepted : Type 0
PrintedIsAccepted =
    (words other : List (List ℕ)) (run : RunWords) (check : CheckWords) (texts later : Texts) (p : ProblemTree) (a : Answered) (d : DerivationLines)
    → IsRun words run → (asks : RunAsks (Some texts) run p) → Contains (problem_events p) (Answer a) → dealt p a ≡ Some d
    → IsCheck other check → check.bound ≡ None
    → IsRead (Some later) check.program asks.program → IsRead (Some later) check.query asks.query
    → IsRead (Some later) check.proof (proof_text p.names d)
    → ComesTo other (Some later) AnyName NoName 0 (yes_text (length a.steps))

-- status 0, and the line that names the answer at this place, counted from 0, or an earlier one
pub record NamesUpTo (place status : ℕ) (text : List ℕ) : Type 0 where
  pub status_is : status ≡ 0
  pub number : ℕ
  pub small : number ≤ place
  pub is : text ≡ covered_text (cut_count (suc number))

-- Where the derivation has no node of a whole-number goal, whatever a cover with the run's bound comes to over the same texts is that the answer at
-- this place covers it, or an earlier one.
abbrev pub PrintedIsCovered : Type 0
PrintedIsCovered =
    (words other : List (List ℕ)) (run : RunWords) (check : CheckWords) (texts later : Texts) (p : ProblemTree) (place : ℕ) (a : Answered) (d : DerivationLines)
    → IsRun words run → (asks : RunAsks (Some texts) run p) → slice_get (answers_in (problem_events p)) place ≡ Some a → dealt p a ≡ Some d
    → list_any counts_numbers d.nodes ≡ false → IsCheck other check → check.bound ≡ Some run.bound
    → IsRead (Some later) check.program asks.program → IsRead (Some later) check.query asks.query
    → IsRead (Some later) check.proof (proof_text p.names d)
    → (status : ℕ) (text : List ℕ) → ComesTo other (Some later) AnyName NoName status text → NamesUpTo place status text
