-- What a run writes, in the words of derivations.
use Rattle.std.specs.Prelude.{◌≡◌, ◌≤◌, ℕ, suc, Bool, true, false, List, [], ◌∷◌, ◌++◌, length, count_by, Option, Some, None, unwrap_or}
use Rattle.std.specs.Io.KnownBytes.{append_known}
use Rattle.ll_edge.specs.Texts.{Texts}
use Rattle.ll_bank.specs.Term.{Term}
use Rattle.ll_first.specs.Upto.{upto}
use Rattle.ll_laws.specs.declared.Event.{Event}
use Rattle.ll_laws.specs.declared.Event.TheVariants.{Answer, Reached}
use Rattle.ll_laws.specs.Answered.{Answered}
use Rattle.ll_laws.specs.Search.{is_answer, is_reached}
use Rattle.ll_laws.specs.Problem.{ProblemTree, problem_events, problem_cost}
use Rattle.ll_laws.specs.Line.{DerivationLines, IsWhole}
use Rattle.ll_laws.specs.Verdict.{DerivationShows}
use Rattle.ll_laws.specs.Dealt.{asked_terms, dealt, HasNodeForEachStep}
use Rattle.ll_laws.specs.Instance.{IsInstance}
use Rattle.ll_top.specs.textbook.Follows.{IsFilling, Follows, reckons, IsAnswered}
use Rattle.ll_laws.specs.Output.{answer_text, summary_text}
use Rattle.ll_laws.specs.ProofText.{proof_text}
use Rattle.ll_top.specs.forms.Words.{RunWords}
use Rattle.ll_top.specs.texts.Outcome.{RunAsks}
use Rattle.ll_top.specs.Outcome.{front_events, stopped_text}

-- The answer is right: it has a closed term for each variable of the query, and the query with these terms follows from the program, and so does
-- each of its instances, by a derivation with as many nodes as the answer's branch has steps (derivability after Hodas and Miller 1994: the
-- program's unbounded clauses may be used at will, and each linear one exactly once).
pub record IsRight (p : ProblemTree) (a : Answered) : Type 0 where
  pub filling : IsFilling p (asked_terms p a)
  pub follows : Follows p (length a.steps) (asked_terms p a)
  pub instances : (ts : List Term) → IsInstance (asked_terms p a) ts → Follows p (length a.steps) ts

-- The derivation shows the answer, as the checker reads derivations: it is the one of the answer's branch, with the used labels dealt out, and a
-- whole one of the query with the answer's terms for its variables, and has as many nodes as the branch has steps.
pub record ShowsAnswer (p : ProblemTree) (a : Answered) (d : DerivationLines) : Type 0 where
  pub of_branch : dealt p a ≡ Some d
  pub asked : d.asked ≡ asked_terms p a
  pub whole : IsWhole d
  pub shows : DerivationShows p d
  pub count : HasNodeForEachStep a d

-- what stands behind an answer: with proofs the text of a derivation that shows it, and else nothing
abbrev pub StandsBehind : Bool → ProblemTree → Answered → List ℕ → Type 0
StandsBehind false p a text = text ≡ []
StandsBehind true p a text = (d : DerivationLines) × ShowsAnswer p a d × (text ≡ proof_text p.names d)

-- each answer among the events, after k answers, is right, and the text is that of the answers, each with what stands behind it
pub data AreShown (proofs : Bool) (p : ProblemTree) : ℕ → List Event → List ℕ → Type 0 where
  all_shown : {k : ℕ} → AreShown proofs p k [] []
  answer_shown : {k : ℕ} {a : Answered} {es : List Event} {text : List ℕ} → IsRight p a → (behind : List ℕ) → StandsBehind proofs p a behind
      → AreShown proofs p (suc k) es text
      → AreShown proofs p k (Answer a ∷ es) (answer_text p (suc k) a ++ behind ++ text)
  reached_shown : {k : ℕ} {es : List Event} {text : List ℕ} → AreShown proofs p k es text → AreShown proofs p k (Reached ∷ es) text

-- the events that a run tells
abbrev pub events_told : Option ℕ → ProblemTree → List Event
events_told first p = unwrap_or (front_events first p) (problem_events p)

-- the last line of a run that stops after so many answers, or that of a whole search where there are not so many
abbrev pub stop_or_summary : ℕ → ProblemTree → Option (List Event) → List ℕ
stop_or_summary k p None = summary_text (count_by is_answer (problem_events p)) (count_by is_reached (problem_events p)) (problem_cost p)
stop_or_summary k p (Some front) = stopped_text k

-- the last line of a run
abbrev pub end_of_run : Option ℕ → ProblemTree → List ℕ
end_of_run None p = summary_text (count_by is_answer (problem_events p)) (count_by is_reached (problem_events p)) (problem_cost p)
end_of_run (Some k) p = stop_or_summary k p (upto (problem_events p) k)

-- The texts of a run ask a problem, each of whose answers that it tells is right, and their text and the last line were appended. What follows
-- within the bound, whole-number goals aside, is an instance of an answer.
pub record WritesShown (told : Option Texts) (run : RunWords) (before after : Option (List ℕ)) : Type 0 where
  pub problem : ProblemTree
  pub asks : RunAsks told run problem
  pub answers : List ℕ
  pub are_shown : AreShown run.proofs problem 0 (events_told run.first problem) answers
  pub covers : (ts : List Term) (m : ℕ) (h : Follows problem m ts) → IsFilling problem ts → reckons h ≡ false → m ≤ problem.bound → IsAnswered problem ts m
  pub written : after ≡ append_known before (answers ++ end_of_run run.first problem)
