-- A run that is on its way: what was written of its events so far.
use Rattle.std.specs.Prelude.{◌≡◌, ◌≤◌, ◌<◌, ◌⊎◌, length, ⊤, ℕ, Bool, true, false, suc, List, [], ◌++◌, Option, Contains}
use Rattle.std.specs.Io.KnownBytes.{append_known}
use Rattle.ll_edge.specs.Counts.{Rose}
use Rattle.ll_edge.specs.Pieces.{AppendsFront}
use Rattle.ll_laws.specs.declared.Event.{Event}
use Rattle.ll_laws.specs.declared.Event.TheVariants.{Answer, Reached}
use Rattle.ll_laws.specs.Search.{cut_count}
use Rattle.ll_laws.specs.Problem.{ProblemTree, problem_events}
use Rattle.ll_laws.specs.Output.{answer_text, answers_text}
use Rattle.ll_laws.specs.ProofText.{derivation_text, proved_answers_text}
use Rattle.ll_laws.specs.Dealt.{dealt}
use Rattle.ll_laws.specs.Sound.{Every}
use Rattle.ll_laws.specs.Valid.{IsValid}
use Rattle.ll_order.specs.Outlets.{Gives}

-- the lines of an event of a problem after k answers, with proofs or without
abbrev pub event_lines : Bool → ProblemTree → ℕ → Event → List ℕ
event_lines false p k (Answer a) = answer_text p (suc k) a
event_lines true p k (Answer a) = answer_text p (suc k) a ++ derivation_text p.names (dealt p a)
event_lines proofs p k Reached = []

-- the lines of the events of a problem after k answers, with proofs or without
abbrev pub all_lines : Bool → ProblemTree → ℕ → List Event → List ℕ
all_lines false p k es = answers_text p k es
all_lines true p k es = proved_answers_text p k es

-- an answer has a term for each variable that is asked for
abbrev pub AnswersAll : ProblemTree → Event → Type 0
AnswersAll p (Answer a) = length p.asked ≤ length a.terms
AnswersAll p Reached = ⊤

-- the number of answers after one event more, cut at the greatest u64
abbrev pub counted : ℕ → Event → ℕ
counted k (Answer a) = cut_count (suc k)
counted k Reached = k

-- ---- the outlet of a run

-- the event is one of the search of the problem, which is valid
pub record IsWelcome (p : ProblemTree) (e : Event) : Type 0 where
  pub valid : IsValid p
  pub among : Contains (problem_events p) e
  pub all : AnswersAll p e

-- An outlet may be given events of the problem: no lines wait in it, and what it makes of an event are the event's lines.
pub record IsReady (makes : Bool → ProblemTree → ℕ → Event → List ℕ) (proofs : Bool) (p : ProblemTree) (waiting : List ℕ) : Type 0 where
  pub none : waiting ≡ []
  pub lines : (k : ℕ) (e : Event) → AnswersAll p e → makes proofs p k e ≡ event_lines proofs p k e

-- what an outlet shows that writes the events of a problem
pub record OutletState : Type 0 where
  pub problem : ProblemTree
  pub proofs : Bool
  -- how many answers it took, cut at the greatest u64
  pub answers : ℕ
  -- what its sink tells, the sink's count of faults, whether a write failed, and the name of the borrow by which it has the sink
  pub written : Option (List ℕ)
  pub faults : ℕ
  pub failed : Bool
  pub lent : ℕ

-- the same where lines wait behind what its sink tells
abbrev pub told_with : ProblemTree → Bool → ℕ → Option (List ℕ) → ℕ → Bool → ℕ → List ℕ → OutletState
told_with problem proofs answers sunk faults failed lent waiting = record {
  problem = problem;
  proofs = proofs;
  answers = answers;
  written = append_known sunk waiting;
  faults = faults;
  failed = failed;
  lent = lent;
}

-- What is told of the sink's faults between two moments: nothing, and the count stands still; or that a write failed, and the count rose.
abbrev pub TellsFaults : Bool → ℕ → Bool → ℕ → Type 0
TellsFaults told before later after = ((later ≡ told) × (after ≡ before)) ⊎ ((later ≡ true) × Rose before after)

-- it has the same problem and the same sink
pub record SameOutlet (before after : OutletState) : Type 0 where
  pub problem : after.problem ≡ before.problem
  pub proofs : after.proofs ≡ before.proofs
  pub lent : after.lent ≡ before.lent
  pub faults : before.faults ≤ after.faults
  pub tells : TellsFaults before.failed before.faults after.failed after.faults

-- the lines of the event were appended with no fault, and it was counted
pub record Writes (before : OutletState) (e : Event) (after : OutletState) : Type 0 where
  pub same : SameOutlet before after
  pub quiet : after.faults ≡ before.faults
  pub answers : after.answers ≡ counted before.answers e
  pub written : after.written ≡ append_known before.written (event_lines before.proofs before.problem before.answers e)

-- only a prefix of the lines of the event was appended
pub record BreaksOff (before : OutletState) (e : Event) (after : OutletState) : Type 0 where
  pub same : SameOutlet before after
  pub written : AppendsFront before.written (event_lines before.proofs before.problem before.answers e) after.written

-- what an outlet holds whose lines wait: `written` is what its sink tells, without the lines that wait
pub record Holding : Type 0 where
  pub outlet : OutletState
  pub waiting : List ℕ

abbrev pub holding : ProblemTree → Bool → ℕ → Option (List ℕ) → ℕ → Bool → ℕ → List ℕ → Holding
holding problem proofs answers sunk faults failed lent waiting = record {
  outlet = record { problem = problem; proofs = proofs; answers = answers; written = sunk; faults = faults; failed = failed; lent = lent };
  waiting = waiting;
}

-- what it shows
abbrev pub told : Holding → OutletState
told h = told_with h.outlet.problem h.outlet.proofs h.outlet.answers h.outlet.written h.outlet.faults h.outlet.failed h.outlet.lent
    h.waiting

-- Lines were put behind those that waited. The first of all these were written, and the others wait.
pub record Puts (before : Option (List ℕ)) (waiting lines : List ℕ) (after : Option (List ℕ)) (left : List ℕ) : Type 0 where
  pub flushed : List ℕ
  pub written : after ≡ append_known before flushed
  pub order : flushed ++ left ≡ waiting ++ lines

-- The event was counted. Its lines wait behind those that waited, but for the first of all these, which were written with no fault.
pub record Waits (before : Holding) (e : Event) (after : Holding) : Type 0 where
  pub same : SameOutlet before.outlet after.outlet
  pub quiet : after.outlet.faults ≡ before.outlet.faults
  pub answers : after.outlet.answers ≡ counted before.outlet.answers e
  pub flushed : List ℕ
  pub written : after.outlet.written ≡ append_known before.outlet.written flushed
  pub order : flushed ++ after.waiting ≡ before.waiting ++ event_lines before.outlet.proofs before.outlet.problem before.outlet.answers e

-- of these lines only a prefix was written, and none wait
pub record CutsOff (before : Holding) (lines : List ℕ) (after : Holding) : Type 0 where
  pub same : SameOutlet before.outlet after.outlet
  pub none : after.waiting ≡ []
  pub written : AppendsFront before.outlet.written lines after.outlet.written

-- Some of the events, of which there are some, were taken, and the rest are events of the problem. Before the first of them no lines waited.
pub record Taking {W : Type 0} (hold : W → Holding) (before : W) (events : List Event) (done rest : List Event) (now : W) : Type 0 where
  pub some : 0 < length events
  pub none : (hold before).waiting ≡ []
  pub order : events ≡ done ++ rest
  pub given : Gives (λ x e y. Writes (told (hold x)) e (told (hold y))) before done now
  pub wanted : Every (IsWelcome (hold before).outlet.problem) rest
  pub flushed : List ℕ
  pub written : (hold now).outlet.written ≡ append_known (hold before).outlet.written flushed
  pub lines : flushed ++ (hold now).waiting ≡ all_lines (hold before).outlet.proofs (hold before).outlet.problem (hold before).outlet.answers done
