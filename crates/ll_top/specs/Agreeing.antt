-- How what calls come to agrees: a run that stops early with the whole run, a session's replies and a deepening with runs, a printed derivation
-- with the text that it stands in, and a run with one that has a greater bound.
use Rattle.std.specs.Prelude.{◌≡◌, ◌≤◌, ◌<◌, ◌⊎◌, ℕ, suc, ◌+◌, ◌*◌, Bool, true, false, List, [], ◌∷◌, ◌++◌, length, take, slice_get, Contains, codes, decimal}
use Rattle.std.specs.Prelude.{Some, None, IfSome}
use Rattle.ll_edge.specs.Texts.{Texts}
use Rattle.ll_lexer.specs.declared.Fault.{Fault}
use Rattle.ll_laws.specs.declared.Event.TheVariants.{Answer}
use Rattle.ll_laws.specs.Answered.{Answered}
use Rattle.ll_laws.specs.Problem.{ProblemTree, problem_events}
use Rattle.ll_laws.specs.Completeness.{answers_in}
use Rattle.ll_laws.specs.Dealt.{dealt}
use Rattle.ll_laws.specs.Line.{DerivationLines}
use Rattle.ll_laws.specs.Search.{any_reached}
use Rattle.ll_laws.specs.Output.{line, answer_text}
use Rattle.ll_laws.specs.ProofText.{proof_text}
use Rattle.ll_top.specs.textbook.Kept.{bounded_by, answers_by, short_answers}
use Rattle.ll_session.specs.Lines.{lines, is_query_line}
use Rattle.ll_session.specs.Queries.{on_line}
use Rattle.ll_top.specs.lines.Running.{event_lines}
use Rattle.ll_top.specs.forms.Making.{MadeRunWords}
use Rattle.ll_top.specs.forms.Words.{RunWords, SessionWords, DeepenWords, IsRun, IsSession, IsDeepen, IsMadeRun}
use Rattle.ll_top.specs.texts.Faults.{Faulty, fault_text}
use Rattle.ll_top.specs.texts.Outcome.{AnyName, NoName, IsRead, RunAsks}
use Rattle.ll_top.specs.Outcome.{stopped_text}
use Rattle.ll_top.specs.MadeRuns.{last_line}
use Rattle.ll_top.specs.Deepening.{bound_line}
use Rattle.ll_top.specs.Calls.{ComesTo}

-- ---- answers and their lines

-- the answers of a problem, in the order of its search
abbrev pub answers_of : ProblemTree → List Answered
answers_of p = answers_in (problem_events p)

-- the lines of answers behind k others, with their derivations or without
abbrev pub lines_of : Bool → ProblemTree → ℕ → List Answered → List ℕ
lines_of proofs p k [] = []
lines_of proofs p k (a ∷ others) = event_lines proofs p k (Answer a) ++ lines_of proofs p (suc k) others

-- the lines of the first k answers of a problem
abbrev pub first_lines : Bool → ProblemTree → ℕ → List ℕ
first_lines proofs p k = lines_of proofs p 0 (take k (answers_of p))

-- ---- a run that stops after the first answers

-- the same run to its end, by so many workers
abbrev pub to_the_end : RunWords → ℕ → RunWords
to_the_end run workers = record run { workers = workers; first = None }

-- What a run of which the first k answers are wanted comes to, beside the same run to its end, which comes to `whole`: the front of that text with
-- the first k answers, and the line that says that it stopped; or, where there are not so many, the same.
pub data StopsOrGoesOn (texts : Texts) (run : RunWords) (k whole_status : ℕ) (whole : List ℕ) (status : ℕ) (text : List ℕ) : Type 0 where
  stops : (p : ProblemTree) → RunAsks (Some texts) run p → k ≤ length (answers_of p) → (rest : List ℕ)
      → whole ≡ first_lines run.proofs p k ++ rest → text ≡ first_lines run.proofs p k ++ stopped_text k → whole_status ≡ 0 → status ≡ 0
      → StopsOrGoesOn texts run k whole_status whole status text
  goes_on : ((p : ProblemTree) → RunAsks (Some texts) run p → length (answers_of p) < k) → text ≡ whole → status ≡ whole_status
      → StopsOrGoesOn texts run k whole_status whole status text

-- So it is for each run with `--first K` and the same one without it, whatever their numbers of workers.
abbrev pub FirstIsFront : Type 0
FirstIsFront =
    (words other : List (List ℕ)) (run : RunWords) (k workers : ℕ) (texts : Texts) → IsRun words run → run.first ≡ Some k
    → IsRun other (to_the_end run workers)
    → (status whole_status : ℕ) (text whole : List ℕ) → ComesTo words (Some texts) AnyName NoName status text
    → ComesTo other (Some texts) AnyName NoName whole_status whole → StopsOrGoesOn texts run k whole_status whole status text

-- ---- a deepening

-- the run with a bound of a deepening, by so many workers
abbrev pub run_at : DeepenWords → ℕ → ℕ → RunWords
run_at deepen workers n = record { program = deepen.program; query = deepen.query; bound = n; workers = workers; proofs = deepen.proofs; first = None }

-- each call of the run with this bound, by any number of workers, comes to this
abbrev pub RunsTo : Texts → DeepenWords → ℕ → ℕ → List ℕ → Type 0
RunsTo texts deepen n status text =
    (words : List (List ℕ)) (workers : ℕ) → IsRun words (run_at deepen workers n) → ComesTo words (Some texts) AnyName NoName status text

-- a bound of a deepening's series, by its place
abbrev pub bound_at : DeepenWords → ℕ → ℕ
bound_at deepen place = deepen.series.from + place * deepen.series.by

-- What a deepening comes to, beside runs of the same texts: the line of one bound of its series and all that the run with this bound comes to. Each
-- run with a smaller bound of the series ends with status 2: it has no answer, and reached its bound. This one does not, or no bound of the series
-- is left. Or it is the fault line that each of these runs comes to.
pub data DeepensAsRuns (texts : Texts) (deepen : DeepenWords) (status : ℕ) (text : List ℕ) : Type 0 where
  as_run : (place : ℕ) (run : List ℕ) → bound_at deepen place ≤ deepen.series.to → RunsTo texts deepen (bound_at deepen place) status run
      → status ≤ 2 → text ≡ bound_line (bound_at deepen place) ++ run
      → ((i : ℕ) → i < place → (other : List ℕ) × RunsTo texts deepen (bound_at deepen i) 2 other)
      → (status ≡ 2 → ⊥) ⊎ (deepen.series.to < bound_at deepen (suc place)) → DeepensAsRuns texts deepen status text
  as_fault : 2 < status → ((n : ℕ) → RunsTo texts deepen n status text) → DeepensAsRuns texts deepen status text

abbrev pub DeepeningIsRun : Type 0
DeepeningIsRun =
    (words : List (List ℕ)) (deepen : DeepenWords) (texts : Texts) → IsDeepen words deepen → (status : ℕ) (text : List ℕ)
    → ComesTo words (Some texts) AnyName NoName status text → DeepensAsRuns texts deepen status text

-- ---- a session's replies

-- the line in front of a reply, with the number of the query's line
abbrev pub query_line : ℕ → List ℕ
query_line number = line (codes "query " ++ decimal number)

-- a run of the text of one line as its whole query, over this program's text, with the bound and the option `--proofs` of a session
pub record RunsLine (session : SessionWords) (program text : List ℕ) (run : RunWords) (texts : Texts) : Type 0 where
  pub program_read : IsRead (Some texts) run.program program
  pub query_read : IsRead (Some texts) run.query text
  pub bound : run.bound ≡ session.bound
  pub proofs : run.proofs ≡ session.proofs
  pub first : run.first ≡ None

-- What stands in a reply to the line of this number, beside such a run, which comes to this status and text: the same text; or, where the run has a
-- fault, which is on line 1, the line of the same fault, with the name of the session's queries and the number of this line.
pub data RepliesAs (session : SessionWords) (number : ℕ) (run : RunWords) (status : ℕ) (text reply : List ℕ) : Type 0 where
  as_answered : status ≤ 2 → reply ≡ query_line number ++ text → RepliesAs session number run status text reply
  as_faulty : (f : Fault) → status ≡ 7 → f.at.line ≡ 1 → text ≡ fault_text (Faulty run.query f)
      → reply ≡ query_line number ++ fault_text (Faulty session.queries (on_line number f)) → RepliesAs session number run status text reply

-- the reply to a line: each such run, of any names and by any number of workers, comes to what the reply says
abbrev pub IsReplyTo : SessionWords → List ℕ → ℕ → List ℕ → List ℕ → Type 0
IsReplyTo session program number text reply =
    (words : List (List ℕ)) (run : RunWords) (texts : Texts) → IsRun words run → RunsLine session program text run texts
    → (status : ℕ) × (other : List ℕ) × ComesTo words (Some texts) AnyName NoName status other × RepliesAs session number run status other reply

-- from the line of this number on, the replies to these lines: one to each that is a query, in order, whatever lines stand beside it
pub data AreReplies (session : SessionWords) (program : List ℕ) : ℕ → List (List ℕ) → List ℕ → Type 0 where
  no_line : {number : ℕ} → AreReplies session program number [] []
  passed : {number : ℕ} {text : List ℕ} {rest : List (List ℕ)} {replies : List ℕ} → is_query_line text ≡ false
      → AreReplies session program (number + 1) rest replies → AreReplies session program number (text ∷ rest) replies
  replied : {number : ℕ} {text : List ℕ} {rest : List (List ℕ)} {replies : List ℕ} (reply : List ℕ) → is_query_line text ≡ true
      → IsReplyTo session program number text reply → AreReplies session program (number + 1) rest replies
      → AreReplies session program number (text ∷ rest) (reply ++ replies)

-- the texts of a session were read, and what it comes to is the replies to the lines of its queries
pub record RepliesAreRuns (texts : Texts) (session : SessionWords) (text : List ℕ) : Type 0 where
  pub program : List ℕ
  pub queries : List ℕ
  pub program_read : IsRead (Some texts) session.program program
  pub queries_read : IsRead (Some texts) session.queries queries
  pub replies : AreReplies session program 1 (lines queries) text

-- the run of a session's two texts, of which the second one is taken as one query, by so many workers
abbrev pub run_over : SessionWords → ℕ → RunWords
run_over session workers =
    record { program = session.program; query = session.queries; bound = session.bound; workers = workers; proofs = session.proofs; first = None }

-- What a session comes to, beside runs: the replies to its queries, with status 0; or, where its texts are not read or its program has a fault, what
-- each run of the two texts comes to.
pub data SessionAsRuns (texts : Texts) (session : SessionWords) (status : ℕ) (text : List ℕ) : Type 0 where
  as_replies : status ≡ 0 → RepliesAreRuns texts session text → SessionAsRuns texts session status text
  as_refusal : 2 < status
      → ((words : List (List ℕ)) (workers : ℕ) → IsRun words (run_over session workers) → ComesTo words (Some texts) AnyName NoName status text)
      → SessionAsRuns texts session status text

abbrev pub SessionIsRuns : Type 0
SessionIsRuns =
    (words : List (List ℕ)) (session : SessionWords) (texts : Texts) → IsSession words session → (status : ℕ) (text : List ℕ)
    → ComesTo words (Some texts) AnyName NoName status text → SessionAsRuns texts session status text

-- ---- a printed derivation

-- The derivation of the answer at this place, counted from 0, stands in the text right behind the lines of the answer, which stand behind the lines of
-- all answers before it. The search finds this answer, so a check says yes to this text of its derivation (`PrintedIsAccepted`).
pub record StandsIn (p : ProblemTree) (place : ℕ) (a : Answered) (d : DerivationLines) (text : List ℕ) : Type 0 where
  pub found : Contains (problem_events p) (Answer a)
  pub behind : List ℕ
  pub is : text ≡ first_lines true p place ++ answer_text p (suc place) a ++ proof_text p.names d ++ behind

-- So it is where a run with `--proofs` asks a problem, and the answer is one of those that are wanted.
abbrev pub DerivationIsPrinted : Type 0
DerivationIsPrinted =
    (words : List (List ℕ)) (run : RunWords) (texts : Texts) (p : ProblemTree) (place : ℕ) (a : Answered) (d : DerivationLines)
    → IsRun words run → run.proofs ≡ true → RunAsks (Some texts) run p → IfSome run.first (λ k. place < k)
    → slice_get (answers_of p) place ≡ Some a → dealt p a ≡ Some d
    → (status : ℕ) (text : List ℕ) → ComesTo words (Some texts) AnyName NoName status text → StandsIn p place a d text

-- ---- a greater bound

-- the same run with another bound, by so many workers
abbrev pub bounded_at : RunWords → ℕ → ℕ → RunWords
bounded_at run workers bound = record run { bound = bound; workers = workers }

-- What two runs of a problem come to, where the bound of the second one is as great or greater. Each writes the lines of its answers and its last
-- line. The answers of the first are those of the second whose branches have at most as many steps as its bound, in the same order, with the same
-- lines but for their numbers. Where no branch of the first reached its bound, the second comes to the same.
pub record KeepsAnswers (run : RunWords) (bound : ℕ) (p : ProblemTree) (status : ℕ) (text : List ℕ) (later_status : ℕ) (later : List ℕ) : Type 0 where
  pub text_is : text ≡ lines_of run.proofs p 0 (short_answers run.bound (answers_by p bound)) ++ last_line p
  pub later_is : later ≡ lines_of run.proofs p 0 (answers_by p bound) ++ last_line (bounded_by p bound)
  pub found : status ≡ 0 → later_status ≡ 0
  pub steady : any_reached (problem_events p) ≡ false → (later_status ≡ status) × (later ≡ text)

-- It is so where the texts of the two runs ask a problem. Otherwise both come to the same fault line.
pub data BoundsAgree (texts : Texts) (run : RunWords) (bound status : ℕ) (text : List ℕ) (later_status : ℕ) (later : List ℕ) : Type 0 where
  as_asked : (p : ProblemTree) → RunAsks (Some texts) run p → KeepsAnswers run bound p status text later_status later
      → BoundsAgree texts run bound status text later_status later
  as_refused : 2 < status → later_status ≡ status → later ≡ text → BoundsAgree texts run bound status text later_status later

-- So it is for each two runs that write all answers and differ in their bounds, whatever their numbers of workers.
abbrev pub GreaterBoundKeeps : Type 0
GreaterBoundKeeps =
    (words other : List (List ℕ)) (run : RunWords) (bound workers : ℕ) (texts : Texts) → IsRun words run → run.first ≡ None
    → IsRun other (bounded_at run workers bound) → run.bound ≤ bound
    → (status later_status : ℕ) (text later : List ℕ) → ComesTo words (Some texts) AnyName NoName status text
    → ComesTo other (Some texts) AnyName NoName later_status later → BoundsAgree texts run bound status text later_status later

-- ---- workers

-- two calls ask for the same, but for the number of workers
pub data DifferInWorkers (words other : List (List ℕ)) : Type 0 where
  two_runs : (run : RunWords) (workers : ℕ) → IsRun words run → IsRun other (record run { workers = workers }) → DifferInWorkers words other
  two_sessions : (session : SessionWords) (workers : ℕ) → IsSession words session → IsSession other (record session { workers = workers })
      → DifferInWorkers words other
  two_deepenings : (deepen : DeepenWords) (workers : ℕ) → IsDeepen words deepen → IsDeepen other (record deepen { workers = workers })
      → DifferInWorkers words other
  two_made_runs : (run : MadeRunWords) (workers : ℕ) → IsMadeRun words run → IsMadeRun other (record run { workers = workers }) → DifferInWorkers words other

-- What one of them comes to the other does: the number of workers changes no status and no byte.
abbrev pub WorkersChangeNothing : Type 0
WorkersChangeNothing =
    (words other : List (List ℕ)) (texts : Texts) → DifferInWorkers words other → (status : ℕ) (text : List ℕ)
    → ComesTo words (Some texts) AnyName NoName status text → ComesTo other (Some texts) AnyName NoName status text
