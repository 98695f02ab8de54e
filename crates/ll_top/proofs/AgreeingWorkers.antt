-- The number of workers changes nothing that a call comes to.
use Rattle.std.proofs.Common.{ℕ, refl, sym, subst, ◌∙◌, List}
use Rattle.std.specs.Prelude.{Option, Some}
use Rattle.ll_edge.specs.Texts.{Texts}
use Rattle.ll_laws.specs.Problem.{ProblemTree}
use Rattle.ll_top.specs.forms.Making.{MadeRunWords}
use Rattle.ll_top.specs.forms.Words.{RunWords, SessionWords, DeepenWords, IsMadeRun}
use Rattle.ll_top.proofs.wording.FirstWords.{bad-not-in-form, made-run-in-form, made-run-kind}
use Rattle.ll_top.specs.declared.texts.judge.Role.TheVariants.{Program, Query, Proof}
use Rattle.ll_top.specs.texts.Faults.{Cause}
use Rattle.ll_top.specs.texts.Outcome.{AnyName, NoName, RunFails, not_read, faulty, RunAsks}
use Rattle.ll_top.specs.Outcome.{RunComesTo, ran, failed}
use Rattle.ll_top.specs.MadeRuns.{MadeRunComesTo}
use Rattle.ll_top.specs.Sessions.{SessionFails, session_not_read, faulty_program, SessionComesTo, replied, session_failed}
use Rattle.ll_top.specs.Deepening.{run_within, DeepenComesTo, deepened, deepen_failed}
use Rattle.ll_top.specs.Calls.{ComesTo, misused, runs, sessions, deepens, runs_made}
use Rattle.ll_top.specs.Agreeing.{two_runs, two_sessions, two_deepenings, two_made_runs, WorkersChangeNothing}
use Rattle.ll_top.proofs.outcomes.CallLemmas.{comes-kind}
use Rattle.ll_top.proofs.outcomes.OneText.{one-made-run}
use Rattle.ll_top.proofs.AgreeingRuns.{comes-run, comes-session, comes-deepen}

-- ---- runs

module _ (told : Option Texts) (absence read_failed : List ℕ → Type 0) (workers status : ℕ) (text : List ℕ) where
  module _ (run : RunWords) where
    abbrev shared_run : RunWords
    shared_run = record run { workers = workers }

    asks-other : (p : ProblemTree) → RunAsks told run p → RunAsks told shared_run p
    asks-other p a = record { program = a.program; query = a.query; program_read = a.program_read; query_read = a.query_read; asks = a.asks }

    fails-other : (c : Cause) → RunFails told absence read_failed run c → RunFails told absence read_failed shared_run c
    fails-other _ (not_read c r) = not_read c r
    fails-other _ (faulty p q Program f h k t) = faulty p q Program f h k t
    fails-other _ (faulty p q Query f h k t) = faulty p q Query f h k t
    fails-other _ (faulty p q Proof f h k t) = faulty p q Proof f h k t

    run-other : RunComesTo told absence read_failed run status text → RunComesTo told absence read_failed shared_run status text
    run-other (ran p a e f) = ran p (asks-other p a) e f
    run-other (failed c a e f) = failed c (fails-other c a) e f

  -- ---- sessions

  module _ (session : SessionWords) where
    abbrev shared_session : SessionWords
    shared_session = record session { workers = workers }

    session-fails-other : (c : Cause) → SessionFails told absence read_failed session c → SessionFails told absence read_failed shared_session c
    session-fails-other _ (session_not_read c r) = session_not_read c r
    session-fails-other _ (faulty_program p q f h k t) = faulty_program p q f h k t

    session-other : SessionComesTo told absence read_failed session status text → SessionComesTo told absence read_failed shared_session status text
    session-other (replied queries a e f) =
        replied queries (record {
          program = a.program;
          text = a.text;
          program_read = a.program_read;
          queries_read = a.queries_read;
          tree = a.tree;
          faultless = a.faultless;
          are = a.are;
        }) e f
    session-other (session_failed c a e f) = session_failed c (session-fails-other c a) e f

  -- ---- deepenings

  module _ (deepen : DeepenWords) where
    deepen-other : DeepenComesTo told absence read_failed deepen status text
        → DeepenComesTo told absence read_failed (record deepen { workers = workers }) status text
    deepen-other (deepened n p a d e f) = deepened n p (asks-other (run_within deepen n) p a) d e f
    deepen-other (deepen_failed c a e f) = deepen_failed c (fails-other (run_within deepen deepen.series.from) c a) e f

  -- ---- runs of programs that are made

  module _ (run : MadeRunWords) where
    made-other : MadeRunComesTo run status text → MadeRunComesTo (record run { workers = workers }) status text
    made-other c = record { problem = c.problem; asks = c.asks; status_is = c.status_is; is = c.is }

    -- a call with the words of such a run comes to what it does
    comes-made : (words : List (List ℕ)) → IsMadeRun words run → ComesTo words told absence read_failed status text → MadeRunComesTo run status text
    comes-made words is (runs_made made k c) = subst (λ x. MadeRunComesTo x status text) (one-made-run words made run k is) c
    comes-made words is (misused n b s t) = absurd (bad-not-in-form words n b (made-run-in-form words run.make.kind is.form))
    comes-made words is c =
        absurd (let k = sym (made-run-kind words run.make.kind is.form) ∙ comes-kind words told absence read_failed status text c refl in cc)

pub workers-change-nothing : WorkersChangeNothing
workers-change-nothing words other texts (two_runs run workers is is_other) status text c =
    runs (record run { workers = workers }) is_other (run-other (Some texts) AnyName NoName workers status text run
    (comes-run words (Some texts) AnyName NoName status text run is c))
workers-change-nothing words other texts (two_sessions session workers is is_other) status text c =
    sessions (record session { workers = workers }) is_other (session-other (Some texts) AnyName NoName workers status text session
    (comes-session words (Some texts) AnyName NoName status text session is c))
workers-change-nothing words other texts (two_deepenings deepen workers is is_other) status text c =
    deepens (record deepen { workers = workers }) is_other (deepen-other (Some texts) AnyName NoName workers status text deepen
    (comes-deepen words (Some texts) AnyName NoName status text deepen is c))
workers-change-nothing words other texts (two_made_runs run workers is is_other) status text c =
    runs_made (record run { workers = workers }) is_other (made-other (Some texts) AnyName NoName workers status text run
    (comes-made (Some texts) AnyName NoName workers status text run words is c))
