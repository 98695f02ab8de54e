-- The replies of a session are what runs of its lines come to.
use Rattle.std.proofs.Common.{◌≡◌, ◌<◌, ◌+◌, ℕ, refl, ap, sym, subst, ◌∙◌, List, ◌++◌, arith}
use Rattle.std.specs.Prelude.{Some, None, Result, Ok, Err}
use Rattle.ll_edge.specs.Texts.{Texts}
use Rattle.ll_lexer.specs.declared.Fault.{Fault}
use Rattle.ll_laws.specs.Problem.{ProblemTree}
use Rattle.ll_parser.specs.Raw.{ProgramTree}
use Rattle.ll_session.specs.Reading.{IsQueryFault as IsLineFault, TextAsks, lexical as line_lexical, grammatical as line_grammatical, of_scope}
use Rattle.ll_session.specs.Lines.{lines}
use Rattle.ll_session.specs.Queries.{QueryLine, LineAsks, HaveQueries, no_line as no_lines, passed as passed_over, asked as asked_here, on_line}
use Rattle.ll_top.specs.forms.Words.{SessionWords}
use Rattle.ll_top.specs.declared.texts.judge.Role.TheVariants.{Program, Query}
use Rattle.ll_top.specs.texts.Faults.{Cause, Faulty, fault_text}
use Rattle.ll_top.specs.texts.Judging.{IsFaultless, IsQueryFault, of_query_reading, of_query_scope, lexical, grammatical, of_program, of_query, TextsAsk}
use Rattle.ll_top.specs.texts.Outcome.{AnyName, NoName, RunAsks, RunFails, not_read, faulty}
use Rattle.ll_top.specs.Outcome.{whole_text, status_of_run, text_of_run, ran, failed}
use Rattle.ll_top.specs.Sessions.{reply_text, replies_text, SessionAsks, SessionFails, session_not_read, faulty_program, SessionComesTo}
use Rattle.ll_top.specs.Sessions.{replied as replied_to, session_failed}
use Rattle.ll_top.specs.Calls.{runs}
use Rattle.ll_top.specs.Agreeing.{query_line, as_answered, as_faulty, IsReplyTo, AreReplies, no_line, passed, replied, RepliesAreRuns}
use Rattle.ll_top.specs.Agreeing.{run_over, SessionAsRuns, as_replies, as_refusal, SessionIsRuns}
use Rattle.ll_top.proofs.AgreeingRuns.{comes-session, cause-past}
use Rattle.ll_top.proofs.outcomes.CallLemmas.{run-small}
use Rattle.ll_top.proofs.AgreeingPlaces.{IsClean, AreClean, lines-clean, QueryOrder, line-fault}

-- ---- a line as the text of a query

-- the fault of a line is that of a query's text
query-fault : (program : ProgramTree) (text : List ℕ) (f : Fault) → IsLineFault program text f → IsQueryFault program text f
query-fault program text f (line_lexical h) = of_query_reading (lexical h)
query-fault program text f (line_grammatical lexed e l h) = of_query_reading (grammatical lexed e l h)
query-fault program text f (of_scope tree q h) = of_query_scope tree q h

texts-ask : (program : List ℕ) (tree : ProgramTree) (text : List ℕ) (bound : ℕ) (p : ProblemTree) → IsFaultless program tree → TextAsks tree text bound p
    → TextsAsk program text bound p
texts-ask program tree text bound p f a =
    record { program_tree = tree; query_tree = a.tree; is_program = f.is_program; is_query = a.is_query; asks = a.asks }

-- ---- replies

module _ (order : QueryOrder) (session : SessionWords) (program : List ℕ) (tree : ProgramTree) (faultless : IsFaultless program tree) where
  module _ (number : ℕ) (text : List ℕ) (clean : IsClean text) where
    problem-reply : (p : ProblemTree) → TextAsks tree text session.bound p
        → IsReplyTo session program number text (query_line number ++ whole_text session.proofs p)
    problem-reply p a = λ words run texts is r.
        let asks : RunAsks (Some texts) run p = record {
          program = program;
          query = text;
          program_read = r.program_read;
          query_read = r.query_read;
          asks = subst (λ b. TextsAsk program text b p) (sym r.bound) (texts-ask program tree text session.bound p faultless a);
        } in
        let whole : whole_text run.proofs p ≡ text_of_run run.first run.proofs p = ap (λ o. text_of_run o run.proofs p) (sym r.first) in
        let status = run-small p in
        let ends : status_of_run run.first p ≡ status_of_run None p = ap (λ o. status_of_run o p) r.first in (
          status_of_run run.first p,
          text_of_run run.first run.proofs p,
          runs run is (ran p asks refl refl),
          as_answered (omega (arith, ends, status))
              (ap (λ b. query_line number ++ whole_text b p) (sym r.proofs) ∙ ap (λ t. query_line number ++ t) whole),
        )

    fault-reply : (f : Fault) → IsLineFault tree text f
        → IsReplyTo session program number text (query_line number ++ fault_text (Faulty session.queries (on_line number f)))
    fault-reply f h = λ words run texts is r. (
      7,
      fault_text (Faulty run.query f),
      runs run is (failed (Faulty run.query f)
          (faulty program text Query f r.program_read r.query_read (of_query tree faultless (query-fault tree text f h))) refl refl),
      as_faulty f refl (line-fault order tree text f clean h) refl refl,
    )

    line-reply : (what : Result ProblemTree Fault) → LineAsks tree session.bound number text what
        → IsReplyTo session program number text (reply_text session.proofs session.queries (record { line = number; asked = what }))
    line-reply (Ok p) a = problem-reply p a
    line-reply (Err f) a =
        subst (λ g. IsReplyTo session program number text (query_line number ++ fault_text (Faulty session.queries g))) (sym a.2) (fault-reply a.0 a.1)

  are-replies : (number : ℕ) (texts : List (List ℕ)) (queries : List QueryLine) → AreClean texts → HaveQueries tree session.bound number texts queries
      → AreReplies session program number texts (replies_text session.proofs session.queries queries)
  are-replies number _ _ c no_lines = no_line
  are-replies number _ _ c (passed_over {rest = rest} {queries = queries} e h) = passed e (are-replies (number + 1) rest queries c.1 h)
  are-replies number _ _ c (asked_here {text = text} {rest = rest} {queries = queries} what e a h) =
      replied (reply_text session.proofs session.queries (record { line = number; asked = what })) e (line-reply number text c.0 what a)
      (are-replies (number + 1) rest queries c.1 h)

-- ---- sessions

-- a session that reads its texts, and whose program has no fault
session-replies : QueryOrder → (texts : Texts) (session : SessionWords) (queries : List QueryLine) → SessionAsks (Some texts) session queries
    → RepliesAreRuns texts session (replies_text session.proofs session.queries queries)
session-replies order texts session queries a = record {
  program = a.program;
  queries = a.text;
  program_read = a.program_read;
  queries_read = a.queries_read;
  replies = are-replies order session a.program a.tree a.faultless 1 (lines a.text) queries (lines-clean a.text) a.are;
}

-- any other fails as the run of its two texts
fails-over : (texts : Texts) (session : SessionWords) (workers : ℕ) (c : Cause) → SessionFails (Some texts) AnyName NoName session c
    → RunFails (Some texts) AnyName NoName (run_over session workers) c
fails-over texts session workers _ (session_not_read c r) = not_read c r
fails-over texts session workers _ (faulty_program p q f h k t) = faulty p q Program f h k (of_program t)

session-as : QueryOrder → (texts : Texts) (session : SessionWords) (status : ℕ) (text : List ℕ)
    → SessionComesTo (Some texts) AnyName NoName session status text → SessionAsRuns texts session status text
session-as order texts session status text (replied_to queries a e f) =
    as_replies e (subst (RepliesAreRuns texts session) (sym f) (session-replies order texts session queries a))
session-as order texts session status text (session_failed c f e g) =
    as_refusal (subst (λ n. 2 < n) (sym e) (cause-past c))
    (λ words workers is. runs (run_over session workers) is (failed c (fails-over texts session workers c f) e g))

pub session-is-runs : QueryOrder → SessionIsRuns
session-is-runs order words session texts is status text c =
    session-as order texts session status text (comes-session words (Some texts) AnyName NoName status text session is c)
