-- That the run of a problem is right, from the laws of what follows.
use Rattle.std.proofs.Common.{◌≡◌, ◌≤◌, ℕ, Bool, List, [], ◌∷◌, ap, Option, None, sym, ◌∙◌, arith}
use Rattle.std.specs.Prelude.{Result, Ok, Err, IfOk}
use Rattle.std.specs.Io.KnownBytes.{append_known}
use Rattle.std.proofs.lemmas.List.{append-nil}
use Rattle.ll_edge.specs.Log.{Entry, ToldFits}
use Rattle.ll_edge.specs.Texts.{Texts}
use Rattle.ll_top.specs.declared.texts.judge.Role.{Role}
use Rattle.ll_top.specs.declared.texts.refusing.TextRefusal.{TextRefusal}
use Rattle.ll_top.specs.OwnEnds.{EndsOwn}
use Rattle.ll_lexer.specs.declared.Fault.{Fault}
use Rattle.ll_laws.specs.Laws.{AnswersAreShown}
use Rattle.ll_laws.specs.Problem.{ProblemTree, problem_events}
use Rattle.ll_laws.specs.Output.{run_status}
use Rattle.ll_laws.specs.Sound.{Every}
use Rattle.ll_laws.specs.Valid.{IsValid}
use Rattle.ll_top.specs.textbook.Follows.{reckons}
use Rattle.ll_top.specs.textbook.Laws.{AnswersFollow, InstancesFollow, FollowsIsAnswered, NothingFollows, NumberlessFollows}
use Rattle.ll_session.specs.Queries.{QueryLine}
use Rattle.ll_top.specs.forms.Words.{SessionWords, DeepenWords}
use Rattle.ll_top.specs.texts.Judging.{IsFaultless}
use Rattle.ll_top.specs.texts.Outcome.{IsRead, RunAsks}
use Rattle.ll_top.specs.declared.texts.refusing.Refusal.{Refusal}
use Rattle.ll_parser.specs.Raw.{ProgramTree}
use Rattle.ll_top.specs.lines.Running.{all_lines}
use Rattle.ll_top.specs.declared.run.Found.{Found}
use Rattle.ll_top.specs.Nothing.{NoneFollows}
use Rattle.ll_top.specs.DeepenEnds.{with_bound, first_run, DeepensTo}
use Rattle.ll_top.specs.Endings.{status_of_found}
use Rattle.ll_top.specs.Shown.{IsRunRight, WritesReplies, SessionShown, DeepenShown}
use Rattle.ll_top.proofs.calls.DeepenLemmas.{asks-within, deciding-within, valid-within}
use Rattle.ll_top.proofs.calls.NothingLemmas.{true-and-false}
use Rattle.ll_top.proofs.calls.ProvedLemmas.{answers-shown, told-text}

-- the laws of what follows
pub record FollowingLaws : Type 0 where
  pub shown : AnswersAreShown
  pub answers : AnswersFollow
  pub instances : InstancesFollow
  pub answered : FollowsIsAnswered
  pub nothing : NothingFollows
  pub numberless : NumberlessFollows

module _ (laws : FollowingLaws) where
  pub run-right : (proofs : Bool) (p : ProblemTree) → IsValid p → IsRunRight proofs p
  run-right proofs p valid =
      let never : run_status p ≡ 1 → NoneFollows p = λ one ts m h f. laws.nothing p ts m h valid one f in record {
        answers = all_lines proofs p 0 (problem_events p);
        are_shown = answers-shown laws.shown laws.answers laws.instances p valid proofs (problem_events p) [] (append-nil (problem_events p));
        text = sym (told-text None proofs p);
        covers = λ ts m h f e le. laws.answered p ts m h valid f e le;
        none = never;
        nothing = λ one n ts m f h. true-and-false (reckons h) (never one ts m h f) (laws.numberless p ts m h n);
      }

  reply-right : (proofs : Bool) (asked : Result ProblemTree Fault) → IfOk asked IsValid → IfOk asked (IsRunRight proofs)
  reply-right proofs (Ok p) valid = run-right proofs p valid
  reply-right proofs (Err f) valid = tt

  replies-right : (proofs : Bool) (queries : List QueryLine) → Every (λ q. IfOk q.asked IsValid) queries
      → Every (λ q. IfOk q.asked (IsRunRight proofs)) queries
  replies-right proofs [] valid = tt
  replies-right proofs (q ∷ queries) valid = (reply-right proofs q.asked valid.0, replies-right proofs queries valid.1)

  -- both texts of a session were read, and its replies written
  pub session-shown : (told : Option Texts) (session : SessionWords) (program text : List ℕ) (tree : ProgramTree) (before after : Option (List ℕ))
      → IsRead told session.program program → IsRead told session.queries text → IsFaultless program tree
      → WritesReplies session.proofs session.queries tree text session.bound before after → SessionShown told session before after
  session-shown told session program text tree before after p q f w = record {
    queries = w.queries;
    asks = record { program = program; text = text; program_read = p; queries_read = q; tree = tree; faultless = f; are = w.are };
    right = replies-right session.proofs w.queries w.valid;
    written = w.written;
  }

  -- the texts of a deepening ask a problem, which was run with the bound that decides
  pub deepen-shown : (told : Option Texts) (deepen : DeepenWords) (p : ProblemTree) (before after : Option (List ℕ)) (status : ℕ) (text : List ℕ)
      → IsValid p → (deepen.series.to ≤ 1000000) → RunAsks told (first_run deepen) p → DeepensTo deepen.proofs deepen.series p status text
      → after ≡ append_known before text → DeepenShown told deepen before after status
  deepen-shown told deepen p before after status text valid small asks d written = record {
    bound = d.bound;
    problem = with_bound p d.bound;
    asks = asks-within told deepen deepen.series.from d.bound p asks;
    decides = deciding-within p deepen.series d.bound d.bound d.decides;
    right = run-right deepen.proofs (with_bound p d.bound) (valid-within p d.bound valid (let l = d.decides.first.within in omega (arith, l, small)));
    status_is = d.status_is;
    written = written ∙ ap (append_known before) d.text_is;
  }

  pub texts-shown : (deepen : DeepenWords) (p : ProblemTree) (Fails : Role → TextRefusal → Type 0) (w : Type 0) (log later : List Entry)
      (before after : Option (List ℕ)) (r : Result Found Refusal) → IsValid p → deepen.series.to ≤ 1000000
      → ((told : Option Texts) → ToldFits told log later → RunAsks told (first_run deepen) p)
      → EndsOwn (DeepensTo deepen.proofs deepen.series p) status_of_found Fails w before after r
      → IfOk r (λ found. (told : Option Texts) → ToldFits told log later → DeepenShown told deepen before after (status_of_found found))
  texts-shown deepen p Fails w log later before after (Ok found) valid small asks h = λ told fits.
      deepen-shown told deepen p before after (status_of_found found) h.0 valid small (asks told fits) h.1 h.2
  texts-shown deepen p Fails w log later before after (Err e) valid small asks h = tt
