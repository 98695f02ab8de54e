-- What a session and a deepening say, in the words of the sequent calculus.
use Rattle.std.specs.Prelude.{◌≡◌, ◌≤◌, ℕ, Bool, false, List, ◌++◌, Option, None, IfOk}
use Rattle.std.specs.Io.KnownBytes.{append_known}
use Rattle.ll_bank.specs.Term.{Term}
use Rattle.ll_deepen.specs.Deciding.{IsDeciding}
use Rattle.ll_edge.specs.Texts.{Texts}
use Rattle.ll_laws.specs.Problem.{ProblemTree, problem_events}
use Rattle.ll_laws.specs.Output.{run_status}
use Rattle.ll_laws.specs.Sound.{Every}
use Rattle.ll_laws.specs.Valid.{IsValid}
use Rattle.ll_top.specs.textbook.Follows.{IsFilling, Follows, reckons, IsAnswered, IsNumberless}
use Rattle.ll_parser.specs.Raw.{ProgramTree}
use Rattle.ll_session.specs.Queries.{QueryLine, AreQueries}
use Rattle.ll_top.specs.forms.Words.{SessionWords, DeepenWords}
use Rattle.ll_top.specs.texts.Outcome.{RunAsks}
use Rattle.ll_top.specs.Outcome.{whole_text}
use Rattle.ll_top.specs.Proved.{AreShown, end_of_run}
use Rattle.ll_top.specs.Nothing.{NoneFollows}
use Rattle.ll_top.specs.Sessions.{SessionAsks, replies_text}
use Rattle.ll_top.specs.Deepening.{run_within, bound_line}

-- What the text of a problem's run says is right: each answer in it is, and behind its text stands a derivation where proofs are asked for; what
-- follows within the bound, whole-number goals aside, is an instance of an answer; and where its status is 1 nothing follows.
pub record IsRunRight (proofs : Bool) (p : ProblemTree) : Type 0 where
  pub answers : List ℕ
  pub are_shown : AreShown proofs p 0 (problem_events p) answers
  pub text : whole_text proofs p ≡ answers ++ end_of_run None p
  pub covers : (ts : List Term) (m : ℕ) (h : Follows p m ts) → IsFilling p ts → reckons h ≡ false → m ≤ p.bound → IsAnswered p ts m
  pub none : run_status p ≡ 1 → NoneFollows p
  pub nothing : run_status p ≡ 1 → IsNumberless p → (ts : List Term) (m : ℕ) → IsFilling p ts → Follows p m ts → ⊥

-- the replies to the queries of a text were appended, and each problem that a query asks is valid
pub record WritesReplies (proofs : Bool) (name : List ℕ) (program : ProgramTree) (text : List ℕ) (bound : ℕ) (before after : Option (List ℕ)) : Type 0 where
  pub queries : List QueryLine
  pub are : AreQueries program text bound queries
  pub valid : Every (λ q. IfOk q.asked IsValid) queries
  pub written : after ≡ append_known before (replies_text proofs name queries)

-- The texts of a session ask some queries, the replies to which were appended, and the reply to each that asks a problem is right.
pub record SessionShown (told : Option Texts) (session : SessionWords) (before after : Option (List ℕ)) : Type 0 where
  pub queries : List QueryLine
  pub asks : SessionAsks told session queries
  pub right : Every (λ q. IfOk q.asked (IsRunRight session.proofs)) queries
  pub written : after ≡ append_known before (replies_text session.proofs session.queries queries)

-- The texts of a deepening ask a problem with the bound that decides, whose run, with the bound's line in front, was appended and is right.
pub record DeepenShown (told : Option Texts) (deepen : DeepenWords) (before after : Option (List ℕ)) (status : ℕ) : Type 0 where
  pub bound : ℕ
  pub problem : ProblemTree
  pub asks : RunAsks told (run_within deepen bound) problem
  pub decides : IsDeciding problem deepen.series bound
  pub right : IsRunRight deepen.proofs problem
  pub status_is : status ≡ run_status problem
  pub written : after ≡ append_known before (bound_line bound ++ whole_text deepen.proofs problem)
