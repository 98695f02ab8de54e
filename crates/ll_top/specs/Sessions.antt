-- What a session comes to: a reply to each line of a text that is a query, over one program.
use Rattle.std.specs.Prelude.{◌≡◌, ℕ, Bool, List, [], ◌∷◌, ◌++◌, flat_map, Option, Result, Ok, Err, codes, decimal}
use Rattle.ll_edge.specs.Texts.{Texts}
use Rattle.ll_laws.specs.Output.{line}
use Rattle.ll_laws.specs.Problem.{ProblemTree}
use Rattle.ll_lexer.specs.declared.Fault.{Fault}
use Rattle.ll_parser.specs.Raw.{ProgramTree}
use Rattle.ll_session.specs.Queries.{QueryLine, AreQueries}
use Rattle.ll_top.specs.texts.Faults.{Cause, Faulty, fault_text, cause_status}
use Rattle.ll_top.specs.texts.Judging.{IsFaultless, IsProgramFault}
use Rattle.ll_top.specs.texts.Outcome.{IsRead, ReadFails}
use Rattle.ll_top.specs.Outcome.{whole_text}
use Rattle.ll_top.specs.forms.Words.{SessionWords}

-- what a reply says behind its first line: the text of a run of the problem, or the line of the fault, with the name of the queries' text
abbrev pub answer_to : Bool → List ℕ → Result ProblemTree Fault → List ℕ
answer_to proofs name (Ok p) = whole_text proofs p
answer_to proofs name (Err f) = fault_text (Faulty name f)

-- the reply to a query: `query L` with the number of its line, and what it comes to
abbrev pub reply_text : Bool → List ℕ → QueryLine → List ℕ
reply_text proofs name q = line (codes "query " ++ decimal q.line) ++ answer_to proofs name q.asked

-- the replies to queries, in order
abbrev pub replies_text : Bool → List ℕ → List QueryLine → List ℕ
replies_text proofs name queries = flat_map (reply_text proofs name) queries

-- the texts of a session were read, the program's has no fault, and the lines of the other one have these queries over it
pub record SessionAsks (told : Option Texts) (session : SessionWords) (queries : List QueryLine) : Type 0 where
  pub program : List ℕ
  pub text : List ℕ
  pub program_read : IsRead told session.program program
  pub queries_read : IsRead told session.queries text
  pub tree : ProgramTree
  pub faultless : IsFaultless program tree
  pub are : AreQueries tree text session.bound queries

-- Why a session ends with a fault line: its texts are not both read, or its program has a fault. A fault of a query's line is none of these.
pub data SessionFails (told : Option Texts) (absence read_failed : List ℕ → Type 0) (session : SessionWords) : Cause → Type 0 where
  session_not_read : (cause : Cause) → ReadFails told absence read_failed (session.program ∷ session.queries ∷ []) cause
      → SessionFails told absence read_failed session cause
  faulty_program : (program text : List ℕ) (f : Fault) → IsRead told session.program program → IsRead told session.queries text → IsProgramFault program f
      → SessionFails told absence read_failed session (Faulty session.program f)

-- what a session comes to: the replies to all its queries, or a fault line, each with its status
pub data SessionComesTo (told : Option Texts) (absence read_failed : List ℕ → Type 0) (session : SessionWords) (status : ℕ) (text : List ℕ) : Type 0 where
  replied : (queries : List QueryLine) → SessionAsks told session queries → status ≡ 0 → text ≡ replies_text session.proofs session.queries queries
      → SessionComesTo told absence read_failed session status text
  session_failed : (cause : Cause) → SessionFails told absence read_failed session cause → status ≡ cause_status cause → text ≡ fault_text cause
      → SessionComesTo told absence read_failed session status text
