-- How the parts of a session end, in the program's own types.
use Rattle.std.specs.Prelude.{◌≡◌, ℕ, Bool, List, [], Option, IfOk}
use Rattle.std.specs.Io.KnownBytes.{append_known}
use Rattle.ll_edge.specs.Pieces.{AppendsFront}
use Rattle.ll_edge.specs.Texts.{Texts}
use Rattle.ll_laws.specs.Valid.{IsValid}
use Rattle.ll_parser.specs.Raw.{ProgramTree}
use Rattle.ll_session.specs.Queries.{QueryLine, AreQueries}
use Rattle.ll_top.specs.declared.texts.judge.Role.{Role}
use Rattle.ll_top.specs.declared.texts.judge.Role.TheVariants.{Program, Query, Proof}
use Rattle.ll_top.specs.declared.texts.refusing.TextRefusal.{TextRefusal}
use Rattle.ll_top.specs.declared.texts.refusing.TextRefusal.TheVariants as text
use Rattle.ll_top.specs.forms.Words.{SessionWords}
use Rattle.ll_top.specs.texts.Judging.{IsFaultless, IsProgramFault}
use Rattle.ll_top.specs.texts.Endings.{cause_of}
use Rattle.ll_top.specs.Sessions.{reply_text, replies_text, SessionFails}

-- the name of a session's text: the one with the queries is the query's; a session has no derivation's
abbrev pub name_in_session : SessionWords → Role → List ℕ
name_in_session session Program = session.program
name_in_session session Query = session.queries
name_in_session session Proof = []

-- why a session refuses a text
abbrev pub RefusesText : Option Texts → (List ℕ → Type 0) → (List ℕ → Type 0) → SessionWords → Role → TextRefusal → Type 0
RefusesText told absence read_failed session role refusal = SessionFails told absence read_failed session (cause_of (name_in_session session role) refusal)

-- the reply to a query was appended, and what it asks is valid
abbrev pub WritesReply : Bool → List ℕ → Option (List ℕ) → QueryLine → Option (List ℕ) → Type 0
WritesReply proofs name before query after = (after ≡ append_known before (reply_text proofs name query)) × IfOk query.asked IsValid

-- only a prefix of it was
abbrev pub CutsReply : Bool → List ℕ → Option (List ℕ) → QueryLine → Option (List ℕ) → Type 0
CutsReply proofs name before query after = AppendsFront before (reply_text proofs name query) after

-- what the lines of a text come to over a program: the replies to its queries
pub record RepliesTo (proofs : Bool) (name : List ℕ) (program : ProgramTree) (text : List ℕ) (bound status : ℕ) (written : List ℕ) : Type 0 where
  pub queries : List QueryLine
  pub are : AreQueries program text bound queries
  pub succeeds : status ≡ 0
  pub is : written ≡ replies_text proofs name queries

-- what two texts come to that were read: the replies to the queries of the second one, where the first one is a program without a fault
pub record TextsComeTo (proofs : Bool) (name program text : List ℕ) (bound status : ℕ) (written : List ℕ) : Type 0 where
  pub tree : ProgramTree
  pub faultless : IsFaultless program tree
  pub replies : RepliesTo proofs name tree text bound status written

-- why the program's text is refused of two that were read
abbrev pub RefusesProgram : List ℕ → Role → TextRefusal → Type 0
RefusesProgram program role (text.Faulty fault) = (role ≡ Program) × IsProgramFault program fault
RefusesProgram program role refusal = ⊥
