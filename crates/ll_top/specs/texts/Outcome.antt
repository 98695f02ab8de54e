-- What texts are read of a shelf, what the texts of a run ask, and what a print comes to.
use Rattle.std.specs.Prelude.{◌≡◌, ◌≤◌, ◌<◌, ℕ, List, [], ◌∷◌, length, Option, Some, None, IsSomeAnd, IfSome}
use Rattle.ll_edge.specs.Log.{Entry, Reads, Handed}
use Rattle.ll_edge.specs.Texts.{Texts, text_of}
use Rattle.ll_laws.specs.Problem.{ProblemTree}
use Rattle.ll_lexer.specs.declared.Fault.{Fault}
use Rattle.ll_parser.specs.Raw.{ProgramTree}
use Rattle.ll_parser.specs.Printed.{program_text}
use Rattle.ll_top.specs.declared.texts.judge.Role.{Role}
use Rattle.ll_top.specs.declared.texts.judge.Role.TheVariants.{Program, Query, Proof}
use Rattle.ll_top.specs.forms.Words.{RunWords}
use Rattle.ll_top.specs.texts.Faults.{Cause, Absent, Unreadable, Oversized, Faulty, fault_text, cause_status}
use Rattle.ll_top.specs.texts.Judging.{IsProgramText, IsReadingFault, IsTextFault, TextsAsk}

-- the greatest number of bytes of a text
abbrev pub longest_text : ℕ
longest_text = 16777216

-- of any name, and of none
abbrev pub AnyName : List ℕ → Type 0
AnyName name = Unit {0}

abbrev pub NoName : List ℕ → Type 0
NoName name = ⊥

-- the text was read of this name: it is not too long, and where the texts are told it is the one of this name
pub record IsRead (told : Option Texts) (name text : List ℕ) : Type 0 where
  pub found : IfSome told (λ texts. text_of texts name ≡ Some text)
  pub within : length text ≤ longest_text

-- texts are read in the order of their names, and it is the turn of this name: those before it were read
pub data Reaches (told : Option Texts) : List (List ℕ) → List ℕ → Type 0 where
  first : {name : List ℕ} {names : List (List ℕ)} → Reaches told (name ∷ names) name
  later : {read name : List ℕ} {names : List (List ℕ)} → (text : List ℕ) → IsRead told read text → Reaches told names name → Reaches told (read ∷ names) name

-- the texts that a run reads, in order
abbrev pub run_texts : RunWords → List (List ℕ)
run_texts run = run.program ∷ run.query ∷ []

-- Why the texts of these names are not all read: it is the turn of one that is absent, can't be read or is too long. `absence` and
-- `read_failed` say of a name that the shelf found no text of it, and that it failed to read it.
pub data ReadFails (told : Option Texts) (absence read_failed : List ℕ → Type 0) (names : List (List ℕ)) : Cause → Type 0 where
  absent : (name : List ℕ) → Reaches told names name → absence name → IfSome told (λ texts. text_of texts name ≡ None)
      → ReadFails told absence read_failed names (Absent name)
  unreadable : (name : List ℕ) → Reaches told names name → read_failed name → ReadFails told absence read_failed names (Unreadable name)
  oversized : (name : List ℕ) → Reaches told names name → IfSome told (λ texts. IsSomeAnd (text_of texts name) (λ text. longest_text < length text))
      → ReadFails told absence read_failed names (Oversized name)

-- ---- runs

-- the name of a run's text; a run has no derivation's
abbrev pub name_of : RunWords → Role → List ℕ
name_of run Program = run.program
name_of run Query = run.query
name_of run Proof = []

-- Why a run ends with a fault line: its texts are not both read; or one of them has a fault, where the program is judged first.
pub data RunFails (told : Option Texts) (absence read_failed : List ℕ → Type 0) (run : RunWords) : Cause → Type 0 where
  not_read : (cause : Cause) → ReadFails told absence read_failed (run_texts run) cause → RunFails told absence read_failed run cause
  faulty : (program query : List ℕ) (role : Role) (f : Fault) → IsRead told run.program program → IsRead told run.query query → IsTextFault program query role f
      → RunFails told absence read_failed run (Faulty (name_of run role) f)

-- the texts of a run were read, and ask this problem
pub record RunAsks (told : Option Texts) (run : RunWords) (p : ProblemTree) : Type 0 where
  pub program : List ℕ
  pub query : List ℕ
  pub program_read : IsRead told run.program program
  pub query_read : IsRead told run.query query
  pub asks : TextsAsk program query run.bound p

-- Calls of a shelf read the text of a run's program, whole, and then that of its query, and nothing else; and the two ask this problem.
pub record ReadsWhatAsks (run : RunWords) (before after : List Entry) (p : ProblemTree) : Type 0 where
  pub program : List ℕ
  pub query : List ℕ
  pub between : List Entry
  pub program_read : Reads run.program before between program (Handed [])
  pub query_read : Reads run.query between after query (Handed [])
  pub asks : TextsAsk program query run.bound p

-- ---- prints

-- the text of this name was read, and is a program that is printed as these bytes
pub record IsPrintedAs (told : Option Texts) (name bytes : List ℕ) : Type 0 where
  pub text : List ℕ
  pub tree : ProgramTree
  pub text_read : IsRead told name text
  pub is_program : IsProgramText text tree
  pub is : bytes ≡ program_text tree

-- why a print ends with a fault line: its text is not read, or has a fault of kinds 1 to 6; no other kind is judged
pub data PrintFails (told : Option Texts) (absence read_failed : List ℕ → Type 0) (name : List ℕ) : Cause → Type 0 where
  source_not_read : (cause : Cause) → ReadFails told absence read_failed (name ∷ []) cause → PrintFails told absence read_failed name cause
  faulty_source : (text : List ℕ) (f : Fault) → IsRead told name text → IsReadingFault Program text f → PrintFails told absence read_failed name (Faulty name f)

-- what a print comes to: the program as it is printed, or a fault line, each with its status
pub data PrintComesTo (told : Option Texts) (absence read_failed : List ℕ → Type 0) (name : List ℕ) (status : ℕ) (text : List ℕ) : Type 0 where
  printed : IsPrintedAs told name text → status ≡ 0 → PrintComesTo told absence read_failed name status text
  print_failed : (cause : Cause) → PrintFails told absence read_failed name cause → status ≡ cause_status cause → text ≡ fault_text cause
      → PrintComesTo told absence read_failed name status text
