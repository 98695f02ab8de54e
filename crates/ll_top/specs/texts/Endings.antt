-- How reading, judging and printing end, in the program's own types.
use Rattle.std.specs.Prelude.{◌≡◌, ◌<◌, ℕ, List, length, Option, None, Result, Ok, Err, IsSomeAnd, IfSome}
use Rattle.std.specs.Io.KnownBytes.{append_known}
use Rattle.ll_edge.specs.Pieces.{AppendsFront}
use Rattle.ll_edge.specs.Texts.{Texts, text_of}
use Rattle.ll_laws.specs.Problem.{ProblemTree}
use Rattle.ll_prooftext.specs.Versions.{HasFaultIn}
use Rattle.ll_lexer.specs.declared.TextFault.{TextFault}
use Rattle.ll_lexer.specs.declared.TextFault.TheVariants as text_fault
use Rattle.ll_top.specs.declared.texts.fault.Cause.{Cause as OwnCause}
use Rattle.ll_top.specs.declared.texts.fault.Cause.TheVariants as own
use Rattle.ll_top.specs.declared.texts.judge.Role.{Role}
use Rattle.ll_top.specs.declared.texts.judge.Role.TheVariants.{Program, Proof}
use Rattle.ll_top.specs.declared.texts.refusing.TextRefusal.{TextRefusal}
use Rattle.ll_top.specs.declared.texts.refusing.TextRefusal.TheVariants as text
use Rattle.ll_top.specs.declared.texts.refusing.Refusal.{Refusal}
use Rattle.ll_top.specs.declared.texts.refusing.Refusal.TheVariants.{Text, Unwritable, OutOfMemory}
use Rattle.ll_top.specs.forms.Words.{RunWords}
use Rattle.ll_top.specs.texts.Faults.{Cause, Usage, Absent, Unreadable, Oversized, OversizedAs, Faulty, fault_text, cause_status}
use Rattle.ll_parser.specs.Raw.{ProgramTree}
use Rattle.ll_parser.specs.Printed.{program_text}
use Rattle.ll_top.specs.texts.Judging.{IsProgramText, IsReadingFault, IsTextFault, TextsAsk}
use Rattle.ll_top.specs.texts.Outcome.{longest_text, name_of, RunFails, RunAsks, PrintFails, IsPrintedAs}

-- ---- causes

-- what the program's value of a cause shows
abbrev pub shown_cause : OwnCause → Cause
shown_cause (own.Usage number) = Usage number
shown_cause (own.Absent name) = Absent name.now
shown_cause (own.Unreadable name) = Unreadable name.now
shown_cause (own.Oversized name) = Oversized name.now
shown_cause (own.OversizedAs name version) = OversizedAs name.now version
shown_cause (own.Faulty name fault) = Faulty name.now fault

-- the cause that a refusal of the text of this name is
abbrev pub cause_of : List ℕ → TextRefusal → Cause
cause_of name text.Absent = Absent name
cause_of name text.Unreadable = Unreadable name
cause_of name text.Oversized = Oversized name
cause_of name (text.Faulty fault) = Faulty name fault

-- the refusal for a text's fault
abbrev pub refusal_of : Role → TextFault → Refusal
refusal_of role (text_fault.Text fault) = Text role (text.Faulty fault)
refusal_of role text_fault.OutOfMemory = OutOfMemory

-- a fault line was written, with the status of its cause; or a write failed, with a prefix of the line written
pub data Refuses (cause : Cause) (write_failed : Type 0) (before after : Option (List ℕ)) (status : ℕ) : Type 0 where
  line : status ≡ cause_status cause → after ≡ append_known before (fault_text cause) → Refuses cause write_failed before after status
  cut : status ≡ 6 → write_failed → AppendsFront before (fault_text cause) after → Refuses cause write_failed before after status

-- ---- reading and judging

-- why the text of this name was not read
abbrev pub IsTextNotRead : Option Texts → (List ℕ → Type 0) → (List ℕ → Type 0) → List ℕ → TextRefusal → Type 0
IsTextNotRead told absence read_failed name text.Absent = absence name × IfSome told (λ texts. text_of texts name ≡ None)
IsTextNotRead told absence read_failed name text.Unreadable = read_failed name
IsTextNotRead told absence read_failed name text.Oversized = IfSome told (λ texts. IsSomeAnd (text_of texts name) (λ text. longest_text < length text))
IsTextNotRead told absence read_failed name (text.Faulty fault) = ⊥

abbrev pub IsNotRead : Option Texts → (List ℕ → Type 0) → (List ℕ → Type 0) → List ℕ → Role → Refusal → Type 0
IsNotRead told absence read_failed name role (Text other refusal) = (other ≡ role) × IsTextNotRead told absence read_failed name refusal
IsNotRead told absence read_failed name role Unwritable = ⊥
IsNotRead told absence read_failed name role OutOfMemory = Unit {0}

-- why a text of two that were read is refused
abbrev pub IsFaultOf : List ℕ → List ℕ → Role → TextRefusal → Type 0
IsFaultOf program query role (text.Faulty f) = IsTextFault program query role f
IsFaultOf program query role refusal = ⊥

-- what two texts were judged to be: they ask a problem, or one has a fault
abbrev pub Judges : List ℕ → List ℕ → ℕ → Result ProblemTree Refusal → Type 0
Judges program query bound (Ok p) = TextsAsk program query bound p
Judges program query bound (Err (Text role refusal)) = IsFaultOf program query role refusal
Judges program query bound (Err Unwritable) = ⊥
Judges program query bound (Err OutOfMemory) = Unit {0}

-- what was made of the texts that a run names: its problem, or a cause why there is none
abbrev pub Prepares : Option Texts → (List ℕ → Type 0) → (List ℕ → Type 0) → RunWords → Result ProblemTree Refusal → Type 0
Prepares told absence read_failed run (Ok p) = RunAsks told run p
Prepares told absence read_failed run (Err (Text role refusal)) = RunFails told absence read_failed run (cause_of (name_of run role) refusal)
Prepares told absence read_failed run (Err Unwritable) = ⊥
Prepares told absence read_failed run (Err OutOfMemory) = Unit {0}

-- ---- the print

-- the bytes are those that this text is printed as
pub record IsMadeOf (text bytes : List ℕ) : Type 0 where
  pub tree : ProgramTree
  pub is_program : IsProgramText text tree
  pub is : bytes ≡ program_text tree

-- why this text, which was read, is not printed
abbrev pub IsNotMadeOf : List ℕ → Refusal → Type 0
IsNotMadeOf source (Text role (text.Faulty fault)) = IsReadingFault Program source fault
IsNotMadeOf source (Text role refusal) = ⊥
IsNotMadeOf source Unwritable = ⊥
IsNotMadeOf source OutOfMemory = Unit {0}

-- why no bytes were printed of the text of this name
abbrev pub IsNotPrinted : Option Texts → (List ℕ → Type 0) → (List ℕ → Type 0) → List ℕ → Refusal → Type 0
IsNotPrinted told absence read_failed name (Text role refusal) = PrintFails told absence read_failed name (cause_of name refusal)
IsNotPrinted told absence read_failed name Unwritable = ⊥
IsNotPrinted told absence read_failed name OutOfMemory = Unit {0}

-- how a print ended, before any fault line is written
abbrev pub PrintEnds : {A : Type 0} → Option Texts → (List ℕ → Type 0) → (List ℕ → Type 0) → Type 0 → List ℕ → Option (List ℕ) → Option (List ℕ)
    → Result A Refusal → Type 0
PrintEnds told absence read_failed write_failed name before after (Ok done) =
    (bytes : List ℕ) × IsPrintedAs told name bytes × (after ≡ append_known before bytes)
PrintEnds told absence read_failed write_failed name before after (Err (Text role refusal)) =
    PrintFails told absence read_failed name (cause_of name refusal) × (after ≡ before)
PrintEnds told absence read_failed write_failed name before after (Err Unwritable) =
    (bytes : List ℕ) × IsPrintedAs told name bytes × write_failed × AppendsFront before bytes after
PrintEnds told absence read_failed write_failed name before after (Err OutOfMemory) = after ≡ before

-- ---- the derivation

-- why the text of a derivation is not read
abbrev pub IsNoDerivation : List ℕ → Refusal → Type 0
IsNoDerivation proof (Text role (text.Faulty f)) = (role ≡ Proof) × HasFaultIn proof f
IsNoDerivation proof (Text role refusal) = ⊥
IsNoDerivation proof Unwritable = ⊥
IsNoDerivation proof OutOfMemory = Unit {0}
