-- How the parts of a check and of a cover end, in the program's own types.
use Rattle.std.specs.Prelude.{◌≡◌, ℕ, Bool, true, false, List, length, Option, is_some, unwrap_or, Result, Ok, Err}
use Rattle.std.specs.Io.KnownBytes.{append_known}
use Rattle.ll_edge.specs.Pieces.{AppendsFront}
use Rattle.ll_edge.specs.Texts.{Texts}
use Rattle.ll_laws.specs.Problem.{ProblemTree}
use Rattle.ll_laws.specs.Line.{DerivationLines}
use Rattle.ll_laws.specs.Verdict.{DerivationShows}
use Rattle.ll_top.specs.declared.texts.judge.Role.{Role}
use Rattle.ll_top.specs.declared.checks.finding.Finding.{Finding}
use Rattle.ll_top.specs.declared.checks.finding.Finding.TheVariants.{Shows, Fails, Covered, TooLong, CountsNumbers}
use Rattle.ll_top.specs.declared.texts.refusing.TextRefusal.{TextRefusal}
use Rattle.ll_top.specs.declared.texts.refusing.TextRefusal.TheVariants as text
use Rattle.ll_top.specs.declared.texts.refusing.Refusal.{Refusal}
use Rattle.ll_top.specs.declared.texts.refusing.Refusal.TheVariants.{Text, Unwritable, OutOfMemory}
use Rattle.ll_top.specs.forms.Words.{CheckWords}
use Rattle.ll_top.specs.checks.Verdicts.{yes_text, no_text, covered_text, too_long_text, counts_text}
use Rattle.ll_top.specs.texts.Judging.{IsCheckFault, TextsGive}
use Rattle.ll_top.specs.texts.Endings.{cause_of}
use Rattle.ll_top.specs.checks.Outcome.{name_in_check, CheckFails, IsRefuted, IsCovered, IsTooLong, CountsAt, CheckComesTo}

-- the status and the line of what a check found
abbrev pub status_of_finding : Finding → ℕ
status_of_finding (Shows nodes) = 0
status_of_finding (Fails node reason) = 9
status_of_finding (Covered answer) = 0
status_of_finding (TooLong nodes bound) = 11
status_of_finding (CountsNumbers node) = 11

abbrev pub finding_text : Finding → List ℕ
finding_text (Shows nodes) = yes_text nodes
finding_text (Fails node reason) = no_text node reason
finding_text (Covered answer) = covered_text answer
finding_text (TooLong nodes bound) = too_long_text nodes bound
finding_text (CountsNumbers node) = counts_text node

-- the finding is true of a derivation over a problem, and one of a cover, or else of a check
abbrev pub IsFinding : Bool → ProblemTree → DerivationLines → Finding → Type 0
IsFinding covers p d (Shows nodes) = (covers ≡ false) × DerivationShows p d × (nodes ≡ length d.nodes)
IsFinding covers p d (Fails node reason) = IsRefuted p d node reason
IsFinding covers p d (Covered answer) = (covers ≡ true) × IsCovered p d answer
IsFinding covers p d (TooLong nodes bound) = (covers ≡ true) × IsTooLong p d × (nodes ≡ length d.nodes) × (bound ≡ p.bound)
IsFinding covers p d (CountsNumbers node) = (covers ≡ true) × CountsAt p d node

-- why a text of three that were read is refused
abbrev pub IsCheckFaultOf : List ℕ → List ℕ → List ℕ → Role → TextRefusal → Type 0
IsCheckFaultOf program query proof role (text.Faulty f) = IsCheckFault program query proof role f
IsCheckFaultOf program query proof role refusal = ⊥

-- what was found of three texts, with the bound of a cover or none, or why nothing was
abbrev pub Finds : List ℕ → List ℕ → List ℕ → Option ℕ → Result Finding Refusal → Type 0
Finds program query proof bound (Ok finding) =
    (p : ProblemTree) × (d : DerivationLines) × TextsGive program query proof (unwrap_or bound 0) p d × IsFinding (is_some bound) p d finding
Finds program query proof bound (Err (Text role refusal)) = IsCheckFaultOf program query proof role refusal
Finds program query proof bound (Err Unwritable) = ⊥
Finds program query proof bound (Err OutOfMemory) = Unit {0}

-- what a check comes to where it found this
abbrev pub ComesToFinding : Option Texts → (List ℕ → Type 0) → (List ℕ → Type 0) → CheckWords → Finding → Type 0
ComesToFinding told absence read_failed check finding = CheckComesTo told absence read_failed check (status_of_finding finding) (finding_text finding)

-- what was found of the texts that a check names, or a cause why nothing was
abbrev pub CheckFinds : Option Texts → (List ℕ → Type 0) → (List ℕ → Type 0) → CheckWords → Result Finding Refusal → Type 0
CheckFinds told absence read_failed check (Ok finding) = ComesToFinding told absence read_failed check finding
CheckFinds told absence read_failed check (Err (Text role refusal)) = CheckFails told absence read_failed check (cause_of (name_in_check check role) refusal)
CheckFinds told absence read_failed check (Err Unwritable) = ⊥
CheckFinds told absence read_failed check (Err OutOfMemory) = Unit {0}

-- how a check ended, before any fault line is written
abbrev pub CheckEnds : Option Texts → (List ℕ → Type 0) → (List ℕ → Type 0) → Type 0 → CheckWords → Option (List ℕ) → Option (List ℕ)
    → Result Finding Refusal → Type 0
CheckEnds told absence read_failed write_failed check before after (Ok finding) =
    ComesToFinding told absence read_failed check finding × (after ≡ append_known before (finding_text finding))
CheckEnds told absence read_failed write_failed check before after (Err (Text role refusal)) =
    CheckFails told absence read_failed check (cause_of (name_in_check check role) refusal) × (after ≡ before)
CheckEnds told absence read_failed write_failed check before after (Err Unwritable) =
    (finding : Finding) × ComesToFinding told absence read_failed check finding × write_failed × AppendsFront before (finding_text finding) after
CheckEnds told absence read_failed write_failed check before after (Err OutOfMemory) = after ≡ before
