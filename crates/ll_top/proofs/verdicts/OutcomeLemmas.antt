-- From the way a check ends to the status and the text.
use Rattle.std.proofs.Common.{◌≡◌, ℕ, refl, sym, subst, List}
use Rattle.std.specs.Prelude.{Option, Ok, Err}
use Rattle.ll_edge.specs.Texts.{Texts}
use Rattle.ll_top.specs.declared.checks.finding.Finding.{Finding}
use Rattle.ll_top.specs.declared.texts.refusing.Refusal.TheVariants.{Unwritable}
use Rattle.ll_top.specs.forms.Words.{CheckWords}
use Rattle.ll_top.specs.texts.Faults.{Cause}
use Rattle.ll_top.specs.checks.Outcome.{CheckFails, CheckComesTo, check_failed}
use Rattle.ll_top.specs.texts.CallEnds.{nothing, Ends, unwritable, no_memory, whole}
use Rattle.ll_top.specs.texts.Endings.{Refuses}
use Rattle.ll_top.specs.checks.Endings.{status_of_finding, finding_text, CheckEnds}
use Rattle.ll_top.proofs.judging.OutcomeLemmas.{refused-ends}

module _ (told : Option Texts) (absence read_failed : List ℕ → Type 0) (check : CheckWords) where
  module _ (write_failed : Type 0) (before after : Option (List ℕ)) where
    pub finding-ends : (finding : Finding) (status : ℕ) → status ≡ status_of_finding finding
        → CheckEnds told absence read_failed write_failed check before after (Ok finding)
        → Ends (CheckComesTo told absence read_failed check) write_failed before after status
    finding-ends finding status e h = whole (finding_text finding)
        (subst (λ n. CheckComesTo told absence read_failed check n (finding_text finding)) (sym e) h.0) h.1

    pub check-cut-ends : CheckEnds told absence read_failed write_failed check before after (Err Unwritable)
        → Ends (CheckComesTo told absence read_failed check) write_failed before after 6
    check-cut-ends h = unwritable (status_of_finding h.0) (finding_text h.0) h.1 h.2 refl h.3

    pub check-memory-ends : after ≡ before → Ends (CheckComesTo told absence read_failed check) write_failed before after 10
    check-memory-ends h = no_memory refl (nothing h)

    pub check-refusal-ends : (middle : Option (List ℕ)) (cause : Cause) (status : ℕ) → CheckFails told absence read_failed check cause → middle ≡ before
        → Refuses cause write_failed middle after status → Ends (CheckComesTo told absence read_failed check) write_failed before after status
    check-refusal-ends middle cause status f m r = refused-ends (CheckComesTo told absence read_failed check) write_failed before middle after cause status
        (check_failed cause f refl refl) m r
