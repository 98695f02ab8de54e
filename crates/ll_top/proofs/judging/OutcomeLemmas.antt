-- From the way a call ends with a fault line, and a print ends, to the status and the text.
use Rattle.std.proofs.Common.{◌≡◌, ◌⊎◌, ℕ, refl, ap, sym, subst, ◌∙◌, List, inl, inr}
use Rattle.std.specs.Prelude.{Option, Ok}
use Rattle.std.specs.Io.KnownBytes.{append_known}
use Rattle.ll_edge.specs.Pieces.{AppendsFront}
use Rattle.ll_edge.specs.Texts.{Texts}
use Rattle.ll_top.specs.texts.Faults.{Cause, fault_text, cause_status}
use Rattle.ll_top.specs.texts.Outcome.{IsPrintedAs, PrintFails, PrintComesTo, printed, print_failed}
use Rattle.ll_top.specs.texts.CallEnds.{nothing, Ends, unwritable, no_memory, whole}
use Rattle.ll_top.specs.texts.Endings.{Refuses, line, cut, PrintEnds}

-- a refusal under a count that rose later on
pub refuses-later : (cause : Cause) (write_failed write_failed' : Type 0) (before after : Option (List ℕ)) (status : ℕ) → (write_failed → write_failed')
    → Refuses cause write_failed before after status → Refuses cause write_failed' before after status
refuses-later cause w w' before after status f (line s a) = line s a
refuses-later cause w w' before after status f (cut s h a) = cut s (f h) a

-- the line of its cause was written
pub refused-ends : (Comes : ℕ → List ℕ → Type 0) (write_failed : Type 0) (before middle after : Option (List ℕ)) (cause : Cause) (status : ℕ)
    → Comes (cause_status cause) (fault_text cause) → middle ≡ before → Refuses cause write_failed middle after status
    → Ends Comes write_failed before after status
refused-ends Comes w before middle after cause status f m (line s a) =
    whole (fault_text cause) (subst (λ n. Comes n (fault_text cause)) (sym s) f) (a ∙ ap (λ o. append_known o (fault_text cause)) m)
refused-ends Comes w before middle after cause status f m (cut s h a) =
    unwritable (cause_status cause) (fault_text cause) f h s (subst (λ o. AppendsFront o (fault_text cause) after) m a)

pub refused-status : (cause : Cause) (write_failed : Type 0) (before after : Option (List ℕ)) (status : ℕ) → Refuses cause write_failed before after status
    → (status ≡ cause_status cause) ⊎ ((status ≡ 6) × write_failed)
refused-status cause w before after status (line s a) = inl s
refused-status cause w before after status (cut s f a) = inr (s, f)

-- ---- a print

module _ (told : Option Texts) (absence read_failed : List ℕ → Type 0) (name : List ℕ) where
  module _ (write_failed : Type 0) (before after : Option (List ℕ)) where
    pub printed-ends : {A : Type 0} (done : A) → PrintEnds told absence read_failed write_failed name before after (Ok done)
        → Ends (PrintComesTo told absence read_failed name) write_failed before after 0
    printed-ends done h = whole h.0 (printed h.1 refl) h.2

    pub print-cut-ends : (bytes : List ℕ) × IsPrintedAs told name bytes × write_failed × AppendsFront before bytes after
        → Ends (PrintComesTo told absence read_failed name) write_failed before after 6
    print-cut-ends h = unwritable 0 h.0 (printed h.1 refl) h.2 refl h.3

    pub print-memory-ends : after ≡ before → Ends (PrintComesTo told absence read_failed name) write_failed before after 10
    print-memory-ends h = no_memory refl (nothing h)

    pub print-refusal-ends : (middle : Option (List ℕ)) (cause : Cause) (status : ℕ) → PrintFails told absence read_failed name cause → middle ≡ before
        → Refuses cause write_failed middle after status → Ends (PrintComesTo told absence read_failed name) write_failed before after status
    print-refusal-ends middle cause status f m r = refused-ends (PrintComesTo told absence read_failed name) write_failed before middle after cause status
        (print_failed cause f refl refl) m r
