-- A text of either version is that of one derivation, or has one fault.
use Rattle.std.proofs.Common.{◌≡◌, ℕ, ◌<◌, ◌^◌, List, length, sym, ◌∙◌, codes}
use Rattle.std.specs.List.{IsDistinct}
use Rattle.std.specs.Str.{bytes_eq}
use Rattle.ll_lexer.specs.declared.Fault.{Fault}
use Rattle.ll_laws.specs.Line.{DerivationLines}
use Rattle.ll_prooftext.specs.Reading.{text_lines, HasNoVersion}
use Rattle.ll_prooftext.specs.Versions.{HasVersion, IsTextIn, first_version, second_version, HasFaultIn, first_fault, second_fault}
use Rattle.ll_prooftext.proofs.unambiguous.OneFault.{one_fault, no_fault}
use Rattle.ll_prooftext.proofs.unambiguous.OneFault2.{one_fault2}
use Rattle.ll_prooftext.proofs.unambiguous.OneText.{one_text}
use Rattle.ll_prooftext.proofs.unambiguous.OneText2.{no_fault2, one_text2}

versions_apart : (text : List ℕ) → HasNoVersion (codes "proof 2") (text_lines text) → HasVersion (codes "proof 2") (text_lines text) → ⊥
versions_apart text h v = h v.rest v.is

module _ (text : List ℕ) (short : length text < 2 ^ 64) where
  pub one_fault_in : (f g : Fault) → HasFaultIn text f → HasFaultIn text g → f ≡ g
  one_fault_in f g (first_fault h a) (first_fault k b) = one_fault text f g a b
  one_fault_in f g (first_fault h a) (second_fault k b) = absurd (versions_apart text h k)
  one_fault_in f g (second_fault h a) (first_fault k b) = absurd (versions_apart text k h)
  one_fault_in f g (second_fault h a) (second_fault k b) = one_fault2 text f g short a b

  module _ (names : List (List ℕ)) (distinct : IsDistinct bytes_eq names) where
    pub one_text_in : (v w : ℕ) (d e : DerivationLines) → IsTextIn v names text d → IsTextIn w names text e → (v ≡ w) × (d ≡ e)
    one_text_in v w d e (first_version p h a) (first_version q k b) = (p ∙ sym q, one_text names distinct text d e a b)
    one_text_in v w d e (first_version p h a) (second_version q k b) = absurd (versions_apart text h k)
    one_text_in v w d e (second_version p h a) (first_version q k b) = absurd (versions_apart text k h)
    one_text_in v w d e (second_version p h a) (second_version q k b) = (p ∙ sym q, one_text2 names distinct text short d e a b)

    pub no_fault_in : (v : ℕ) (d : DerivationLines) (f : Fault) → IsTextIn v names text d → HasFaultIn text f → ⊥
    no_fault_in v d f (first_version p h a) (first_fault k b) = no_fault names text d f a b
    no_fault_in v d f (first_version p h a) (second_fault k b) = versions_apart text h k
    no_fault_in v d f (second_version p h a) (first_fault k b) = versions_apart text k h
    no_fault_in v d f (second_version p h a) (second_fault k b) = no_fault2 names text d a short distinct f b
