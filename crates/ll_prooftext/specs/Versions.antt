-- Texts of derivations of either version.
use Rattle.std.specs.Prelude.{◌≡◌, ℕ, List, ◌∷◌, codes}
use Rattle.ll_lexer.specs.declared.Fault.{Fault}
use Rattle.ll_lexer.specs.declared.TextFault.{TextFault}
use Rattle.ll_lexer.specs.declared.TextFault.TheVariants as fault
use Rattle.ll_laws.specs.Line.{DerivationLines}
use Rattle.ll_prooftext.specs.Reading.{text_lines, HasNoVersion, IsTextOf, HasFault}
use Rattle.ll_prooftext.specs.Reading2.{IsText2Of, HasFault2}

-- the first line is this one
pub record HasVersion (first : List ℕ) (lines : List (List ℕ)) : Type 0 where
  pub rest : List (List ℕ)
  pub is : lines ≡ first ∷ rest

-- the text of the derivation in a version, which the first line tells
pub data IsTextIn (version : ℕ) (names : List (List ℕ)) (text : List ℕ) (d : DerivationLines) : Type 0 where
  first_version : version ≡ 1 → HasNoVersion (codes "proof 2") (text_lines text) → IsTextOf names text d → IsTextIn version names text d
  second_version : version ≡ 2 → HasVersion (codes "proof 2") (text_lines text) → IsText2Of names text d → IsTextIn version names text d

-- the text is one of the derivation, in the version which its first line tells
pub record IsProofText (names : List (List ℕ)) (text : List ℕ) (d : DerivationLines) : Type 0 where
  pub version : ℕ
  pub is_text : IsTextIn version names text d

-- the first fault of the text in the version which the first line tells
pub data HasFaultIn (text : List ℕ) (f : Fault) : Type 0 where
  first_fault : HasNoVersion (codes "proof 2") (text_lines text) → HasFault text f → HasFaultIn text f
  second_fault : HasVersion (codes "proof 2") (text_lines text) → HasFault2 text f → HasFaultIn text f

-- why the text was not read: its first fault, or that memory ran out
abbrev pub IsCauseIn : List ℕ → TextFault → Type 0
IsCauseIn text (fault.Text f) = HasFaultIn text f
IsCauseIn text fault.OutOfMemory = Unit {0}
