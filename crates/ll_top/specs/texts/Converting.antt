-- What a conversion comes to, by its words and the text on the shelf.
use Rattle.std.specs.Prelude.{◌≡◌, ◌≤◌, ◌<◌, ℕ, List, [], ◌∷◌, length, Option}
use Rattle.ll_bank.specs.Names.{with_names}
use Rattle.ll_edge.specs.Texts.{Texts}
use Rattle.ll_laws.specs.Line.{DerivationLines}
use Rattle.ll_lexer.specs.declared.Fault.{Fault}
use Rattle.ll_prooftext.specs.Mentions.{text_names}
use Rattle.ll_prooftext.specs.Sizes.{text_in}
use Rattle.ll_prooftext.specs.Versions.{IsProofText, HasFaultIn}
use Rattle.ll_top.specs.forms.Words.{ConvertWords}
use Rattle.ll_top.specs.texts.Faults.{Cause, OversizedAs, Faulty, fault_text, cause_status}
use Rattle.ll_top.specs.texts.Outcome.{longest_text, IsRead, ReadFails}

-- the names that the text of a derivation mentions, each once
abbrev pub own_names : List ℕ → List (List ℕ)
own_names proof = with_names [] (text_names proof)

-- the derivation of a text of either version, over the names that the text mentions, has this text in a version
pub record IsConverted (proof : List ℕ) (version : ℕ) (text : List ℕ) : Type 0 where
  pub derivation : DerivationLines
  pub is_text : IsProofText (own_names proof) proof derivation
  pub is : text ≡ text_in version (own_names proof) derivation

-- Why a conversion ends with a fault line: its text is not read; it is no text of a derivation; or the text that would be written has more
-- bytes than a text may have.
pub data ConvertFails (told : Option Texts) (absence read_failed : List ℕ → Type 0) (convert : ConvertWords) : Cause → Type 0 where
  proof_not_read : (cause : Cause) → ReadFails told absence read_failed (convert.proof ∷ []) cause → ConvertFails told absence read_failed convert cause
  faulty_proof : (proof : List ℕ) (f : Fault) → IsRead told convert.proof proof → HasFaultIn proof f
      → ConvertFails told absence read_failed convert (Faulty convert.proof f)
  too_long_as : (proof text : List ℕ) → IsRead told convert.proof proof → IsConverted proof convert.version text → longest_text < length text
      → ConvertFails told absence read_failed convert (OversizedAs convert.proof convert.version)

-- what a conversion comes to: the derivation's text in the version that is asked for, or a fault line, each with its status
pub data ConvertComesTo (told : Option Texts) (absence read_failed : List ℕ → Type 0) (convert : ConvertWords) (status : ℕ) (text : List ℕ) : Type 0 where
  converted : (proof : List ℕ) → IsRead told convert.proof proof → IsConverted proof convert.version text → length text ≤ longest_text → status ≡ 0
      → ConvertComesTo told absence read_failed convert status text
  convert_failed : (cause : Cause) → ConvertFails told absence read_failed convert cause → status ≡ cause_status cause → text ≡ fault_text cause
      → ConvertComesTo told absence read_failed convert status text
