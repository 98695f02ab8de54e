-- From the reading and judging of a derivation's text to what a conversion comes to.
use Rattle.std.proofs.Common.{◌≡◌, ℕ, List, [], ◌∷◌, Option, refl, ap, subst, ◌∙◌}
use Rattle.std.specs.Prelude.{Result, Ok, Err}
use Rattle.std.specs.Io.KnownBytes.{append_known}
use Rattle.ll_edge.specs.Pieces.{AppendsFront}
use Rattle.ll_edge.specs.Texts.{Texts}
use Rattle.ll_laws.specs.Line.{DerivationLines}
use Rattle.ll_prooftext.specs.Sizes.{text_in}
use Rattle.ll_prooftext.specs.Versions.{IsProofText}
use Rattle.ll_top.specs.declared.texts.converting.NewText.{NewText}
use Rattle.ll_top.specs.declared.texts.converting.NewText.TheVariants.{Whole, TooLong}
use Rattle.ll_top.specs.declared.texts.judge.Role.TheVariants.{Proof}
use Rattle.ll_top.specs.declared.texts.refusing.TextRefusal.TheVariants as text
use Rattle.ll_top.specs.declared.texts.refusing.Refusal.{Refusal}
use Rattle.ll_top.specs.declared.texts.refusing.Refusal.TheVariants.{Text, Unwritable, OutOfMemory}
use Rattle.ll_top.specs.forms.Words.{ConvertWords}
use Rattle.ll_top.specs.texts.Faults.{Cause}
use Rattle.ll_top.specs.texts.Outcome.{IsRead, first}
use Rattle.ll_top.specs.texts.Converting.{own_names, IsConverted, ConvertFails, proof_not_read}
use Rattle.ll_top.specs.texts.Converting.{faulty_proof, too_long_as, ConvertComesTo, converted, convert_failed}
use Rattle.ll_top.specs.texts.ConvertEnds.{IsConversionOf, Converts}
use Rattle.ll_top.specs.texts.Endings.{cause_of, IsNotRead, Refuses}
use Rattle.ll_top.specs.texts.CallEnds.{Ends, unwritable, whole}
use Rattle.ll_top.proofs.judging.OutcomeLemmas.{refused-ends}
use Rattle.ll_top.proofs.judging.PrepareLemmas.{not-read}

-- ---- the text

-- the derivation of a text, written over the names that it mentions
pub is-converted : (proof text : List ℕ) (version : ℕ) (names : List (List ℕ)) (d : DerivationLines) → names ≡ own_names proof → IsProofText names proof d
    → text ≡ text_in version names d → IsConverted proof version text
is-converted proof text version names d e t s = record {
  derivation = d;
  is_text = subst (λ ns. IsProofText ns proof d) e t;
  is =
      s ∙ ap (λ ns. text_in version ns d) e;
}

-- ---- reading

module _ (told : Option Texts) (absence read_failed : List ℕ → Type 0) (convert : ConvertWords) where
  -- the text was not read
  pub proof-unread : (e : Refusal) → IsNotRead told absence read_failed convert.proof Proof e → Converts told absence read_failed convert (Err e)
  proof-unread (Text role refusal) h = proof_not_read (cause_of convert.proof refusal)
      (not-read told absence read_failed (convert.proof ∷ []) convert.proof refusal first h.1)
  proof-unread Unwritable h = absurd h
  proof-unread OutOfMemory h = tt

  -- it was read, and judged
  pub proof-converted : (proof : List ℕ) → IsRead told convert.proof proof → (r : Result NewText Refusal) → IsConversionOf proof convert.version r
      → Converts told absence read_failed convert r
  proof-converted proof h (Ok (Whole text)) m = converted proof h m.0 m.1 refl
  proof-converted proof h (Ok TooLong) m = too_long_as proof m.0 h m.1 m.2
  proof-converted proof h (Err (Text role (text.Faulty f))) m = faulty_proof proof f h m.1
  proof-converted proof h (Err (Text role text.Absent)) m = absurd m
  proof-converted proof h (Err (Text role text.Unreadable)) m = absurd m
  proof-converted proof h (Err (Text role text.Oversized)) m = absurd m
  proof-converted proof h (Err Unwritable) m = absurd m
  proof-converted proof h (Err OutOfMemory) m = tt

  -- ---- the ends

  module _ (write_failed : Type 0) (before after : Option (List ℕ)) where
    pub converted-ends : (bytes : List ℕ) → ConvertComesTo told absence read_failed convert 0 bytes → after ≡ append_known before bytes
        → Ends (ConvertComesTo told absence read_failed convert) write_failed before after 0
    converted-ends bytes c w = whole bytes c w

    pub convert-cut-ends : (bytes : List ℕ) → ConvertComesTo told absence read_failed convert 0 bytes → write_failed → AppendsFront before bytes after
        → Ends (ConvertComesTo told absence read_failed convert) write_failed before after 6
    convert-cut-ends bytes c f a = unwritable 0 bytes c f refl a

    pub convert-refusal-ends : (cause : Cause) (status : ℕ) → ConvertFails told absence read_failed convert cause
        → Refuses cause write_failed before after status → Ends (ConvertComesTo told absence read_failed convert) write_failed before after status
    convert-refusal-ends cause status f r = refused-ends (ConvertComesTo told absence read_failed convert) write_failed before before after cause status
        (convert_failed cause f refl refl) refl r
