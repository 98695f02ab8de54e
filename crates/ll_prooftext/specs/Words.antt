-- Pieces of bytes, and what stands at the front of some bytes.
use Rattle.std.specs.Prelude.{◌≡◌, ℕ, Bool, false, ◌==◌, not, List, [], ◌∷◌, ◌++◌, IsTrue}
use Rattle.ll_laws.specs.Line.{rises}
use Rattle.ll_laws.specs.ProofText.{labels_text, set_text}
use Rattle.ll_prooftext.specs.Admitted.{AreLabels}
use Rattle.ll_prooftext.specs.Reading.{Kind, IsField, IsAtEnd}

-- another byte than this one
abbrev pub is_not : ℕ → ℕ → Bool
is_not byte b = not (b == byte)

-- the bytes are at an end, or go on with one that fails a test
pub data Stops (p : ℕ → Bool) (bytes : List ℕ) : Type 0 where
  ended : bytes ≡ [] → Stops p bytes
  at_byte : (b : ℕ) (rest : List ℕ) → bytes ≡ b ∷ rest → p b ≡ false → Stops p bytes

-- the bytes do not begin with this one
abbrev pub BeginsNot : ℕ → List ℕ → Type 0
BeginsNot byte bytes = (rest : List ℕ) → bytes ≡ byte ∷ rest → ⊥

-- no field of this kind begins these bytes
abbrev pub HasNone : Kind → List ℕ → Type 0
HasNone kind bytes = (field rest : List ℕ) → IsField kind field → bytes ≡ field ++ rest → IsAtEnd rest → ⊥

-- the text of these labels, which rise
pub record IsLabelsText (text labels : List ℕ) : Type 0 where
  pub small : AreLabels labels
  pub rising : IsTrue (rises labels)
  pub is : text ≡ labels_text labels

-- a set of labels at the front of the bytes, and what stands behind it
pub record IsSetAt (bytes labels rest : List ℕ) : Type 0 where
  pub small : AreLabels labels
  pub rising : IsTrue (rises labels)
  pub is : bytes ≡ set_text labels ++ rest
  pub end : IsAtEnd rest
