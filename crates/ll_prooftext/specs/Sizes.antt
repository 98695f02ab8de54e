-- The length of a derivation's text in either version, cut at the greatest number of 64 bits.
use Rattle.std.specs.Prelude.{ℕ, suc, List, length}
use Rattle.ll_laws.specs.Search.{cut_count}
use Rattle.ll_laws.specs.Line.{DerivationLines}
use Rattle.ll_laws.specs.ProofText.{proof_text}
use Rattle.ll_prooftext.specs.ProofText2.{proof_text2}

-- the text in version 2, and of any other number that in version 1
abbrev pub text_in : ℕ → List (List ℕ) → DerivationLines → List ℕ
text_in (suc (suc k)) names d = proof_text2 names d
text_in _ names d = proof_text names d

-- its length
abbrev pub size_in : ℕ → List (List ℕ) → DerivationLines → ℕ
size_in version names d = cut_count (length (text_in version names d))
