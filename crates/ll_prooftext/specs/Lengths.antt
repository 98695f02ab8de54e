-- The lengths of the texts of terms, by their places.
use Rattle.std.specs.Prelude.{◌≡◌, ℕ, ◌<◌, ◌≤◌, List, length, slice_index_or}
use Rattle.ll_bank.specs.Term.{Term}
use Rattle.ll_bank.specs.Nodes.{Nodes, term_tree}
use Rattle.ll_laws.specs.Output.{term_text, is_cons}
use Rattle.ll_laws.specs.Search.{cut_count}
use Rattle.ll_prooftext.specs.declared.sizes.Length.{Length}

-- the length of the term's text, cut at the greatest number of 64 bits
pub record IsLength (names : List (List ℕ)) (t : Term) (l : Length) : Type 0 where
  pub bytes : l.bytes ≡ cut_count (length (term_text names t))
  pub cons : l.is_cons ≡ is_cons names t

-- the terms at the first places have these lengths
pub record AreLengths (names : List (List ℕ)) (bank : Nodes) (lengths : List Length) : Type 0 where
  pub inside : length lengths ≤ length bank.terms
  pub each : (at : ℕ) (d : Length) → at < length lengths → IsLength names (term_tree bank at) (slice_index_or lengths at d)
