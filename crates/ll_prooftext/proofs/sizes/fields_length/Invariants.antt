use Rattle.std.proofs.Common.{◌≡◌, ℕ, ◌+◌, List, length, take}
use Rattle.std.specs.List.{flat_map}
use Rattle.ll_bank.specs.declared.At.{At}
use Rattle.ll_bank.specs.Nodes.{term_tree}
use Rattle.ll_laws.specs.ProofText.{term_field}
use Rattle.ll_laws.specs.Search.{cut_count}
use Rattle.ll_prooftext.specs.Lengths.{AreLengths}
use Rattle.ll_prooftext.proofs.sizes.fields_length.Given as goal

abbrev pub invariant-loop-i : goal.invariant-loop-i
invariant-loop-i l = (names : List (List ℕ)) → AreLengths names l.bank l.lengths → l.total ≡ cut_count (l.start
    + length (flat_map (λ (a : At). term_field names (term_tree l.bank a.0)) (take l.i l.places)))
