use Rattle.std.proofs.Common.{◌<◌, length, take, All}
use Rattle.ll_bank.specs.declared.At.{At}
use Rattle.ll_prooftext.specs.Lengths.{AreLengths}
use Rattle.ll_prooftext.proofs.sizes.term_lengths.Given as goal

abbrev pub invariant-loop-i : goal.invariant-loop-i
invariant-loop-i l = AreLengths l.names l.bank l.lengths.items × All (λ (a : At). a.0 < length l.lengths.items) (take l.i l.places)
