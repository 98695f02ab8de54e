use Rattle.std.proofs.Common.{◌-◌, ◌+◌, ◌≤◌, length}
use Rattle.ll_prooftext.specs.Lengths.{AreLengths}
use Rattle.ll_prooftext.proofs.sizes.lengths_up_to.Given as goal

abbrev pub invariant-growth : goal.invariant-growth
invariant-growth l = AreLengths l.names l.bank l.lengths.items × (length l.initial.lengths.items ≤ length l.lengths.items)

abbrev pub decreases-growth : goal.decreases-growth
decreases-growth l = l.last.0 + 1 - length l.lengths.items
