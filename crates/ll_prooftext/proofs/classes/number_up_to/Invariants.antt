use Rattle.std.proofs.Common.{◌-◌, ◌+◌, ◌≤◌, length}
use Rattle.ll_prooftext.specs.Classes.{AreNumbers}
use Rattle.ll_prooftext.proofs.classes.number_up_to.Given as goal

abbrev pub invariant-loop-last : goal.invariant-loop-last
invariant-loop-last l = AreNumbers l.bank l.signs.keys l.numbers.items × (length l.initial.numbers.items ≤ length l.numbers.items)

abbrev pub decreases-loop-last : goal.decreases-loop-last
decreases-loop-last l = l.last.0 + 1 - length l.numbers.items
