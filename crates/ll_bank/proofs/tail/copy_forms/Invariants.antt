use Rattle.std.proofs.Common.{◌≡◌, take, drop}
use Rattle.ll_bank.specs.Tail.{with_forms}
use Rattle.ll_bank.proofs.tail.copy_forms.Given as goal

abbrev pub invariant-loop-at : goal.invariant-loop-at
invariant-loop-at l = l.flat.nodes ≡ with_forms l.initial.flat.nodes (drop l.from (take l.at l.bank.forms))
