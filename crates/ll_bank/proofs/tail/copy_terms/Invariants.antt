use Rattle.std.proofs.Common.{◌≡◌, take, drop}
use Rattle.ll_bank.specs.Tail.{with_terms}
use Rattle.ll_bank.proofs.tail.copy_terms.Given as goal

abbrev pub invariant-loop-at : goal.invariant-loop-at
invariant-loop-at l = l.flat.nodes ≡ with_terms l.initial.flat.nodes (drop l.from (take l.at l.bank.terms))
