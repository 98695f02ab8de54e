use Rattle.std.proofs.Common.{take}
use Rattle.ll_bank.specs.Tail.{with_terms, Adds}
use Rattle.ll_bank.proofs.tail.add_terms.Given as goal

abbrev pub invariant-loop-i : goal.invariant-loop-i
invariant-loop-i l = Adds l.initial.bank l.bank (with_terms l.initial.bank (take l.i l.flat.nodes.terms))
