use Rattle.std.proofs.Common.{take}
use Rattle.ll_bank.specs.Tail.{with_forms, Adds}
use Rattle.ll_bank.proofs.tail.add_forms.Given as goal

abbrev pub invariant-loop-i : goal.invariant-loop-i
invariant-loop-i l = Adds l.initial.bank l.bank (with_forms l.initial.bank (take l.i l.flat.nodes.forms))
