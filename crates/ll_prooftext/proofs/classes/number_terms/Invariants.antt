use Rattle.std.proofs.Common.{◌<◌, length, take, All}
use Rattle.ll_bank.specs.declared.At.{At}
use Rattle.ll_prooftext.specs.Classes.{AreNumbers}
use Rattle.ll_prooftext.proofs.classes.number_terms.Given as goal

abbrev pub invariant-loop-i : goal.invariant-loop-i
invariant-loop-i l = AreNumbers l.bank l.signs.keys l.numbers.items × All (λ (a : At). a.0 < length l.numbers.items) (take l.i l.places)
