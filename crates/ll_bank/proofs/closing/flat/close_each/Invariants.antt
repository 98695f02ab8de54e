use Rattle.ll_bank.proofs.closes.Filling.{AreFilled}
use Rattle.ll_bank.proofs.closing.flat.close_each.Given as goal

abbrev pub invariant-loop-index : goal.invariant-loop-index
invariant-loop-index l = record { filled : AreFilled l.fn.bank l.bank l.values l.level l.fn.terms l.terms l.index }
