use Rattle.ll_bank.specs.Signs.{IsNumbering}
use Rattle.ll_bank.proofs.equality.number_at.Given as goal

abbrev pub invariant-loop-arg : goal.invariant-loop-arg
invariant-loop-arg l = IsNumbering l.bank l.fn.at.0 l.args l.arg-index l.fn.signs.keys l.signs.keys l.number
