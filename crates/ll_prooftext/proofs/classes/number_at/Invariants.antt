use Rattle.ll_prooftext.specs.Classes.{IsNumbering}
use Rattle.ll_prooftext.proofs.classes.number_at.Given as goal

abbrev pub invariant-loop-arg : goal.invariant-loop-arg
invariant-loop-arg l = IsNumbering l.bank l.fn.at.0 l.args l.arg-index l.fn.signs.keys l.signs.keys l.number
