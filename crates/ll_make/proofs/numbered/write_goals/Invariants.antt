use Rattle.std.proofs.Common.{◌≡◌, ◌++◌}
use Rattle.std.specs.Prelude.{codes}
use Rattle.ll_make.specs.Numbered.{names_to, goals}
use Rattle.ll_make.proofs.numbered.write_goals.Given as goal

abbrev pub invariant-loop-k : goal.invariant-loop-k
invariant-loop-k l = l.text.items ≡ l.fn.text.items ++ goals (codes "bit ") (names_to (codes "X") l.k)
