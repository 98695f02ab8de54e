use Rattle.std.proofs.Common.{◌≡◌, ◌++◌, ◌-◌}
use Rattle.ll_make.specs.Programs.{lines_text, links}
use Rattle.ll_make.proofs.programs.write_chain.Given as goal

abbrev pub invariant-loop-k : goal.invariant-loop-k
invariant-loop-k l = l.text.items ++ lines_text (links l.k) ≡ l.initial.text.items ++ lines_text (links (l.n - 1))
