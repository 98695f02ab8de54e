use Rattle.std.proofs.Common.{◌≡◌, ◌++◌}
use Rattle.ll_make.specs.Numbered.{names_to, elements_text}
use Rattle.ll_make.proofs.numbered.write_list.Given as goal

abbrev pub invariant-loop-k : goal.invariant-loop-k
invariant-loop-k l = l.text.items ≡ l.initial.text.items ++ elements_text (names_to l.name l.k)
