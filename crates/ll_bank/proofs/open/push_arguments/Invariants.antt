use Rattle.std.proofs.Common.{◌≡◌, ◌++◌, map, take}
use Rattle.ll_bank.specs.declared.At.{At}
use Rattle.ll_bank.specs.Instantiated.{visit}
use Rattle.ll_bank.proofs.open.push_arguments.Given as goal

abbrev pub invariant-loop-arg : goal.invariant-loop-arg
invariant-loop-arg l = l.tasks.items ≡ l.initial.tasks.items ++ map (λ (a : At). visit (a.0, l.level)) (take l.arg-index l.args)
