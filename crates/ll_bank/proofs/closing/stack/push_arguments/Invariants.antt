use Rattle.std.proofs.Common.{◌≡◌, ◌≤◌, ◌++◌, map, drop, length}
use Rattle.std.specs.Prelude.{reverse}
use Rattle.ll_bank.specs.declared.At.{At}
use Rattle.ll_bank.specs.Stacks.{visit}
use Rattle.ll_bank.proofs.closing.stack.push_arguments.Given as goal

abbrev pub invariant-loop-left : goal.invariant-loop-left
invariant-loop-left l = record {
  among : l.left ≤ length l.args;
  pushed : reverse l.tasks.items ≡ map (λ (a : At). visit (a.0, l.level)) (drop l.left l.args) ++ reverse l.initial.tasks.items;
}

abbrev pub decreases-loop-left : goal.decreases-loop-left
decreases-loop-left l = l.left
