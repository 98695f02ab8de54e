use Rattle.std.proofs.Common.{◌≡◌, ◌≤◌, ◌++◌, drop, length}
use Rattle.ll_printer.specs.Parts.{argument_parts}
use Rattle.ll_printer.proofs.formulas.push_arguments.Given as goal

abbrev pub invariant-loop-i : goal.invariant-loop-i
invariant-loop-i l = (l.i ≤ length l.args) × (l.parts.items ≡ l.initial.parts.items ++ argument_parts (drop l.i l.args))

abbrev pub decreases-loop-i : goal.decreases-loop-i
decreases-loop-i l = l.i
