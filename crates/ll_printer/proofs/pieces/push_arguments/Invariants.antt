use Rattle.std.proofs.Common.{◌≡◌, ◌≤◌, ◌++◌, drop, length}
use Rattle.ll_printer.specs.Stack.{argument_pieces}
use Rattle.ll_printer.proofs.pieces.push_arguments.Given as goal

abbrev pub invariant-loop-i : goal.invariant-loop-i
invariant-loop-i l = (l.i ≤ length l.args) × (l.pieces.items ≡ l.initial.pieces.items ++ argument_pieces (drop l.i l.args))

abbrev pub decreases-loop-i : goal.decreases-loop-i
decreases-loop-i l = l.i
