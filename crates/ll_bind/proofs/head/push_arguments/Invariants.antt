use Rattle.std.proofs.Common.{◌≡◌, ◌≤◌, ◌<◌, ◌++◌, drop, length}
use Rattle.std.specs.Prelude.{reverse}
use Rattle.ll_bind.specs.Heads.{equate}
use Rattle.ll_bind.proofs.head.push_arguments.Given as goal

abbrev pub invariant-loop-left : goal.invariant-loop-left
invariant-loop-left l = record {
  among : l.left ≤ length l.patterns;
  some : 0 < l.left;
  pushed : reverse l.equations.items ≡ equate (drop l.left l.places) (drop l.left l.patterns) ++ reverse l.initial.equations.items;
}

abbrev pub decreases-loop-left : goal.decreases-loop-left
decreases-loop-left l = l.left
