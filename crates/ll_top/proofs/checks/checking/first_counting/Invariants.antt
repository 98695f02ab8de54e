use Rattle.std.proofs.Common.{◌≡◌, ◌+◌, drop}
use Rattle.std.specs.List.{position_from}
use Rattle.ll_top.specs.checks.Counting.{is_counting}
use Rattle.ll_top.proofs.checks.checking.first_counting.Given as goal

abbrev pub invariant-loop-i : goal.invariant-loop-i
invariant-loop-i l = position_from is_counting 1 l.nodes ≡ position_from is_counting (l.i + 1) (drop l.i l.nodes)
