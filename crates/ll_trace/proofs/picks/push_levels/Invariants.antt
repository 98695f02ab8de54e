use Rattle.std.proofs.Common.{◌≡◌, ◌++◌, drop, map, reverse}
use Rattle.ll_trace.specs.Picks.{level_of_part}
use Rattle.ll_trace.proofs.picks.push_levels.Given as goal

abbrev pub invariant-loop-index : goal.invariant-loop-index
invariant-loop-index l = l.pending.items ≡ l.fn.pending.items ++ reverse (map (level_of_part l.level) (drop l.index l.parts))
