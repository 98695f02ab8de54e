use Rattle.std.proofs.Common.{◌≡◌, drop}
use Rattle.std.specs.List.{list_any}
use Rattle.ll_trace.specs.Places.{is_hit}
use Rattle.ll_trace.proofs.places.has_level.Given as goal

abbrev pub invariant-loop-index : goal.invariant-loop-index
invariant-loop-index l = list_any (is_hit l.level l.from l.to) (drop l.index l.row) ≡ list_any (is_hit l.level l.from l.to) l.row
