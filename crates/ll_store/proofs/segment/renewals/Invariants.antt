use Rattle.std.proofs.Common.{◌≡◌, map, take, drop}
use Rattle.ll_store.specs.Packed.{cell_of, change_of}
use Rattle.ll_store.specs.Segments.{renewed_of, renewals}
use Rattle.ll_store.proofs.segment.renewals.Given as goal

abbrev pub invariant-loop-at : goal.invariant-loop-at
invariant-loop-at l = map renewed_of l.made.items ≡ renewals l.count (map cell_of l.cells) (map change_of (drop l.fn.range.0 (take l.at l.changes)))
