use Rattle.std.proofs.Common.{◌≡◌, map, take}
use Rattle.ll_store.specs.Packed.{cell_of}
use Rattle.ll_store.specs.Segments.{renewed_of, renew}
use Rattle.ll_store.proofs.segment.renew.Given as goal

abbrev pub invariant-loop-renewal : goal.invariant-loop-renewal
invariant-loop-renewal l = map cell_of l.cells.items ≡ renew (map renewed_of (take l.renewal-index l.renewed)) (map cell_of l.fn.cells.items)
