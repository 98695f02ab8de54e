use Rattle.std.proofs.Common.{take}
use Rattle.std.specs.Ordering.{nat_cmp}
use Rattle.std.specs.BTreeMap.{get}
use Rattle.ll_trace.specs.Places.{AreIndexed}
use Rattle.ll_trace.proofs.places.index.Given as goal

abbrev pub invariant-loop-at : goal.invariant-loop-at
invariant-loop-at l = AreIndexed (get nat_cmp l.places) (take l.at l.picks)
