use Rattle.std.specs.Prelude.{take, map}
use Rattle.ll_order.specs.Drained.{Counting}
use Rattle.ll_order.proofs.order.counted_all.Given as goal

abbrev pub invariant-loop-event : goal.invariant-loop-event
invariant-loop-event g l = Counting l.fn.counts l.counts (map g.E.Notice.stands_for (take l.event-index l.fn.events))
