use Rattle.std.proofs.Common.{◌+◌, ◌-◌, ◌/◌, arith}
use Rattle.ll_trace.proofs.Placing.{below-more, above-more}
use Rattle.ll_trace.proofs.places.first_from.Goals as goal

pub halves-preserved-then-row-middle : goal.halves-preserved-then-row-middle
halves-preserved-then-row-middle c = record {
  order = omega arith;
  within = c.halves.invariant.within;
  below = below-more c.args.row.now c.args.from (c.halves.low + (c.halves.high - c.halves.low) / 2) _ c.requires (let w = c.halves.invariant.within in
      omega (arith, w)) c.if-row-middle.true;
  above = c.halves.invariant.above;
}

pub halves-preserved : goal.halves-preserved
halves-preserved c = record {
  order = omega arith;
  within = let w = c.halves.invariant.within in omega (arith, w);
  below = c.halves.invariant.below;
  above = above-more c.args.row.now c.args.from (c.halves.low + (c.halves.high - c.halves.low) / 2) _ c.requires (let w = c.halves.invariant.within in
      omega (arith, w)) c.if-row-middle.false;
}
