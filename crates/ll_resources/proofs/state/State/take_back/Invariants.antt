use Rattle.std.proofs.Common.{◌≡◌, ◌≤◌, ◌-◌, length, drop}
use Rattle.ll_resources.specs.Raw.{raw}
use Rattle.ll_resources.specs.Chains.{HasNoLess}
use Rattle.ll_resources.specs.Changes.{before}
use Rattle.ll_resources.proofs.state.State.take_back.Given as goal

-- the last changes are taken back
abbrev pub invariant-loop-at : goal.invariant-loop-at
invariant-loop-at g l = record {
  from : l.from ≤ l.at;
  within : l.at ≤ length l.changes;
  state : raw l.self ≡ before (drop l.at l.changes) (raw l.fn.self);
  room : HasNoLess l.fn.self l.self;
}

abbrev pub decreases-loop-at : goal.decreases-loop-at
decreases-loop-at g l = l.at - l.from
