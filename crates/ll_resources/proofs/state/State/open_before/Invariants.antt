use Rattle.std.proofs.Common.{◌≡◌, ℕ, ◌<◌, ◌≤◌, false, length}
use Rattle.ll_resources.specs.Raw.{raw}
use Rattle.ll_resources.specs.Chains.{wanted}
use Rattle.ll_resources.proofs.state.State.open_before.Given as goal

-- no open entry of the key was passed
abbrev pub invariant-loop-at : goal.invariant-loop-at
invariant-loop-at g l = record {
  within : l.at ≤ l.from;
  there : l.at ≤ length l.self.entries.items;
  none : (i : ℕ) → l.at ≤ i → i < l.from → wanted (raw l.self) l.key i ≡ false;
}

abbrev pub decreases-loop-at : goal.decreases-loop-at
decreases-loop-at g l = l.at
