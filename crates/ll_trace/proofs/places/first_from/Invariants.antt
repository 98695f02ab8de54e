use Rattle.std.proofs.Common.{ℕ, ◌≤◌, ◌<◌, ◌-◌, length}
use Rattle.std.specs.Prelude.{slice_index_or}
use Rattle.ll_trace.specs.declared.places.Place.{Place}
use Rattle.ll_trace.proofs.places.first_from.Given as goal

abbrev pub invariant-halves : goal.invariant-halves
invariant-halves l = record {
  order : l.low ≤ l.high;
  within : l.high ≤ length l.row;
  below : (k : ℕ) (d : Place) → k < l.low → (slice_index_or l.row k d).at < l.from;
  above : (k : ℕ) (d : Place) → l.high ≤ k → k < length l.row → l.from ≤ (slice_index_or l.row k d).at;
}

abbrev pub decreases-halves : goal.decreases-halves
decreases-halves l = l.high - l.low
