use Rattle.std.proofs.Common.{◌≡◌, ℕ, All, drop, length}
use Rattle.ll_index.specs.Rows.{IsNamedBelow, row_at, row_from}
use Rattle.ll_index.proofs.rows.rows_of.Given as goal

abbrev pub invariant-loop-at : goal.invariant-loop-at
invariant-loop-at l = record {
  below : All (IsNamedBelow (length l.rows.items)) l.keys;
  named : (name : ℕ) → row_at l.rows.items (length l.keys) name ≡ row_from l.at (drop l.at l.keys) name;
}
