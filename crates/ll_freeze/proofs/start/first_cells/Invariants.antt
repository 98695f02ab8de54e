use Rattle.std.proofs.Common.{◌≡◌, replicate, None}
use Rattle.ll_freeze.proofs.start.first_cells.Given as goal

abbrev pub invariant-loop : goal.invariant-loop
invariant-loop l = record {
  bank : l.store.bank ≡ l.fn.bank;
  cells : l.store.cells.cells ≡ replicate l.counter (record { to = None; level = 0 });
}
