use Rattle.std.proofs.Common.{◌≡◌, ◌++◌, replicate, None}
use Rattle.ll_store.specs.Stored.{stored, KeepsMarks}
use Rattle.ll_engine.proofs.take.add_cells.Given as goal

abbrev pub invariant-loop : goal.invariant-loop
invariant-loop l = record {
  cells : l.store.cells.cells ≡ l.initial.store.cells.cells ++ replicate l.counter (record { to = None; level = l.level });
  bank : l.store.bank ≡ l.initial.store.bank;
  marks : KeepsMarks (stored l.initial.store) (stored l.store);
}
