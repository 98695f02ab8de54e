use Rattle.std.specs.Prelude.{◌≡◌}
use Rattle.ll_bank.specs.Environments.{values_in}
use Rattle.ll_store.specs.Tables.{table_of}
use Rattle.ll_bind.proofs.Building.{AreSoFar}
use Rattle.ll_bind.proofs.build.build_all.Given as goal

abbrev pub invariant-loop-index : goal.invariant-loop-index
invariant-loop-index l = record {
  so_far : AreSoFar l.fn.store.bank l.store.bank (table_of l.fn.store.cells.cells) (values_in l.environment) l.fn.patterns l.patterns l.index;
  cells : l.store.cells ≡ l.fn.store.cells;
}
