use Rattle.std.proofs.Common.{nat_eq}
use Rattle.std.specs.HashMap.{get}
use Rattle.ll_bank.specs.Nodes.{Extends}
use Rattle.ll_unify.specs.Copied.{AreCopies, AreFinal}
use Rattle.ll_unify.proofs.read.read_cells.Given as goal

abbrev pub invariant-loop-var : goal.invariant-loop-var
invariant-loop-var g l = record {
  keeps : Extends l.fn.bank l.bank;
  known : AreCopies l.bank l.bank (g.T.Bindings.table l.table) (get nat_eq l.known);
  cells : AreFinal l.fn.bank l.bank (g.T.Bindings.table l.table) l.var l.cells.items;
}
