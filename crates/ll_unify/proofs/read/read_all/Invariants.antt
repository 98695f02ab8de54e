use Rattle.std.proofs.Common.{nat_eq, take}
use Rattle.std.specs.HashMap.{get}
use Rattle.ll_bank.specs.Nodes.{term_trees, Extends}
use Rattle.ll_unify.specs.Copied.{AreCopies, AreRead}
use Rattle.ll_unify.proofs.read.read_all.Given as goal

abbrev pub invariant-loop-place : goal.invariant-loop-place
invariant-loop-place g l = record {
  keeps : Extends l.fn.bank l.bank;
  known : AreCopies l.bank l.bank (g.T.Bindings.table l.table) (get nat_eq l.known);
  read : AreRead l.fn.bank l.bank (g.T.Bindings.table l.table) (term_trees l.fn.bank (take l.place-index l.places)) l.made.items;
}
