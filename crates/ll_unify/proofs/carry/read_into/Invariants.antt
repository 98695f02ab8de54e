use Rattle.std.proofs.Common.{take}
use Rattle.ll_bank.specs.Nodes.{term_trees, Extends}
use Rattle.ll_unify.specs.Copied.{AreCopies, AreRead}
use Rattle.ll_unify.specs.Carried.{listed}
use Rattle.ll_unify.proofs.carry.read_into.Given as goal

abbrev pub invariant-loop-place : goal.invariant-loop-place
invariant-loop-place g l = record {
  keeps : Extends l.fn.other l.other;
  known : AreCopies l.bank l.other (g.T.Bindings.table l.table) (listed l.carrier.known.items);
  read : AreRead l.bank l.other (g.T.Bindings.table l.table) (term_trees l.bank (take l.place-index l.places)) l.copies.items;
}
