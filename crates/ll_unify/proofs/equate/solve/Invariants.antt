use Rattle.std.proofs.Common.{◌≡◌, drop}
use Rattle.ll_bank.specs.Nodes.{term_trees}
use Rattle.ll_unify.specs.Bindings.{IsTable, KeepsCells, count}
use Rattle.ll_unify.specs.Pairs.{AreClasses}
use Rattle.ll_unify.specs.Fresh.{AreFresh}
use Rattle.ll_unify.specs.Solving.{Solves, wanted, spare}
use Rattle.ll_unify.proofs.equate.solve.Given as goal

abbrev pub invariant-loop-index : goal.invariant-loop-index
invariant-loop-index g l = record {
  table : IsTable l.bank (g.T.Bindings.table l.table);
  count : count (g.T.Bindings.table l.table) ≡ count (g.T.Bindings.table l.fn.table);
  cells : KeepsCells l.bank (g.T.Bindings.table l.fn.table) (g.T.Bindings.table l.table);
  classes : AreClasses l.bank (g.T.Bindings.table l.table) l.work.classes.up.items;
  fresh : AreFresh l.bank (g.T.Bindings.table l.table) l.work.fresh (drop l.index (term_trees l.bank l.left));
  grows : g.T.Bindings.grows l.fn.table l.table;
  solves : Solves l.bank (g.T.Bindings.table l.table) (spare (g.T.Bindings.table l.fn.table))
      (wanted l.bank (g.T.Bindings.table l.fn.table) (term_trees l.bank l.left) (term_trees l.bank l.right))
      (drop l.index (term_trees l.bank l.left)) (drop l.index (term_trees l.bank l.right));
}
