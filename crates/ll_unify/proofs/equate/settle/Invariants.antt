use Rattle.ll_unify.specs.Bindings.{unbound}
use Rattle.ll_unify.specs.Pairs.{AreClasses, lefts}
use Rattle.ll_unify.specs.Fresh.{LeavesFresh}
use Rattle.ll_unify.proofs.Settling.{IsSettling}
use Rattle.ll_unify.proofs.equate.settle.Given as goal

abbrev pub invariant-pairs : goal.invariant-pairs
invariant-pairs g l = record {
  settling : IsSettling l.bank (g.T.Bindings.table l.fn.table) (g.T.Bindings.table l.table) l.fn.work.pairs.items l.work.pairs.items;
  classes : AreClasses l.bank (g.T.Bindings.table l.table) l.work.classes.up.items;
  fresh : LeavesFresh l.bank (g.T.Bindings.table l.fn.table) (g.T.Bindings.table l.table) l.fn.work.fresh l.work.fresh (lefts l.bank l.fn.work.pairs.items)
      (lefts l.bank l.work.pairs.items);
  grows : g.T.Bindings.grows l.fn.table l.table;
}

abbrev pub decreases-pairs : goal.decreases-pairs
decreases-pairs g l = unbound (g.T.Bindings.table l.table).bound
