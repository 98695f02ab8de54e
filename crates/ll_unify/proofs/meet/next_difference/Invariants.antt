use Rattle.std.proofs.Common.{ℕ}
use Rattle.ll_unify.specs.Bindings.{found}
use Rattle.ll_unify.specs.Fresh.{AreClear}
use Rattle.ll_unify.specs.Pairs.{AreClasses, ArePairs, Alike, lefts, rights, pairs_weight}
use Rattle.ll_unify.proofs.meet.next_difference.Given as goal

abbrev pub invariant-loop-pair : goal.invariant-loop-pair
invariant-loop-pair g l = record {
  classes : AreClasses l.bank (g.T.Bindings.table l.table) l.classes.up.items;
  pairs : ArePairs l.bank (g.T.Bindings.table l.table) l.pairs.items;
  alike : Alike l.bank (g.T.Bindings.table l.table) (lefts l.bank l.fn.pairs.items) (rights l.bank l.fn.pairs.items) (lefts l.bank l.pairs.items)
      (rights l.bank l.pairs.items);
  clear : (x k : ℕ) → AreClear (found l.bank (g.T.Bindings.table l.table)) x k (lefts l.bank l.fn.pairs.items)
      → AreClear (found l.bank (g.T.Bindings.table l.table)) x k (lefts l.bank l.pairs.items);
}

abbrev pub decreases-loop-pair : goal.decreases-loop-pair
decreases-loop-pair g l = pairs_weight l.bank (found l.bank (g.T.Bindings.table l.table)) l.pairs.items
