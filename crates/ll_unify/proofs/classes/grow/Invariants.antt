use Rattle.std.proofs.Common.{suc, ◌-◌, length}
use Rattle.ll_bank.specs.Nodes.{Nodes}
use Rattle.ll_unify.specs.Bindings.{Table}
use Rattle.ll_unify.specs.Pairs.{AreClasses}
use Rattle.ll_unify.proofs.classes.grow.Given as goal

abbrev pub invariant-fill : goal.invariant-fill
invariant-fill l = (nodes : Nodes) (t : Table) → AreClasses nodes t l.fn.list.items → AreClasses nodes t l.list.items

abbrev pub decreases-fill : goal.decreases-fill
decreases-fill l = suc l.to - length l.list.items
