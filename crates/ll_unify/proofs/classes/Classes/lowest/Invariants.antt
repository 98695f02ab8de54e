use Rattle.std.proofs.Common.{◌<◌, length}
use Rattle.ll_bank.specs.Nodes.{Nodes}
use Rattle.ll_unify.specs.Bindings.{Table}
use Rattle.ll_unify.specs.Pairs.{AreBelow, AreClasses, IsClass}
use Rattle.ll_unify.proofs.classes.Classes.lowest.Given as goal

abbrev pub invariant-loop-place : goal.invariant-loop-place
invariant-loop-place l = record {
  inside : l.place < length l.self.up.items;
  below : AreBelow l.self.up.items;
  classes : (nodes : Nodes) (t : Table) → AreClasses nodes t l.fn.self.up.items → AreClasses nodes t l.self.up.items;
  class : (nodes : Nodes) (t : Table) → AreClasses nodes t l.fn.self.up.items → IsClass nodes t l.fn.at l.place;
}

abbrev pub decreases-loop-place : goal.decreases-loop-place
decreases-loop-place l = l.place
