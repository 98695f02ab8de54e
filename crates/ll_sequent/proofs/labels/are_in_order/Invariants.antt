use Rattle.std.proofs.Common.{◌≡◌, ◌≤◌, true, take, length}
use Rattle.std.specs.List.{list_all}
use Rattle.ll_sequent.specs.Named.{has_resource}
use Rattle.ll_sequent.proofs.labels.are_in_order.Given as goal

abbrev pub invariant-loop-each : goal.invariant-loop-each
invariant-loop-each l = record {
  within : l.met ≤ length l.set;
  named : list_all (has_resource l.resources) (take l.met l.set) ≡ true;
}
