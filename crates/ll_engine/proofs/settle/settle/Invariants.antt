use Rattle.std.proofs.Common.{length}
use Rattle.ll_freeze.specs.Parts.{parts_of, Later}
use Rattle.ll_freeze.specs.Shown.{items_of}
use Rattle.ll_engine.specs.Going.{Going}
use Rattle.ll_engine.proofs.settle.settle.Given as goal

abbrev pub invariant-loop-item : goal.invariant-loop-item
invariant-loop-item l = record {
  going : Going (parts_of l.fn.machine) (parts_of l.machine);
  later : Later l.fn.machine l.machine;
}

abbrev pub decreases-loop-item : goal.decreases-loop-item
decreases-loop-item l = length (items_of (parts_of l.machine))
