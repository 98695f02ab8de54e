use Rattle.std.specs.Prelude.{◌≡◌, take}
use Rattle.ll_bank.specs.Nodes.{term_trees}
use Rattle.ll_bind.specs.declared.build.Shape.TheVariants.{Deep}
use Rattle.ll_bind.specs.Built.{AreShapes}
use Rattle.ll_bind.proofs.build.args_shape.Given as goal

abbrev pub invariant-loop-arg : goal.invariant-loop-arg
invariant-loop-arg l = record {
  shapes : AreShapes l.count (term_trees l.bank (take l.arg-index l.args)) l.shape;
  likely : l.shape ≡ Deep → ⊥;
}
