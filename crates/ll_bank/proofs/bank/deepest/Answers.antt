use Rattle.std.proofs.Common.{refl, ap, ◌∙◌}
use Rattle.std.proofs.lemmas.List.{take_all}
use Rattle.ll_bank.specs.Kept.{depth_over}
use Rattle.ll_bank.proofs.bank.deepest.Goals as goal

pub loop-arg-init : goal.loop-arg-init
loop-arg-init c = refl

pub depth-requires : goal.depth-requires
depth-requires c = c.requires c.loop-arg.arg-index _ c.loop-arg-test.true

pub returns : goal.returns
returns c =
    c.loop-arg.invariant ∙ ap (depth_over c.args.flat.now.depths) (take_all c.loop-arg.arg-index c.args.args.now c.loop-arg-test.false)
