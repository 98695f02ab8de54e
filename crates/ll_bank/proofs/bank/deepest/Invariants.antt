use Rattle.std.proofs.Common.{◌≡◌, take}
use Rattle.ll_bank.specs.Kept.{depth_over}
use Rattle.ll_bank.proofs.bank.deepest.Given as goal

abbrev pub invariant-loop-arg : goal.invariant-loop-arg
invariant-loop-arg l = l.deepest ≡ depth_over l.flat.depths (take l.arg-index l.args)
