use Rattle.std.proofs.Common.{arith}
use Rattle.ll_unify.proofs.Copies.{same-places}
use Rattle.ll_unify.proofs.read.are_same.Goals as goal

pub returns : goal.returns
returns c = λ e. same-places c.args.left.now c.args.right.now (omega arith) (λ k l. c.loop-index.invariant k (omega arith))
