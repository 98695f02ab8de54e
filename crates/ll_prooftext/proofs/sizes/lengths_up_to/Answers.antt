use Rattle.std.proofs.lemmas.Result.{IfOk-from_err}
use Rattle.std.proofs.Common.{arith, sym, subst, length, ap}
use Rattle.std.proofs.lemmas.List.{length_push}
use Rattle.ll_bank.specs.Nodes.{term_tree}
use Rattle.ll_prooftext.specs.Lengths.{AreLengths, IsLength}
use Rattle.ll_prooftext.proofs.writing.Sizing.{lengths_more}
use Rattle.ll_prooftext.proofs.sizes.lengths_up_to.Goals as goal

pub growth-preserved : goal.growth-preserved
growth-preserved c = (
  subst (AreLengths c.args.names.now c.args.bank.now) (sym c.in_ok-push.ensures.items)
      (lengths_more c.args.names.now c.args.bank.now c.growth.lengths.items c.in_ok-next.next c.growth.invariant.0 (omega arith)
      (subst (λ n. IsLength c.args.names.now (term_tree c.args.bank.now n) c.in_ok-next.next) (omega arith) c.in_ok-next.ensures)),
  let more = ap length c.in_ok-push.ensures.items in let push = length_push c.growth.lengths.items c.in_ok-next.next in omega (arith, c.growth.invariant.1),
)

pub returns-in_err-next-clause-lengths : goal.returns-in_err-next-clause-lengths
returns-in_err-next-clause-lengths c = IfOk-from_err c.from_residual.result _ c.from_residual.ensures.0

pub returns-in_err-next-clause-reach : goal.returns-in_err-next-clause-reach
returns-in_err-next-clause-reach c = IfOk-from_err c.from_residual.result _ c.from_residual.ensures.0

pub returns-in_err-next-clause-more : goal.returns-in_err-next-clause-more
returns-in_err-next-clause-more c = IfOk-from_err c.from_residual.result _ c.from_residual.ensures.0

pub returns-in_err-push-clause-lengths : goal.returns-in_err-push-clause-lengths
returns-in_err-push-clause-lengths c = IfOk-from_err c.from_residual-in_err-push.result _ c.from_residual-in_err-push.ensures.0

pub returns-in_err-push-clause-reach : goal.returns-in_err-push-clause-reach
returns-in_err-push-clause-reach c = IfOk-from_err c.from_residual-in_err-push.result _ c.from_residual-in_err-push.ensures.0

pub returns-in_err-push-clause-more : goal.returns-in_err-push-clause-more
returns-in_err-push-clause-more c = IfOk-from_err c.from_residual-in_err-push.result _ c.from_residual-in_err-push.ensures.0
