use Rattle.std.proofs.lemmas.Result.{IfOk-from_err}
use Rattle.std.proofs.Common.{arith, sym, subst, length, ap}
use Rattle.std.proofs.lemmas.List.{length_push}
use Rattle.ll_bank.specs.Nodes.{term_tree}
use Rattle.ll_prooftext.specs.Classes.{AreNumbers, HasNumber}
use Rattle.ll_prooftext.proofs.tabling.Classing.{numbers_more}
use Rattle.ll_prooftext.proofs.classes.number_up_to.Goals as goal

pub loop-last-preserved : goal.loop-last-preserved
loop-last-preserved c = (
  subst (AreNumbers c.args.bank.now c.number_at.new.signs.keys) (sym c.in_ok-push.ensures.items)
      (numbers_more c.args.bank.now c.loop-last.signs.keys c.number_at.new.signs.keys c.loop-last.numbers.items c.in_ok-number.number c.loop-last.invariant.0
      c.in_ok-number.ensures.gain (omega arith)
      (subst (λ n. HasNumber c.number_at.new.signs.keys c.in_ok-number.number (term_tree c.args.bank.now n)) (omega arith) c.in_ok-number.ensures.number)),
  let more = ap length c.in_ok-push.ensures.items in let push = length_push c.loop-last.numbers.items c.in_ok-number.number in
      omega (arith, c.loop-last.invariant.1),
)

pub returns-in_err-number-clause-numbered : goal.returns-in_err-number-clause-numbered
returns-in_err-number-clause-numbered c = IfOk-from_err c.from_residual.result _ c.from_residual.ensures.0

pub returns-in_err-number-clause-reach : goal.returns-in_err-number-clause-reach
returns-in_err-number-clause-reach c = IfOk-from_err c.from_residual.result _ c.from_residual.ensures.0

pub returns-in_err-number-clause-more : goal.returns-in_err-number-clause-more
returns-in_err-number-clause-more c = IfOk-from_err c.from_residual.result _ c.from_residual.ensures.0

pub returns-in_err-push-clause-numbered : goal.returns-in_err-push-clause-numbered
returns-in_err-push-clause-numbered c = IfOk-from_err c.from_residual-in_err-push.result _ c.from_residual-in_err-push.ensures.0

pub returns-in_err-push-clause-reach : goal.returns-in_err-push-clause-reach
returns-in_err-push-clause-reach c = IfOk-from_err c.from_residual-in_err-push.result _ c.from_residual-in_err-push.ensures.0

pub returns-in_err-push-clause-more : goal.returns-in_err-push-clause-more
returns-in_err-push-clause-more c = IfOk-from_err c.from_residual-in_err-push.result _ c.from_residual-in_err-push.ensures.0
