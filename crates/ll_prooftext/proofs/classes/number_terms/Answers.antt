use Rattle.std.proofs.lemmas.Result.{IfOk-from_err}
use Rattle.std.proofs.Common.{◌<◌, arith, subst, length, take, All}
use Rattle.std.proofs.lemmas.List.{take_all}
use Rattle.std.proofs.lemmas.List.Elements.{All-more, All-weaker}
use Rattle.ll_bank.specs.declared.At.{At}
use Rattle.ll_prooftext.proofs.classes.number_terms.Goals as goal

pub loop-i-preserved : goal.loop-i-preserved
loop-i-preserved c = (
  c.in_ok-number_up_to.ensures.numbered,
  All-more (λ (a : At). a.0 < length c.number_up_to.new.numbers.items) c.args.places.now c.loop-i.i (record { 0 = 0 }) (omega arith)
      (All-weaker (λ (a : At). a.0 < length c.loop-i.numbers.items) (λ (a : At). a.0 < length c.number_up_to.new.numbers.items) (λ a h. let more =
      c.in_ok-number_up_to.ensures.more in omega arith)
      (take c.loop-i.i c.args.places.now) c.loop-i.invariant.1)
      c.in_ok-number_up_to.ensures.reach,
)

pub returns-clause-reach : goal.returns-clause-reach
returns-clause-reach c =
    subst (λ ps. All (λ (a : At). a.0 < length c.loop-i.numbers.items) ps) (take_all c.loop-i.i c.args.places.now (omega arith)) c.loop-i.invariant.1

pub returns-in_err-number_up_to-clause-classes : goal.returns-in_err-number_up_to-clause-classes
returns-in_err-number_up_to-clause-classes c = IfOk-from_err c.from_residual.result _ c.from_residual.ensures.0

pub returns-in_err-number_up_to-clause-reach : goal.returns-in_err-number_up_to-clause-reach
returns-in_err-number_up_to-clause-reach c = IfOk-from_err c.from_residual.result _ c.from_residual.ensures.0
