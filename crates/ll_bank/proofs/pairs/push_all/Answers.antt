use Rattle.std.proofs.lemmas.Result.{IfOk-from_err}
use Rattle.std.proofs.Common.{◌-◌, length, refl, arith, get_or}
use Rattle.ll_bank.specs.declared.pairs.Pair.{Pair}
use Rattle.ll_bank.specs.Pairs.{lefts, rights}
use Rattle.ll_bank.proofs.PairLemmas.{places-more}
use Rattle.ll_bank.proofs.pairs.push_all.Goals as goal

pub loop-done-preserved : goal.loop-done-preserved
loop-done-preserved c =
    let at = length c.args.args.now - c.loop-done.done - 1 in
    let pair : Pair = record { left = get_or c.args.args.now at (record { 0 = 0 }); right = get_or c.args.others.now at (record { 0 = 0 }) } in
    record {
      left = places-more (λ p. p.left) c.loop-done.pairs.items c.push.new.self.items (lefts c.args.pairs.now.items) c.args.args.now c.loop-done.done at pair
          (record { 0 = 0 })
          (omega arith) refl refl c.loop-done.invariant.left c.in_ok-push.ensures.ok;
      right = places-more (λ p. p.right) c.loop-done.pairs.items c.push.new.self.items (rights c.args.pairs.now.items) c.args.others.now c.loop-done.done at
          pair (record { 0 = 0 })
          (omega arith) (omega arith) refl c.loop-done.invariant.right c.in_ok-push.ensures.ok;
    }

pub returns-in_err-push-clause-left : goal.returns-in_err-push-clause-left
returns-in_err-push-clause-left c = IfOk-from_err c.from_residual.result _ c.from_residual.ensures.0

pub returns-in_err-push-clause-right : goal.returns-in_err-push-clause-right
returns-in_err-push-clause-right c = IfOk-from_err c.from_residual.result _ c.from_residual.ensures.0
