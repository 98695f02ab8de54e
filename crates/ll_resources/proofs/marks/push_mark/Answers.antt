use Rattle.std.proofs.lemmas.Result.{IfOk-from_err}
use Rattle.std.proofs.Common.{◌≡◌, length, subst, sym, arith}
use Rattle.std.proofs.lemmas.Bool.{eqb-true}
use Rattle.ll_resources.specs.Raw.{HasOneMore}
use Rattle.ll_resources.proofs.SeenLemmas.{one-more, none-more}
use Rattle.ll_resources.proofs.marks.push_mark.Goals as goal

pub returns-in_ok-push : goal.returns-in_ok-push
returns-in_ok-push c = subst (λ xs. HasOneMore c.args.live.now.items c.args.mark xs) (sym c.in_ok-push.ensures.items)
    (one-more c.args.live.now.items c.args.mark)

pub returns-else-not-is_empty : goal.returns-else-not-is_empty
returns-else-not-is_empty c =
    let e = eqb-true _ _ (sym c.if-not-is_empty.ensures) in
    none-more c.args.live.now.items c.args.mark (let l : length c.args.live.now.items ≡ 0 = omega (arith, e, c.args.live.now.ok.0) in l) c.if-mark.false

pub returns-in_err-push : goal.returns-in_err-push
returns-in_err-push c = IfOk-from_err c.from_residual.result _ c.from_residual.ensures.0
