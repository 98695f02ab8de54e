use Rattle.std.proofs.lemmas.Result.{IfOk-from_err}
use Rattle.std.proofs.Common.{◌∙◌}
use Rattle.std.proofs.lemmas.Result.{IfOk-weaker}
use Rattle.ll_crew.proofs.pool.root_of.Goals as goal

pub returns : goal.returns
returns g c =
    let root = c.in_ok-root in
    IfOk-weaker c.shared-2.result _ _ (λ offer same. (root.root.base, same ∙ (c.of.ensures ∙ (c.in_ok-choice.ensures ∙ root.ensures)))) c.shared-2.ensures

pub returns-in_err-root : goal.returns-in_err-root
returns-in_err-root g c = IfOk-from_err c.from_residual.result _ c.from_residual.ensures.0

pub returns-in_err-choice : goal.returns-in_err-choice
returns-in_err-choice g c = IfOk-from_err c.from_residual-in_err-choice.result _ c.from_residual-in_err-choice.ensures.0
