use Rattle.std.proofs.Common.{sym, subst, ◌∙◌, arith}
use Rattle.ll_bank.specs.Nodes.{term_trees}
use Rattle.ll_bank.proofs.CallerLemmas.{length-term_trees}
use Rattle.ll_bind.specs.Built.{IsShape}
use Rattle.ll_bind.proofs.Shapes.{shape-args}
use Rattle.ll_bind.proofs.build.shape_of.Goals as goal

pub returns-else-not-is_fixed : goal.returns-else-not-is_fixed
returns-else-not-is_fixed c =
    let bank = c.args.bank.now in let ats = c.in-App.args.now in
    subst (λ u. IsShape c.args.count u c.args_shape.result) (sym c.in-App.ensures.shown.0)
    (shape-args c.args.count c.in-App.head (term_trees bank ats) c.args_shape.result (sym c.is_fixed.ensures ∙ c.if-not-is_fixed.false)
    (let n = length-term_trees bank ats in let l = c.if-args-gt-FEW.false in omega (arith, n, l)) c.args_shape.ensures)
