use Rattle.std.proofs.Common.{◌∙◌, sym, arith}
use Rattle.ll_bank.specs.Nodes.{term_tree, term_trees}
use Rattle.ll_unify.proofs.Spines.{app-var}
use Rattle.ll_unify.proofs.Tables.{var-below}
use Rattle.ll_unify.proofs.table.value.Goals as goal

pub value-requires : goal.value-requires
value-requires g c =
    let l = var-below c.args.bank.now (g.T.Bindings.table c.args.table.now) c.in-Var.var (term_tree c.args.bank.now c.args.at.0) c.requires.place.vars
    c.in-Var.ensures.shown in
    let e = c.requires.table.bound in omega arith

pub returns-in-App : goal.returns-in-App
returns-in-App g c = λ x e. absurd (app-var c.in-App.field-0 (term_trees c.args.bank.now c.in-App.field-1.now) x (sym c.in-App.ensures.shown.0 ∙ e))
