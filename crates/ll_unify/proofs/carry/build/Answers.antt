use Rattle.std.proofs.Common.{refl, rules, w64, FitsSigned, sym, ◌∙◌, ap}
use Rattle.std.proofs.lemmas.Int.{to_z-of_z}
use Rattle.std.proofs.lemmas.Result.{IfOk-weaker}
use Rattle.ll_bank.specs.Term.{Int}
use Rattle.ll_bank.specs.Nodes.{term_trees}
use Rattle.ll_unify.proofs.Copies.{changed-head}
use Rattle.ll_unify.proofs.Carrying.{carried-var, carried-int, carried-app}
use Rattle.ll_unify.proofs.carry.build.Goals as goal

pub returns-in-Var-clause-built : goal.returns-in-Var-clause-built
returns-in-Var-clause-built c =
    IfOk-weaker c.var.result _ _ (λ a k. carried-var c.args.bank.now c.args.other.now c.var.new.self c.args.at.0 c.in-Var.number c.args.own.now a
    c.in-Var.ensures.shown k) c.var.ensures.shows

pub returns-in-Int-clause-built : goal.returns-in-Int-clause-built
returns-in-Int-clause-built c =
    let f : FitsSigned w64 c.in-Int.value = search rules in let same = ap Int (to_z-of_z w64 c.in-Int.value f) in
    IfOk-weaker c.int.result _ _ (λ a k. carried-int c.args.bank.now c.args.other.now c.int.new.self c.args.at.0 _ c.args.own.now a
    (c.in-Int.ensures.shown ∙ sym same) (λ s. refl) k) c.int.ensures.shows

pub returns-in-App-clause-built : goal.returns-in-App-clause-built
returns-in-App-clause-built c =
    IfOk-weaker c.app.result _ _
    (λ a k. carried-app c.args.bank.now c.args.other.now c.app.new.self c.args.at.0 c.args.own.now a c.in-App.head
    (changed-head c.args.bank.now c.args.at.0 c.in-App.head (term_trees c.args.bank.now c.in-App.field-1.now) c.in-App.ensures.shown.0) k)
    c.app.ensures.shows
