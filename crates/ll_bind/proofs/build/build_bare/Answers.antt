use Rattle.std.proofs.Common.{ap, sym, subst, ◌∙◌}
use Rattle.std.proofs.lemmas.Result.{IfOk-weaker}
use Rattle.ll_bank.specs.Term.{Term, close}
use Rattle.ll_bank.specs.Nodes.{term_tree, term_trees}
use Rattle.ll_bank.proofs.CallerLemmas.{Extends-refl}
use Rattle.ll_unify.specs.Bindings.{HasCells}
use Rattle.ll_bank.specs.Environments.{values_in}
use Rattle.ll_store.specs.Tables.{table_of}
use Rattle.ll_bind.specs.Built.{ShowsSame, is_bare}
use Rattle.ll_bind.proofs.Building.{shows-itself, bare-shown}
use Rattle.ll_bind.proofs.build.build_bare.Goals as goal

pub build_head-requires-clause-at : goal.build_head-requires-clause-at
build_head-requires-clause-at c =
    let p = term_tree c.args.store.now.bank c.args.pattern.0 in
    let ts = term_trees c.args.store.now.bank c.in-App.field-1.now in
    record {
      inside = c.requires.pattern;
      tree = bare-shown c.args.environment.count p c.in-App.head ts c.in-App.ensures.shown.0 c.requires.bare;
    }

pub build_head-requires-clause-near : goal.build_head-requires-clause-near
build_head-requires-clause-near c =
    let p = term_tree c.args.store.now.bank c.args.pattern.0 in
    let ts = term_trees c.args.store.now.bank c.in-App.field-1.now in
    ap (is_bare c.args.environment.count) (sym (bare-shown c.args.environment.count p c.in-App.head ts c.in-App.ensures.shown.0 c.requires.bare))
    ∙ c.requires.bare

pub build_head-requires-clause-vars : goal.build_head-requires-clause-vars
build_head-requires-clause-vars c =
    let s = c.args.store.now in
    let p = term_tree c.args.store.now.bank c.args.pattern.0 in
    let ts = term_trees c.args.store.now.bank c.in-App.field-1.now in
    subst (λ (u : Term). HasCells s.bank (table_of s.cells.cells) (close (values_in c.args.environment) u))
    (bare-shown c.args.environment.count p c.in-App.head ts c.in-App.ensures.shown.0 c.requires.bare) c.requires.vars

pub returns-in-App-clause-same : goal.returns-in-App-clause-same
returns-in-App-clause-same c =
    let s = c.args.store.now in
    let p = term_tree c.args.store.now.bank c.args.pattern.0 in
    let ts = term_trees c.args.store.now.bank c.in-App.field-1.now in
    IfOk-weaker c.build_head.result _ _
    (λ at h. subst (λ (u : Term). ShowsSame c.build_head.new.store.bank (table_of s.cells.cells) at.0 (close (values_in c.args.environment) u))
    (sym (bare-shown c.args.environment.count p c.in-App.head ts c.in-App.ensures.shown.0 c.requires.bare)) h) c.build_head.ensures.same

pub returns-in-Var-clause-same : goal.returns-in-Var-clause-same
returns-in-Var-clause-same c =
    let s = c.args.store.now in let e = c.in-Var.ensures.shown in
    shows-itself s.bank (table_of s.cells.cells) c.args.pattern.0 _ c.requires.pattern (e ∙ sym (ap (close (values_in c.args.environment)) e)) c.requires.vars

pub returns-in-Int-clause-same : goal.returns-in-Int-clause-same
returns-in-Int-clause-same c =
    let s = c.args.store.now in let e = c.in-Int.ensures.shown in
    shows-itself s.bank (table_of s.cells.cells) c.args.pattern.0 _ c.requires.pattern (e ∙ sym (ap (close (values_in c.args.environment)) e)) c.requires.vars

pub returns-in-Var-clause-keeps : goal.returns-in-Var-clause-keeps
returns-in-Var-clause-keeps c = Extends-refl c.args.store.now.bank

pub returns-in-Int-clause-keeps : goal.returns-in-Int-clause-keeps
returns-in-Int-clause-keeps c = Extends-refl c.args.store.now.bank
