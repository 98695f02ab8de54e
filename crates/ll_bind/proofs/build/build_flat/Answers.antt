use Rattle.std.proofs.Common.{◌≡◌, ◌≤◌, List, length, All, true, ap, sym, subst, ◌∙◌}
use Rattle.std.proofs.lemmas.List.{length-take-le}
use Rattle.std.proofs.lemmas.Result.{IfOk-weaker}
use Rattle.ll_list_laws.proofs.CallerLemmas.{take-front}
use Rattle.ll_bank.specs.declared.At.{At}
use Rattle.ll_bank.specs.Term.{Term, close, app, head_of, not_bound}
use Rattle.ll_bank.specs.Nodes.{Nodes, AllInTerms, ShowsTerm, term_tree, term_trees}
use Rattle.ll_bank.proofs.CallerLemmas.{Extends-refl, AllInTerms-below, length-term_trees, head_of-app}
use Rattle.ll_unify.specs.Bindings.{HasCells}
use Rattle.ll_unify.specs.Spines.{args_in}
use Rattle.ll_unify.proofs.CallerLemmas.{args_in-app, table-extends}
use Rattle.ll_bank.specs.Environments.{values_in}
use Rattle.ll_store.specs.Tables.{table_of}
use Rattle.ll_bind.specs.Built.{ShowsSame, AreBuilt, IsFlat, is_bare}
use Rattle.ll_bind.proofs.Building.{shows-itself, shows-app, built-length, built-inside, closed-cells}
use Rattle.ll_bind.proofs.build.build_flat.Goals as goal

-- a flat pattern has few arguments, each of which is bare, and no bound place as its head
few-args : (nodes : Nodes) (count : _) (u : Term) (h : _) (ats : List At) → u ≡ app h (term_trees nodes ats) → IsFlat count u → length ats ≤ 8
few-args nodes count u h ats e f =
    subst (λ n. n ≤ 8) (ap (λ us. length us) (ap args_in e ∙ args_in-app h (term_trees nodes ats)) ∙ length-term_trees nodes ats) f.few

bare-args : (nodes : Nodes) (count : _) (u : Term) (h : _) (ats : List At) → u ≡ app h (term_trees nodes ats) → IsFlat count u
    → All (λ a. is_bare count a ≡ true) (term_trees nodes ats)
bare-args nodes count u h ats e f = subst (All (λ a. is_bare count a ≡ true)) (ap args_in e ∙ args_in-app h (term_trees nodes ats)) f.bare

fixed-head : (nodes : Nodes) (count : _) (u : Term) (h : _) (ats : List At) → u ≡ app h (term_trees nodes ats) → IsFlat count u → not_bound h ≡ true
fixed-head nodes count u h ats e f = f.fixed h (ap head_of e ∙ head_of-app h (term_trees nodes ats))

pub returns-in-Var-clause-same : goal.returns-in-Var-clause-same
returns-in-Var-clause-same c =
    let s = c.args.store.now in let e = c.in-Var.ensures.shown in
    shows-itself s.bank (table_of s.cells.cells) c.args.pattern.0 _ c.requires.pattern (e ∙ sym (ap (close (values_in c.args.environment)) e)) c.requires.vars

pub returns-in-Var-clause-keeps : goal.returns-in-Var-clause-keeps
returns-in-Var-clause-keeps c = Extends-refl c.args.store.now.bank

pub returns-in-Int-clause-same : goal.returns-in-Int-clause-same
returns-in-Int-clause-same c =
    let s = c.args.store.now in let e = c.in-Int.ensures.shown in
    shows-itself s.bank (table_of s.cells.cells) c.args.pattern.0 _ c.requires.pattern (e ∙ sym (ap (close (values_in c.args.environment)) e)) c.requires.vars

pub returns-in-Int-clause-keeps : goal.returns-in-Int-clause-keeps
returns-in-Int-clause-keeps c = Extends-refl c.args.store.now.bank

pub slice_bounds-own-end : goal.slice_bounds-own-end
slice_bounds-own-end c =
    few-args c.args.store.now.bank c.args.environment.count (term_tree c.args.store.now.bank c.args.pattern.0) c.in-App.head c.in-App.args.now
    c.in-App.ensures.shown.0 c.requires.flat

pub copy_from_slice-requires : goal.copy_from_slice-requires
copy_from_slice-requires c = length-take-le (length c.in-App.args.now) _ (few-args c.args.store.now.bank c.args.environment.count
    (term_tree c.args.store.now.bank c.args.pattern.0) c.in-App.head c.in-App.args.now c.in-App.ensures.shown.0 c.requires.flat)

pub slice_bounds-copy_from_slice-end : goal.slice_bounds-copy_from_slice-end
slice_bounds-copy_from_slice-end c = sym (length-take-le (length c.in-App.args.now) _ (few-args c.args.store.now.bank c.args.environment.count
    (term_tree c.args.store.now.bank c.args.pattern.0) c.in-App.head c.in-App.args.now c.in-App.ensures.shown.0 c.requires.flat))

pub build_each-requires-clause-patterns : goal.build_each-requires-clause-patterns
build_each-requires-clause-patterns c =
    let copied = c.copy_from_slice.ensures.after in
    subst (AllInTerms c.args.store.now.bank)
    (sym (take-front c.copy_from_slice.new.self _ (length c.in-App.args.now) (ap (λ xs. length xs) copied) ∙ copied))
    (AllInTerms-below c.args.store.now.bank c.args.pattern.0 c.in-App.args.now c.requires.pattern c.in-App.ensures.shown.1)

pub build_each-requires-clause-bare : goal.build_each-requires-clause-bare
build_each-requires-clause-bare c =
    let bank = c.args.store.now.bank in let copied = c.copy_from_slice.ensures.after in
    subst (λ xs. All (λ a. is_bare c.args.environment.count a ≡ true) (term_trees bank xs))
    (sym (take-front c.copy_from_slice.new.self _ (length c.in-App.args.now) (ap (λ xs. length xs) copied) ∙ copied))
    (bare-args bank c.args.environment.count (term_tree bank c.args.pattern.0) c.in-App.head c.in-App.args.now c.in-App.ensures.shown.0 c.requires.flat)

pub build_each-requires-clause-vars : goal.build_each-requires-clause-vars
build_each-requires-clause-vars c =
    let s = c.args.store.now in let copied = c.copy_from_slice.ensures.after in let env = values_in c.args.environment in
    let t = table_of s.cells.cells in let e = c.in-App.ensures.shown.0 in let us = term_trees s.bank c.in-App.args.now in
    subst (λ xs. All (λ u. HasCells s.bank t (close env u)) (term_trees s.bank xs))
    (sym (take-front c.copy_from_slice.new.self _ (length c.in-App.args.now) (ap (λ xs. length xs) copied) ∙ copied))
    (closed-cells s.bank t env c.in-App.head us
    (fixed-head s.bank c.args.environment.count (term_tree s.bank c.args.pattern.0) c.in-App.head c.in-App.args.now e c.requires.flat)
    (subst (λ (u : Term). HasCells s.bank t (close env u)) e c.requires.vars))

pub app-requires : goal.app-requires
app-requires c =
    let s = c.args.store.now in let copied = c.copy_from_slice.ensures.after in let built = c.in_ok-build_each.ensures.built in
    let n = length c.in-App.args.now in let b = c.build_each.new.store.bank in
    let front = take-front c.copy_from_slice.new.self _ n (ap (λ xs. length xs) copied) ∙ copied in
    let many = built-length b (table_of s.cells.cells) (values_in c.args.environment) _ c.build_each.new.patterns built
    ∙ (length-term_trees s.bank _ ∙ ap (λ xs. length xs) front) in
    subst (AllInTerms b) (sym (take-front c.build_each.new.patterns _ n many))
    (built-inside b (table_of s.cells.cells) (values_in c.args.environment) _ c.build_each.new.patterns built)

pub returns-clause-same : goal.returns-clause-same
returns-clause-same c =
    let s = c.args.store.now in let copied = c.copy_from_slice.ensures.after in let built = c.in_ok-build_each.ensures.built in
    let n = length c.in-App.args.now in let b = c.build_each.new.store.bank in let t = table_of s.cells.cells in
    let env = values_in c.args.environment in let e = c.in-App.ensures.shown.0 in let h = c.in-App.head in
    let keeps = c.in_ok-build_each.ensures.keeps in
    let front = take-front c.copy_from_slice.new.self _ n (ap (λ xs. length xs) copied) ∙ copied in
    let many = built-length b t env _ c.build_each.new.patterns built ∙ (length-term_trees s.bank _ ∙ ap (λ xs. length xs) front) in
    let made = subst (λ xs. AreBuilt b t env (term_trees s.bank xs) c.build_each.new.patterns) front built in
    IfOk-weaker c.app.result _ _
    (λ at shows. subst (λ (u : Term). ShowsSame c.app.new.self t at.0 (close env u)) (sym e)
    (shows-app b c.app.new.self t (table-extends s.bank b t c.requires.table keeps) c.app.ensures.keeps env h (term_trees s.bank c.in-App.args.now)
    c.build_each.new.patterns at.0
    (fixed-head s.bank c.args.environment.count (term_tree s.bank c.args.pattern.0) h c.in-App.args.now e c.requires.flat) made
    (subst (λ xs. ShowsTerm c.app.new.self at.0 (app h (term_trees b xs))) (take-front c.build_each.new.patterns _ n many) shows)))
    c.app.ensures.shows
