use Rattle.std.proofs.Common.{ap, sym, subst, ◌∙◌}
use Rattle.std.specs.Prelude.{IfOk}
use Rattle.std.proofs.lemmas.Result.{IfOk-from_err}
use Rattle.ll_bank.specs.Form.{Lolli, Imp, close_form}
use Rattle.ll_bank.specs.Nodes.{term_trees, form_tree, ShowsForm}
use Rattle.ll_bank.proofs.CallerLemmas.{Extends-trans, HasForm-extends, form_tree-extends}
use Rattle.ll_laws.specs.Module.{load}
use Rattle.ll_modules.specs.Loads.{arguments_env}
use Rattle.ll_modules.proofs.load_clause.Goals as goal

pub close_clause-requires-clause-form : goal.close_clause-requires-clause-form
close_clause-requires-clause-form c = c.requires.form

pub close_clause-requires-clause-places : goal.close_clause-requires-clause-places
close_clause-requires-clause-places c = c.requires.places

pub close_clause-requires-clause-closed : goal.close_clause-requires-clause-closed
close_clause-requires-clause-closed c = c.requires.closed

pub close_clause-requires-clause-heads : goal.close_clause-requires-clause-heads
close_clause-requires-clause-heads c = c.requires.heads

pub returns-in_err-form-clause-shows : goal.returns-in_err-form-clause-shows
returns-in_err-form-clause-shows c = IfOk-from_err c.from_residual.result _ c.from_residual.ensures.0

pub returns-in_err-form-clause-keeps : goal.returns-in_err-form-clause-keeps
returns-in_err-form-clause-keeps c = c.close_clause.ensures.keeps

pub form-requires : goal.form-requires
form-requires c = (c.in_ok-form.ensures.shows.inside, HasForm-extends c.close_clause.ensures.keeps c.args.goal.0 c.requires.goal)

pub form-requires-in-Unbounded : goal.form-requires-in-Unbounded
form-requires-in-Unbounded c = (c.in_ok-form.ensures.shows.inside, HasForm-extends c.close_clause.ensures.keeps c.args.goal.0 c.requires.goal)

pub returns-in-Linear-clause-shows : goal.returns-in-Linear-clause-shows
returns-in-Linear-clause-shows c =
    let clause = close_form (arguments_env (term_trees c.args.bank.now c.args.args.now)) (form_tree c.args.bank.now c.args.clause.form.0) in
    subst (λ u. IfOk c.form.result (λ at. ShowsForm c.form.new.self at.0 u))
    ((λ i. Lolli (c.in_ok-form.ensures.shows.tree i) (form_tree-extends c.close_clause.ensures.keeps c.args.goal.0 c.requires.goal i))
    ∙ ap (λ kind. load kind clause (form_tree c.args.bank.now c.args.goal.0)) (sym c.in-Linear.is)) c.form.ensures.shows

pub returns-in-Linear-clause-keeps : goal.returns-in-Linear-clause-keeps
returns-in-Linear-clause-keeps c = Extends-trans c.close_clause.ensures.keeps c.form.ensures.keeps

pub returns-in-Unbounded-clause-shows : goal.returns-in-Unbounded-clause-shows
returns-in-Unbounded-clause-shows c =
    let clause = close_form (arguments_env (term_trees c.args.bank.now c.args.args.now)) (form_tree c.args.bank.now c.args.clause.form.0) in
    subst (λ u. IfOk c.form-in-Unbounded.result (λ at. ShowsForm c.form-in-Unbounded.new.self at.0 u))
    ((λ i. Imp (c.in_ok-form.ensures.shows.tree i) (form_tree-extends c.close_clause.ensures.keeps c.args.goal.0 c.requires.goal i))
    ∙ ap (λ kind. load kind clause (form_tree c.args.bank.now c.args.goal.0)) (sym c.in-Unbounded.is)) c.form-in-Unbounded.ensures.shows

pub returns-in-Unbounded-clause-keeps : goal.returns-in-Unbounded-clause-keeps
returns-in-Unbounded-clause-keeps c = Extends-trans c.close_clause.ensures.keeps c.form-in-Unbounded.ensures.keeps
