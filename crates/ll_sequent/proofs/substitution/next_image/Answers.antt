use Rattle.std.proofs.Common.{◌<◌, ◌∙◌, subst, length}
use Rattle.std.proofs.lemmas.Result.{IfOk-from_err}
use Rattle.std.specs.Prelude.{IfOk}
use Rattle.ll_bank.specs.declared.At.{At}
use Rattle.ll_bank.specs.Term.{Term}
use Rattle.ll_bank.specs.Nodes.{term_trees, ShowsTerm}
use Rattle.ll_bank.proofs.CallerLemmas.{Extends-refl}
use Rattle.ll_sequent.proofs.Substitutions.{all_of, args_low, images_inside, app_shows}
use Rattle.ll_sequent.proofs.substitution.next_image.Goals as goal

pub returns-in_err-images-in-App-clause-keeps : goal.returns-in_err-images-in-App-clause-keeps
returns-in_err-images-in-App-clause-keeps c = Extends-refl c.args.bank.now

pub returns-in-Var-clause-keeps : goal.returns-in-Var-clause-keeps
returns-in-Var-clause-keeps c = Extends-refl c.args.bank.now

pub returns-in-Int-clause-keeps : goal.returns-in-Int-clause-keeps
returns-in-Int-clause-keeps c = Extends-refl c.args.bank.now

pub app-requires : goal.app-requires
app-requires c =
    let low = args_low _ _ c.in-App.args.now c.requires.below c.in-App.ensures.shown.1 in
    all_of (λ (a : At). a.0 < length c.args.bank.now.terms) c.deref.result.now _ (c.deref.ensures.value ∙ c.in_ok-images-in-App.ensures)
    (images_inside c.args.bank.now (term_trees c.args.bank.now c.args.values.now) c.args.terms.now c.requires.terms c.in-App.args.now low)

pub returns-in_ok-images-in-App-clause-shows : goal.returns-in_ok-images-in-App-clause-shows
returns-in_ok-images-in-App-clause-shows c =
    let low = args_low _ _ c.in-App.args.now c.requires.below c.in-App.ensures.shown.1 in
    let P : Term → Type 0 = λ t. IfOk c.app.result (λ image. ShowsTerm c.app.new.self image.0 t) in
    subst P (app_shows c.args.bank.now (term_trees c.args.bank.now c.args.values.now) c.args.terms.now c.requires.terms c.in-App.head c.in-App.args.now
    c.deref.result.now _ (c.deref.ensures.value ∙ c.in_ok-images-in-App.ensures) low c.in-App.ensures.shown.0)
    c.app.ensures.shows

pub returns-in_err-images-in-App-clause-shows : goal.returns-in_err-images-in-App-clause-shows
returns-in_err-images-in-App-clause-shows c = IfOk-from_err c.from_residual.result _ c.from_residual.ensures.0

pub returns-in_ok-images-in-App-clause-keeps : goal.returns-in_ok-images-in-App-clause-keeps
returns-in_ok-images-in-App-clause-keeps c = c.app.ensures.keeps
