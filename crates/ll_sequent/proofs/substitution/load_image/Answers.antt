use Rattle.std.proofs.Common.{List, ap, ◌∙◌, subst, sym}
use Rattle.std.proofs.lemmas.Result.{IfOk-from_err}
use Rattle.ll_bank.specs.declared.At.{At}
use Rattle.ll_bank.specs.Form.{Use}
use Rattle.ll_bank.specs.Nodes.{term_trees, AllInTerms}
use Rattle.ll_bank.proofs.CallerLemmas.{Extends-trans, HasForm-extends, form_tree-extends}
use Rattle.ll_sequent.proofs.Substitutions.{on_ok, shown_as, terms_extend}
use Rattle.ll_sequent.proofs.substitution.load_image.Goals as goal

pub form-requires : goal.form-requires
form-requires c =
    let P : List At → Type 0 = AllInTerms c.term_images.new.bank in
    (subst P (sym c.deref.ensures.value) c.in_ok-images.ensures.inside, HasForm-extends c.term_images.ensures.keeps c.args.body.0 c.requires.body)

pub returns-in_err-images-clause-keeps : goal.returns-in_err-images-clause-keeps
returns-in_err-images-clause-keeps c = c.term_images.ensures.keeps

pub returns-clause-shows : goal.returns-clause-shows
returns-clause-shows c =
    let args = ap (term_trees c.term_images.new.bank) c.deref.ensures.value ∙ c.in_ok-images.ensures.shows in
    let body = form_tree-extends c.term_images.ensures.keeps c.args.body.0 c.requires.body in
    shown_as c.form.new.self c.form.result _ _ (λ i. Use c.args.number (args i) (body i)) c.form.ensures.shows

pub returns-clause-terms : goal.returns-clause-terms
returns-clause-terms c = on_ok c.form.result
    (terms_extend c.form.ensures.keeps (term_trees c.args.bank.now c.args.values.now) c.term_images.new.terms.items c.in_ok-images.ensures.terms)

pub returns-clause-keeps : goal.returns-clause-keeps
returns-clause-keeps c = Extends-trans c.term_images.ensures.keeps c.form.ensures.keeps

pub returns-in_err-images-clause-shows : goal.returns-in_err-images-clause-shows
returns-in_err-images-clause-shows c = IfOk-from_err c.from_residual.result _ c.from_residual.ensures.0

pub returns-in_err-images-clause-terms : goal.returns-in_err-images-clause-terms
returns-in_err-images-clause-terms c = IfOk-from_err c.from_residual.result _ c.from_residual.ensures.0
