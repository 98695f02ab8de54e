use Rattle.std.proofs.Common.{List, sym, subst, arith, rules}
use Rattle.std.proofs.lemmas.Result.{IfOk-from_err}
use Rattle.ll_bank.specs.declared.FormAt.{FormAt}
use Rattle.ll_bank.specs.Nodes.{term_trees}
use Rattle.ll_bank.proofs.CallerLemmas.{Extends-refl, Extends-trans, HasForm-extends, AllInTerms-extends}
use Rattle.ll_sequent.specs.Substituted.{AreFormImages}
use Rattle.ll_sequent.proofs.Substitutions.{terms_now, forms_now, terms_then, next_form_more, form_image_at}
use Rattle.ll_sequent.proofs.substitution.substituted.Goals as goal

pub growth-init : goal.growth-init
growth-init c = record {
  keeps = Extends-refl c.args.bank.now;
  terms = rw c.new-terms.ensures.items (λ k d l. absurd (omega arith));
  forms = rw c.new-forms.ensures.items (λ k d l. absurd (omega arith));
}

pub form_image-requires-clause-form : goal.form_image-requires-clause-form
form_image-requires-clause-form c = let h = HasForm-extends c.growth.invariant.keeps c.args.form.0 c.requires.form in omega arith

pub form_image-requires-clause-values : goal.form_image-requires-clause-values
form_image-requires-clause-values c = AllInTerms-extends c.growth.invariant.keeps c.args.values.now c.requires.values

pub form_image-requires-clause-terms : goal.form_image-requires-clause-terms
form_image-requires-clause-terms c =
    terms_now c.args.bank.now c.growth.bank c.growth.bank c.growth.invariant.keeps (Extends-refl c.growth.bank) c.args.values.now c.requires.values
    c.growth.terms.items c.growth.invariant.terms

pub form_image-requires-clause-forms : goal.form_image-requires-clause-forms
form_image-requires-clause-forms c =
    let P : List FormAt → Type 0 = AreFormImages c.growth.bank (term_trees c.growth.bank c.args.values.now) in
    subst P (sym c.deref.ensures.value) (forms_now c.args.bank.now c.growth.bank c.growth.bank c.growth.invariant.keeps (Extends-refl c.growth.bank)
    c.args.values.now c.requires.values c.growth.forms.items c.growth.invariant.forms)

pub returns-in_err-image-clause-keeps : goal.returns-in_err-image-clause-keeps
returns-in_err-image-clause-keeps c = Extends-trans c.growth.invariant.keeps c.form_image.ensures.keeps

pub growth-preserved : goal.growth-preserved
growth-preserved c =
    let h = HasForm-extends c.growth.invariant.keeps c.args.form.0 c.requires.form in
    record {
      keeps = Extends-trans c.growth.invariant.keeps c.form_image.ensures.keeps;
      terms = terms_then c.args.bank.now c.growth.bank c.form_image.new.bank c.growth.invariant.keeps c.form_image.ensures.keeps c.args.values.now
          c.requires.values c.form_image.new.terms.items c.in_ok-image.ensures.terms;
      forms = next_form_more c.args.bank.now c.growth.bank c.form_image.new.bank c.growth.invariant.keeps c.form_image.ensures.keeps c.args.values.now
          c.requires.values c.growth.forms.items c.push.new.self.items
          c.len-in-growth.result c.in_ok-image.image (let l = c.len-in-growth.ensures in
          search rules) c.growth.invariant.forms (omega arith) c.in_ok-image.ensures.shows c.in_ok-push.ensures.items;
    }

pub returns-clause-shows : goal.returns-clause-shows
returns-clause-shows c =
    form_image_at c.args.bank.now c.growth.bank c.growth.invariant.keeps (term_trees c.args.bank.now c.args.values.now) c.growth.forms.items c.args.form.0
    c.index.result.now c.growth.invariant.forms c.requires.form (omega arith) c.index.ensures

pub returns-clause-keeps : goal.returns-clause-keeps
returns-clause-keeps c = c.growth.invariant.keeps

pub returns-in_err-image-clause-shows : goal.returns-in_err-image-clause-shows
returns-in_err-image-clause-shows c = IfOk-from_err c.from_residual.result _ c.from_residual.ensures.0

pub returns-in_err-push-clause-shows : goal.returns-in_err-push-clause-shows
returns-in_err-push-clause-shows c = IfOk-from_err c.from_residual-in_err-push.result _ c.from_residual-in_err-push.ensures.0

pub returns-in_err-push-clause-keeps : goal.returns-in_err-push-clause-keeps
returns-in_err-push-clause-keeps c = Extends-trans c.growth.invariant.keeps c.form_image.ensures.keeps
