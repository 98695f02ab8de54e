use Rattle.std.proofs.Common.{List, ◌∙◌, subst, sym}
use Rattle.std.proofs.lemmas.Result.{IfOk-from_err}
use Rattle.std.specs.Prelude.{IfOk}
use Rattle.ll_bank.specs.declared.At.{At}
use Rattle.ll_bank.specs.Form.{sub_form}
use Rattle.ll_bank.specs.Nodes.{form_tree, term_trees, AllInTerms, ShowsForm}
use Rattle.ll_bank.proofs.CallerLemmas.{Extends-refl}
use Rattle.ll_sequent.specs.Starting.{values}
use Rattle.ll_sequent.proofs.CopyLemmas.{copied_inside}
use Rattle.ll_sequent.proofs.start.asked_goal.Goals as goal

pub substituted-requires-clause-values : goal.substituted-requires-clause-values
substituted-requires-clause-values c =
    let P : List At → Type 0 = AllInTerms c.args.bank.now in
    subst P (sym (c.deref.ensures.value ∙ c.in_ok-values.ensures)) (copied_inside c.args.bank.now c.args.copies.now c.args.asked.now c.requires.copies
    c.requires.asked)

pub returns-clause-shows : goal.returns-clause-shows
returns-clause-shows c =
    let P : List At → Type 0 = λ vs. IfOk c.substituted.result (λ image. ShowsForm c.substituted.new.bank image.0
    (sub_form (values (term_trees c.args.bank.now vs)) (form_tree c.args.bank.now c.args.goal.0))) in
    subst P (c.deref.ensures.value ∙ c.in_ok-values.ensures) c.substituted.ensures.shows

pub returns-in_err-values-clause-keeps : goal.returns-in_err-values-clause-keeps
returns-in_err-values-clause-keeps c = Extends-refl c.args.bank.now

pub returns-in_err-values-clause-shows : goal.returns-in_err-values-clause-shows
returns-in_err-values-clause-shows c = IfOk-from_err c.from_residual.result _ c.from_residual.ensures.0
