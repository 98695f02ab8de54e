use Rattle.std.proofs.lemmas.Result.{IfOk-from_err}
use Rattle.std.proofs.Common.{[], ◌∷◌, ◌++◌, take, refl, sym, ap, ◌∙◌}
use Rattle.std.proofs.lemmas.List.{take_at}
use Rattle.ll_list_laws.proofs.CallerLemmas.{OnErr-always}
use Rattle.ll_bank.proofs.flat.store_form.Goals as goal

pub returns-in_err-form-clause-stored : goal.returns-in_err-form-clause-stored
returns-in_err-form-clause-stored c = IfOk-from_err c.from_residual.result _ c.from_residual.ensures.0

pub returns-in_err-form-clause-behind : goal.returns-in_err-form-clause-behind
returns-in_err-form-clause-behind c = IfOk-from_err c.from_residual.result _ c.from_residual.ensures.0

pub returns-in-Err-clause-stored : goal.returns-in-Err-clause-stored
returns-in-Err-clause-stored c = _

pub returns-in-Err-clause-behind : goal.returns-in-Err-clause-behind
returns-in-Err-clause-behind c = _

pub returns-clause-refused_forms : goal.returns-clause-refused_forms
returns-clause-refused_forms c = _

pub returns-clause-refused_arguments : goal.returns-clause-refused_arguments
returns-clause-refused_arguments c = _

pub returns-in_err-form-clause-refused_forms : goal.returns-in_err-form-clause-refused_forms
returns-in_err-form-clause-refused_forms c = OnErr-always c.from_residual.result refl

pub returns-in_err-form-clause-refused_arguments : goal.returns-in_err-form-clause-refused_arguments
returns-in_err-form-clause-refused_arguments c = OnErr-always c.from_residual.result c.in_err-form.ensures.refused

pub returns-in-Err-clause-refused_forms : goal.returns-in-Err-clause-refused_forms
returns-in-Err-clause-refused_forms c = c.in-Err.ensures.items

pub returns-in-Err-clause-refused_arguments : goal.returns-in-Err-clause-refused_arguments
returns-in-Err-clause-refused_arguments c =
    c.truncate.ensures.items
    ∙ (ap (take c.len-from.result) c.in_ok-form.ensures.behind
    ∙ take_at c.args.arguments.now.items _ c.len-from.result (sym (c.len-from.ensures ∙ c.args.arguments.now.ok.0)))

pub returns-clause-stored : goal.returns-clause-stored
returns-clause-stored c = c.in_default.ensures.items ∙ ap (λ f. c.args.forms.now.items ++ f ∷ []) c.in_ok-form.ensures.stored

pub returns-clause-behind : goal.returns-clause-behind
returns-clause-behind c = c.in_ok-form.ensures.behind
