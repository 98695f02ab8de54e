use Rattle.std.proofs.Common.{sym, ◌∙◌}
use Rattle.ll_bank.specs.contracts.flat.StoredFormPartialEq.TheImpl.{eq-value as form_eq_value}
use Rattle.ll_bank.proofs.SameLemmas.{same_list, same_stored_form}
use Rattle.ll_bank.proofs.flat.are_same_forms.Goals as goal

pub returns : goal.returns
returns c = λ e. same_list (form_eq_value).it same_stored_form c.args.forms.now c.args.others.now (sym c.eq.ensures ∙ e)
