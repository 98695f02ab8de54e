use Rattle.std.proofs.Common.{sym, ◌∙◌}
use Rattle.ll_bank.specs.contracts.flat.StoredTermPartialEq.TheImpl.{eq-value as term_eq_value}
use Rattle.ll_bank.proofs.SameLemmas.{same_list, same_stored_term}
use Rattle.ll_bank.proofs.flat.are_same_terms.Goals as goal

pub returns : goal.returns
returns c = λ e. same_list (term_eq_value).it same_stored_term c.args.terms.now c.args.others.now (sym c.eq.ensures ∙ e)
