use Rattle.std.proofs.Common.{sym, ◌∙◌}
use Rattle.ll_bank.proofs.CallerLemmas.{same_list}
use Rattle.ll_store.specs.contracts.segment.RenewalPartialEq.TheImpl.{eq-value as renewal_eq_value}
use Rattle.ll_store.proofs.SameLemmas.{same_renewal}
use Rattle.ll_store.proofs.segment.are_same_renewals.Goals as goal

pub returns : goal.returns
returns c = λ e. same_list (renewal_eq_value).it same_renewal c.args.renewed.now c.args.others.now (sym c.eq.ensures ∙ e)
