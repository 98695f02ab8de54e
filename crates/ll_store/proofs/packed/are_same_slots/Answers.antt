use Rattle.std.proofs.Common.{sym, ◌∙◌}
use Rattle.ll_bank.proofs.CallerLemmas.{same_list}
use Rattle.ll_store.specs.contracts.packed.SlotPartialEq.TheImpl.{eq-value as slot_eq_value}
use Rattle.ll_store.proofs.SameLemmas.{same_slot}
use Rattle.ll_store.proofs.packed.are_same_slots.Goals as goal

pub returns : goal.returns
returns c = λ e. same_list (slot_eq_value).it same_slot c.args.slots.now c.args.others.now (sym c.eq.ensures ∙ e)
