use Rattle.std.proofs.Common.{refl, ◌∙◌}
use Rattle.std.proofs.lemmas.Result.{IfOk-from_err}
use Rattle.ll_list_laws.proofs.CallerLemmas.{IfOk-each}
use Rattle.ll_sequent.proofs.RuleLemmas.{with_makes}
use Rattle.ll_sequent.proofs.plain.with.Goals as goal

pub returns-in_ok-from_slice-in-With : goal.returns-in_ok-from_slice-in-With
returns-in_ok-from_slice-in-With c = IfOk-each c.leave_two.result _ _ (λ step leaving.
    with_makes c.args.bank.now c.args.sequent c.in-With.g c.in-With.h
    (record { free = c.args.sequent.free; bounded = c.in_ok-from_slice-in-With.field-0; goal = c.in-With.g })
    (record { free = c.args.sequent.free; bounded = c.args.sequent.bounded; goal = c.in-With.h }) step c.in-With.ensures.shown
    (record { same = refl; has_bounded = c.in_ok-from_slice-in-With.ensures.items ∙ c.deref.ensures.value; has_goal = refl })
    (record { same = refl; has_bounded = refl; has_goal = refl }) leaving) c.leave_two.ensures

pub returns-in_err-from_slice-in-With : goal.returns-in_err-from_slice-in-With
returns-in_err-from_slice-in-With c = IfOk-from_err c.from_residual.result _ c.from_residual.ensures.0
