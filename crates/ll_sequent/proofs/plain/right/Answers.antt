use Rattle.std.proofs.Common.{refl}
use Rattle.ll_list_laws.proofs.CallerLemmas.{IfOk-each}
use Rattle.ll_sequent.proofs.RuleLemmas.{right_makes}
use Rattle.ll_sequent.proofs.plain.right.Goals as goal

pub returns-in-Plus : goal.returns-in-Plus
returns-in-Plus c = IfOk-each c.leave_one.result _ _ (λ step leaving.
    right_makes c.args.bank.now c.args.sequent _ c.in-Plus.h (record { free = c.args.sequent.free; bounded = c.args.sequent.bounded; goal = c.in-Plus.h }) step
    c.in-Plus.ensures.shown (record { same = refl; has_bounded = refl; has_goal = refl }) leaving) c.leave_one.ensures
