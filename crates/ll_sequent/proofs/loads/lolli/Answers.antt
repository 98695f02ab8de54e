use Rattle.std.proofs.Common.{◌≡◌, true, false, refl, arith}
use Rattle.std.proofs.lemmas.Result.{IfOk-from_err}
use Rattle.std.specs.Prelude.{◌||◌, not}
use Rattle.ll_list_laws.proofs.CallerLemmas.{IfOk-each}
use Rattle.ll_sequent.specs.declared.sequents.Step.TheVariants.{Refused}
use Rattle.ll_sequent.specs.Named.{has_resource}
use Rattle.ll_sequent.proofs.RuleLemmas.{lolli_known, lolli_steps}
use Rattle.ll_sequent.proofs.loads.lolli.Goals as goal

pub returns-then-not-is_new : goal.returns-then-not-is_new
returns-then-not-is_new c =
    let a = c.is_new.ensures in let b = c.if-not-is_new.true in let d = c.if-not-is_new.ensures in let v = c.deref.ensures.value in
    let old : not (has_resource c.args.free.now c.args.label || has_resource c.args.sequent.bounded.items c.args.label) ≡ false = first_of (cc, grind arith) in
    lolli_known c.args.bank.now c.args.free.now c.args.sequent c.in-Lolli.clause c.in-Lolli.goal c.args.label c.in-Lolli.ensures.shown old (Refused 9) refl

pub returns-in_ok-push-in-Lolli : goal.returns-in_ok-push-in-Lolli
returns-in_ok-push-in-Lolli c =
    let a = c.is_new.ensures in let b = c.if-not-is_new.false in let d = c.if-not-is_new.ensures in let v = c.deref.ensures.value in
    let fresh : not (has_resource c.args.free.now c.args.label || has_resource c.args.sequent.bounded.items c.args.label) ≡ true = first_of (cc, grind arith) in
    IfOk-each c.leave_one.result _ _ (λ step leaving. lolli_steps c.args.bank.now c.args.free.now c.args.sequent c.in-Lolli.clause c.in-Lolli.goal c.args.label
    (record { free = c.args.sequent.free; bounded = c.push.new.self; goal = c.in-Lolli.goal }) step
    c.in-Lolli.ensures.shown fresh (record { same = refl; has_bounded = c.in_ok-push-in-Lolli.ensures.items; has_goal = refl })
    leaving) c.leave_one.ensures

pub returns-in_err-push-in-Lolli : goal.returns-in_err-push-in-Lolli
returns-in_err-push-in-Lolli c = IfOk-from_err c.from_residual.result _ c.from_residual.ensures.0
