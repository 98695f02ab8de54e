use Rattle.std.proofs.Common.{◌≡◌, true, false, refl, arith, rules}
use Rattle.std.proofs.lemmas.Result.{IfOk-from_err}
use Rattle.std.specs.Prelude.{◌||◌, not}
use Rattle.ll_list_laws.proofs.CallerLemmas.{IfOk-each}
use Rattle.ll_sequent.specs.declared.sequents.Step.TheVariants.{Refused}
use Rattle.ll_sequent.specs.Named.{has_resource}
use Rattle.ll_sequent.proofs.RuleLemmas.{imp_known, imp_steps}
use Rattle.ll_sequent.proofs.loads.imp.Goals as goal

pub returns-then-not-is_new : goal.returns-then-not-is_new
returns-then-not-is_new c =
    let a = c.is_new.ensures in let b = c.if-not-is_new.true in let d = c.if-not-is_new.ensures in let v = c.deref-in-Imp.ensures.value in
    let w = c.deref.ensures.value in
    let old : not (has_resource c.args.free.now.items c.args.label || has_resource c.args.sequent.bounded.items c.args.label) ≡ false =
    first_of (cc, grind arith) in
    imp_known c.args.bank.now c.args.free.now.items c.args.sequent c.in-Imp.clause c.in-Imp.goal c.args.label c.in-Imp.ensures.shown old (Refused 9) refl

pub returns-in_ok-push-in-Imp : goal.returns-in_ok-push-in-Imp
returns-in_ok-push-in-Imp c =
    let a = c.is_new.ensures in let b = c.if-not-is_new.false in let d = c.if-not-is_new.ensures in let v = c.deref-in-Imp.ensures.value in
    let w = c.deref.ensures.value in
    let fresh : not (has_resource c.args.free.now.items c.args.label || has_resource c.args.sequent.bounded.items c.args.label) ≡ true =
    first_of (cc, grind arith) in
    IfOk-each c.leave_one.result _ _ (λ step leaving.
    imp_steps c.args.bank.now c.args.free.now.items c.args.sequent c.in-Imp.clause c.in-Imp.goal c.args.label c.push.new.self.items
    (record { free = c.len.result; bounded = c.args.sequent.bounded; goal = c.in-Imp.goal }) step c.in-Imp.ensures.shown fresh
    c.in_ok-push-in-Imp.ensures.items (let l = c.len.ensures in search rules) refl refl leaving) c.leave_one.ensures

pub returns-in_err-push-in-Imp : goal.returns-in_err-push-in-Imp
returns-in_err-push-in-Imp c = IfOk-from_err c.from_residual.result _ c.from_residual.ensures.0
