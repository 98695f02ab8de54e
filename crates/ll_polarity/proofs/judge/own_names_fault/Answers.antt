use Rattle.std.proofs.Common.{map, sym, ap, ◌∙◌}
use Rattle.std.proofs.lemmas.Result.{IfOk-from_err}
use Rattle.ll_polarity.specs.Scope.{Binder}
use Rattle.ll_polarity.proofs.faults.Judging.{own-first}
use Rattle.ll_polarity.proofs.judge.own_names_fault.Goals as goal

pub returns-clause-first : goal.returns-clause-first
returns-clause-first c =
    own-first c.args.binders.now.texts c.repeated_fault.new.binders.texts c.args.body.now.params.items c.deref.result.now c.args.body.now.locals.items
    c.deref-2.result.now _ _ _ c.in_ok-fault.fault c.in_ok-fault-2.fault
    (ap (map (λ (b : Binder). b.text)) c.requires.scope) c.in_ok-fault.ensures.texts c.deref.ensures.value c.deref-2.ensures.value
    (sym c.is_some.ensures ∙ c.if-is_some.false) c.in_ok-fault.ensures.first c.in_ok-fault-2.ensures.first

pub returns-in_err-fault-2-clause-binders : goal.returns-in_err-fault-2-clause-binders
returns-in_err-fault-2-clause-binders c = IfOk-from_err c.from_residual-in_err-fault-2.result _ c.from_residual-in_err-fault-2.ensures.0

pub returns-in_err-fault-2-clause-first : goal.returns-in_err-fault-2-clause-first
returns-in_err-fault-2-clause-first c = IfOk-from_err c.from_residual-in_err-fault-2.result _ c.from_residual-in_err-fault-2.ensures.0

pub returns-in_err-fault-clause-binders : goal.returns-in_err-fault-clause-binders
returns-in_err-fault-clause-binders c = IfOk-from_err c.from_residual.result _ c.from_residual.ensures.0

pub returns-in_err-fault-clause-first : goal.returns-in_err-fault-clause-first
returns-in_err-fault-clause-first c = IfOk-from_err c.from_residual.result _ c.from_residual.ensures.0
