use Rattle.std.proofs.lemmas.Result.{IfOk-from_err}
use Rattle.std.proofs.Common.{refl, arith}
use Rattle.ll_bank.proofs.CallerLemmas.{Extends-refl, Extends-trans}
use Rattle.ll_freeze.proofs.Starting.{variable_more}
use Rattle.ll_freeze.proofs.start.first_variables.Goals as goal

pub loop-number-init : goal.loop-number-init
loop-number-init c = record {
  inside = rw c.new-made.ensures.items (λ j d l. absurd (omega arith));
  shows = rw c.new-made.ensures.items refl;
  keeps =
      Extends-refl c.args.bank.now;
}

pub loop-number-preserved : goal.loop-number-preserved
loop-number-preserved c =
    let i = c.loop-number.invariant in
    let p = variable_more c.loop-number.bank c.var.new.self c.loop-number.made.items c.push.new.self.items c.in_ok-variable.variable c.loop-number.number
    c.in_ok-variable.ensures.keeps i.inside i.shows
    c.in_ok-variable.ensures.shows c.in_ok-push.ensures.items in
    record { inside = p.0; shows = p.1; keeps = Extends-trans i.keeps c.in_ok-variable.ensures.keeps }

pub returns-in_err-variable-clause-inside : goal.returns-in_err-variable-clause-inside
returns-in_err-variable-clause-inside c = IfOk-from_err c.from_residual.result _ c.from_residual.ensures.0

pub returns-in_err-variable-clause-shows : goal.returns-in_err-variable-clause-shows
returns-in_err-variable-clause-shows c = IfOk-from_err c.from_residual.result _ c.from_residual.ensures.0

pub returns-in_err-variable-clause-keeps : goal.returns-in_err-variable-clause-keeps
returns-in_err-variable-clause-keeps c = IfOk-from_err c.from_residual.result _ c.from_residual.ensures.0

pub returns-in_err-push-clause-inside : goal.returns-in_err-push-clause-inside
returns-in_err-push-clause-inside c = IfOk-from_err c.from_residual-in_err-push.result _ c.from_residual-in_err-push.ensures.0

pub returns-in_err-push-clause-shows : goal.returns-in_err-push-clause-shows
returns-in_err-push-clause-shows c = IfOk-from_err c.from_residual-in_err-push.result _ c.from_residual-in_err-push.ensures.0

pub returns-in_err-push-clause-keeps : goal.returns-in_err-push-clause-keeps
returns-in_err-push-clause-keeps c = IfOk-from_err c.from_residual-in_err-push.result _ c.from_residual-in_err-push.ensures.0
