use Rattle.std.proofs.Common.{◌≡◌, None, take, get_or, refl, sym, subst, ap, ◌∙◌}
use Rattle.std.proofs.lemmas.Result.{IfOk-from_err}
use Rattle.std.proofs.lemmas.List.{take_more, take_all}
use Rattle.std.specs.Prelude.{◌^◌}
use Rattle.ll_polarity.specs.Numbered.{variables_of}
use Rattle.ll_polarity.specs.Asks.{read_asked}
use Rattle.ll_polarity.proofs.problems.QueryParts.{AreAsked, asked_more, room_more}
use Rattle.ll_polarity.proofs.asking.asked.Goals as goal

pub asked_name-requires : goal.asked_name-requires
asked_name-requires c = record {
  room =
      room_more c.args.texts.now c.args.names.now c.loop-variable.names c.args.variables.now c.loop-variable.asked.items c.loop-variable.variable-index (2 ^ 32)
      c.loop-variable.invariant c.loop-variable-test.true c.requires.room;
}

pub loop-variable-preserved : goal.loop-variable-preserved
loop-variable-preserved c =
    subst (λ vs. AreAsked c.args.texts.now c.args.names.now vs c.asked_name.new.names c.push.new.self.items)
    (sym (take_more c.args.variables.now c.loop-variable.variable-index None c.loop-variable-test.true))
    (asked_more c.args.texts.now c.args.names.now (take c.loop-variable.variable-index c.args.variables.now)
    (get_or c.args.variables.now c.loop-variable.variable-index None) c.loop-variable.names c.asked_name.new.names c.loop-variable.asked.items
    c.push.new.self.items c.in_ok-number.number
    c.loop-variable.invariant c.in_ok-number.ensures.asked c.in_ok-number.ensures.names c.in_ok-push.ensures.items)

pub loop-variable-init : goal.loop-variable-init
loop-variable-init c = record { numbers = c.new-asked.ensures.items; texts_are = refl }

pub returns-clause-asked : goal.returns-clause-asked
returns-clause-asked c =
    let e : take c.loop-variable.variable-index c.args.variables.now ≡ c.args.variables.now =
    take_all c.loop-variable.variable-index c.args.variables.now c.loop-variable-test.false in
    c.loop-variable.invariant.numbers ∙ ap (λ vs. (read_asked c.args.names.now (variables_of c.args.texts.now vs)).it) e

pub returns-clause-names : goal.returns-clause-names
returns-clause-names c =
    let e : take c.loop-variable.variable-index c.args.variables.now ≡ c.args.variables.now =
    take_all c.loop-variable.variable-index c.args.variables.now c.loop-variable-test.false in
    c.loop-variable.invariant.texts_are ∙ ap (λ vs. (read_asked c.args.names.now (variables_of c.args.texts.now vs)).names) e

pub returns-in_err-number-clause-asked : goal.returns-in_err-number-clause-asked
returns-in_err-number-clause-asked c = IfOk-from_err c.from_residual.result _ c.from_residual.ensures.0

pub returns-in_err-number-clause-names : goal.returns-in_err-number-clause-names
returns-in_err-number-clause-names c = IfOk-from_err c.from_residual.result _ c.from_residual.ensures.0

pub returns-in_err-push-clause-asked : goal.returns-in_err-push-clause-asked
returns-in_err-push-clause-asked c = IfOk-from_err c.from_residual-in_err-push.result _ c.from_residual-in_err-push.ensures.0

pub returns-in_err-push-clause-names : goal.returns-in_err-push-clause-names
returns-in_err-push-clause-names c = IfOk-from_err c.from_residual-in_err-push.result _ c.from_residual-in_err-push.ensures.0
