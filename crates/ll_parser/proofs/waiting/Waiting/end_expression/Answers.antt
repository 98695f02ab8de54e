use Rattle.std.proofs.lemmas.Result.{IfOk-from_err, IfOk-weaker}
use Rattle.std.proofs.Common.{sym, ap, subst, ◌∙◌}
use Rattle.ll_parser.specs.Flat.{operate, close_number, end_expression}
use Rattle.ll_parser.specs.Symbols.{symbol_tok}
use Rattle.ll_parser.specs.Waiting.{known, tree, waiting, IsSound, IsNode, IsGoal, HasNoGoal}
use Rattle.ll_parser.proofs.machines.Dropped.{same-gives}
use Rattle.ll_parser.proofs.waiting.Waiting.end_expression.Goals as goal

pub goal-requires-clause-fits : goal.goal-requires-clause-fits
goal-requires-clause-fits c = c.requires.fits

pub goal-requires-clause-expression : goal.goal-requires-clause-expression
goal-requires-clause-expression c = c.requires.expression

pub returns-in_err-goal-clause-gives : goal.returns-in_err-goal-clause-gives
returns-in_err-goal-clause-gives c = IfOk-from_err c.from_residual.result _ c.from_residual.ensures.0

pub returns-in_err-goal-clause-grows : goal.returns-in_err-goal-clause-grows
returns-in_err-goal-clause-grows c = IfOk-from_err c.from_residual.result _ c.from_residual.ensures.0

pub after_operand-requires-clause-fits : goal.after_operand-requires-clause-fits
after_operand-requires-clause-fits c =
    let g : IsGoal c.args.self.now c.goal.new.self c.args.expression c.in-Some.goal = rw c.in-Some.is at c.in_ok-goal.ensures.gives in
    g.fits

pub after_operand-requires-clause-operand : goal.after_operand-requires-clause-operand
after_operand-requires-clause-operand c =
    let g : IsGoal c.args.self.now c.goal.new.self c.args.expression c.in-Some.goal = rw c.in-Some.is at c.in_ok-goal.ensures.gives in
    g.inside

pub close_number-requires-clause-fits : goal.close_number-requires-clause-fits
close_number-requires-clause-fits c =
    let n : HasNoGoal c.args.self.now c.goal.new.self = rw c.in-None.is at c.in_ok-goal.ensures.gives in
    subst IsSound (sym n.same) c.requires.fits

pub close_number-requires-clause-expression : goal.close_number-requires-clause-expression
close_number-requires-clause-expression c =
    let n : HasNoGoal c.args.self.now c.goal.new.self = rw c.in-None.is at c.in_ok-goal.ensures.gives in
    subst (λ z. IsNode z c.args.expression) (sym n.same) c.requires.expression

pub returns-in-Some-clause-gives : goal.returns-in-Some-clause-gives
returns-in-Some-clause-gives c =
    let old = c.args.self.now in
    let mid = c.goal.new.self in
    let g : IsGoal c.args.self.now c.goal.new.self c.args.expression c.in-Some.goal = rw c.in-Some.is at c.in_ok-goal.ensures.gives in
    IfOk-weaker c.after_operand.result _ _
    (same-gives c.after_operand.new.self (λ texts. operate (tree texts mid c.in-Some.goal) (waiting texts mid) (symbol_tok texts c.args.symbol))
    (λ texts. end_expression (tree texts old c.args.expression) (waiting texts old) (symbol_tok texts c.args.symbol))
    (λ texts. g.goes_on texts (symbol_tok (known texts) c.args.symbol)))
    c.after_operand.ensures.gives

pub returns-in-Some-clause-grows : goal.returns-in-Some-clause-grows
returns-in-Some-clause-grows c = IfOk-weaker c.after_operand.result _ _
    (λ o g later e. c.in_ok-goal.ensures.grows later (g later e)) c.after_operand.ensures.grows

pub returns-in-None-clause-gives : goal.returns-in-None-clause-gives
returns-in-None-clause-gives c =
    let old = c.args.self.now in
    let mid = c.goal.new.self in
    let n : HasNoGoal c.args.self.now c.goal.new.self = rw c.in-None.is at c.in_ok-goal.ensures.gives in
    same-gives c.close_number.new.self (λ texts. close_number (tree texts mid c.args.expression) (waiting texts mid) (symbol_tok texts c.args.symbol))
    (λ texts. end_expression (tree texts old c.args.expression) (waiting texts old) (symbol_tok texts c.args.symbol))
    (λ texts. n.goes_on texts (tree (known texts) old c.args.expression) (symbol_tok (known texts) c.args.symbol)
    ∙ ap (λ z. close_number (tree (known texts) z c.args.expression) (waiting (known texts) z) (symbol_tok (known texts) c.args.symbol)) (sym n.same))
    c.close_number.result c.close_number.ensures.gives

pub returns-in-None-clause-grows : goal.returns-in-None-clause-grows
returns-in-None-clause-grows c = λ later e. c.in_ok-goal.ensures.grows later (c.close_number.ensures.grows later e)
