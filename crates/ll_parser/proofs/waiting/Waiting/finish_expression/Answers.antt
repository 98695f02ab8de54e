use Rattle.std.proofs.Common.{List, ◌∙◌, ap}
use Rattle.std.proofs.lemmas.Result.{IfOk-from_err, IfOk-weaker}
use Rattle.ll_parser.specs.declared.Level.TheVariants.{Close}
use Rattle.ll_parser.specs.Raw.{Raw}
use Rattle.ll_parser.specs.Flat.{Pending, reduce, end_with, take_both, final_expression}
use Rattle.ll_parser.specs.Waiting.{known, tree, waiting, HasNoGoal, IsGoal}
use Rattle.ll_parser.proofs.machines.Dropped.{regiven}
use Rattle.ll_parser.proofs.waiting.Waiting.finish_expression.Goals as goal

pub returns-in_err-expression-clause-gives : goal.returns-in_err-expression-clause-gives
returns-in_err-expression-clause-gives c = IfOk-from_err c.from_residual.result _ c.from_residual.ensures.0

pub returns-in_err-expression-clause-grows : goal.returns-in_err-expression-clause-grows
returns-in_err-expression-clause-grows c = IfOk-from_err c.from_residual.result _ c.from_residual.ensures.0

pub returns-in_err-goal-clause-gives : goal.returns-in_err-goal-clause-gives
returns-in_err-goal-clause-gives c = IfOk-from_err c.from_residual-in_err-goal.result _ c.from_residual-in_err-goal.ensures.0

pub returns-in_err-goal-clause-grows : goal.returns-in_err-goal-clause-grows
returns-in_err-goal-clause-grows c = IfOk-from_err c.from_residual-in_err-goal.result _ c.from_residual-in_err-goal.ensures.0

pub take_both-requires-clause-fits : goal.take_both-requires-clause-fits
take_both-requires-clause-fits c = c.requires.fits

pub take_both-requires-clause-unit : goal.take_both-requires-clause-unit
take_both-requires-clause-unit c = c.requires.unit

pub goal-requires-clause-fits : goal.goal-requires-clause-fits
goal-requires-clause-fits c = c.in_ok-expression.ensures.gives.fits

pub goal-requires-clause-expression : goal.goal-requires-clause-expression
goal-requires-clause-expression c = c.in_ok-expression.ensures.gives.inside

pub finish_operand-requires-clause-fits : goal.finish_operand-requires-clause-fits
finish_operand-requires-clause-fits c =
    let g : IsGoal c.take_both.new.self c.goal.new.self c.in_ok-expression.expression c.in-Some.goal = rw c.in-Some.is at c.in_ok-goal.ensures.gives in
    g.fits

pub finish_operand-requires-clause-operand : goal.finish_operand-requires-clause-operand
finish_operand-requires-clause-operand c =
    let g : IsGoal c.take_both.new.self c.goal.new.self c.in_ok-expression.expression c.in-Some.goal = rw c.in-Some.is at c.in_ok-goal.ensures.gives in
    g.inside

pub returns-in-Some-clause-gives : goal.returns-in-Some-clause-gives
returns-in-Some-clause-gives c =
    let g : IsGoal c.take_both.new.self c.goal.new.self c.in_ok-expression.expression c.in-Some.goal = rw c.in-Some.is at c.in_ok-goal.ensures.gives in
    IfOk-weaker c.finish_operand.result _ _
    (regiven c.finish_operand.new.self
    (λ texts. let q = reduce Close (tree texts c.goal.new.self c.in-Some.goal) (waiting texts c.goal.new.self) in end_with q.0 q.1)
    (λ texts. let q = take_both (tree texts c.args.self.now c.args.unit) (waiting texts c.args.self.now) in final_expression q.0 q.1)
    (λ texts. ap (λ (q : Raw × List Pending). final_expression q.0 q.1) (c.in_ok-expression.ensures.gives.takes texts) ∙ g.ends texts))
    c.finish_operand.ensures.gives

pub returns-in-Some-clause-grows : goal.returns-in-Some-clause-grows
returns-in-Some-clause-grows c = IfOk-weaker c.finish_operand.result _ _
    (λ o g later e. c.in_ok-expression.ensures.grows later (c.in_ok-goal.ensures.grows later (g later e))) c.finish_operand.ensures.grows

pub returns-in-None-clause-gives : goal.returns-in-None-clause-gives
returns-in-None-clause-gives c =
    let g : HasNoGoal c.take_both.new.self c.goal.new.self = rw c.in-None.is at c.in_ok-goal.ensures.gives in
    λ texts. ap (λ (q : Raw × List Pending). final_expression q.0 q.1) (c.in_ok-expression.ensures.gives.takes texts)
    ∙ g.ends texts (tree (known texts) c.take_both.new.self c.in_ok-expression.expression)

pub returns-in-None-clause-grows : goal.returns-in-None-clause-grows
returns-in-None-clause-grows c = λ later e. c.in_ok-expression.ensures.grows later (c.in_ok-goal.ensures.grows later e)
