use Rattle.std.proofs.lemmas.Result.{IfOk-from_err}
use Rattle.ll_parser.proofs.waiting.Waiting.finish.Goals as goal

pub finish_head-requires : goal.finish_head-requires
finish_head-requires c = rw c.in-Atom.is at c.requires

pub finish_expression-requires-clause-fits : goal.finish_expression-requires-clause-fits
finish_expression-requires-clause-fits c = (rw c.in-Expression.is at c.requires).0

pub finish_expression-requires-clause-unit : goal.finish_expression-requires-clause-unit
finish_expression-requires-clause-unit c = (rw c.in-Expression.is at c.requires).1

pub finish_operand-requires-in-Formula-clause-fits : goal.finish_operand-requires-in-Formula-clause-fits
finish_operand-requires-in-Formula-clause-fits c = (rw c.in-Formula.is at c.requires).0

pub finish_operand-requires-in-Formula-clause-operand : goal.finish_operand-requires-in-Formula-clause-operand
finish_operand-requires-in-Formula-clause-operand c = (rw c.in-Formula.is at c.requires).1

pub returns-in-Expression-clause-gives : goal.returns-in-Expression-clause-gives
returns-in-Expression-clause-gives c = rw c.in-Expression.is c.finish_expression.ensures.gives

pub returns-in-Expression-clause-grows : goal.returns-in-Expression-clause-grows
returns-in-Expression-clause-grows c = c.finish_expression.ensures.grows

pub returns-in-Formula-clause-gives : goal.returns-in-Formula-clause-gives
returns-in-Formula-clause-gives c = rw c.in-Formula.is c.finish_operand-in-Formula.ensures.gives

pub returns-in-Formula-clause-grows : goal.returns-in-Formula-clause-grows
returns-in-Formula-clause-grows c = c.finish_operand-in-Formula.ensures.grows

pub returns-in_err-operand-in-Atom-clause-gives : goal.returns-in_err-operand-in-Atom-clause-gives
returns-in_err-operand-in-Atom-clause-gives c = IfOk-from_err c.from_residual.result _ c.from_residual.ensures.0

pub returns-in_err-operand-in-Atom-clause-grows : goal.returns-in_err-operand-in-Atom-clause-grows
returns-in_err-operand-in-Atom-clause-grows c = IfOk-from_err c.from_residual.result _ c.from_residual.ensures.0
