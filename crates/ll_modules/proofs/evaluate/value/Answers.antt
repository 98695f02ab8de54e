use Rattle.std.proofs.lemmas.Result.{IfOk-from_err}
use Rattle.ll_modules.proofs.evaluate.value.Goals as goal

pub returns-in_err-todo-in-Enter : goal.returns-in_err-todo-in-Enter
returns-in_err-todo-in-Enter c = IfOk-from_err c.from_residual.result _ c.from_residual.ensures.0

pub returns-in_err-todo-in-Leave : goal.returns-in_err-todo-in-Leave
returns-in_err-todo-in-Leave c = IfOk-from_err c.from_residual-in_err-todo-in-Leave.result _ c.from_residual-in_err-todo-in-Leave.ensures.0
