use Rattle.std.proofs.lemmas.Result.{IfOk-from_err}
use Rattle.ll_modules.proofs.unfold.Goals as goal

pub returns-in_err-loaded-clause-shows : goal.returns-in_err-loaded-clause-shows
returns-in_err-loaded-clause-shows c = IfOk-from_err c.from_residual.result _ c.from_residual.ensures.0

pub load_clauses-requires-clause-places : goal.load_clauses-requires-clause-places
load_clauses-requires-clause-places c = c.requires.places

pub load_clauses-requires-clause-goal : goal.load_clauses-requires-clause-goal
load_clauses-requires-clause-goal c = c.requires.goal

pub load_clauses-requires-clause-closed : goal.load_clauses-requires-clause-closed
load_clauses-requires-clause-closed c = c.requires.closed
