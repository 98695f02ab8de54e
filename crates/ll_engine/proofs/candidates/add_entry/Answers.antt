use Rattle.std.proofs.Common.{rules}
use Rattle.std.proofs.lemmas.Result.{IfOk-from_err}
use Rattle.ll_engine.proofs.candidates.add_entry.Goals as goal

pub returns-in_err-can_match-in-Atom-clause-found : goal.returns-in_err-can_match-in-Atom-clause-found
returns-in_err-can_match-in-Atom-clause-found c = IfOk-from_err c.from_residual.result _ c.from_residual.ensures.0

pub returns-in_err-can_match-in-Atom-clause-none : goal.returns-in_err-can_match-in-Atom-clause-none
returns-in_err-can_match-in-Atom-clause-none c = IfOk-from_err c.from_residual.result _ c.from_residual.ensures.0

pub returns-in_err-push-in-Atom-clause-found : goal.returns-in_err-push-in-Atom-clause-found
returns-in_err-push-in-Atom-clause-found c = IfOk-from_err c.from_residual-in_err-push-in-Atom.result _ c.from_residual-in_err-push-in-Atom.ensures.0

pub returns-in_err-push-in-Atom-clause-none : goal.returns-in_err-push-in-Atom-clause-none
returns-in_err-push-in-Atom-clause-none c = IfOk-from_err c.from_residual-in_err-push-in-Atom.result _ c.from_residual-in_err-push-in-Atom.ensures.0

pub returns-then-not-is_open-clause-found : goal.returns-then-not-is_open-clause-found
returns-then-not-is_open-clause-found c = search rules

pub returns-then-not-is_open-clause-none : goal.returns-then-not-is_open-clause-none
returns-then-not-is_open-clause-none c = search rules

pub form_at-requires : goal.form_at-requires
form_at-requires c = search rules

pub can_match-requires-clause-table : goal.can_match-requires-clause-table
can_match-requires-clause-table c = c.requires.table

pub add_leaves-requires : goal.add_leaves-requires
add_leaves-requires c = search rules

pub returns-in_ok-push-in-Atom-clause-found : goal.returns-in_ok-push-in-Atom-clause-found
returns-in_ok-push-in-Atom-clause-found c = search rules

pub returns-in_ok-push-in-Atom-clause-none : goal.returns-in_ok-push-in-Atom-clause-none
returns-in_ok-push-in-Atom-clause-none c = search rules

pub returns-else-branch-clause-found : goal.returns-else-branch-clause-found
returns-else-branch-clause-found c = search rules

pub returns-else-branch-clause-none : goal.returns-else-branch-clause-none
returns-else-branch-clause-none c = search rules

pub returns-in_default : goal.returns-in_default
returns-in_default c = search rules
