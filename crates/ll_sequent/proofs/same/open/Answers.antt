use Rattle.std.proofs.lemmas.Bool.{false≢true}
use Rattle.std.proofs.lemmas.Result.{IfOk-from_err}
use Rattle.ll_sequent.proofs.same.open.Goals as goal

pub returns-then-is_one_node-clause-inside : goal.returns-then-is_one_node-clause-inside
returns-then-is_one_node-clause-inside c = c.requires.inside

pub returns-then-not-is_one_head-clause-inside : goal.returns-then-not-is_one_head-clause-inside
returns-then-not-is_one_head-clause-inside c = c.requires.inside

pub returns-then-not-is_one_head-clause-same : goal.returns-then-not-is_one_head-clause-same
returns-then-not-is_one_head-clause-same c = λ e. absurd (false≢true e)

pub returns-then-args-others-clause-inside : goal.returns-then-args-others-clause-inside
returns-then-args-others-clause-inside c = c.requires.inside

pub returns-then-args-others-clause-same : goal.returns-then-args-others-clause-same
returns-then-args-others-clause-same c = λ e. absurd (false≢true e)

pub returns-in-Var-clause-inside : goal.returns-in-Var-clause-inside
returns-in-Var-clause-inside c = c.requires.inside

pub returns-in-Var-clause-same : goal.returns-in-Var-clause-same
returns-in-Var-clause-same c = λ e. absurd (false≢true e)

pub returns-in-Int-clause-inside : goal.returns-in-Int-clause-inside
returns-in-Int-clause-inside c = c.requires.inside

pub returns-in-Int-clause-same : goal.returns-in-Int-clause-same
returns-in-Int-clause-same c = λ e. absurd (false≢true e)

pub returns-in-Var-term_at-clause-inside : goal.returns-in-Var-term_at-clause-inside
returns-in-Var-term_at-clause-inside c = c.requires.inside

pub returns-in-Var-term_at-clause-same : goal.returns-in-Var-term_at-clause-same
returns-in-Var-term_at-clause-same c = λ e. absurd (false≢true e)

pub returns-in-Int-term_at-clause-inside : goal.returns-in-Int-term_at-clause-inside
returns-in-Int-term_at-clause-inside c = c.requires.inside

pub returns-in-Int-term_at-clause-same : goal.returns-in-Int-term_at-clause-same
returns-in-Int-term_at-clause-same c = λ e. absurd (false≢true e)

pub returns-in_err-push_all-in-App-term_at-clause-inside : goal.returns-in_err-push_all-in-App-term_at-clause-inside
returns-in_err-push_all-in-App-term_at-clause-inside c = IfOk-from_err c.from_residual.result _ c.from_residual.ensures.0

pub returns-in_err-push_all-in-App-term_at-clause-same : goal.returns-in_err-push_all-in-App-term_at-clause-same
returns-in_err-push_all-in-App-term_at-clause-same c = IfOk-from_err c.from_residual.result _ c.from_residual.ensures.0

pub is_one_node-requires-clause-left : goal.is_one_node-requires-clause-left
is_one_node-requires-clause-left c = c.requires.left

pub is_one_node-requires-clause-right : goal.is_one_node-requires-clause-right
is_one_node-requires-clause-right c = c.requires.right
