use Rattle.std.proofs.lemmas.Result.{IfOk-from_err}
use Rattle.std.proofs.lemmas.Result.{err_from_is_err_and}
use Rattle.ll_session.proofs.Questions.{unread-asks, unasked}
use Rattle.ll_session.proofs.asking.ask_text.Goals as goal

pub returns-in_err-query-clause-cause : goal.returns-in_err-query-clause-cause
returns-in_err-query-clause-cause c =
    let p = err_from_is_err_and c.from_residual.result c.from_residual.ensures.1 in
    rw (p.1, p.2) (unread-asks c.args.loaded c.args.text.now _ c.in_err-query.ensures.cause)

pub returns-in_err-problem-clause-cause : goal.returns-in_err-problem-clause-cause
returns-in_err-problem-clause-cause c =
    let p = err_from_is_err_and c.from_residual-in_err-problem.result c.from_residual-in_err-problem.ensures.1 in
    rw (p.1, p.2) (unasked c.args.loaded c.args.text.now _ _ c.in_ok-query.ensures.read c.in_err-problem.ensures.fault)

pub returns-in_err-query-clause-asks : goal.returns-in_err-query-clause-asks
returns-in_err-query-clause-asks c = IfOk-from_err c.from_residual.result _ c.from_residual.ensures.0

pub returns-in_err-problem-clause-asks : goal.returns-in_err-problem-clause-asks
returns-in_err-problem-clause-asks c = IfOk-from_err c.from_residual-in_err-problem.result _ c.from_residual-in_err-problem.ensures.0

pub returns-clause-cause : goal.returns-clause-cause
returns-clause-cause c = _
