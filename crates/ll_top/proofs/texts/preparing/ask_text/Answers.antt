use Rattle.std.proofs.lemmas.Result.{IfOk-from_err}
use Rattle.std.proofs.lemmas.Result.{err_from_is_err_and}
use Rattle.ll_top.proofs.judging.PrepareLemmas.{query-unread, query-asked}
use Rattle.ll_top.proofs.texts.preparing.ask_text.Goals as goal

pub returns-in_err-query-clause-cause : goal.returns-in_err-query-clause-cause
returns-in_err-query-clause-cause c =
    let p = err_from_is_err_and c.from_residual.result c.from_residual.ensures.1 in
    rw (p.1, p.2) (query-unread c.args.loaded c.args.text.now _ c.in_err-query.ensures.err)

pub returns-clause-cause : goal.returns-clause-cause
returns-clause-cause c = query-asked c.args.loaded c.args.text.now _ c.ask.result c.in_ok-query.ensures.ok c.ask.ensures.fault

pub returns-in_err-query-clause-asks : goal.returns-in_err-query-clause-asks
returns-in_err-query-clause-asks c = IfOk-from_err c.from_residual.result _ c.from_residual.ensures.0

pub ask-requires-clause-bound : goal.ask-requires-clause-bound
ask-requires-clause-bound c = c.requires.bound

pub judge_query-requires : goal.judge_query-requires
judge_query-requires c = c.requires.text
