use Rattle.ll_top.specs.declared.texts.judge.Role.TheVariants.{Query}
use Rattle.ll_top.proofs.judging.GrammarLemmas.{not-lexed, query-unread}
use Rattle.ll_top.proofs.texts.judge.judge_query.Goals as goal

pub returns-in-Err-clause-err : goal.returns-in-Err-clause-err
returns-in-Err-clause-err c = not-lexed Query c.args.text.now c.in-Err.fault c.in-Err.ensures.err

pub returns-clause-err : goal.returns-clause-err
returns-clause-err c = query-unread _ c.args.text.now c.in-Ok.list c.query.result c.in-Ok.ensures.ok.0 c.in-Ok.ensures.ok.1 c.query.ensures.read

pub returns-in-Err-clause-ok : goal.returns-in-Err-clause-ok
returns-in-Err-clause-ok c = _

pub returns-in-Err-clause-whole : goal.returns-in-Err-clause-whole
returns-in-Err-clause-whole c = _
