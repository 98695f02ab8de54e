use Rattle.ll_session.proofs.Questions.{not-lexed, unread}
use Rattle.ll_session.proofs.asking.read_query.Goals as goal

pub returns-in-Err-clause-cause : goal.returns-in-Err-clause-cause
returns-in-Err-clause-cause c = not-lexed c.args.text.now c.in-Err.fault c.in-Err.ensures.err

pub returns-clause-cause : goal.returns-clause-cause
returns-clause-cause c = unread _ c.args.text.now c.in-Ok.list c.query.result c.in-Ok.ensures.ok.0 c.in-Ok.ensures.ok.1 c.query.ensures.read

pub returns-in-Err-clause-read : goal.returns-in-Err-clause-read
returns-in-Err-clause-read c = _

pub returns-in-Err-clause-whole : goal.returns-in-Err-clause-whole
returns-in-Err-clause-whole c = _
