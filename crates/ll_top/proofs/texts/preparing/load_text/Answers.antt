use Rattle.std.proofs.lemmas.Result.{IfOk-from_err}
use Rattle.std.proofs.lemmas.Result.{err_from_is_err_and}
use Rattle.ll_top.proofs.judging.PrepareLemmas.{program-unread, program-loaded}
use Rattle.ll_top.proofs.texts.preparing.load_text.Goals as goal

pub returns-in_err-program-clause-cause : goal.returns-in_err-program-clause-cause
returns-in_err-program-clause-cause c =
    let p = err_from_is_err_and c.from_residual.result c.from_residual.ensures.1 in
    rw (p.1, p.2) (program-unread c.args.text.now _ c.in_err-program.ensures.err)

pub returns-clause-cause : goal.returns-clause-cause
returns-clause-cause c = program-loaded c.args.text.now _ c.load.result c.in_ok-program.ensures.ok c.load.ensures.cause

pub returns-in_err-program-clause-part : goal.returns-in_err-program-clause-part
returns-in_err-program-clause-part c = IfOk-from_err c.from_residual.result _ c.from_residual.ensures.0
