use Rattle.ll_top.proofs.judging.PrepareLemmas.{program-judged, query-judged}
use Rattle.ll_top.proofs.texts.preparing.problem_of.Goals as goal

pub returns-in-Err-clause-judges : goal.returns-in-Err-clause-judges
returns-in-Err-clause-judges c = program-judged c.args.program.now c.args.query.now c.args.bound c.in-Err.fault _ c.refusal.ensures c.in-Err.ensures.cause

pub returns-in-Err-ask_text-clause-judges : goal.returns-in-Err-ask_text-clause-judges
returns-in-Err-ask_text-clause-judges c =
    query-judged c.args.program.now c.args.query.now c.args.bound c.in-Ok.loaded c.in-Err-ask_text.fault _ c.refusal-in-Err-ask_text.ensures
    c.in-Ok.ensures.part c.in-Err-ask_text.ensures.cause

pub returns-in-Ok-ask_text-clause-judges : goal.returns-in-Ok-ask_text-clause-judges
returns-in-Ok-ask_text-clause-judges c = (c.in-Ok-ask_text.ensures.asks c.args.program.now c.in-Ok.ensures.part).0

pub returns-in-Ok-ask_text-clause-valid : goal.returns-in-Ok-ask_text-clause-valid
returns-in-Ok-ask_text-clause-valid c = (c.in-Ok-ask_text.ensures.asks c.args.program.now c.in-Ok.ensures.part).1

pub returns-in-Err-clause-valid : goal.returns-in-Err-clause-valid
returns-in-Err-clause-valid c = _

pub returns-in-Err-ask_text-clause-valid : goal.returns-in-Err-ask_text-clause-valid
returns-in-Err-ask_text-clause-valid c = _
