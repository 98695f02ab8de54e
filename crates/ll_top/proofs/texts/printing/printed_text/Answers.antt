use Rattle.ll_top.proofs.judging.PrepareLemmas.{source-faulty}
use Rattle.ll_top.proofs.texts.printing.printed_text.Goals as goal

pub returns-in-Err-clause-refused : goal.returns-in-Err-clause-refused
returns-in-Err-clause-refused c = source-faulty c.args.text.now c.in-Err.fault _ c.refusal.ensures c.in-Err.ensures.err

pub returns-in-Err-clause-bytes : goal.returns-in-Err-clause-bytes
returns-in-Err-clause-bytes c = _
