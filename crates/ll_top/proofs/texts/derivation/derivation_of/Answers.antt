use Rattle.ll_top.proofs.judging.PrepareLemmas.{derivation-refused}
use Rattle.ll_top.proofs.texts.derivation.derivation_of.Goals as goal

pub returns-in-Err-clause-refused : goal.returns-in-Err-clause-refused
returns-in-Err-clause-refused c = derivation-refused c.args.text.now c.in-Err.fault _ c.refusal.ensures c.in-Err.ensures.err

pub returns-then-not-can_be_numbered-clause-read : goal.returns-then-not-can_be_numbered-clause-read
returns-then-not-can_be_numbered-clause-read c = _

pub returns-then-not-can_be_numbered-clause-names : goal.returns-then-not-can_be_numbered-clause-names
returns-then-not-can_be_numbered-clause-names c = _

pub returns-then-not-can_be_numbered-clause-grows : goal.returns-then-not-can_be_numbered-clause-grows
returns-then-not-can_be_numbered-clause-grows c = _

pub returns-then-not-can_be_numbered-clause-refused : goal.returns-then-not-can_be_numbered-clause-refused
returns-then-not-can_be_numbered-clause-refused c = _

pub returns-in-Ok-clause-refused : goal.returns-in-Ok-clause-refused
returns-in-Ok-clause-refused c = _

pub returns-in-Err-clause-read : goal.returns-in-Err-clause-read
returns-in-Err-clause-read c = _

pub returns-in-Err-clause-names : goal.returns-in-Err-clause-names
returns-in-Err-clause-names c = _

pub returns-in-Err-clause-grows : goal.returns-in-Err-clause-grows
returns-in-Err-clause-grows c = _
