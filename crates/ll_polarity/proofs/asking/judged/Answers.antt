use Rattle.std.proofs.Common.{rules}
use Rattle.std.proofs.lemmas.Result.{IfOk-from_err}
use Rattle.ll_bank.proofs.CallerLemmas.{Extends-refl}
use Rattle.ll_polarity.proofs.asking.judged.Goals as goal

pub query_fault-requires-clause-named : goal.query_fault-requires-clause-named
query_fault-requires-clause-named c = c.requires.numbered.named

pub returns-in_err-fault-clause-keeps : goal.returns-in_err-fault-clause-keeps
returns-in_err-fault-clause-keeps c = Extends-refl c.args.bank.now

pub returns-in-Some-clause-keeps : goal.returns-in-Some-clause-keeps
returns-in-Some-clause-keeps c = Extends-refl c.args.bank.now

pub returns-in-Some-clause-cause : goal.returns-in-Some-clause-cause
returns-in-Some-clause-cause c = rw c.in-Some.is at c.in_ok-fault.ensures

pub returns-clause-faultless : goal.returns-clause-faultless
returns-clause-faultless c = rw c.in_default.is at c.in_ok-fault.ensures

pub returns-clause-shows : goal.returns-clause-shows
returns-clause-shows c = c.in_ok-addition.ensures.shows _ (returns-clause-faultless c)

pub returns-in_err-addition-clause-asked : goal.returns-in_err-addition-clause-asked
returns-in_err-addition-clause-asked c = IfOk-from_err c.from_residual-in_err-addition.result _ c.from_residual-in_err-addition.ensures.0

pub returns-in_err-addition-clause-faultless : goal.returns-in_err-addition-clause-faultless
returns-in_err-addition-clause-faultless c = IfOk-from_err c.from_residual-in_err-addition.result _ c.from_residual-in_err-addition.ensures.0

pub returns-in_err-addition-clause-inside : goal.returns-in_err-addition-clause-inside
returns-in_err-addition-clause-inside c = IfOk-from_err c.from_residual-in_err-addition.result _ c.from_residual-in_err-addition.ensures.0

pub returns-in_err-addition-clause-names : goal.returns-in_err-addition-clause-names
returns-in_err-addition-clause-names c = IfOk-from_err c.from_residual-in_err-addition.result _ c.from_residual-in_err-addition.ensures.0

pub returns-in_err-addition-clause-shows : goal.returns-in_err-addition-clause-shows
returns-in_err-addition-clause-shows c = IfOk-from_err c.from_residual-in_err-addition.result _ c.from_residual-in_err-addition.ensures.0

pub returns-in_err-fault-clause-asked : goal.returns-in_err-fault-clause-asked
returns-in_err-fault-clause-asked c = IfOk-from_err c.from_residual.result _ c.from_residual.ensures.0

pub returns-in_err-fault-clause-faultless : goal.returns-in_err-fault-clause-faultless
returns-in_err-fault-clause-faultless c = IfOk-from_err c.from_residual.result _ c.from_residual.ensures.0

pub returns-in_err-fault-clause-inside : goal.returns-in_err-fault-clause-inside
returns-in_err-fault-clause-inside c = IfOk-from_err c.from_residual.result _ c.from_residual.ensures.0

pub returns-in_err-fault-clause-names : goal.returns-in_err-fault-clause-names
returns-in_err-fault-clause-names c = IfOk-from_err c.from_residual.result _ c.from_residual.ensures.0

pub returns-in_err-fault-clause-shows : goal.returns-in_err-fault-clause-shows
returns-in_err-fault-clause-shows c = IfOk-from_err c.from_residual.result _ c.from_residual.ensures.0

pub returns-in-Some-clause-faultless : goal.returns-in-Some-clause-faultless
returns-in-Some-clause-faultless c = _

pub returns-in-Some-clause-shows : goal.returns-in-Some-clause-shows
returns-in-Some-clause-shows c = _

pub returns-in-Some-clause-asked : goal.returns-in-Some-clause-asked
returns-in-Some-clause-asked c = _

pub returns-in-Some-clause-names : goal.returns-in-Some-clause-names
returns-in-Some-clause-names c = _

pub returns-in-Some-clause-inside : goal.returns-in-Some-clause-inside
returns-in-Some-clause-inside c = _

pub returns-clause-cause : goal.returns-clause-cause
returns-clause-cause c = _

pub query_fault-requires-clause-whole : goal.query_fault-requires-clause-whole
query_fault-requires-clause-whole c = c.requires.whole

pub returns-in_err-fault-clause-cause : goal.returns-in_err-fault-clause-cause
returns-in_err-fault-clause-cause c = search rules

pub added-requires-clause-whole : goal.added-requires-clause-whole
added-requires-clause-whole c = c.requires.whole

pub added-requires-clause-numbered : goal.added-requires-clause-numbered
added-requires-clause-numbered c = c.requires.numbered

pub added-requires-clause-first : goal.added-requires-clause-first
added-requires-clause-first c = c.requires.first

pub returns-in_err-addition-clause-keeps : goal.returns-in_err-addition-clause-keeps
returns-in_err-addition-clause-keeps c = c.added.ensures.keeps

pub returns-in_err-addition-clause-cause : goal.returns-in_err-addition-clause-cause
returns-in_err-addition-clause-cause c = search rules

pub returns-clause-asked : goal.returns-clause-asked
returns-clause-asked c = c.in_ok-addition.ensures.asked

pub returns-clause-names : goal.returns-clause-names
returns-clause-names c = c.in_ok-addition.ensures.names

pub returns-clause-inside : goal.returns-clause-inside
returns-clause-inside c = c.in_ok-addition.ensures.inside

pub returns-clause-keeps : goal.returns-clause-keeps
returns-clause-keeps c = c.added.ensures.keeps
