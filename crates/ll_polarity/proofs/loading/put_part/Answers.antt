use Rattle.std.proofs.Common.{rules}
use Rattle.std.proofs.lemmas.Result.{IfOk-from_err}
use Rattle.ll_polarity.proofs.loading.put_part.Goals as goal

pub returns-in_err-rows : goal.returns-in_err-rows
returns-in_err-rows c = IfOk-from_err c.from_residual.result _ c.from_residual.ensures.0

pub put_rows-requires-clause-whole : goal.put_rows-requires-clause-whole
put_rows-requires-clause-whole c = c.requires.whole

pub put_rows-requires-clause-faultless : goal.put_rows-requires-clause-faultless
put_rows-requires-clause-faultless c = c.requires.faultless

pub put_rows-requires-clause-found : goal.put_rows-requires-clause-found
put_rows-requires-clause-found c = c.requires.found

pub invariant_of-result : goal.invariant_of-result
invariant_of-result c = search rules

pub returns : goal.returns
returns c = search rules
