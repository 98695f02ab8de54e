use Rattle.ll_lexer.proofs.OneReading.{one-list, one-fault, not-both}
use Rattle.ll_lexer.proofs.one_reading.Goals as goal

pub returns-clause-tokens : goal.returns-clause-tokens
returns-clause-tokens c = one-list

pub returns-clause-fault : goal.returns-clause-fault
returns-clause-fault c = one-fault

pub returns-clause-not_both : goal.returns-clause-not_both
returns-clause-not_both c = not-both
