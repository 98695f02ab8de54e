use Rattle.ll_top.proofs.made.Made.{program-read}
use Rattle.ll_top.proofs.made.Asking.{query-read}
use Rattle.ll_top.proofs.faultless.made_texts.Goals as goal

pub returns-clause-program : goal.returns-clause-program
returns-clause-program c = λ kind n fits. program-read c.printed_is_read.ensures kind n fits

pub returns-clause-query : goal.returns-clause-query
returns-clause-query c = λ kind. query-read kind
