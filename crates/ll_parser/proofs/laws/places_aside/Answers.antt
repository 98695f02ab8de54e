use Rattle.ll_parser.proofs.machines.BareTexts.{program-same, query-same}
use Rattle.ll_parser.proofs.laws.places_aside.Goals as goal

pub returns-clause-program : goal.returns-clause-program
returns-clause-program c = program-same

pub returns-clause-query : goal.returns-clause-query
returns-clause-query c = query-same
