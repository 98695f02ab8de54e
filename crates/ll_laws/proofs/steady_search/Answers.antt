use Rattle.ll_laws.proofs.search.SearchLaws.{events_steady, cost_steady}
use Rattle.ll_laws.proofs.steady_search.Goals as goal

pub returns : goal.returns
returns c = λ m low high s le h. (events_steady m low high s le h, cost_steady m low high s le h)
