use Rattle.ll_deepen.proofs.Bounds.{one_bound}
use Rattle.ll_deepen.proofs.series.deciding_bound.Goals as goal

pub returns-clause-one : goal.returns-clause-one
returns-clause-one c = one_bound

pub returns-clause-steady : goal.returns-clause-steady
returns-clause-steady c = λ p n m low quiet. c.steady_search.ensures _ n m _ low quiet
