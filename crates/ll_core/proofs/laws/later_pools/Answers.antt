use Rattle.ll_core.proofs.runs.LaterPools.{later_itself, later_on}
use Rattle.ll_core.proofs.runs.Owing.{nothing_comes}
use Rattle.ll_core.proofs.laws.later_pools.Goals as goal

pub returns-clause-itself : goal.returns-clause-itself
returns-clause-itself g c = λ p. later_itself p

pub returns-clause-on : goal.returns-clause-on
returns-clause-on g c = λ p q r f h. later_on p q r f h

pub returns-clause-nothing : goal.returns-clause-nothing
returns-clause-nothing g c = λ p q problem pair s t later u b. nothing_comes g.N.Batch.of g.N.Batch.alternatives p q problem pair s t later u b
