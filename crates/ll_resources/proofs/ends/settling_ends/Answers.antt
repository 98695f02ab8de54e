use Rattle.ll_resources.proofs.EndLemmas.{ends_settle, middles_settle}
use Rattle.ll_resources.proofs.ends.settling_ends.Goals as goal

pub returns-clause-ends : goal.returns-clause-ends
returns-clause-ends g c = ends_settle

pub returns-clause-middles : goal.returns-clause-middles
returns-clause-middles g c = middles_settle
