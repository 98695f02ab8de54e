use Rattle.ll_index.proofs.FirstLaws.{clashes_differ, clashes_give_nothing}
use Rattle.ll_index.proofs.laws.clashes_give_nothing.Goals as goal

pub returns-clause-unifier : goal.returns-clause-unifier
returns-clause-unifier c = clashes_differ

pub returns-clause-state : goal.returns-clause-state
returns-clause-state c = clashes_give_nothing
