use Rattle.ll_laws.proofs.consistency.ConsistentStates.{starts_consistent, settles_consistent}
use Rattle.ll_laws.proofs.consistency.ConsistentSteps.{steps_consistent}
use Rattle.ll_laws.proofs.consistent_states.Goals as goal

pub returns-clause-start : goal.returns-clause-start
returns-clause-start c = starts_consistent

pub returns-clause-settle : goal.returns-clause-settle
returns-clause-settle c = settles_consistent

pub returns-clause-attempt : goal.returns-clause-attempt
returns-clause-attempt c = steps_consistent
