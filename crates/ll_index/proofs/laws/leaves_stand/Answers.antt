use Rattle.ll_index.proofs.StandingLaws.{leaves_stand, leaves_open}
use Rattle.ll_index.proofs.laws.leaves_stand.Goals as goal

pub returns-clause-ways : goal.returns-clause-ways
returns-clause-ways c = leaves_stand

pub returns-clause-opened : goal.returns-clause-opened
returns-clause-opened c = leaves_open
