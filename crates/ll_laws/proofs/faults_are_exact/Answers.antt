use Rattle.ll_laws.proofs.derivations.Lines.{no-fault-shows, shown-no-fault}
use Rattle.ll_laws.proofs.faults_are_exact.Goals as goal

pub returns-clause-faultless : goal.returns-clause-faultless
returns-clause-faultless c p d x n whole is = no-fault-shows p d x n whole.nodes is

pub returns-clause-shown : goal.returns-clause-shown
returns-clause-shown c = shown-no-fault
