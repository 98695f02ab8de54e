use Rattle.ll_prooftext.proofs.unambiguous.OneFault.{one_fault, no_fault}
use Rattle.ll_prooftext.proofs.unambiguous.OneText.{one_text}
use Rattle.ll_prooftext.proofs.laws.one_derivation.Goals as goal

pub returns-clause-reading : goal.returns-clause-reading
returns-clause-reading c = λ names text d e distinct. one_text names distinct text d e

pub returns-clause-fault : goal.returns-clause-fault
returns-clause-fault c = one_fault

pub returns-clause-not_both : goal.returns-clause-not_both
returns-clause-not_both c = no_fault
