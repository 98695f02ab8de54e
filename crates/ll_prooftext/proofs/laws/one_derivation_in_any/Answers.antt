use Rattle.ll_prooftext.proofs.unambiguous.OneVersion.{one_fault_in, one_text_in, no_fault_in}
use Rattle.ll_prooftext.proofs.laws.one_derivation_in_any.Goals as goal

pub returns-clause-reading : goal.returns-clause-reading
returns-clause-reading c = λ names text v w d e distinct short. one_text_in text short names distinct v w d e

pub returns-clause-fault : goal.returns-clause-fault
returns-clause-fault c = λ text f g short. one_fault_in text short f g

pub returns-clause-not_both : goal.returns-clause-not_both
returns-clause-not_both c = λ names text v d f distinct short. no_fault_in text short names distinct v d f
