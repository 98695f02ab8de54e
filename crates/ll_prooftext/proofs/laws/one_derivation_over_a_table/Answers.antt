use Rattle.ll_prooftext.proofs.unambiguous.OneFault2.{one_fault2}
use Rattle.ll_prooftext.proofs.unambiguous.OneText2.{no_fault2, one_text2}
use Rattle.ll_prooftext.proofs.laws.one_derivation_over_a_table.Goals as goal

pub returns-clause-reading : goal.returns-clause-reading
returns-clause-reading c = λ names text d e distinct short. one_text2 names distinct text short d e

pub returns-clause-fault : goal.returns-clause-fault
returns-clause-fault c = one_fault2

pub returns-clause-not_both : goal.returns-clause-not_both
returns-clause-not_both c = λ names text d f distinct short t h. no_fault2 names text d t short distinct f h
