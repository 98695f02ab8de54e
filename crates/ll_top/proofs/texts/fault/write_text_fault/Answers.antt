use Rattle.ll_top.proofs.texts.fault.write_text_fault.Goals as goal

pub returns-clause-faults_kept : goal.returns-clause-faults_kept
returns-clause-faults_kept g c = c.write_fields.ensures.faults_kept

pub returns-clause-failed : goal.returns-clause-failed
returns-clause-failed g c = c.write_fields.ensures.failed
