use Rattle.ll_top.proofs.texts.fault.write_fields.Goals as goal

pub returns-clause-faults_kept : goal.returns-clause-faults_kept
returns-clause-faults_kept g c = c.write_parts.ensures.faults_kept

pub returns-clause-failed : goal.returns-clause-failed
returns-clause-failed g c = c.write_parts.ensures.failed

pub returns-clause-line : goal.returns-clause-line
returns-clause-line g c = c.write_parts.ensures.line

pub returns-clause-prefix : goal.returns-clause-prefix
returns-clause-prefix g c = c.write_parts.ensures.prefix
