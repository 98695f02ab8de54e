use Rattle.ll_top.proofs.texts.fault.write_line.Goals as goal

pub returns-in-Absent-clause-line : goal.returns-in-Absent-clause-line
returns-in-Absent-clause-line g c = rw c.in-Absent.is c.write_parts-in-Absent.ensures.line

pub returns-in-Absent-clause-prefix : goal.returns-in-Absent-clause-prefix
returns-in-Absent-clause-prefix g c = rw c.in-Absent.is c.write_parts-in-Absent.ensures.prefix

pub returns-in-Unreadable-clause-line : goal.returns-in-Unreadable-clause-line
returns-in-Unreadable-clause-line g c = rw c.in-Unreadable.is c.write_parts-in-Unreadable.ensures.line

pub returns-in-Unreadable-clause-prefix : goal.returns-in-Unreadable-clause-prefix
returns-in-Unreadable-clause-prefix g c = rw c.in-Unreadable.is c.write_parts-in-Unreadable.ensures.prefix

pub returns-in-Usage-clause-line : goal.returns-in-Usage-clause-line
returns-in-Usage-clause-line g c = rw c.in-Usage.is (rw c.format-digits.ensures.text at c.write_parts.ensures.line)

pub returns-in-Usage-clause-prefix : goal.returns-in-Usage-clause-prefix
returns-in-Usage-clause-prefix g c = rw c.in-Usage.is (rw c.format-digits.ensures.text at c.write_parts.ensures.prefix)

pub returns-in-OversizedAs-clause-line : goal.returns-in-OversizedAs-clause-line
returns-in-OversizedAs-clause-line g c = rw c.in-OversizedAs.is (rw c.format-version.ensures.text at c.write_parts-in-OversizedAs.ensures.line)

pub returns-in-OversizedAs-clause-prefix : goal.returns-in-OversizedAs-clause-prefix
returns-in-OversizedAs-clause-prefix g c = rw c.in-OversizedAs.is (rw c.format-version.ensures.text at c.write_parts-in-OversizedAs.ensures.prefix)

pub returns-in-Usage-clause-faults_kept : goal.returns-in-Usage-clause-faults_kept
returns-in-Usage-clause-faults_kept g c = c.write_parts.ensures.faults_kept

pub returns-in-Usage-clause-failed : goal.returns-in-Usage-clause-failed
returns-in-Usage-clause-failed g c = c.write_parts.ensures.failed

pub returns-in-Absent-clause-faults_kept : goal.returns-in-Absent-clause-faults_kept
returns-in-Absent-clause-faults_kept g c = c.write_parts-in-Absent.ensures.faults_kept

pub returns-in-Absent-clause-failed : goal.returns-in-Absent-clause-failed
returns-in-Absent-clause-failed g c = c.write_parts-in-Absent.ensures.failed

pub returns-in-Unreadable-clause-faults_kept : goal.returns-in-Unreadable-clause-faults_kept
returns-in-Unreadable-clause-faults_kept g c = c.write_parts-in-Unreadable.ensures.faults_kept

pub returns-in-Unreadable-clause-failed : goal.returns-in-Unreadable-clause-failed
returns-in-Unreadable-clause-failed g c = c.write_parts-in-Unreadable.ensures.failed

pub returns-in-Oversized-clause-faults_kept : goal.returns-in-Oversized-clause-faults_kept
returns-in-Oversized-clause-faults_kept g c = c.write_parts-in-Oversized.ensures.faults_kept

pub returns-in-Oversized-clause-failed : goal.returns-in-Oversized-clause-failed
returns-in-Oversized-clause-failed g c = c.write_parts-in-Oversized.ensures.failed

pub returns-in-Oversized-clause-line : goal.returns-in-Oversized-clause-line
returns-in-Oversized-clause-line g c = rw c.in-Oversized.is c.write_parts-in-Oversized.ensures.line

pub returns-in-Oversized-clause-prefix : goal.returns-in-Oversized-clause-prefix
returns-in-Oversized-clause-prefix g c = rw c.in-Oversized.is c.write_parts-in-Oversized.ensures.prefix

pub returns-in-OversizedAs-clause-faults_kept : goal.returns-in-OversizedAs-clause-faults_kept
returns-in-OversizedAs-clause-faults_kept g c = c.write_parts-in-OversizedAs.ensures.faults_kept

pub returns-in-OversizedAs-clause-failed : goal.returns-in-OversizedAs-clause-failed
returns-in-OversizedAs-clause-failed g c = c.write_parts-in-OversizedAs.ensures.failed

pub returns-in-Faulty-clause-faults_kept : goal.returns-in-Faulty-clause-faults_kept
returns-in-Faulty-clause-faults_kept g c = c.write_text_fault.ensures.faults_kept

pub returns-in-Faulty-clause-failed : goal.returns-in-Faulty-clause-failed
returns-in-Faulty-clause-failed g c = c.write_text_fault.ensures.failed

pub returns-in-Faulty-clause-line : goal.returns-in-Faulty-clause-line
returns-in-Faulty-clause-line g c = rw c.in-Faulty.is c.write_text_fault.ensures.line

pub returns-in-Faulty-clause-prefix : goal.returns-in-Faulty-clause-prefix
returns-in-Faulty-clause-prefix g c = rw c.in-Faulty.is c.write_text_fault.ensures.prefix
