use Rattle.ll_top.proofs.checks.finding.write_finding.Goals as goal

pub returns-in-Shows-clause-faults_kept : goal.returns-in-Shows-clause-faults_kept
returns-in-Shows-clause-faults_kept g c = c.write_yes.ensures.faults_kept

pub returns-in-Shows-clause-line : goal.returns-in-Shows-clause-line
returns-in-Shows-clause-line g c = rw c.in-Shows.is c.write_yes.ensures.line

pub returns-in-Shows-clause-failed : goal.returns-in-Shows-clause-failed
returns-in-Shows-clause-failed g c = c.write_yes.ensures.failed

pub returns-in-Shows-clause-prefix : goal.returns-in-Shows-clause-prefix
returns-in-Shows-clause-prefix g c = rw c.in-Shows.is c.write_yes.ensures.prefix

pub returns-in-Fails-clause-faults_kept : goal.returns-in-Fails-clause-faults_kept
returns-in-Fails-clause-faults_kept g c = c.write_no.ensures.faults_kept

pub returns-in-Fails-clause-line : goal.returns-in-Fails-clause-line
returns-in-Fails-clause-line g c = rw c.in-Fails.is c.write_no.ensures.line

pub returns-in-Fails-clause-failed : goal.returns-in-Fails-clause-failed
returns-in-Fails-clause-failed g c = c.write_no.ensures.failed

pub returns-in-Fails-clause-prefix : goal.returns-in-Fails-clause-prefix
returns-in-Fails-clause-prefix g c = rw c.in-Fails.is c.write_no.ensures.prefix

pub returns-in-Covered-clause-faults_kept : goal.returns-in-Covered-clause-faults_kept
returns-in-Covered-clause-faults_kept g c = c.write_covered.ensures.faults_kept

pub returns-in-Covered-clause-line : goal.returns-in-Covered-clause-line
returns-in-Covered-clause-line g c = rw c.in-Covered.is c.write_covered.ensures.line

pub returns-in-Covered-clause-failed : goal.returns-in-Covered-clause-failed
returns-in-Covered-clause-failed g c = c.write_covered.ensures.failed

pub returns-in-Covered-clause-prefix : goal.returns-in-Covered-clause-prefix
returns-in-Covered-clause-prefix g c = rw c.in-Covered.is c.write_covered.ensures.prefix

pub returns-in-TooLong-clause-faults_kept : goal.returns-in-TooLong-clause-faults_kept
returns-in-TooLong-clause-faults_kept g c = c.write_too_long.ensures.faults_kept

pub returns-in-TooLong-clause-line : goal.returns-in-TooLong-clause-line
returns-in-TooLong-clause-line g c = rw c.in-TooLong.is c.write_too_long.ensures.line

pub returns-in-TooLong-clause-failed : goal.returns-in-TooLong-clause-failed
returns-in-TooLong-clause-failed g c = c.write_too_long.ensures.failed

pub returns-in-TooLong-clause-prefix : goal.returns-in-TooLong-clause-prefix
returns-in-TooLong-clause-prefix g c = rw c.in-TooLong.is c.write_too_long.ensures.prefix

pub returns-in-CountsNumbers-clause-faults_kept : goal.returns-in-CountsNumbers-clause-faults_kept
returns-in-CountsNumbers-clause-faults_kept g c = c.write_counts.ensures.faults_kept

pub returns-in-CountsNumbers-clause-line : goal.returns-in-CountsNumbers-clause-line
returns-in-CountsNumbers-clause-line g c = rw c.in-CountsNumbers.is c.write_counts.ensures.line

pub returns-in-CountsNumbers-clause-failed : goal.returns-in-CountsNumbers-clause-failed
returns-in-CountsNumbers-clause-failed g c = c.write_counts.ensures.failed

pub returns-in-CountsNumbers-clause-prefix : goal.returns-in-CountsNumbers-clause-prefix
returns-in-CountsNumbers-clause-prefix g c = rw c.in-CountsNumbers.is c.write_counts.ensures.prefix

pub returns-in-Shows-clause-quiet : goal.returns-in-Shows-clause-quiet
returns-in-Shows-clause-quiet g c = c.write_yes.ensures.quiet

pub returns-in-Fails-clause-quiet : goal.returns-in-Fails-clause-quiet
returns-in-Fails-clause-quiet g c = c.write_no.ensures.quiet

pub returns-in-Covered-clause-quiet : goal.returns-in-Covered-clause-quiet
returns-in-Covered-clause-quiet g c = c.write_covered.ensures.quiet

pub returns-in-TooLong-clause-quiet : goal.returns-in-TooLong-clause-quiet
returns-in-TooLong-clause-quiet g c = c.write_too_long.ensures.quiet

pub returns-in-CountsNumbers-clause-quiet : goal.returns-in-CountsNumbers-clause-quiet
returns-in-CountsNumbers-clause-quiet g c = c.write_counts.ensures.quiet
