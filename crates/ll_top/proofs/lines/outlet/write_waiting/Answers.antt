use Rattle.std.proofs.Common.{le_refl, ap, Some}
use Rattle.ll_top.proofs.lines.outlet.write_waiting.Goals as goal

pub returns-then-is_empty-clause-cut : goal.returns-then-is_empty-clause-cut
returns-then-is_empty-clause-cut g c = _

pub returns-then-is_empty-clause-write : goal.returns-then-is_empty-clause-write
returns-then-is_empty-clause-write g c = _

pub returns-in-Ok-clause-cut : goal.returns-in-Ok-clause-cut
returns-in-Ok-clause-cut g c = _

pub returns-in-Ok-clause-write : goal.returns-in-Ok-clause-write
returns-in-Ok-clause-write g c = _

pub returns-in-Err-clause-written : goal.returns-in-Err-clause-written
returns-in-Err-clause-written g c = _

pub returns-then-is_empty-clause-faults_kept : goal.returns-then-is_empty-clause-faults_kept
returns-then-is_empty-clause-faults_kept g c = le_refl _

pub returns-in-Ok-clause-faults_kept : goal.returns-in-Ok-clause-faults_kept
returns-in-Ok-clause-faults_kept g c = c.write_all-written.ensures.faults_kept

pub returns-in-Err-clause-faults_kept : goal.returns-in-Err-clause-faults_kept
returns-in-Err-clause-faults_kept g c = c.write_all-written.ensures.faults_kept

pub returns-in-Ok-clause-written : goal.returns-in-Ok-clause-written
returns-in-Ok-clause-written g c = ap Some (rw c.deref.ensures.value at c.in-Ok.ensures.takes)

pub returns-in-Err-clause-write : goal.returns-in-Err-clause-write
returns-in-Err-clause-write g c = c.in-Err.ensures.failed
