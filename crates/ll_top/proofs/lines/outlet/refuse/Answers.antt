use Rattle.ll_top.proofs.writing.WaitingLemmas.{out_of_memory_apart}
use Rattle.ll_top.proofs.lines.outlet.refuse.Goals as goal

pub returns-in-Ok-clause-faults_kept : goal.returns-in-Ok-clause-faults_kept
returns-in-Ok-clause-faults_kept g c = c.write_waiting.ensures.faults_kept

pub returns-in-Err-clause-faults_kept : goal.returns-in-Err-clause-faults_kept
returns-in-Err-clause-faults_kept g c = c.write_waiting.ensures.faults_kept

pub returns-in-Ok-clause-none : goal.returns-in-Ok-clause-none
returns-in-Ok-clause-none g c = c.write_waiting.ensures.none

pub returns-in-Err-clause-none : goal.returns-in-Err-clause-none
returns-in-Err-clause-none g c = c.write_waiting.ensures.none

pub returns-in-Err-clause-cut : goal.returns-in-Err-clause-cut
returns-in-Err-clause-cut g c = c.in-Err.ensures.cut.1

pub returns-in-Err-clause-write : goal.returns-in-Err-clause-write
returns-in-Err-clause-write g c = λ _. c.in-Err.ensures.write

pub returns-in-Ok-clause-write : goal.returns-in-Ok-clause-write
returns-in-Ok-clause-write g c = out_of_memory_apart
