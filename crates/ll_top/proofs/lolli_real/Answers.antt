use Rattle.std.proofs.Common.{Some}
use Rattle.ll_top.proofs.lolli_real.Goals as goal

pub returns-clause-headline : goal.returns-clause-headline
returns-clause-headline g c = λ texts agrees. c.lolli.ensures.headline (Some texts) agrees

pub returns-clause-run_reads : goal.returns-clause-run_reads
returns-clause-run_reads g c = c.lolli.ensures.run_reads

pub returns-clause-proved : goal.returns-clause-proved
returns-clause-proved g c = λ run is small texts agrees. c.lolli.ensures.proved run is small (Some texts) agrees

pub returns-clause-nothing : goal.returns-clause-nothing
returns-clause-nothing g c = λ run is one texts agrees. c.lolli.ensures.nothing run is one (Some texts) agrees

pub returns-clause-faults_told : goal.returns-clause-faults_told
returns-clause-faults_told g c = c.lolli.ensures.faults_told
