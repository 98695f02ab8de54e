use Rattle.std.proofs.Common.{rules, arith}
use Rattle.ll_crew.proofs.Calms.{turn_counted}
use Rattle.ll_crew.proofs.lead.quit.Goals as goal

pub returns-in-Write-clause-same : goal.returns-in-Write-clause-same
returns-in-Write-clause-same g c = search rules

pub returns-in-Write-clause-left : goal.returns-in-Write-clause-left
returns-in-Write-clause-left g c = search rules

pub returns-in-OutOfMemory-clause-same : goal.returns-in-OutOfMemory-clause-same
returns-in-OutOfMemory-clause-same g c = search rules

pub returns-in-OutOfMemory-clause-left : goal.returns-in-OutOfMemory-clause-left
returns-in-OutOfMemory-clause-left g c = search rules

pub returns-in-Write-clause-turns : goal.returns-in-Write-clause-turns
returns-in-Write-clause-turns g c =
    let n = turn_counted g.N.Batch.of g.N.Batch.alternatives _ c.args.seat.now c.stop.new.seat c.stop.ensures.turn in omega arith

pub returns-in-OutOfMemory-clause-turns : goal.returns-in-OutOfMemory-clause-turns
returns-in-OutOfMemory-clause-turns g c =
    let n = turn_counted g.N.Batch.of g.N.Batch.alternatives _ c.args.seat.now c.starve.new.seat c.starve.ensures.turn in omega arith
