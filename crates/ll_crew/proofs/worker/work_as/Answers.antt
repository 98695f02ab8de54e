use Rattle.ll_crew.proofs.Claiming.{starve_fails}
use Rattle.ll_crew.proofs.worker.work_as.Goals as goal

pub returns-in-Err-clause-failed : goal.returns-in-Err-clause-failed
returns-in-Err-clause-failed g c =
    starve_fails g.O.Outlet c.args.job.now.start.now.value c.args.job.now.problem.now
    c.args.seat.now c.work_on.new.seat c.starve.new.seat c.work_on.new.out c.work_on.new.told c.in-Err.ensures.failed c.starve.ensures.turn

pub returns-in-Ok-clause-failed : goal.returns-in-Ok-clause-failed
returns-in-Ok-clause-failed g c = _

pub returns-in-Err-clause-done : goal.returns-in-Err-clause-done
returns-in-Err-clause-done g c = _

pub returns-in-Err-clause-left : goal.returns-in-Err-clause-left
returns-in-Err-clause-left g c = _

pub work_on-requires-clause-suits : goal.work_on-requires-clause-suits
work_on-requires-clause-suits g c κs within = c.requires.suits

pub work_on-requires-clause-seat : goal.work_on-requires-clause-seat
work_on-requires-clause-seat g c κs within = c.requires.seat

pub work_on-requires-clause-stands : goal.work_on-requires-clause-stands
work_on-requires-clause-stands g c κs within = c.requires.stands
