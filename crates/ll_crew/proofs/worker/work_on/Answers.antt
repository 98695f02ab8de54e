use Rattle.ll_crew.proofs.worker.work_on.Goals as goal

pub work_with-done-requires-clause-suits : goal.work_with-done-requires-clause-suits
work_with-done-requires-clause-suits g c κs within = c.requires.suits

pub work_with-done-requires-clause-seat : goal.work_with-done-requires-clause-seat
work_with-done-requires-clause-seat g c κs within = c.requires.seat

pub work_with-done-requires-clause-stands : goal.work_with-done-requires-clause-stands
work_with-done-requires-clause-stands g c κs within = c.requires.stands
