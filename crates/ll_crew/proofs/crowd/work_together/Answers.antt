use Rattle.ll_crew.proofs.crowd.work_together.Goals as goal

pub work_leading-requires-clause-suits : goal.work_leading-requires-clause-suits
work_leading-requires-clause-suits g c κs within = c.requires.suits

pub work_leading-requires-clause-stands : goal.work_leading-requires-clause-stands
work_leading-requires-clause-stands g c κs within = c.requires.stands
