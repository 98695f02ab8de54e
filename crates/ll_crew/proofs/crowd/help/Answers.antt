use Rattle.ll_crew.proofs.crowd.help.Goals as goal

pub work_as-ended-requires-clause-suits : goal.work_as-ended-requires-clause-suits
work_as-ended-requires-clause-suits g c κs within = c.requires.suits
