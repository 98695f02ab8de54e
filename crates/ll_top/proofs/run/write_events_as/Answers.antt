use Rattle.ll_top.proofs.run.write_events_as.Goals as goal

pub give-requires-clause-valid : goal.give-requires-clause-valid
give-requires-clause-valid g c κs within = c.requires.valid

pub give-requires-clause-index : goal.give-requires-clause-index
give-requires-clause-index g c κs within = c.requires.index

pub give-requires-clause-suits : goal.give-requires-clause-suits
give-requires-clause-suits g c κs within = c.requires.suits

pub returns-clause-ended : goal.returns-clause-ended
returns-clause-ended g c = c.give.ensures.ended
