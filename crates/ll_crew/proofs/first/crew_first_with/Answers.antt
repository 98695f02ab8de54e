use Rattle.ll_crew.proofs.first.crew_first_with.Goals as goal

pub give_until-requires-clause-valid : goal.give_until-requires-clause-valid
give_until-requires-clause-valid g c κs within = c.requires.valid

pub give_until-requires-clause-suits : goal.give_until-requires-clause-suits
give_until-requires-clause-suits g c κs within = c.requires.suits

pub give_until-requires-clause-none_yet : goal.give_until-requires-clause-none_yet
give_until-requires-clause-none_yet g c κs within = c.requires.none_yet

pub give_until-requires-clause-welcome : goal.give_until-requires-clause-welcome
give_until-requires-clause-welcome g c κs within = c.requires.welcome
