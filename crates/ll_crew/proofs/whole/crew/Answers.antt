use Rattle.ll_crew.proofs.whole.crew.Goals as goal

pub returns-in_default-clause-given : goal.returns-in_default-clause-given
returns-in_default-clause-given g c = _

pub returns-in_default-clause-counts : goal.returns-in_default-clause-counts
returns-in_default-clause-counts g c = _

pub crew_with-requires-clause-valid : goal.crew_with-requires-clause-valid
crew_with-requires-clause-valid g c κs within = c.requires.valid

pub crew_with-requires-clause-suits : goal.crew_with-requires-clause-suits
crew_with-requires-clause-suits g c κs within = c.requires.suits

pub crew_with-requires-clause-welcome : goal.crew_with-requires-clause-welcome
crew_with-requires-clause-welcome g c κs within = c.requires.welcome
