use Rattle.ll_crew.proofs.lead.MuteOutlet.event.Goals as goal

pub returns-clause-taken : goal.returns-clause-taken
returns-clause-taken g c = _

pub returns-clause-refused : goal.returns-clause-refused
returns-clause-refused g c = _

pub returns-clause-welcome_kept : goal.returns-clause-welcome_kept
returns-clause-welcome_kept g c = _
