use Rattle.ll_top.proofs.lines.silent.SilentOutlet.event.Goals as goal

pub returns-clause-taken : goal.returns-clause-taken
returns-clause-taken c = _

pub returns-clause-refused : goal.returns-clause-refused
returns-clause-refused c = _

pub returns-clause-welcome_kept : goal.returns-clause-welcome_kept
returns-clause-welcome_kept c = _
