use Rattle.ll_top.proofs.lines.ghost_event.ghost_by_terms.Given as goal

abbrev pub ghost-ghost_event : goal.ghost-ghost_event
ghost-ghost_event g a = g.event
