use Rattle.ll_top.proofs.lines.line.LineNotice.make.Given as goal

abbrev pub ghost-ghost_by : goal.ghost-ghost_by
ghost-ghost_by g a = a._event.now
