use Rattle.ll_top.proofs.lines.silent.KindNotice.make.Given as goal

abbrev pub ghost-ghost_by : goal.ghost-ghost_by
ghost-ghost_by a = a._event.now
