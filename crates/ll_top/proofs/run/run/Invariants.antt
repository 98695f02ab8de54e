use Rattle.ll_top.proofs.run.run.Given as goal

abbrev pub ghosts-write_events : goal.ghosts-write_events
ghosts-write_events g a = record { problem = a.wanted.now.problem.now }
