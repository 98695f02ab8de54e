use Rattle.ll_trace.proofs.picks.deeper.Goals as goal

pub returns-in-None : goal.returns-in-None
returns-in-None c = _
