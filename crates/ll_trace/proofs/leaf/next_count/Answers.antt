use Rattle.ll_trace.proofs.leaf.next_count.Goals as goal

pub returns-in-None : goal.returns-in-None
returns-in-None c = _
