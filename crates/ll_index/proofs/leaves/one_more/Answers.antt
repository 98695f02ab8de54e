use Rattle.ll_index.proofs.leaves.one_more.Goals as goal

pub returns-in-None : goal.returns-in-None
returns-in-None c = _
