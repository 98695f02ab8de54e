use Rattle.ll_unify.proofs.carry.packed.Goals as goal

pub returns-else-copy : goal.returns-else-copy
returns-else-copy c = _
