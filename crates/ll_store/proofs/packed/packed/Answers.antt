use Rattle.ll_store.proofs.packed.packed.Goals as goal

pub returns-else-to-clause-kept : goal.returns-else-to-clause-kept
returns-else-to-clause-kept c = _

pub returns-else-to-clause-refused : goal.returns-else-to-clause-refused
returns-else-to-clause-refused c = c.if-to.false
