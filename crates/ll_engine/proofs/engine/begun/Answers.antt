use Rattle.ll_engine.proofs.engine.begun.Goals as goal

pub invariant_of-result : goal.invariant_of-result
invariant_of-result c = λ _. (c.requires.sound, c.requires.healthy)
