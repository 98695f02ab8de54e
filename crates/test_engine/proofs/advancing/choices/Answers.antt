use Rattle.test_engine.proofs.advancing.choices.Goals as goal

pub returns : goal.returns
returns c = c.in_ok-problem.ensures c.in_ok-tree.tree c.in_ok-tree.ensures.whole c.in_ok-part.ensures.faultless c.in_ok-part.ensures.part
