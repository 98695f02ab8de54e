use Rattle.ll_engine.proofs.choices.Choices.resume.Goals as goal

pub returns-clause-sound : goal.returns-clause-sound
returns-clause-sound c = c.begin_alone.ensures.sound

pub returns-clause-begins : goal.returns-clause-begins
returns-clause-begins c = c.begin_alone.ensures.begins
