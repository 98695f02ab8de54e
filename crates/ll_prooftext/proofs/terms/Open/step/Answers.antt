use Rattle.ll_prooftext.proofs.terms.Open.step.Goals as goal

pub first-requires-clause-good : goal.first-requires-clause-good
first-requires-clause-good c = c.requires.good

pub first-requires-clause-room : goal.first-requires-clause-room
first-requires-clause-room c = c.requires.room

pub argument-requires-clause-good : goal.argument-requires-clause-good
argument-requires-clause-good c = c.requires.good

pub close-requires-clause-good : goal.close-requires-clause-good
close-requires-clause-good c = c.requires.good

pub sign-requires-clause-good : goal.sign-requires-clause-good
sign-requires-clause-good c = c.requires.good

pub sign-requires-clause-room : goal.sign-requires-clause-room
sign-requires-clause-room c = c.requires.room
