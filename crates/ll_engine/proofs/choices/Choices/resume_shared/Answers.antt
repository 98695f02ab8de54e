use Rattle.std.proofs.lemmas.Result.{IfOk-from_err}
use Rattle.std.proofs.Common.{rules}
use Rattle.ll_engine.proofs.choices.Choices.resume_shared.Goals as goal

pub returns-clause-sound : goal.returns-clause-sound
returns-clause-sound c = c.begin_in.ensures.sound

pub returns-clause-begins : goal.returns-clause-begins
returns-clause-begins c = c.begin_in.ensures.begins

pub index_of-requires : goal.index_of-requires
index_of-requires c = search rules

pub returns-in_err-index-clause-sound : goal.returns-in_err-index-clause-sound
returns-in_err-index-clause-sound c = IfOk-from_err c.from_residual.result _ c.from_residual.ensures.0

pub returns-in_err-index-clause-begins : goal.returns-in_err-index-clause-begins
returns-in_err-index-clause-begins c = IfOk-from_err c.from_residual.result _ c.from_residual.ensures.0

pub thaw-requires : goal.thaw-requires
thaw-requires c = search rules

pub returns-in_err-machine-clause-sound : goal.returns-in_err-machine-clause-sound
returns-in_err-machine-clause-sound c = IfOk-from_err c.from_residual-in_err-machine.result _ c.from_residual-in_err-machine.ensures.0

pub returns-in_err-machine-clause-begins : goal.returns-in_err-machine-clause-begins
returns-in_err-machine-clause-begins c = IfOk-from_err c.from_residual-in_err-machine.result _ c.from_residual-in_err-machine.ensures.0

pub begin_in-requires-clause-inside : goal.begin_in-requires-clause-inside
begin_in-requires-clause-inside c = c.requires.inside

pub begin_in-requires-clause-of : goal.begin_in-requires-clause-of
begin_in-requires-clause-of c = c.requires.of
