use Rattle.std.proofs.lemmas.Result.{IfOk-from_err}
use Rattle.ll_engine.proofs.machine.Basing.{based_alone}
use Rattle.ll_engine.proofs.choices.Choices.advance.Goals as goal

pub returns-clause-sound : goal.returns-clause-sound
returns-clause-sound c = c.begin_in.ensures.sound

pub returns-clause-begins : goal.returns-clause-begins
returns-clause-begins c = c.begin_in.ensures.begins

pub go_on-requires-clause-based : goal.go_on-requires-clause-based
go_on-requires-clause-based c = based_alone c.args.self.machine _ c.args.self.ancestor c.requires.based

pub returns-in_err-machine-clause-sound : goal.returns-in_err-machine-clause-sound
returns-in_err-machine-clause-sound c = IfOk-from_err c.from_residual.result _ c.from_residual.ensures.0

pub returns-in_err-machine-clause-begins : goal.returns-in_err-machine-clause-begins
returns-in_err-machine-clause-begins c = IfOk-from_err c.from_residual.result _ c.from_residual.ensures.0

pub begin_in-requires-clause-index : goal.begin_in-requires-clause-index
begin_in-requires-clause-index c = c.requires.index

pub begin_in-requires-clause-inside : goal.begin_in-requires-clause-inside
begin_in-requires-clause-inside c = c.requires.inside

pub begin_in-requires-clause-of : goal.begin_in-requires-clause-of
begin_in-requires-clause-of c = c.requires.of

pub go_on-requires-clause-inside : goal.go_on-requires-clause-inside
go_on-requires-clause-inside c = rw c.deref.ensures c.requires.inside
