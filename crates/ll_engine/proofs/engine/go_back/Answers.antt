use Rattle.std.proofs.lemmas.Result.{IfOk-from_err}
use Rattle.ll_engine.specs.Pointed.{choices_of}
use Rattle.ll_engine.proofs.turns.Turns.{turned_retry}
use Rattle.ll_engine.proofs.engine.go_back.Goals as goal

pub returns-clause-turned : goal.returns-clause-turned
returns-clause-turned c = turned_retry (choices_of c.args.choices.now) (choices_of c.retry.new.self) c.in_ok-running.running c.in_ok-running.ensures.retries

pub returns-in_err-running-clause-sound : goal.returns-in_err-running-clause-sound
returns-in_err-running-clause-sound c = IfOk-from_err c.from_residual.result _ c.from_residual.ensures.0

pub returns-in_err-running-clause-turned : goal.returns-in_err-running-clause-turned
returns-in_err-running-clause-turned c = IfOk-from_err c.from_residual.result _ c.from_residual.ensures.0
