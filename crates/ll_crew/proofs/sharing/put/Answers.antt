use Rattle.ll_core.specs.Calls.{publish_answer}
use Rattle.std.proofs.Common.{sym}
use Rattle.std.proofs.lemmas.Bool.{false≢true}
use Rattle.ll_crew.proofs.sharing.put.Goals as goal

pub returns-in-Ok-clause-turn : goal.returns-in-Ok-clause-turn
returns-in-Ok-clause-turn g c = (publish_answer c.publish.result, c.publish.ensures.turn)

pub returns-in-Err-Full-clause-turn : goal.returns-in-Err-Full-clause-turn
returns-in-Err-Full-clause-turn g c = (publish_answer c.publish.result, c.publish.ensures.turn)

pub returns-clause-turn : goal.returns-clause-turn
returns-clause-turn g c = (publish_answer c.publish.result, c.publish.ensures.turn)

pub returns-in-Ok-clause-rest : goal.returns-in-Ok-clause-rest
returns-in-Ok-clause-rest g c = λ e. c.in-Ok.ensures.owes

pub returns-clause-rest : goal.returns-clause-rest
returns-clause-rest g c = _

pub returns-clause-full : goal.returns-clause-full
returns-clause-full g c = _

pub returns-in-Ok-clause-full : goal.returns-in-Ok-clause-full
returns-in-Ok-clause-full g c = λ e. absurd (false≢true (sym e))

pub returns-in-Err-Full-clause-rest : goal.returns-in-Err-Full-clause-rest
returns-in-Err-Full-clause-rest g c = λ e. absurd (false≢true e)
