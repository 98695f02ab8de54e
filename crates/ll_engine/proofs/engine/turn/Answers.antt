use Rattle.std.proofs.Common.{subst}
use Rattle.ll_engine.specs.Pointed.{IsSound}
use Rattle.ll_engine.proofs.engine.turn.Goals as goal

pub search-requires : goal.search-requires
search-requires c = record { sound = subst (λ r. IsSound r c.args.choices.now) c.if-running.true c.requires.sound }

pub go_back-requires-clause-sound : goal.go_back-requires-clause-sound
go_back-requires-clause-sound c = subst (λ r. IsSound r c.args.choices.now) c.if-running.false c.requires.sound

pub go_back-requires-clause-points : goal.go_back-requires-clause-points
go_back-requires-clause-points c = c.requires.points c.if-running.false

pub returns-then-running-clause-sound : goal.returns-then-running-clause-sound
returns-then-running-clause-sound c = c.search.ensures.sound

pub returns-then-running-clause-turned : goal.returns-then-running-clause-turned
returns-then-running-clause-turned c = rw c.if-running.true c.search.ensures.turned

pub returns-else-running-clause-sound : goal.returns-else-running-clause-sound
returns-else-running-clause-sound c = c.go_back.ensures.sound

pub returns-else-running-clause-turned : goal.returns-else-running-clause-turned
returns-else-running-clause-turned c = rw c.if-running.false c.go_back.ensures.turned
