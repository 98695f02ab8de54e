use Rattle.std.proofs.Common.{◌≡◌}
use Rattle.test_engine.proofs.advancing.finish.Given as goal

abbrev pub invariant-events : goal.invariant-events
invariant-events l = l.engine.problem ≡ l.initial.engine.problem

abbrev pub decreases-events : goal.decreases-events
decreases-events l = l.engine.work
