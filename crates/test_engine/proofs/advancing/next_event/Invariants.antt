use Rattle.std.proofs.Common.{◌≡◌, ◌≤◌}
use Rattle.test_engine.proofs.advancing.next_event.Given as goal

abbrev pub invariant-steps : goal.invariant-steps
invariant-steps l = (l.engine.problem ≡ l.initial.engine.problem) × (l.engine.work ≤ l.initial.engine.work)

abbrev pub decreases-steps : goal.decreases-steps
decreases-steps l = l.engine.work
