use Rattle.std.proofs.Common.{◌≡◌}
use Rattle.test_engine.proofs.advancing.go_through.Given as goal

abbrev pub invariant-loop-k : goal.invariant-loop-k
invariant-loop-k l = l.engine.problem ≡ l.initial.engine.problem
