use Rattle.std.proofs.Common.{◌≡◌}
use Rattle.std.specs.Prelude.{All}
use Rattle.test_engine.specs.Batches.{IsSharedOf}
use Rattle.test_engine.proofs.advancing.split_all.Given as goal

abbrev pub invariant-points : goal.invariant-points
invariant-points l = (l.engine.problem ≡ l.initial.engine.problem) × All (IsSharedOf l.initial.engine.problem) l.batches.items

abbrev pub decreases-points : goal.decreases-points
decreases-points l = l.engine.points
