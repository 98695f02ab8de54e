use Rattle.std.proofs.Common.{◌≡◌, length}
use Rattle.std.specs.Prelude.{All}
use Rattle.test_engine.specs.Batches.{IsSharedOf}
use Rattle.test_engine.proofs.advancing.go_through_all.Given as goal

abbrev pub invariant-batches : goal.invariant-batches
invariant-batches l = All (IsSharedOf l.engine.problem) l.batches.items

abbrev pub decreases-batches : goal.decreases-batches
decreases-batches l = length l.batches.items
