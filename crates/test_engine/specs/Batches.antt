-- Batches of a problem.
use Rattle.std.specs.Prelude.{◌≡◌}
use Rattle.std.specs.Arc.{arc_value}
use Rattle.std.specs.declared.sync.Arc.{Arc}
use Rattle.std.specs.declared.alloc.Global.{Global}
use Rattle.ll_laws.specs.Problem.{ProblemTree}
use Rattle.ll_freeze.specs.Frozen.{FrozenSight}

abbrev pub IsBatchOf : ProblemTree → FrozenSight → Type 0
IsBatchOf problem batch = batch.problem ≡ problem

-- the same of one that is shared
abbrev pub IsSharedOf : ProblemTree → Arc FrozenSight Global → Type 0
IsSharedOf problem batch = IsBatchOf problem (arc_value batch)
