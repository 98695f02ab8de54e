use Rattle.std.proofs.Common.{◌≡◌, ◌+◌, ◌++◌, map, take, length}
use Rattle.std.specs.Vec.{vec_capacity}
use Rattle.ll_core.specs.Slots.{stop_in}
use Rattle.ll_core.specs.Cursor.{begin}
use Rattle.ll_core.proofs.cursor.advance.Given as goal

abbrev pub invariant-loop-batch : goal.invariant-loop-batch
invariant-loop-batch l = (vec_capacity l.stack ≡ vec_capacity l.initial.stack) × (length l.stack.items ≡ length l.initial.stack.items + l.batch-index)
    × (map stop_in l.stack.items ≡ map stop_in l.initial.stack.items ++ map begin (take l.batch-index l.published.items))
