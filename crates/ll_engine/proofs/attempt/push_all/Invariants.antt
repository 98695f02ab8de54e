use Rattle.std.proofs.Common.{◌≡◌, ◌≤◌, ◌++◌, length, drop}
use Rattle.ll_agenda.specs.Frames.{items_at, HasTop, Extends}
use Rattle.ll_engine.proofs.attempt.push_all.Given as goal

abbrev pub invariant-loop-at : goal.invariant-loop-at
invariant-loop-at l =
    (l.at ≤ length l.items) × HasTop l.agenda l.top × (items_at l.agenda l.top ≡ drop l.at l.items ++ items_at l.fn.agenda l.fn.rest)
    × Extends l.fn.agenda l.agenda

abbrev pub decreases-loop-at : goal.decreases-loop-at
decreases-loop-at l = l.at
