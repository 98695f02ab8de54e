use Rattle.std.proofs.Common.{◌≡◌, ◌++◌, length}
use Rattle.ll_agenda.specs.Frames.{items_at, HasTop}
use Rattle.ll_agenda.proofs.agenda.Agenda.items.Given as goal

abbrev pub invariant-loop-item : goal.invariant-loop-item
invariant-loop-item g l = (l.items.items ++ items_at l.self l.rest ≡ items_at l.fn.self l.fn.top) × (l.self ≡ l.fn.self) × HasTop l.self l.rest

abbrev pub decreases-loop-item : goal.decreases-loop-item
decreases-loop-item g l = length (items_at l.self l.rest)
