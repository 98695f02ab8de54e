use Rattle.std.proofs.Common.{◌≡◌, ◌++◌, length, vec_len}
use Rattle.ll_agenda.specs.Frames.{items_at, HasTop}
use Rattle.ll_agenda.proofs.agenda.Agenda.from_items.Given as goal

abbrev pub invariant-loop-item : goal.invariant-loop-item
invariant-loop-item g l = (l.items.items ++ items_at l.agenda l.top ≡ l.fn.items.items) × (length l.agenda
    ≡ length (items_at l.agenda l.top)) × HasTop l.agenda l.top

abbrev pub decreases-loop-item : goal.decreases-loop-item
decreases-loop-item g l = vec_len l.items
