use Rattle.std.proofs.Common.{◌≡◌, ◌≤◌, ◌++◌, length, drop}
use Rattle.ll_prooftext.specs.Tables.{entries}
use Rattle.ll_prooftext.proofs.table.push_entries.Given as goal

abbrev pub invariant-loop-i : goal.invariant-loop-i
invariant-loop-i l = (l.tasks.items ≡ l.initial.tasks.items ++ entries (drop l.i l.places)) × (l.i ≤ length l.places)

abbrev pub decreases-loop-i : goal.decreases-loop-i
decreases-loop-i l = l.i
