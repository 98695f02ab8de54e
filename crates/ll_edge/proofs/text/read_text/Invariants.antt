use Rattle.std.proofs.Common.{◌≡◌, ◌+◌, ◌<◌, ◌≤◌, vec_len, ◌-◌}
use Rattle.ll_edge.specs.Log.{ShelfKept, Hands}
use Rattle.ll_edge.proofs.text.read_text.Given as goal

abbrev pub invariant-loop-chunk : goal.invariant-loop-chunk
invariant-loop-chunk g l = record {
  chunk : 0 < vec_len l.chunk;
  within : vec_len l.text ≤ l.limit + 1;
  kept : ShelfKept g.F.Shelf.texts g.F.Shelf.faults g.F.Shelf.absences g.F.Shelf.log l.initial.shelf l.shelf;
  no_fault : g.F.Shelf.faults l.shelf ≡ g.F.Shelf.faults l.initial.shelf;
  no_absence : g.F.Shelf.absences l.shelf ≡ g.F.Shelf.absences l.initial.shelf;
  hands : Hands l.name (g.F.Shelf.log l.initial.shelf) (g.F.Shelf.log l.shelf) l.text.items;
}

abbrev pub decreases-loop-chunk : goal.decreases-loop-chunk
decreases-loop-chunk g l = l.limit + 1 - vec_len l.text
