use Rattle.std.proofs.Common.{◌≡◌, ◌≤◌, ◌+◌, ◌++◌, map, take, length}
use Rattle.std.specs.Vec.{vec_len, vec_capacity}
use Rattle.ll_store.specs.Packed.{change_of}
use Rattle.ll_store.specs.Segments.{Renewed, renewed_of}
use Rattle.ll_store.proofs.segment.note_changes.Given as goal

abbrev pub invariant-loop-renewal : goal.invariant-loop-renewal
invariant-loop-renewal l =
    (map change_of l.trail.items ≡ map change_of l.fn.trail.items ++ map (λ (r : Renewed). r.change) (map renewed_of (take l.renewal-index l.renewed)))
    × (vec_len l.trail + length l.renewed ≤ vec_capacity l.trail + l.renewal-index)
