use Rattle.std.proofs.Common.{◌≡◌, take}
use Rattle.ll_store.specs.Stored.{stored, state_of}
use Rattle.ll_store.specs.Segments.{state_after_all}
use Rattle.ll_store.specs.Layered.{segments_of}
use Rattle.ll_store.proofs.store.Store.apply_segments.Given as goal

abbrev pub invariant-loop-segment : goal.invariant-loop-segment
invariant-loop-segment l = state_of (stored l.self) ≡ state_after_all (segments_of (take l.segment-index l.segments)) (state_of (stored l.fn.self))
