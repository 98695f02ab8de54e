use Rattle.std.proofs.Common.{◌≡◌, take}
use Rattle.ll_store.specs.Layered.{segments_of}
use Rattle.ll_store.proofs.layers.shared.Given as goal

abbrev pub invariant-loop-segment : goal.invariant-loop-segment
invariant-loop-segment l = segments_of l.made.items ≡ segments_of (take l.segment-index l.segments)
