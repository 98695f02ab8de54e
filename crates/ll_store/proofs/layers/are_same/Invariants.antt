use Rattle.std.proofs.Common.{◌≡◌, take}
use Rattle.ll_store.specs.Layered.{segments_of}
use Rattle.ll_store.proofs.layers.are_same.Given as goal

abbrev pub invariant-loop-at : goal.invariant-loop-at
invariant-loop-at l = segments_of (take l.at l.segments) ≡ segments_of (take l.at l.others)
