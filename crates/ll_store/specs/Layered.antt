-- States of stores that are kept in layers.
use Rattle.std.specs.Prelude.{ℕ, List, length, map}
use Rattle.std.specs.Arc.{arc_value}
use Rattle.std.specs.declared.sync.Arc.{Arc}
use Rattle.std.specs.declared.alloc.Global.{Global}
use Rattle.ll_store.specs.declared.store.Store.{Store}
use Rattle.ll_store.specs.Stored.{State, stored, state_of}
use Rattle.ll_store.specs.Segments.{SegmentSight, state_after_all}

-- a state, and how many segments lead to it
pub record LayersSight : Type 0 where
  pub state : State
  pub depth : ℕ

-- the state of the whole store
abbrev pub whole_of : Arc Store Global → State
whole_of whole = state_of (stored (arc_value whole))

-- the segments
abbrev pub segments_of : List (Arc SegmentSight Global) → List SegmentSight
segments_of segments = map (λ s. arc_value s) segments

-- the state to which the segments lead
abbrev pub layered : Arc Store Global → List (Arc SegmentSight Global) → LayersSight
layered whole segments = record { state = state_after_all (segments_of segments) (whole_of whole); depth = length segments }
