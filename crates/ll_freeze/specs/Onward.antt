-- What leads from one batch to another.
use Rattle.std.specs.Prelude.{◌≡◌, List}
use Rattle.ll_store.specs.Tables.{table_of}
use Rattle.ll_store.specs.Stored.{State}
use Rattle.ll_store.specs.Segments.{SegmentSight, state_after_all, BeginAll}
use Rattle.ll_freeze.specs.Parts.{Base}

-- what terms are read in, by the state of a store
abbrev pub base_in : State → Base
base_in s = record { bank = s.nodes; bound = (table_of s.cells).bound; levels = (table_of s.cells).levels }

-- from each state in which terms are read in the first, the segments lead to one in which they are read in the second
abbrev pub LeadOn : List SegmentSight → Base → Base → Type 0
LeadOn ss first second = (s : State) → base_in s ≡ first → BeginAll ss s × (base_in (state_after_all ss s) ≡ second)
