-- How a list of saved marks holds them.
use Rattle.std.specs.Prelude.{◌≤◌, Bool, List, length, slice_range, reverse}
use Rattle.ll_laws.specs.Settle.{Saved}
use Rattle.ll_resources.specs.declared.saves.SavedMarks.{SavedMarks}
use Rattle.ll_resources.specs.Seen.{filled}

-- the block of a range, the oldest mark first
abbrev pub block_of : List Bool → SavedMarks → List Bool
block_of marks k = slice_range marks k.from k.to

-- the live marks and the flag that were kept
abbrev pub kept_marks : List Bool → SavedMarks → Saved
kept_marks marks k = record { live = filled k.count (reverse (block_of marks k)); flag = k.flag }

-- the range lies within the marks
abbrev pub IsWithin : List Bool → SavedMarks → Type 0
IsWithin marks k = (k.from ≤ k.to) × (k.to ≤ length marks)
