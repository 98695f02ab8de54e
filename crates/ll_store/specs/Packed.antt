-- Cells and changes by how they are kept.
use Rattle.std.specs.Prelude.{ℕ, nat_eq, Option, Some, None, if◌then◌else◌}
use Rattle.ll_bank.specs.declared.At.{At}
use Rattle.ll_store.specs.declared.cells.Cell.{Cell}
use Rattle.ll_store.specs.declared.cells.Change.{Change}
use Rattle.ll_store.specs.declared.cells.Change.TheVariants.{Bound, Lowered}
use Rattle.ll_store.specs.declared.packed.Slot.{Slot}
use Rattle.ll_store.specs.declared.packed.Entry.{Entry}

-- the number that stands for nothing
abbrev pub nothing : ℕ
nothing = 4294967295

-- the place that is kept, if there is one
abbrev pub place_of : ℕ → Option At
place_of kept = if nat_eq kept nothing then None else Some (record { 0 = kept })

abbrev pub cell_of : Slot → Cell
cell_of s = record { to = place_of s.to; level = s.level }

abbrev pub change_of : Entry → Change
change_of e = if nat_eq e.level nothing then Bound e.var else Lowered e.var e.level
