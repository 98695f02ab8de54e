-- The pool's own data as contracts see them.
use Rattle.std.specs.Prelude.{◌≡◌, ℕ, ◌+◌, List, Bool, Option, Some, None, map, length, slice_get}
use Rattle.std.specs.Arc.{arc_value}
use Rattle.std.specs.declared.sync.Arc.{Arc}
use Rattle.std.specs.declared.alloc.Global.{Global}
use Rattle.ll_laws.specs.Pool.{Owed, Status, Open, Closed, Taken, Piece, PoolData, Alternative}
use Rattle.ll_laws.specs.declared.Event.{Event}
use Rattle.ll_core.specs.declared.room.State.{State}
use Rattle.ll_core.specs.declared.room.State.TheVariants as state
use Rattle.ll_core.specs.declared.room.Slot.{Slot}
use Rattle.ll_core.specs.declared.cursor.Stop.{Stop}

abbrev pub status_in : {E : Type 0} → State E → Status Event
status_in state.Open = Open
status_in (state.Closed report) = Closed report
status_in state.Taken = Taken

abbrev pub piece_in : {E : Type 0} → Slot E → Piece Event
piece_in s = record { batch = s.batch; k = s.k; worker = s.worker; published = s.published.items; status = status_in s.state }

abbrev pub stop_in : Stop → Alternative
stop_in s = record { batch = s.batch; k = s.k }

-- a pool of these batches and slots, in which so many alternatives wait
abbrev pub data_of : {N E : Type 0} → List (Arc N Global) → List (Slot E) → ℕ → ℕ → ℕ → Bool → Bool → PoolData N Event
data_of arcs slots waiting workers busy starved stopped = record {
  batches = map arc_value arcs;
  pieces = map piece_in slots;
  workers = workers;
  busy = busy;
  total = length slots + waiting;
  untried = waiting;
  starved = starved;
  stopped = stopped;
}

-- a closed report is taken, and any other state stays
abbrev pub TakesReport : {E : Type 0} → State E → Option (Owed Event) → State E → Type 0
TakesReport before (Some report) after = (status_in before ≡ Closed report) × (status_in after ≡ Taken)
TakesReport before None after = (after ≡ before) × ((report : Owed Event) → status_in before ≡ Closed report → ⊥)

-- none of the slots is open under this worker
abbrev pub NoneOpen : {E : Type 0} → List (Slot E) → ℕ → Type 0
NoneOpen {E = E} slots worker = (i : ℕ) (s : Slot E) → slice_get slots i ≡ Some s → status_in s.state ≡ Open → s.worker ≡ worker → ⊥
