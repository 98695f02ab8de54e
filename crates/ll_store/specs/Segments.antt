-- What leads from one state of a store to a later one: changes of cells, more cells, and more nodes.
use Rattle.std.specs.Prelude.{◌≡◌, ℕ, nat_lt, ◌++◌, List, [], ◌∷◌, length, map, take, None, slice_index_or, Bool, true, false}
use Rattle.ll_bank.specs.Nodes.{size_of}
use Rattle.ll_bank.specs.Tail.{Tail, with_nodes}
use Rattle.ll_store.specs.declared.cells.Cell.{Cell}
use Rattle.ll_store.specs.declared.cells.Change.{Change}
use Rattle.ll_store.specs.declared.cells.Change.TheVariants.{Bound, Lowered}
use Rattle.ll_store.specs.declared.segment.Renewal.{Renewal}
use Rattle.ll_store.specs.Cells.{update, before}
use Rattle.ll_store.specs.Packed.{cell_of, change_of}
use Rattle.ll_store.specs.Trails.{Trailed}
use Rattle.ll_store.specs.Stored.{State}

-- the variable of a change
abbrev pub changed_in : Change → ℕ
changed_in (Bound x) = x
changed_in (Lowered x l) = x

-- a change of a cell, and what the cell is in the end
pub record Renewed : Type 0 where
  pub change : Change
  pub cell : Cell

-- how a change and a cell are kept
abbrev pub renewed_of : Renewal → Renewed
renewed_of r = record { change = change_of r.entry; cell = cell_of r.slot }

-- a change with what its cell is among these
abbrev pub renewal : List Cell → Change → Renewed
renewal cells c = record { change = c; cell = slice_index_or cells (changed_in c) (record { to = None; level = 0 }) }

-- one more in front, if it is to be kept
abbrev pub kept_if : {A : Type 0} → Bool → A → List A → List A
kept_if true x xs = x ∷ xs
kept_if false x xs = xs

-- those of the changes that are of the first cells, so many of them, each with what its cell is
abbrev pub renewals : ℕ → List Cell → List Change → List Renewed
renewals n cells [] = []
renewals n cells (c ∷ cs) = kept_if (nat_lt (changed_in c) n) (renewal cells c) (renewals n cells cs)

-- the cells that changed, each as it is in the end
abbrev pub renew : List Renewed → List Cell → List Cell
renew [] cells = cells
renew (r ∷ rs) cells = renew rs (update (changed_in r.change) (λ c. r.cell) cells)

-- what leads from cells to later ones: changes of those cells, which are so many, and the cells behind them
pub record CellSight : Type 0 where
  pub count : ℕ
  pub renewed : List Renewed
  pub more : List Cell

-- the later cells
abbrev pub cells_after : CellSight → List Cell → List Cell
cells_after s cells = renew s.renewed cells ++ s.more

-- the changes, from the oldest on
abbrev pub changes_in : CellSight → List Change
changes_in s = map (λ r. r.change) s.renewed

-- The segment begins with these cells: taking its changes back leads from the later cells to them.
pub record BeginsCells (s : CellSight) (cells : List Cell) : Type 0 where
  pub count : length cells ≡ s.count
  pub back : take s.count (before (changes_in s) (cells_after s cells)) ≡ cells

-- the segment leads from these cells to those
pub record LeadsCells (s : CellSight) (first second : List Cell) : Type 0 where
  pub begins : BeginsCells s first
  pub ends : cells_after s first ≡ second

-- the cells went on to those to which the segment leads, and the changes were noted
pub record Continues (s : CellSight) (old new : Trailed) : Type 0 where
  pub cells : new.cells ≡ cells_after s old.cells
  pub changes : new.changes ≡ old.changes ++ changes_in s

-- what leads from a state to a later one
pub record SegmentSight : Type 0 where
  pub cells : CellSight
  pub tail : Tail

-- the later state: the earlier one and the segment fix it
abbrev pub state_after : SegmentSight → State → State
state_after s st = record { nodes = with_nodes st.nodes s.tail.nodes; cells = cells_after s.cells st.cells }

-- the segment begins with this state
pub record Begins (s : SegmentSight) (st : State) : Type 0 where
  pub size : size_of st.nodes ≡ s.tail.from
  pub cells : BeginsCells s.cells st.cells

-- the segment leads from the first of two states to the second
pub record Leads (s : SegmentSight) (first second : State) : Type 0 where
  pub begins : Begins s first
  pub ends : state_after s first ≡ second

-- the state to which segments lead, one after another
abbrev pub state_after_all : List SegmentSight → State → State
state_after_all [] st = st
state_after_all (s ∷ ss) st = state_after_all ss (state_after s st)

-- each segment begins with the state to which those before it lead
abbrev pub BeginAll : List SegmentSight → State → Type 0
BeginAll [] st = Unit {0}
BeginAll (s ∷ ss) st = Begins s st × BeginAll ss (state_after s st)

-- segments lead from the first of two states to the second, one after another
pub record LeadAll (ss : List SegmentSight) (first second : State) : Type 0 where
  pub begins : BeginAll ss first
  pub ends : state_after_all ss first ≡ second
