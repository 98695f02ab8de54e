-- A store as contracts see it, its marks, and the state at a mark.
use Rattle.std.specs.Prelude.{◌≡◌, ◌≤◌, List, length, take, drop, All, IfSome}
use Rattle.ll_bank.specs.Nodes.{Nodes, front, HasSize, IsNotPast, HasTerm}
use Rattle.ll_store.specs.declared.cells.Cell.{Cell}
use Rattle.ll_store.specs.declared.cells.Change.{Change}
use Rattle.ll_store.specs.declared.store.Mark.{Mark}
use Rattle.ll_store.specs.declared.store.Store.{Store}
use Rattle.ll_store.specs.Cells.{before}

-- what a store is in: its cells, and the nodes of its bank
pub record State : Type 0 where
  pub nodes : Nodes
  pub cells : List Cell

-- a store: its state, and the changes that led to it
pub record Stored : Type 0 where
  pub nodes : Nodes
  pub cells : List Cell
  pub changes : List Change

-- a store as its nodes, its cells and its changes
abbrev pub stored : Store → Stored
stored s = record { nodes = s.bank; cells = s.cells.cells; changes = s.cells.changes }

abbrev pub state_of : Stored → State
state_of s = record { nodes = s.nodes; cells = s.cells }

-- the state at a mark: the changes past it are taken back, and the cells and places past it left out
abbrev pub state_at : Mark → Stored → State
state_at m s = record { nodes = front s.nodes m.bank; cells = take m.cells (before (drop m.trail s.changes) s.cells) }

-- each cell of a state is bound to a place of it, or unbound
abbrev pub AreWithin : State → Type 0
AreWithin s = All (λ c. IfSome c.to (λ at. HasTerm s.nodes at.0)) s.cells

-- the mark is a good one
pub record IsGood (m : Mark) (s : Stored) : Type 0 where
  pub cells : m.cells ≤ length s.cells
  pub trail : m.trail ≤ length s.changes
  pub bank : HasSize s.nodes m.bank
  pub within : AreWithin (state_at m s)

-- the mark is a good one, and stands for this state
pub record StandsFor (m : Mark) (r : State) (s : Stored) : Type 0 where
  pub good : IsGood m s
  pub state : state_at m s ≡ r

-- each good mark stays good, with its state
abbrev pub KeepsMarks : Stored → Stored → Type 0
KeepsMarks old new = (m : Mark) → IsGood m old → StandsFor m (state_at m old) new

-- no number of a mark is past that of another
pub record IsBefore (m other : Mark) : Type 0 where
  pub cells : m.cells ≤ other.cells
  pub trail : m.trail ≤ other.trail
  pub bank : IsNotPast m.bank other.bank

-- each good mark with no number past this one's stays good, with its state
abbrev pub KeepsMarksTo : Mark → Stored → Stored → Type 0
KeepsMarksTo last old new = (m : Mark) → IsBefore m last → IsGood m old → StandsFor m (state_at m old) new
