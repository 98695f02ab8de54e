-- A context with the states from which it came, and its marks.
use Rattle.std.specs.Prelude.{◌≡◌, ◌≤◌, Bool, true, false, List, [], length, slice_index_or, Some, None}
use Rattle.ll_resources.specs.declared.context.ContextMark.{ContextMark}
use Rattle.ll_resources.specs.Resources.{Resources, End, settled}

-- a context as contracts see it
pub record History (C : Type 0) : Type 0 where
  -- as it stands
  pub present : Resources C
  -- the states from which it came, one after another
  pub past : List (Resources C)

-- a context that came from no other state
abbrev pub begun : {C : Type 0} → Resources C → History C
begun r = record { present = r; past = [] }

-- the mark is a good one of this context: it is of one of its states
abbrev pub HasMark : {C : Type 0} → ContextMark → History C → Type 0
HasMark mark h = mark.changes ≤ length h.past

-- the state at a mark: the one that the context was in after so many changes
abbrev pub state_at : {C : Type 0} → ContextMark → History C → Resources C
state_at mark h = slice_index_or h.past mark.changes h.present

-- the mark is a good one, and stands for this state
pub record StandsFor {C : Type 0} (mark : ContextMark) (r : Resources C) (h : History C) : Type 0 where
  pub good : HasMark mark h
  pub state : state_at mark h ≡ r

-- each good mark stays good, with its state
abbrev pub KeepsMarks : {C : Type 0} → History C → History C → Type 0
KeepsMarks old new = (mark : ContextMark) → HasMark mark old → StandsFor mark (state_at mark old) new

-- no number of a mark is past that of another
abbrev pub IsNotPast : ContextMark → ContextMark → Type 0
IsNotPast mark other = mark.changes ≤ other.changes

-- each good mark that is not past this one stays good, with its state
abbrev pub KeepsMarksTo : {C : Type 0} → ContextMark → History C → History C → Type 0
KeepsMarksTo last old new = (mark : ContextMark) → IsNotPast mark last → HasMark mark old → StandsFor mark (state_at mark old) new

-- no good mark is past this one
abbrev pub IsLastMark : {C : Type 0} → ContextMark → History C → Type 0
IsLastMark last h = (mark : ContextMark) → HasMark mark h → IsNotPast mark last

-- an end is worked off exactly where the answer is true; where it is false the context is as before
abbrev pub Settles : {C : Type 0} → End → History C → History C → Bool → Type 0
Settles end old new true = settled end old.present ≡ Some new.present
Settles end old new false = (settled end old.present ≡ None) × (new ≡ old)
