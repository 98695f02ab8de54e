-- What a contract sees of the system's files and of its standard output: the counts, and what calls were answered and took.
use Rattle.std.specs.Prelude.{ℕ, ◌==◌, List, [], ◌∷◌, ◌++◌, if◌then◌else◌, slice_index, map}
use Rattle.ll_edge.specs.Counts.{Counts}
use Rattle.ll_edge.specs.Log.{Answer, Handed, NoText, Unreadable, Entry}
use Rattle.ll_edge.specs.Notes.{Note}

-- what is seen of the system's files
pub record FilesSeen : Type 0 where
  pub counts : Counts
  pub log : List Entry

-- the answer of a kind: 0 for bytes, 1 for no such text, 2 for one that can't be read
abbrev pub answer_of_kind : ℕ → List ℕ → Answer
answer_of_kind kind bytes = if kind == 0 then Handed bytes else if kind == 1 then NoText else Unreadable

-- what a note tells of a call of the files: its numbers are the place and the kind of the answer
abbrev pub entry_noted : Note → Entry
entry_noted note = record { name = note.name; from = slice_index note.numbers 0; answer = answer_of_kind (slice_index note.numbers 1) note.bytes }

abbrev pub log_noted : List Note → List Entry
log_noted notes = map entry_noted notes

-- what is seen of the standard output
pub record OutputSeen : Type 0 where
  pub faults : ℕ
  pub taken : List ℕ

-- the bytes of all notes, in order
abbrev pub bytes_noted : List Note → List ℕ
bytes_noted [] = []
bytes_noted (note ∷ notes) = note.bytes ++ bytes_noted notes
