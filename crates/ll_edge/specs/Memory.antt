-- A shelf and a sink in memory, whose calls fail at given numbers.
use Rattle.std.specs.Prelude.{ℕ, ◌+◌, ◌-◌, ◌==◌, ◌++◌, min, Bool, List, Option, Some, None, Result, Ok, Err, if◌then◌else◌, [], length, take, drop}
use Rattle.std.specs.Prelude.{slice_index, map, ◌∷◌, String, Vec}
use Rattle.std.specs.Prelude.{string_bytes}
use Rattle.std.specs.List.{list_any}
use Rattle.std.specs.Vec.{vec_items}
use Rattle.ll_edge.specs.Counts.{Counts, counted_up, counts_after, faults_after}
use Rattle.ll_edge.specs.Log.{Answer, Handed, NoText, Unreadable, Entry}
use Rattle.ll_edge.specs.Notes.{Note}
use Rattle.ll_edge.specs.Pieces.{taken_of}
use Rattle.ll_edge.specs.Texts.{Texts, text_of}
use Rattle.ll_edge.specs.declared.shelf.Got.{Got}
use Rattle.ll_edge.specs.declared.shelf.Got.TheVariants.{Bytes, Absent, Failed}
use Rattle.ll_edge.specs.declared.sink.WriteFailed.{WriteFailed}

-- named texts as a program holds them, seen as bytes
abbrev pub texts_shown : {A B : Type 0} → List (String A × Vec ℕ B) → Texts
texts_shown entries = map (λ entry. (string_bytes entry.0, vec_items entry.1)) entries

-- the call with this number is one of those that fail
abbrev pub is_failing : List ℕ → ℕ → Bool
is_failing failing call = list_any (λ number. number == call) failing

-- what a call of a shelf in memory asked for, and whether it failed; it had room for one byte, and so many beyond it
pub record Asked : Type 0 where
  pub name : List ℕ
  pub from : ℕ
  pub beyond : ℕ
  pub fails : Bool

-- what a note tells of a call of a shelf in memory
abbrev pub asked_of : Note → Asked
asked_of note = record {
  name = note.name;
  from = slice_index note.numbers 0;
  beyond = slice_index note.numbers 1;
  fails = slice_index note.numbers 2 == 1;
}

-- a shelf in memory: its texts, the numbers of the calls that fail, the number of the next call, its counts, and what was asked of it so far
pub record ShelfState : Type 0 where
  pub texts : Texts
  pub failing : List ℕ
  pub next_call : ℕ
  pub counts : Counts
  pub asked : List Asked

-- as many bytes of a text from a place on as there is room for, handed out: one, and so many beyond it
abbrev pub handed_of : Option (List ℕ) → ℕ → ℕ → Answer
handed_of None from beyond = NoText
handed_of (Some text) from beyond = Handed (take (beyond + 1) (drop from text))

-- the answer that these texts give to what was asked, as an entry of the log
abbrev pub entry_of : Texts → Asked → Entry
entry_of texts asked = record {
  name = asked.name;
  from = asked.from;
  answer = if asked.fails then Unreadable else handed_of (text_of texts asked.name) asked.from asked.beyond;
}

-- the log of a shelf in memory
abbrev pub log_of : ShelfState → List Entry
log_of shelf = map (entry_of shelf.texts) shelf.asked

-- as many bytes of a text from a place on as there is room for
abbrev pub part_of : Option (List ℕ) → ℕ → ℕ → Got
part_of None from room = Absent
part_of (Some text) from room = Bytes (min room (length text - from))

-- what a shelf in memory answers
abbrev pub shelf_answer : ShelfState → List ℕ → ℕ → ℕ → Got
shelf_answer shelf name from room =
    if is_failing shelf.failing shelf.next_call then Failed else part_of (text_of shelf.texts name) from room

-- what is asked of a shelf in memory by this call
abbrev pub asked_now : ShelfState → List ℕ → ℕ → ℕ → Asked
asked_now shelf name from room = record { name = name; from = from; beyond = room - 1; fails = is_failing shelf.failing shelf.next_call }

-- a shelf in memory after this call and its answer
abbrev pub shelf_after : ShelfState → List ℕ → ℕ → ℕ → Got → ShelfState
shelf_after shelf name from room answer = record shelf {
  next_call = counted_up shelf.next_call;
  counts = counts_after shelf.counts answer;
  asked = shelf.asked ++ asked_now shelf name from room ∷ [];
}

-- a sink in memory: what was written, how many bytes it takes in all, the numbers of the calls that fail, the number of the next call, and its count
pub record SinkState : Type 0 where
  pub written : List ℕ
  pub room : ℕ
  pub failing : List ℕ
  pub next_call : ℕ
  pub faults : ℕ

-- what a sink in memory answers: it takes what fits
abbrev pub sink_answer : SinkState → List ℕ → Result ℕ WriteFailed
sink_answer sink piece =
    if is_failing sink.failing sink.next_call
    then Err (record {})
    else Ok (min (length piece) (sink.room - length sink.written))

-- a sink in memory after this answer to a piece
abbrev pub sink_after : SinkState → List ℕ → Result ℕ WriteFailed → SinkState
sink_after sink piece answer = record sink {
  written = sink.written ++ taken_of piece answer;
  next_call = counted_up sink.next_call;
  faults = faults_after sink.faults piece answer;
}
