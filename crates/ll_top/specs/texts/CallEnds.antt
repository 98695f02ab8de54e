-- How a call of the program ends that comes to this.
use Rattle.std.specs.Prelude.{◌≡◌, ℕ, List, Option}
use Rattle.std.specs.Io.KnownBytes.{append_known}
use Rattle.ll_edge.specs.Pieces.{AppendsFront}

-- what was appended where memory ran out: nothing, or a prefix of what would have been written
pub data AppendsOwn (Comes : ℕ → List ℕ → Type 0) (before after : Option (List ℕ)) : Type 0 where
  nothing : after ≡ before → AppendsOwn Comes before after
  front : (status : ℕ) (text : List ℕ) → Comes status text → AppendsFront before text after → AppendsOwn Comes before after

-- How a call ends that comes to this: its whole text was written; or a write failed, with a prefix of it written; or memory ran out.
-- `write_failed` says that the sink's count of faults rose.
pub data Ends (Comes : ℕ → List ℕ → Type 0) (write_failed : Type 0) (before after : Option (List ℕ)) (status : ℕ) : Type 0 where
  whole : (text : List ℕ) → Comes status text → after ≡ append_known before text → Ends Comes write_failed before after status
  unwritable : (meant : ℕ) (text : List ℕ) → Comes meant text → write_failed → status ≡ 6 → AppendsFront before text after
      → Ends Comes write_failed before after status
  no_memory : status ≡ 10 → AppendsOwn Comes before after → Ends Comes write_failed before after status
