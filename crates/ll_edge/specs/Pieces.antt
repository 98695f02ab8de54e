-- What a sink holds, where it tells it, and the bytes that calls of it took.
use Rattle.std.specs.Prelude.{◌≡◌, ℕ, ◌≤◌, ◌<◌, List, [], ◌++◌, Option, Result, Ok, Err, length, take}
use Rattle.std.specs.Io.KnownBytes.{append_known}
use Rattle.ll_edge.specs.declared.sink.WriteFailed.{WriteFailed}

-- the first bytes of a piece were appended, maybe none and maybe all
pub record AppendsFront (before : Option (List ℕ)) (piece : List ℕ) (after : Option (List ℕ)) : Type 0 where
  pub taken : ℕ
  pub within : taken ≤ length piece
  pub appended : after ≡ append_known before (take taken piece)

-- what this answer took of a piece
abbrev pub taken_of : List ℕ → Result ℕ WriteFailed → List ℕ
taken_of piece (Ok n) = take n piece
taken_of piece (Err refusal) = []

-- calls took the first bytes of a piece, maybe none, but not all of it
pub record TakesFront (before piece after : List ℕ) : Type 0 where
  pub count : ℕ
  pub short : count < length piece
  pub takes : after ≡ before ++ take count piece
