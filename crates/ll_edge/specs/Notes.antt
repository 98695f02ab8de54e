-- Notes of calls.
use Rattle.std.specs.Prelude.{ℕ, List}

-- a note of one call: its numbers, the name that it is about, and the bytes that it gave or took
pub record Note : Type 0 where
  pub numbers : List ℕ
  pub name : List ℕ
  pub bytes : List ℕ
