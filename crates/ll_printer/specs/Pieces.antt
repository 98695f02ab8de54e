-- What a refusal leaves.
use Rattle.std.specs.Prelude.{◌≡◌, ℕ, List, ◌++◌}

-- some first bytes of the text were appended
pub record BeginsText (text old new : List ℕ) : Type 0 where
  pub written : List ℕ
  pub rest : List ℕ
  pub is : new ≡ old ++ written
  pub begun : text ≡ written ++ rest
