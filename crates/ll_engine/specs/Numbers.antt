-- The values of the two sides of a comparison.
use Rattle.std.specs.Prelude.{ℤ, Bool, false, Option, Some, None}
use Rattle.ll_engine.specs.declared.numbers.Values.{Values}

-- a test of two values, where there are both
abbrev pub tested : (ℤ → ℤ → Bool) → Option Values → Bool
tested test None = false
tested test (Some v) = test v.left v.right
