-- Whole-number goals: the values of expressions, and when a goal holds.
use Rattle.std.specs.Prelude.{ℕ, Bool, false, ℤ, pos, negsuc, ◌+ℤ◌, ◌-ℤ◌, ◌*ℤ◌, int_lt, int_le, nat_lt, List, [], slice_index_or, Option, Some, None}
use Rattle.std.specs.Prelude.{if◌then◌else◌, codes}
use Rattle.std.specs.Ordering.{int_eq}
use Rattle.std.specs.Str.{bytes_eq}
use Rattle.ll_bank.specs.declared.Head.TheVariants.{Name}
use Rattle.ll_bank.specs.Term.{Term, Int, Con, Ap}
use Rattle.ll_bank.specs.Form.{Relation, Is, Less, Most}

-- what an expression does with two whole numbers
pub data Operator : Type 0 where
  Sum Difference Product : Operator

-- the operator of each name, by its number
abbrev pub Operators : Type 0
Operators = ℕ → Option Operator

-- the operator that is spelled so
abbrev pub operator_spelled : List ℕ → Option Operator
operator_spelled w =
    if bytes_eq w (codes "+") then Some Sum else if bytes_eq w (codes "-") then Some Difference else if bytes_eq w (codes "*") then Some Product else None

-- the operators among these names
abbrev pub operators_of : List (List ℕ) → Operators
operators_of names n = operator_spelled (slice_index_or names n [])

-- the operator of a head
abbrev pub operator_of : Operators → Term → Option Operator
operator_of ops (Con (Name n)) = ops n
operator_of ops _ = None

-- what an operator makes of two numbers
abbrev pub operated : Operator → ℤ → ℤ → ℤ
operated Sum x y = x +ℤ y
operated Difference x y = x -ℤ y
operated Product x y = x *ℤ y

-- the number has 64 bits with its sign
abbrev pub has_64_bits : ℤ → Bool
has_64_bits (pos n) = nat_lt n 9223372036854775808
has_64_bits (negsuc n) = nat_lt n 9223372036854775808

-- a number that has 64 bits
abbrev pub exactly : ℤ → Option ℤ
exactly z = if has_64_bits z then Some z else None

-- the value of an operator's two sides, where they have values
abbrev pub combined : Option Operator → Option ℤ → Option ℤ → Option ℤ
combined (Some o) (Some x) (Some y) = exactly (operated o x y)
combined _ _ _ = None

-- the value of an expression: a whole number has itself, and an operator with two sides the exact result, where both have a value
-- and the result has 64 bits; nothing else has one
abbrev pub value_of : Operators → Term → Option ℤ
value_of ops (Int z) = Some z
value_of ops (Ap (Ap h x) y) = combined (operator_of ops h) (value_of ops x) (value_of ops y)
value_of ops _ = None

-- the term is this whole number
abbrev pub is_number : Term → Option ℤ → Bool
is_number (Int y) (Some z) = int_eq y z
is_number _ _ = false

-- a test of two values, where there are both
abbrev pub compared : (ℤ → ℤ → Bool) → Option ℤ → Option ℤ → Bool
compared test (Some x) (Some y) = test x y
compared test _ _ = false

-- a whole-number goal holds of its two terms
abbrev pub holds : Operators → Relation → Term → Term → Bool
holds ops Is t u = is_number t (value_of ops u)
holds ops Less t u = compared int_lt (value_of ops t) (value_of ops u)
holds ops Most t u = compared int_le (value_of ops t) (value_of ops u)
