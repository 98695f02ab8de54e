-- The numbers of passes. Each pass has its own, and a range of numbers that it has still to give to new passes.
use Rattle.std.specs.Prelude.{◌≡◌, ◌⊎◌, ℕ, ◌+◌, ◌<◌, ◌≤◌}

-- the own number, and the range to give, which begins with `from` and ends before `end`
pub record Numbers : Type 0 where
  pub own : ℕ
  pub from : ℕ
  pub end : ℕ

-- there is a number to give
abbrev pub HasToGive : Numbers → Type 0
HasToGive a = a.from < a.end

-- the number is the pass's own or one that it has to give
abbrev pub Has : Numbers → ℕ → Type 0
Has a n = (n ≡ a.own) ⊎ ((a.from ≤ n) × (n < a.end))

-- the pass has not its own number to give
abbrev pub IsProper : Numbers → Type 0
IsProper a = (a.from ≤ a.own) → ¬ (a.own < a.end)

-- no number is of both passes
abbrev pub Apart : Numbers → Numbers → Type 0
Apart a b = (n : ℕ) → Has a n → ¬ Has b n

-- the numbers of two passes and the numbers that they have to give are all different
abbrev pub AllDifferent : Numbers → Numbers → Type 0
AllDifferent a b = IsProper a × IsProper b × Apart a b

-- the number is 0, and the range to give, where it is not empty, begins with 1 and lies below 4,294,967,296
abbrev pub IsFirst : Numbers → Type 0
IsFirst a = (a.own ≡ 0) × (HasToGive a → (a.from ≡ 1) × (a.end ≤ 4294967296))

-- the splitting pass has its least number to give no more. The new pass has this number, and none to give
abbrev pub IsParted : Numbers → Numbers → Numbers → Type 0
IsParted a left right = (left.own ≡ a.own) × (left.from ≡ a.from + 1) × (left.end ≡ a.end)
    × (right.own ≡ a.from) × (right.end ≤ right.from)
