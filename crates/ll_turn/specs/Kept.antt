-- What a kept type owes: what its meanings say of the numbers of passes, and the two laws.
use Rattle.std.specs.Prelude.{◌≡◌}
use Rattle.ll_turn.specs.Numbers.{Numbers, HasToGive, AllDifferent, IsFirst, IsParted}

module _ {S P M : Type 0} (numbers : M → Numbers) where
  -- the data of the first pass have the number 0, and those from 1 on to give
  abbrev pub BeginsFirst : (S → P → M → Type 0) → (S → P × M) → Type 0
  BeginsFirst fit begin = (value : S) → fit value (begin value).0 (begin value).1 → IsFirst (numbers (begin value).1)

  -- a change of the value keeps the number and the range to give
  abbrev pub KeepsNumbers : (P → S → M → S → M) → Type 0
  KeepsNumbers next = (p : P) (before : S) (mine : M) (after : S) → numbers (next p before mine after) ≡ numbers mine

  -- Law 1: after a lawful change the value fits the next data of the pass that made it, and each other pass that it fitted
  abbrev pub ChangeFits : (S → P → M → Type 0) → (P → S → M → S → Type 0) → (P → S → M → S → M) → Type 0
  ChangeFits fit lawful next = (p : P) (before : S) (mine : M) (after : S) → fit before p mine → lawful p before mine after
      → fit after p (next p before mine after)
      × ((other : M) → fit before p other → AllDifferent (numbers mine) (numbers other) → fit after p other)

  -- Law 2: a value that fits a pass with a number to give fits both parts of it
  abbrev pub PartsFit : (S → P → M → Type 0) → (M → M × M) → Type 0
  PartsFit fit parted = (p : P) (value : S) (mine : M) → HasToGive (numbers mine) → fit value p mine
      → fit value p (parted mine).0 × fit value p (parted mine).1

-- the least number to give goes from the splitting pass to the new one
abbrev pub PartsNumbers : {M : Type 0} → (M → Numbers) → (M → M × M) → Type 0
PartsNumbers {M = M} numbers parted =
    (mine : M) → HasToGive (numbers mine) → IsParted (numbers mine) (numbers (parted mine).0) (numbers (parted mine).1)
