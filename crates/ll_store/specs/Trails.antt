-- Cells with the changes that led to them.
use Rattle.std.specs.Prelude.{◌≡◌, ◌≤◌, ◌++◌, ℕ, List, Option, Some, None, slice_get, option_map}
use Rattle.ll_bank.specs.declared.At.{At}
use Rattle.ll_store.specs.declared.cells.Cell.{Cell}
use Rattle.ll_store.specs.declared.cells.Change.{Change}
use Rattle.ll_store.specs.Cells.{before}

-- cells, and the changes on their trail, the oldest first
pub record Trailed : Type 0 where
  pub cells : List Cell
  pub changes : List Change

-- the later cells have more changes, and taking these back gives the earlier ones
pub record Grows (old new : Trailed) : Type 0 where
  pub more : List Change
  pub changes : new.changes ≡ old.changes ++ more
  pub back : before more new.cells ≡ old.cells

-- the variable has a cell, which is unbound
abbrev pub IsUnbound : List Cell → ℕ → Type 0
IsUnbound cells x = option_map (λ c. c.to) (slice_get cells x) ≡ Some None

-- what a variable is bound to
abbrev pub cell_to : List Cell → ℕ → Option (Option At)
cell_to cells x = option_map (λ c. c.to) (slice_get cells x)

-- the level of a variable
abbrev pub cell_level : List Cell → ℕ → Option ℕ
cell_level cells x = option_map (λ c. c.level) (slice_get cells x)

-- the variable has a cell, and the level is not above its own
pub record IsAtMost (level : ℕ) (cells : List Cell) (x : ℕ) : Type 0 where
  pub own : ℕ
  pub is : cell_level cells x ≡ Some own
  pub most : level ≤ own
