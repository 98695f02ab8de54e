-- The bindings made so far as a table.
use Rattle.std.specs.Prelude.{◌≡◌, ℕ, List, length, None}
use Rattle.ll_unify.specs.Bindings.{Table, cell}
use Rattle.ll_unify.specs.declared.mgu_table.Table.{Table as KeptTable}

-- what the variables are bound to, and their levels
abbrev pub table_of : KeptTable → Table
table_of t = record { bound = t.bound.items; levels = t.levels.items }

-- a table of these levels without bindings
pub record IsStart (t : KeptTable) (ls : List ℕ) : Type 0 where
  pub count : length t.bound.items ≡ length ls
  pub free : (x : ℕ) → cell (table_of t) x ≡ None
  pub levels : t.levels.items ≡ ls
