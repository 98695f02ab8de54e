-- What unification makes of a store's bindings.
use Rattle.std.specs.Prelude.{◌≡◌, ℕ, Bool, true, false, Option, Some, None}
use Rattle.ll_bank.specs.declared.At.{At}
use Rattle.ll_bank.specs.Term.{Term, sub}
use Rattle.ll_bank.specs.Nodes.{Nodes}
use Rattle.ll_unify.specs.Bindings.{Table, IsTable, count}
use Rattle.ll_store.specs.declared.store.Store.{Store}
use Rattle.ll_store.specs.Tables.{table_of}
use Rattle.ll_laws.specs.Unify.{Solved}
use Rattle.ll_freeze.specs.Reading.{reading, read_term}

-- the term at a place, read under the bindings of a store
abbrev pub read_in : Store → At → Term
read_in s at = read_term s.bank (table_of s.cells.cells).bound at

-- in a bank that may have more places, the bindings and levels are the old ones, followed by what unification finds
pub record IsUnified (first bank : Nodes) (old new : Table) (v : Solved) : Type 0 where
  pub levels_are : new.levels ≡ v.levels
  pub table : IsTable bank new
  pub same_count : count new ≡ count old
  pub reads : (x : ℕ) → reading bank new.bound x ≡ sub v.subst (reading first old.bound x)

-- the answer is true exactly where unification finds something
abbrev pub Unifies : Nodes → Nodes → Table → Table → Option Solved → Bool → Type 0
Unifies first bank old new (Some v) true = IsUnified first bank old new v
Unifies first bank old new None false = Unit {0}
Unifies first bank old new _ _ = ⊥
