-- A program's clauses as the last entries of a context, which some of the linear ones may have been used up of.
use Rattle.std.specs.Prelude.{◌≡◌, ℕ, suc, Bool, false, List, [], ◌∷◌, Option, Some, None}
use Rattle.ll_bank.specs.Form.{Form}
use Rattle.ll_laws.specs.Module.{ClauseTree}
use Rattle.ll_laws.specs.Settle.{Entry}
use Rattle.ll_laws.specs.Attempt.{entry_at, is_open}

-- the entries are those of the program's clauses, with labels from n on, whatever their live marks
abbrev pub AreOfProgram : ℕ → List ClauseTree → List (Entry Form) → Type 0
AreOfProgram n [] [] = Unit {0}
AreOfProgram n (c ∷ cs) (e ∷ es) = (e.label ≡ n) × (e.kind ≡ c.kind) × (e.clause ≡ c.form) × AreOfProgram (suc n) cs es
AreOfProgram n _ _ = ⊥

-- an entry that there may not be can be picked
abbrev pub is_open_entry : Option (Entry Form) → Bool
is_open_entry None = false
is_open_entry (Some e) = is_open e

-- the entry with this label can be picked
abbrev pub is_open_at : List (Entry Form) → ℕ → Bool
is_open_at es label = is_open_entry (entry_at es label)
