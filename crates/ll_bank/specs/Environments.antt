-- Environments: variables that were made one after another, for which bound places stand.
use Rattle.std.specs.Prelude.{ℕ, zero, suc, ◌-◌, ◌≤◌, [], ◌∷◌, Some}
use Rattle.ll_bank.specs.Term.{Var, Env}
use Rattle.ll_bank.specs.declared.environment.Environment.{Environment}

-- what the bound places stand for, the innermost first: the variables before a number, so many, the last one first
abbrev pub values_before : ℕ → ℕ → Env
values_before end zero = []
values_before end (suc count) = Some (Var (end - 1)) ∷ values_before (end - 1) count

abbrev pub values_in : Environment → Env
values_in e = values_before e.end e.count

-- its variables are among so many
pub record IsWithin (variables : ℕ) (e : Environment) : Type 0 where
  pub count : e.count ≤ e.end
  pub end : e.end ≤ variables
