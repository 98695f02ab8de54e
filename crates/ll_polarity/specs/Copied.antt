-- What a copy of modules has in common with them.
use Rattle.std.specs.Prelude.{ℕ, List}
use Rattle.ll_laws.specs.declared.Clause.{Clause}
use Rattle.ll_laws.specs.declared.Module.{Module}

-- a module: its name, its numbers of parameters and of locals, and its clauses
abbrev pub module_row : Module → ℕ × (ℕ × (ℕ × List Clause))
module_row m = (m.name, (m.params, (m.locals, m.clauses.items)))
