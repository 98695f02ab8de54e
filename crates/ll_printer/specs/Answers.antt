-- The line of one variable of an answer.
use Rattle.std.specs.Prelude.{ℕ, List, [], ◌++◌, codes, Option, Some, None}
use Rattle.ll_bank.specs.Term.{Term}
use Rattle.ll_laws.specs.Output.{line, name_text, term_text}

-- the line of a variable with a name; one without has none
abbrev pub one_line : List (List ℕ) → Option ℕ → Term → List ℕ
one_line names None t = []
one_line names (Some n) t = line (name_text names n ++ codes " = " ++ term_text names t)
