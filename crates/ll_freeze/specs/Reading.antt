-- Terms and formulas at places of a bank, read under bindings.
use Rattle.std.specs.Prelude.{ℕ, List, length, Option, Some, None}
use Rattle.ll_bank.specs.declared.At.{At}
use Rattle.ll_bank.specs.declared.FormAt.{FormAt}
use Rattle.ll_bank.specs.Term.{Term, sub}
use Rattle.ll_bank.specs.declared.environment.Environment.{Environment}
use Rattle.ll_bank.specs.Environments.{values_in}
use Rattle.ll_bank.specs.Form.{Form, close_form, sub_form}
use Rattle.ll_bank.specs.Nodes.{Nodes, HasTerm, term_tree, form_tree}
use Rattle.ll_unify.specs.Bindings.{followed}

-- what stands for a variable, with all bindings applied
abbrev pub reading : Nodes → List (Option At) → ℕ → Term
reading bank bound = followed bank bound (length bound)

-- the term at a place, read under bindings
abbrev pub read_term : Nodes → List (Option At) → At → Term
read_term bank bound at = sub (reading bank bound) (term_tree bank at.0)

-- the formula at a place, read under bindings
abbrev pub read_form : Nodes → List (Option At) → FormAt → Form
read_form bank bound at = sub_form (reading bank bound) (form_tree bank at.0)

-- the goal at a place, with the variables of an environment in place of its free bound places
abbrev pub goal_tree : Nodes → Environment → FormAt → Form
goal_tree bank e at = close_form (values_in e) (form_tree bank at.0)

-- the same, read under bindings
abbrev pub read_goal : Nodes → List (Option At) → Environment → FormAt → Form
read_goal bank bound e at = sub_form (reading bank bound) (goal_tree bank e at)

-- a variable is unbound, or bound to a place of the bank
abbrev pub HasValue : Nodes → Option At → Type 0
HasValue bank None = Unit {0}
HasValue bank (Some at) = HasTerm bank at.0
