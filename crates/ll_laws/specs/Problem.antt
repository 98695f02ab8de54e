-- What a search is asked for, as contracts see it.
use Rattle.std.specs.Prelude.{ℕ, List, length, Option}
use Rattle.ll_bank.specs.Form.{Form}
use Rattle.ll_laws.specs.declared.Event.{Event}
use Rattle.ll_laws.specs.Module.{ClauseTree, ModuleTree, Setting}
use Rattle.ll_laws.specs.State.{State}
use Rattle.ll_laws.specs.Search.{start, events, cost}
use Rattle.ll_laws.specs.Number.{operators_of}

-- a problem
pub record ProblemTree : Type 0 where
  -- the texts of the names, by their numbers, as bytes
  pub names : List (List ℕ)
  pub modules : List ModuleTree
  -- the program's clauses, the first of the text in front
  pub clauses : List ClauseTree
  -- the query
  pub goal : Form
  -- the name of each variable of the query, none for `_`
  pub asked : List (Option ℕ)
  -- how many inferences a branch may have
  pub bound : ℕ

-- what the search of a problem looks at beside its state
abbrev pub setting_of : ProblemTree → Setting
setting_of p = record { modules = p.modules; operators = operators_of p.names }

-- the state in which the search of a problem starts
abbrev pub start_of : ProblemTree → State
start_of p = start p.clauses p.goal (length p.asked)

-- the events of a problem's search
abbrev pub problem_events : ProblemTree → List Event
problem_events p = events (setting_of p) p.bound (start_of p)

-- the cost of a problem's search
abbrev pub problem_cost : ProblemTree → ℕ
problem_cost p = cost (setting_of p) p.bound (start_of p)
