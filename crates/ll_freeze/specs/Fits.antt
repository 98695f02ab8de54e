-- What a machine keeps true.
use Rattle.std.specs.Prelude.{◌≡◌, ℕ, ◌+◌, ◌≤◌, ◌<◌, ◌^◌, true, [], length, map, All}
use Rattle.ll_bank.specs.Nodes.{Nodes, HasForm, AllInTerms, term_trees, form_tree}
use Rattle.ll_bank.specs.Environments.{IsWithin}
use Rattle.ll_laws.specs.Problem.{setting_of}
use Rattle.ll_laws.specs.Module.{Setting}
use Rattle.ll_laws.specs.Shown.{module_tree, HasModules}
use Rattle.ll_laws.specs.Attempt.{vars_from}
use Rattle.ll_laws.specs.Valid.{IsValid, Allowed, IsFormula, GoalSide, ClauseSide}
use Rattle.ll_laws.specs.Consistent.{IsConsistent}
use Rattle.ll_agenda.specs.Frames.{HasTop}
use Rattle.ll_unify.specs.Bindings.{IsOrdered}
use Rattle.ll_freeze.specs.Parts.{Parts, table}
use Rattle.ll_freeze.specs.declared.machine.Item.{Item}
use Rattle.ll_freeze.specs.declared.machine.Item.TheVariants.{Goal, LolliEnd, ImpEnd, Mid, WithEnd, BangEnd}
use Rattle.ll_freeze.specs.Reading.{HasValue, goal_tree}
use Rattle.ll_freeze.specs.Shown.{items_of, state_of}
use Rattle.ll_freeze.specs.Resting.{RestsOn}
use Rattle.ll_freeze.specs.Keyed.{AreKeyed}

-- what the search of a machine's problem looks at beside its state
abbrev pub setting : Parts → Setting
setting m = setting_of m.problem

-- a goal is a place of the bank, and marks that an end gives back are among those that were kept
abbrev pub HasItem : Nodes → ℕ → Item → Type 0
HasItem bank kept (Goal g e) = HasForm bank g.0
HasItem bank kept (LolliEnd flag) = Unit {0}
HasItem bank kept ImpEnd = Unit {0}
HasItem bank kept (Mid saved) = saved.number < kept
HasItem bank kept (WithEnd saved half) = (saved.number < kept) × (half.number < kept)
HasItem bank kept (BangEnd saved) = saved.number < kept

-- what formulas of a machine may mention
abbrev pub allowed : Parts → Allowed
allowed m = record { modules = (setting m).modules; variables = length m.levels; eigens = m.eigens; opens = true }

-- a goal is one as it stands in the bank under its environment, before it is read
abbrev pub IsGoalIn : Allowed → Nodes → Item → Type 0
IsGoalIn may bank (Goal g e) = IsWithin may.variables e × IsFormula may GoalSide [] (goal_tree bank e g)
IsGoalIn may bank (LolliEnd flag) = Unit {0}
IsGoalIn may bank ImpEnd = Unit {0}
IsGoalIn may bank (Mid saved) = Unit {0}
IsGoalIn may bank (WithEnd saved half) = Unit {0}
IsGoalIn may bank (BangEnd saved) = Unit {0}

-- the parts of a machine fit each other
pub record Fits (m : Parts) : Type 0 where
  pub valid : IsValid m.problem
  -- what it shows is a state as a search of its problem reaches them
  pub consistent : IsConsistent (setting m) (state_of m)
  -- under what was loaded the program's clauses are in its context
  pub rests : RestsOn m.problem.clauses (state_of m)
  -- there is an entry for each variable
  pub count : length m.bound ≡ length m.levels
  pub bound : All (HasValue m.bank) m.bound
  -- no variable is reached from itself through bindings
  pub ordered : IsOrdered m.bank (table m)
  -- its terms are the variables, which are read as what stands for them
  pub terms : AllInTerms m.bank m.terms
  pub variables : term_trees m.bank m.terms ≡ vars_from 0 (length m.levels)
  pub clauses : All (λ e. HasForm m.bank e.clause.0) m.resources.entries
  -- clauses and goals are well sorted as they stand, whatever stands for their variables
  pub sorted_clauses : All (λ e. IsFormula (allowed m) ClauseSide [] (form_tree m.bank e.clause.0)) m.resources.entries
  pub sorted_goals : All (IsGoalIn (allowed m) m.bank) (items_of m)
  -- clauses are found by their keys
  pub keyed : AreKeyed m.bank (length m.problem.clauses) m.resources
  -- the modules are those of the problem, in the machine's bank
  pub has_modules : HasModules m.bank m.modules
  pub modules : map (module_tree m.bank) m.modules ≡ m.problem.modules
  pub top : HasTop m.agenda m.top
  pub items : All (HasItem m.bank (length m.resources.kept)) (items_of m)
  -- numbers stay small: there are no more inferences to come than `left`
  pub labels : m.resources.next + m.left ≤ 2 ^ 25
  pub eigens : m.eigens + m.left ≤ 2 ^ 20
