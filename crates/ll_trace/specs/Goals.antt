-- The goals of a walk, as they are shown in the bank of the problem.
use Rattle.std.specs.Prelude.{◌<◌, ℕ, List, [], ◌∷◌, drop, slice_get, Option, Some, None}
use Rattle.ll_bank.specs.Form.{Form, Bang}
use Rattle.ll_bank.specs.Nodes.{Nodes, form_tree, HasForm}
use Rattle.ll_laws.specs.Module.{ClauseTree, ModuleTree, forall_all}
use Rattle.ll_trace.specs.declared.walk.Goal.{Goal}
use Rattle.ll_trace.specs.declared.walk.Goal.TheVariants.{Plain, Free, Loading as LoadingGoal}
use Rattle.ll_trace.specs.declared.walk.Loading.{Loading}
use Rattle.ll_trace.specs.Bare.{bare, bare_load_all}

-- the clauses of a module, none where there is no such module
abbrev pub clauses_of : Option ModuleTree → List ClauseTree
clauses_of None = []
clauses_of (Some m) = m.clauses

-- the goal that is left of a load, without terms
abbrev pub loading_goal : Nodes → List ModuleTree → Loading → Form
loading_goal forms ms l = forall_all l.locals (bare_load_all (drop l.next (clauses_of (slice_get ms l.«module»))) (bare (form_tree forms l.goal.0)))

-- the goal, without terms
abbrev pub shown_goal : Nodes → List ModuleTree → Goal → Form
shown_goal forms ms (Plain f) = bare (form_tree forms f.0)
shown_goal forms ms (Free f) = Bang (bare (form_tree forms f.0))
shown_goal forms ms (LoadingGoal l) = loading_goal forms ms l

-- goals on a stack in front of others, the last one in front
abbrev pub stacked : Nodes → List ModuleTree → List Goal → List Form → List Form
stacked forms ms [] below = below
stacked forms ms (g ∷ gs) below = stacked forms ms gs (shown_goal forms ms g ∷ below)

-- the places of the goal are in the bank, and its module is one of so many
abbrev pub HasGoal : Nodes → ℕ → Goal → Type 0
HasGoal forms count (Plain f) = HasForm forms f.0
HasGoal forms count (Free f) = HasForm forms f.0
HasGoal forms count (LoadingGoal l) = HasForm forms l.goal.0 × (l.«module» < count)
