-- What a walker shows, and what its steps do.
use Rattle.std.specs.Prelude.{◌≡◌, ℕ, ◌+◌, ◌≤◌, List, [], ◌∷◌, ◌++◌, map, length, drop, All, slice_get, IsSome, Option, Some, None}
use Rattle.ll_bank.specs.declared.At.{At}
use Rattle.ll_bank.specs.declared.FormAt.{FormAt}
use Rattle.ll_bank.specs.Form.{Form}
use Rattle.ll_bank.specs.Nodes.{Nodes, no_nodes, form_tree, term_trees, HasForm, AllInTerms}
use Rattle.ll_laws.specs.declared.Module.{Module}
use Rattle.ll_laws.specs.declared.Rule.{Rule}
use Rattle.ll_laws.specs.declared.Rule.TheVariants.{Left, Right}
use Rattle.ll_laws.specs.declared.Step.{Step}
use Rattle.ll_laws.specs.declared.Step.TheVariants.{Right as RightStep, Clause as ClauseStep}
use Rattle.ll_laws.specs.Module.{ModuleTree}
use Rattle.ll_laws.specs.Shown.{module_tree}
use Rattle.ll_laws.specs.ShownLines.{line_of, HasLine, HasLines}
use Rattle.ll_trace.specs.declared.walk.Goal.{Goal}
use Rattle.ll_trace.specs.declared.walk.Goal.TheVariants.{Plain}
use Rattle.ll_trace.specs.declared.walk.Walker.{Walker}
use Rattle.ll_trace.specs.Bare.{bare, premises_at}
use Rattle.ll_trace.specs.Walk.{Walk, Tells, tell_goal, tell, told, IsTold}
use Rattle.ll_trace.specs.Goals.{stacked, HasGoal}

-- the modules, as they are shown in a bank
abbrev pub trees : Nodes → List Module → List ModuleTree
trees forms modules = map (module_tree forms) modules

-- clauses without terms
abbrev pub bare_clauses : Nodes → List FormAt → List Form
bare_clauses forms fs = map (λ f. bare (form_tree forms f.0)) fs

-- where the walker stands, as it is shown in a bank
abbrev pub walk_of : Nodes → List ModuleTree → Walker → Walk
walk_of forms ms w = record { goals = stacked forms ms w.goals.items []; clauses = bare_clauses forms w.clauses.items; eigens = w.eigens; used = w.used }

-- the walker's places are in the bank, and its modules are among so many
pub record IsInside (forms : Nodes) (count : ℕ) (w : Walker) : Type 0 where
  pub goals : All (HasGoal forms count) w.goals.items
  pub clauses : All (λ f. HasForm forms f.0) w.clauses.items

-- the step tells a node of this goal in front
abbrev pub MayTake : Nodes → List Module → List At → Walker → Form → Step → Type 0
MayTake forms modules terms w g c = IsTold (tell_goal (trees forms modules) (term_trees no_nodes terms) (walk_of forms (trees forms modules) w) g
    (stacked forms (trees forms modules) w.goals.items []) c)

-- the step tells this node of the goal in front, and the walker goes on
pub record TellsGoal (forms : Nodes) (modules : List Module) (terms : List At) (old : Walker) (g : Form) (c : Step) (rule : Rule) (new : Walker) : Type 0 where
  pub told : (bank : Nodes) → tell_goal (trees forms modules) (term_trees bank terms) (walk_of forms (trees forms modules) old) g
      (stacked forms (trees forms modules) old.goals.items []) c
      ≡ Tells (line_of bank rule) (walk_of forms (trees forms modules) new)
  pub inside : IsInside forms (length modules) new
  pub used : new.used ≤ length terms
  pub places : (bank : Nodes) → AllInTerms bank terms → HasLine bank rule

-- the step tells a node
abbrev pub MayStep : Nodes → List Module → List At → Walker → Step → Type 0
MayStep forms modules terms w c = IsTold (tell (trees forms modules) (term_trees no_nodes terms) (walk_of forms (trees forms modules) w) c)

-- the step tells this node, and the walker goes on
pub record Steps (forms : Nodes) (modules : List Module) (terms : List At) (old : Walker) (c : Step) (rule : Rule) (new : Walker) : Type 0 where
  pub told : (bank : Nodes) → tell (trees forms modules) (term_trees bank terms) (walk_of forms (trees forms modules) old) c
      ≡ Tells (line_of bank rule) (walk_of forms (trees forms modules) new)
  pub inside : IsInside forms (length modules) new
  pub used : new.used ≤ length terms
  pub places : (bank : Nodes) → AllInTerms bank terms → HasLine bank rule

-- one goal more is in front, there are these clauses more, and so many more eigenvariables and used terms
pub record Pushes (old : Walker) (goal : Goal) (loads : List FormAt) (opens fills : ℕ) (new : Walker) : Type 0 where
  pub goals : new.goals.items ≡ old.goals.items ++ goal ∷ []
  pub clauses : new.clauses.items ≡ old.clauses.items ++ loads
  pub eigens : new.eigens ≡ old.eigens + opens
  pub used : new.used ≡ old.used + fills

-- the side of a `;` that the step took is in front
abbrev pub TakesSide : Walker → FormAt → FormAt → Step → Rule → Walker → Type 0
TakesSide old left right RightStep rule new = (rule ≡ Right) × Pushes old (Plain right) [] 0 0 new
TakesSide old left right _ rule new = (rule ≡ Left) × Pushes old (Plain left) [] 0 0 new

-- there is such a leaf of a clause, if it is there
abbrev pub HasLeaf : Option Form → ℕ → Type 0
HasLeaf None k = ⊥
HasLeaf (Some r) k = IsSome (premises_at r k)

-- the step names a leaf of a clause that was loaded
abbrev pub MayTakeAtom : Nodes → Walker → Step → Type 0
MayTakeAtom forms w (ClauseStep label k) = HasLeaf (slice_get (bare_clauses forms w.clauses.items) label) k
MayTakeAtom forms w _ = ⊥

-- the rules are the nodes that the steps tell, whichever bank shows the terms, and hold places of terms alone
pub record AreNodes (forms : Nodes) (modules : List Module) (terms : List At) (steps : List Step) (w : Walker) (rules : List Rule) : Type 0 where
  pub told : (bank : Nodes) → map (line_of bank) rules ≡ told (trees forms modules) (term_trees bank terms) steps (walk_of forms (trees forms modules) w)
  pub places : (bank : Nodes) → AllInTerms bank terms → HasLines bank rules

-- the first steps have told these rules, and the walker is ready for the others
pub record IsPartWay (forms : Nodes) (modules : List Module) (terms : List At) (steps : List Step) (first : Walker) (count : ℕ) (w : Walker) (rules : List Rule)
    : Type 0 where
  pub so_far : (bank : Nodes) → told (trees forms modules) (term_trees bank terms) steps (walk_of forms (trees forms modules) first)
      ≡ map (line_of bank) rules ++ told (trees forms modules) (term_trees bank terms) (drop count steps) (walk_of forms (trees forms modules) w)
  pub more : length (told (trees forms modules) (term_trees no_nodes terms) (drop count steps) (walk_of forms (trees forms modules) w))
      ≡ length (drop count steps)
  pub inside : IsInside forms (length modules) w
  pub used : w.used ≤ length terms
  pub places : (bank : Nodes) → AllInTerms bank terms → HasLines bank rules
