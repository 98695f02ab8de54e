-- The table of shared terms as it is kept, and on its way.
use Rattle.std.specs.Prelude.{◌≡◌, ℕ, ◌+◌, ◌*◌, ◌<◌, true, false, List, [], ◌∷◌, ◌++◌, length, All, Option, Some, None, slice_index, slice_index_or, slice_set}
use Rattle.ll_bank.specs.declared.At.{At}
use Rattle.ll_bank.specs.declared.Head.{Head}
use Rattle.ll_bank.specs.Term.{Term, app}
use Rattle.ll_bank.specs.Nodes.{Nodes, term_tree, term_trees}
use Rattle.ll_laws.specs.Output.{has_arguments}
use Rattle.ll_printer.specs.Stack.{term_size}
use Rattle.ll_prooftext.specs.declared.table.Table.{Table}
use Rattle.ll_prooftext.specs.declared.table.Task.{Task}
use Rattle.ll_prooftext.specs.declared.table.Task.TheVariants as task
use Rattle.ll_prooftext.specs.Classes.{AreClasses}
use Rattle.ll_prooftext.specs.Table.{completed, is_among, rows_in, row_of}

-- ---- the table

-- the term at this place has a number
pub record HasNumberAt (t : Table) (at : ℕ) : Type 0 where
  pub inside : at < length t.classes.numbers.items
  pub below : slice_index t.classes.numbers.items at < length t.numbered.items

-- the row of the term at a place, if it has one
abbrev pub row_at : Table → ℕ → Option ℕ
row_at t at = slice_index_or t.numbered.items (slice_index t.classes.numbers.items at) None

-- what is known of a term's row
abbrev pub IsRowOf : List Term → Term → Option ℕ → Type 0
IsRowOf rows t None = is_among rows t ≡ false
IsRowOf rows t (Some k) = (is_among rows t ≡ true) × (row_of rows t ≡ k)

-- the table has these rows
pub record IsTableOf (bank : Nodes) (t : Table) (rows : List Term) : Type 0 where
  pub classes : AreClasses bank t.classes
  pub enough : length t.numbered.items ≡ t.classes.count
  pub inside : All (λ (a : At). a.0 < length t.classes.numbers.items) t.rows.items
  pub terms : term_trees bank t.rows.items ≡ rows
  pub numbered : (at : ℕ) → at < length t.classes.numbers.items → IsRowOf rows (term_tree bank at) (row_at t at)

-- ---- tasks

-- the place of a task
abbrev pub task_at : Task → ℕ
task_at (task.Enter at) = at.0
task_at (task.Leave at) = at.0

-- the terms that a task completes
abbrev pub task_terms : Nodes → Task → List Term
task_terms bank (task.Enter at) = completed (term_tree bank at.0)
task_terms bank (task.Leave at) = term_tree bank at.0 ∷ []

-- the terms that all tasks complete, of which the last one comes first
abbrev pub todo : Nodes → List Task → List Term
todo bank [] = []
todo bank (x ∷ xs) = todo bank xs ++ task_terms bank x

-- how much work they are
abbrev pub task_weight : Nodes → Task → ℕ
task_weight bank (task.Enter at) = 2 * term_size (term_tree bank at.0)
task_weight bank (task.Leave at) = 1

abbrev pub tasks_weight : Nodes → List Task → ℕ
tasks_weight bank [] = 0
tasks_weight bank (x ∷ xs) = task_weight bank x + tasks_weight bank xs

-- the tasks of entering places, of which the first one is on top
abbrev pub entries : List At → List Task
entries [] = []
entries (a ∷ args) = entries args ++ task.Enter a ∷ []

-- a term was entered: its row is there or it has none, or its arguments are to be entered first
pub data Entered (bank : Nodes) (t : Table) (tasks : List Task) (at : At) (now : List Task) : Type 0 where
  bare : has_arguments (term_tree bank at.0) ≡ false → now ≡ tasks → Entered bank t tasks at now
  known : (k : ℕ) → row_at t at.0 ≡ Some k → now ≡ tasks → Entered bank t tasks at now
  inside : (h : Head) (args : List At) → term_tree bank at.0 ≡ app h (term_trees bank args) → has_arguments (term_tree bank at.0) ≡ true
      → All (λ (a : At). a.0 < at.0) args
      → now ≡ (tasks ++ task.Leave at ∷ []) ++ entries args → Entered bank t tasks at now

-- a term was left: its row is there
pub data Left (old : Table) (at : At) (now : Table) : Type 0 where
  left_known : (k : ℕ) → row_at old at.0 ≡ Some k → now ≡ old → Left old at now
  added : row_at old at.0 ≡ None → now.classes ≡ old.classes → now.rows.items ≡ old.rows.items ++ at ∷ []
      → now.numbered.items ≡ slice_set old.numbered.items (slice_index old.classes.numbers.items at.0) (Some (length old.rows.items)) → Left old at now

-- a task was done
abbrev pub Taken : Nodes → Table → List Task → Task → Table → List Task → Type 0
Taken bank old tasks (task.Enter at) now rest = Entered bank old tasks at rest × (now ≡ old)
Taken bank old tasks (task.Leave at) now rest = Left old at now × (rest ≡ tasks)

-- a table on its way: the terms that were completed, and those that are left
pub record IsBuilding (bank : Nodes) (whole : List Term) (t : Table) (tasks : List Task) : Type 0 where
  pub done : List Term
  pub is : done ++ todo bank tasks ≡ whole
  pub table : IsTableOf bank t (rows_in done)
  pub inside : All (λ x. HasNumberAt t (task_at x)) tasks
