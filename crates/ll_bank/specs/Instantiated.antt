-- A quantifier's body with a term in place of its bound place: the images of its parts, and the stack of those that get theirs.
use Rattle.std.specs.Prelude.{◌≡◌, ◌⊎◌, ◌≤◌, ℕ, zero, suc, ◌+◌, true, false, List, [], ◌∷◌, map, All, Option, Some, None, IsSome, sum_by}
use Rattle.std.specs.Prelude.{if◌then◌else◌}
use Rattle.std.specs.Ordering.{nat_cmp, ordering_then}
use Rattle.std.specs.declared.cmp.Ordering.{Ordering}
use Rattle.ll_bank.specs.declared.At.{At}
use Rattle.ll_bank.specs.declared.FormAt.{FormAt}
use Rattle.ll_bank.specs.declared.open.Task.{Task}
use Rattle.ll_bank.specs.Term.{Term, Env, close, applies_heads}
use Rattle.ll_bank.specs.Form.{close_form, form_applies_heads}
use Rattle.ll_bank.specs.Nodes.{Nodes, term_tree, form_tree, HasTerm, HasForm, ShowsTerm, ShowsForm}
use Rattle.ll_bank.specs.Opened.{Spot}

-- what stands for the bound places so many quantifiers inside a body that is opened with a term
abbrev pub opened : Term → ℕ → Env
opened t zero = Some t ∷ []
opened t (suc n) = None ∷ opened t n

-- parts in the order of their places, and of their levels where these are one
abbrev pub by_spot : Spot → Spot → Ordering
by_spot x y = ordering_then (nat_cmp x.0 y.0) (nat_cmp x.1 y.1)

-- the part is among these
abbrev pub IsIn : Spot → List Spot → Type 0
IsIn k [] = ⊥
IsIn k (x ∷ xs) = (x ≡ k) ⊎ IsIn k xs

-- the image of a term shows what the term is with its bound places replaced
abbrev pub ShowsImage : Nodes → Nodes → Term → Spot → At → Type 0
ShowsImage old new t k image = ShowsTerm new image.0 (close (opened t k.1) (term_tree old k.0))

-- and that of a formula likewise
abbrev pub ShowsFormImage : Nodes → Nodes → Term → Spot → FormAt → Type 0
ShowsFormImage old new t k image = ShowsForm new image.0 (close_form (opened t k.1) (form_tree old k.0))

-- the image is that of a part in the bank
abbrev pub IsTermImage : Nodes → Term → Spot → At → Type 0
IsTermImage bank t k image = HasTerm bank k.0 × ShowsImage bank bank t k image

abbrev pub IsFormImage : Nodes → Term → Spot → FormAt → Type 0
IsFormImage bank t k image = HasForm bank k.0 × ShowsFormImage bank bank t k image

-- the part is in the bank, and nothing but a head gets arguments where it is opened
abbrev pub IsTermGood : Nodes → Term → Spot → Type 0
IsTermGood bank t k = HasTerm bank k.0 × (applies_heads (close (opened t k.1) (term_tree bank k.0)) ≡ true)

-- and likewise a formula, which lies as far below the root as it is quantifiers inside it
pub record IsFormGood (bank : Nodes) (g : Term × ℕ) (k : Spot) : Type 0 where
  pub inside : HasForm bank k.0
  pub heads : form_applies_heads (close_form (opened g.0 k.1) (form_tree bank k.0)) ≡ true
  pub level : k.0 + k.1 ≤ g.1

-- ---- the stack

-- the part of a task
abbrev pub spot_of : Task → Spot
spot_of task = (task.place, task.level)

-- the task of a part whose own parts are not on the stack
abbrev pub visit : Spot → Task
visit k = record { place = k.0; level = k.1; ready = false }

-- each part of a task that is ready is known, or stands above it; the top of the stack stands last
abbrev pub AreWaiting : (Spot → Type 0) → (Spot → List Spot) → List Task → Type 0
AreWaiting known parts [] = Unit {0}
AreWaiting known parts (task ∷ tasks) =
    (task.ready ≡ true → (k : Spot) → IsIn k (parts (spot_of task)) → known k ⊎ IsIn k (map spot_of tasks)) × AreWaiting known parts tasks

-- the work that is left to do: the sizes of the parts on the stack, or 1 for one that is ready
abbrev pub work_left : (Spot → ℕ) → List Task → ℕ
work_left size tasks = sum_by (λ (task : Task). if task.ready then 1 else size (spot_of task)) tasks

-- what holds while the parts of a root get their images
pub record IsOpening (known : Spot → Type 0) (parts : Spot → List Spot) (good : Spot → Type 0) (root : Spot) (tasks : List Task) : Type 0 where
  pub waiting : AreWaiting known parts tasks
  pub each : All (λ (task : Task). good (spot_of task)) tasks
  pub root_known : known root ⊎ IsIn root (map spot_of tasks)

-- the part has its image
abbrev pub IsKnown : {X : Type 0} → (Spot → Option X) → Spot → Type 0
IsKnown lookup k = IsSome (lookup k)
