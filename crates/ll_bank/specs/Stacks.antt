-- The stack of parts that get their images, and the stack of images that were made.
use Rattle.std.specs.Prelude.{◌≡◌, ℕ, ◌+◌, ◌++◌, true, false, List, [], ◌∷◌, reverse, if◌then◌else◌}
use Rattle.ll_bank.specs.Opened.{Spot}
use Rattle.ll_bank.specs.declared.closing.stack.Task.{Task}

-- the part of a task
abbrev pub spot_of : Task → Spot
spot_of task = (task.place, task.level)

-- the task of a part whose image is to be found or made
abbrev pub visit : Spot → Task
visit k = record { place = k.0; level = k.1; ready = false }

-- the task of a part whose own parts have their images
abbrev pub ready : Spot → Task
ready k = record { place = k.0; level = k.1; ready = true }

-- the images are those of the parts, one for each
abbrev pub AreImagesOf : {X : Type 0} → (Spot → X → Type 0) → List Spot → List X → Type 0
AreImagesOf is_image [] [] = Unit {0}
AreImagesOf is_image (k ∷ ks) (x ∷ xs) = is_image k x × AreImagesOf is_image ks xs
AreImagesOf is_image _ _ = ⊥

-- the last images are those of the parts
pub record EndsWith {X : Type 0} (is_image : Spot → X → Type 0) (parts : List Spot) (made : List X) : Type 0 where
  pub below : List X
  pub own : List X
  pub is : made ≡ below ++ own
  pub images : AreImagesOf is_image parts own

-- what the tasks, the next one first, lead to: images of these parts have been made, a visit adds one of its part, and a part that is ready
-- has one in place of those of its own parts; the image of the root alone is left
abbrev pub LeadsTo : (Spot → List Spot) → (Spot → Type 0) → Spot → List Spot → List Task → Type 0
LeadsTo parts good root spots [] = spots ≡ root ∷ []
LeadsTo parts good root spots (task ∷ tasks) =
    good (spot_of task) × (task.ready ≡ false → LeadsTo parts good root (spots ++ spot_of task ∷ []) tasks)
    × (task.ready ≡ true → (below : List Spot) × (spots ≡ below ++ parts (spot_of task)) × LeadsTo parts good root (below ++ spot_of task ∷ []) tasks)

-- what holds while the root gets its image; the next task stands last
pub record IsClosing {X : Type 0} (is_image : Spot → X → Type 0) (parts : Spot → List Spot) (good : Spot
    → Type 0) (root : Spot) (made : List X) (tasks : List Task) : Type 0 where
  pub spots : List Spot
  pub images : AreImagesOf is_image spots made
  pub leads : LeadsTo parts good root spots (reverse tasks)

-- the work that is left: the sizes of the parts to be visited, and 1 for one that is ready
abbrev pub work_left : (Spot → ℕ) → List Task → ℕ
work_left size [] = 0
work_left size (task ∷ tasks) = (if task.ready then 1 else size (spot_of task)) + work_left size tasks
