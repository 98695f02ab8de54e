-- A leaf of a clause, taken apart.
use Rattle.std.specs.Prelude.{◌≡◌, ℕ, ◌+◌, ◌-◌, ◌<◌, ◌≤◌, suc, sum_by, List, ◌++◌, reverse, length, map, All, IsSome, slice_index, Some}
use Rattle.ll_bank.specs.declared.FormAt.{FormAt}
use Rattle.ll_bank.specs.Form.{Form, With, Lolli, Imp, Forall}
use Rattle.ll_bank.specs.Nodes.{Nodes, HasForm, form_tree}
use Rattle.ll_laws.specs.declared.Part.{Part}
use Rattle.ll_laws.specs.Leaf.{Premise, premise_goal, ways}
use Rattle.ll_laws.specs.Line.{part_line}
use Rattle.ll_laws.specs.ShownLines.{part_line as shown_part}
use Rattle.ll_laws.specs.Module.{ModuleTree}
use Rattle.ll_trace.specs.declared.leaf.Side.{Side}
use Rattle.ll_trace.specs.declared.leaf.Opened.{Opened}
use Rattle.ll_trace.specs.declared.walk.Goal.{Goal}
use Rattle.ll_trace.specs.Bare.{bare, premises_at}
use Rattle.ll_trace.specs.Goals.{stacked, HasGoal}

-- goals on a stack by which the premises are proved, the one nearest the head in front
pub record AreGoalsOf (forms : Nodes) (goals : List Goal) (premises : List Premise) : Type 0 where
  pub inside : (count : ℕ) → All (HasGoal forms count) goals
  pub trees : (ms : List ModuleTree) (below : List Form) → stacked forms ms goals below ≡ map premise_goal premises ++ below

-- the leaf is taken apart: its premises are on the stack and in the parts, and its quantifiers are counted
pub record Opens (forms : Nodes) (clause k : ℕ) (old new : List Goal) (opened : Opened) : Type 0 where
  pub premises : List Premise
  pub are : premises_at (bare (form_tree forms clause)) k ≡ Some premises
  pub goals : List Goal
  pub pushed : new ≡ old ++ goals
  pub goals_are : AreGoalsOf forms goals premises
  pub parts : map shown_part opened.parts.items ≡ map part_line premises
  pub quantifiers : opened.quantifiers ≡ slice_index (ways (bare (form_tree forms clause))) k

-- on the way to a leaf: its premises are those of leaf `at` of what is left of the clause, and in front of them those that were passed
pub record IsOnWay (forms : Nodes) (clause k : ℕ) (old : List Goal) (form at count : ℕ) (new : List Goal) (parts : List Part) : Type 0 where
  pub inside : HasForm forms form
  pub among : IsSome (premises_at (bare (form_tree forms form)) at)
  pub premises : List Premise
  pub are : (ps : List Premise) → premises_at (bare (form_tree forms form)) at ≡ Some ps → premises_at (bare (form_tree forms clause)) k ≡ Some (ps ++ premises)
  pub goals : List Goal
  pub pushed : new ≡ old ++ goals
  pub goals_are : AreGoalsOf forms goals premises
  pub shown : map shown_part (reverse parts) ≡ map part_line premises
  pub quantifiers : slice_index (ways (bare (form_tree forms form))) at + count ≡ slice_index (ways (bare (form_tree forms clause))) k

-- the side on which a leaf is, given the ways of the left one, and its number there
abbrev pub IsSide : List ℕ → FormAt → FormAt → ℕ → Side → Type 0
IsSide lefts left right k side =
    (k < length lefts → (side.form ≡ left) × (side.leaf ≡ k)) × (length lefts ≤ k → (side.form ≡ right) × (side.leaf ≡ k - length lefts))

-- how much of a clause there is to go through
abbrev pub way_size : Form → ℕ
way_size (With r s) = suc (way_size r + way_size s)
way_size (Lolli g r) = suc (way_size r)
way_size (Imp g r) = suc (way_size r)
way_size (Forall r) = suc (way_size r)
way_size _ = 1

-- and of clauses that wait
abbrev pub waiting_size : Nodes → List FormAt → ℕ
waiting_size forms fs = sum_by (λ f. way_size (form_tree forms f.0)) fs
