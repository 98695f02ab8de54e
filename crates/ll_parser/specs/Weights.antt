-- How many nodes raw trees have: what a problem made of them may have places for.
use Rattle.std.specs.Prelude.{ℕ, suc, ◌+◌, List, [], ◌∷◌}
use Rattle.ll_parser.specs.Raw.{Raw, truth, erasure, braces, universal, existential, load, binary, head, anything, int, RawList, none, more, ClauseTree}
use Rattle.ll_parser.specs.Raw.{ModuleTree, is_goal, less_goal, most_goal}

-- the number of nodes of a raw tree, and of several
abbrev mutual
  pub weight : Raw → ℕ
  weight (truth at) = 1
  weight (erasure at) = 1
  weight (braces at r) = suc (weight r)
  weight (universal at n r) = suc (weight r)
  weight (existential at n r) = suc (weight r)
  weight (load at m args r) = suc (weights args + weight r)
  weight (binary o at l r) = suc (weight l + weight r)
  weight (is_goal at l r) = suc (weight l + weight r)
  weight (less_goal at l r) = suc (weight l + weight r)
  weight (most_goal at l r) = suc (weight l + weight r)
  weight (head n args) = suc (weights args)
  weight (anything at) = 1
  weight (int at z) = 1

  pub weights : RawList → ℕ
  weights none = 0
  weights (more r rs) = weight r + weights rs

-- the nodes of the clauses
abbrev pub clauses_weight : List ClauseTree → ℕ
clauses_weight [] = 0
clauses_weight (c ∷ cs) = weight c.form + clauses_weight cs

-- the nodes of the modules, and one for the name of each
abbrev pub modules_weight : List ModuleTree → ℕ
modules_weight [] = 0
modules_weight (m ∷ ms) = suc (clauses_weight m.clauses + modules_weight ms)
