-- What unification by bindings of a table finds.
use Rattle.std.specs.Prelude.{◌≡◌, ℕ, ◌+◌, ◌-◌, ◌++◌, Bool, true, false, List, map, Option, Some, None, option_map}
use Rattle.ll_bank.specs.Term.{Term, sub}
use Rattle.ll_bank.specs.Nodes.{Nodes}
use Rattle.ll_laws.specs.Unify.{Solved, solve, mgu}
use Rattle.ll_unify.specs.Bindings.{Table, KeepsCells, found, unbound, count, IsTable}

-- a substitution, followed by what was found
abbrev pub along : (ℕ → Term) → Solved → Solved
along s v = record { subst = λ x. sub v.subst (s x); levels = v.levels }

-- with k spare bindings, what is asked for is what the bindings say, followed by what solves these lists
abbrev pub Solves : Nodes → Table → ℕ → Option Solved → List Term → List Term → Type 0
Solves nodes t k goal ls rs =
    goal ≡ option_map (along (found nodes t)) (solve (unbound t.bound + k) (map (sub (found nodes t)) ls) (map (sub (found nodes t)) rs) t.levels)

-- what unifying two lists under the bindings of a table has to give: their terms are read first
abbrev pub wanted : Nodes → Table → List Term → List Term → Option Solved
wanted nodes t ls rs = option_map (along (found nodes t)) (mgu (map (sub (found nodes t)) ls) (map (sub (found nodes t)) rs) t.levels)

-- the variables that are bound
abbrev pub spare : Table → ℕ
spare t = count t - unbound t.bound

-- the bindings are what is asked for
pub record IsAnswer (nodes : Nodes) (old new : Table) (goal : Option Solved) : Type 0 where
  pub is : goal ≡ Some (record { subst = found nodes new; levels = new.levels })
  pub table : IsTable nodes new
  pub same_count : count new ≡ count old

-- what was found is what is asked for
abbrev pub IsSolved : Nodes → Table → Table → Option Solved → Bool → Type 0
IsSolved nodes old new goal true = IsAnswer nodes old new goal
IsSolved nodes old new goal false = goal ≡ None

-- the later table is one, has as many variables, gives cells to the terms that had them, and these lists are solved
pub record Settled (nodes : Nodes) (old new : Table) (ls rs : List Term) : Type 0 where
  pub table : IsTable nodes new
  pub count : count new ≡ count old
  pub cells : KeepsCells nodes old new
  pub solves : (k : ℕ) (goal : Option Solved) (more others : List Term) → Solves nodes old k goal (ls ++ more) (rs ++ others)
      → Solves nodes new k goal more others

-- these lists are solved, or nothing solves them
abbrev pub Settles : Nodes → Table → Table → List Term → List Term → Bool → Type 0
Settles nodes old new ls rs true = Settled nodes old new ls rs
Settles nodes old new ls rs false = (k : ℕ) (goal : Option Solved) (more others : List Term) → Solves nodes old k goal (ls ++ more) (rs ++ others) → goal ≡ None
