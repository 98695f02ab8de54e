-- A walk along a branch: the nodes that its steps tell, from formulas without terms.
use Rattle.std.specs.Prelude.{ℕ, suc, ◌+◌, List, [], ◌∷◌, ◌++◌, map, length, slice_index, slice_get, Option, Some, None}
use Rattle.ll_laws.specs.declared.Step.{Step}
use Rattle.ll_laws.specs.declared.Step.TheVariants.{Right, Clause as ClauseStep}
use Rattle.ll_bank.specs.Term.{Term}
use Rattle.ll_bank.specs.Form.{Form, Top, One, Atom, With, Tensor, Plus, Bang, Lolli, Imp, Forall, Exists, Use, Num}
use Rattle.ll_laws.specs.Leaf.{Premise, premise_goal, ways}
use Rattle.ll_laws.specs.Module.{ModuleTree}
use Rattle.ll_laws.specs.Line.{Line, OneLine, EraseLine, TensorLine, WithLine, LeftLine, RightLine, BangLine, UseLine, LolliLine, ImpLine, ForallLine}
use Rattle.ll_laws.specs.Line.{ExistsLine, ClauseLine, part_line, NumLine}
use Rattle.ll_laws.specs.Dealt.{value, values}
use Rattle.ll_laws.specs.Problem.{ProblemTree}
use Rattle.ll_trace.specs.Bare.{bare, premises_at, bare_load}

-- where a walk stands, all formulas without terms: the goals still to be proved, the clauses loaded so far by their labels, the number of
-- eigenvariables, and how many of the branch's terms have been used
pub record Walk : Type 0 where
  pub goals : List Form
  pub clauses : List Form
  pub eigens : ℕ
  pub used : ℕ

-- what a step tells: a node and where the walk stands after it, or nothing where the step does not fit the goal in front
pub data Told : Type 0 where
  Lost : Told
  Tells : Line → Walk → Told

-- the walk with other goals
abbrev pub to_prove : Walk → List Form → Walk
to_prove w gs = record w { goals = gs }

-- the walk with one clause more, under the next label, and these goals
abbrev pub with_clause : Walk → Form → List Form → Walk
with_clause w r gs = record w { goals = gs; clauses = w.clauses ++ r ∷ [] }

-- a load of a module, if there is such a module
abbrev pub tell_load : Walk → Form → List Form → Option ModuleTree → Told
tell_load w g rest None = Lost
tell_load w g rest (Some m) = Tells UseLine (to_prove w (bare_load m g ∷ rest))

-- a leaf of the clause with a label, with these terms on the way to it, if there is such a leaf
abbrev pub tell_leaf : Walk → List Form → ℕ → ℕ → List Term → Option (List Premise) → Told
tell_leaf w rest label k us None = Lost
tell_leaf w rest label k us (Some ps) =
    Tells (ClauseLine label k us (map part_line ps)) (record w { goals = map premise_goal ps ++ rest; used = w.used + length us })

-- leaf k of the clause with a label, if there is such a clause, with the terms that come next
abbrev pub tell_clause : List Term → Walk → List Form → ℕ → ℕ → Option Form → Told
tell_clause all w rest label k None = Lost
tell_clause all w rest label k (Some r) = tell_leaf w rest label k (values all w.used (slice_index (ways r) k)) (premises_at r k)

-- what a step tells of a goal in front of others
abbrev pub tell_goal : List ModuleTree → List Term → Walk → Form → List Form → Step → Told
tell_goal modules all w One rest c = Tells OneLine (to_prove w rest)
tell_goal modules all w Top rest c = Tells EraseLine (to_prove w rest)
tell_goal modules all w (Tensor f g) rest c = Tells (TensorLine [] []) (to_prove w (f ∷ g ∷ rest))
tell_goal modules all w (With f g) rest c = Tells WithLine (to_prove w (f ∷ g ∷ rest))
tell_goal modules all w (Plus f g) rest Right = Tells RightLine (to_prove w (g ∷ rest))
tell_goal modules all w (Plus f g) rest _ = Tells LeftLine (to_prove w (f ∷ rest))
tell_goal modules all w (Bang f) rest c = Tells BangLine (to_prove w (f ∷ rest))
tell_goal modules all w (Lolli r g) rest c = Tells (LolliLine (length w.clauses)) (with_clause w r (g ∷ rest))
tell_goal modules all w (Imp r g) rest c = Tells (ImpLine (length w.clauses)) (with_clause w r (g ∷ rest))
tell_goal modules all w (Forall f) rest c = Tells (ForallLine w.eigens) (record w { goals = f ∷ rest; eigens = suc w.eigens })
tell_goal modules all w (Exists f) rest c = Tells (ExistsLine (value all w.used)) (record w { goals = f ∷ rest; used = suc w.used })
tell_goal modules all w (Use m ts g) rest c = tell_load w g rest (slice_get modules m)
tell_goal modules all w (Num r t u) rest c = Tells NumLine (to_prove w rest)
tell_goal modules all w (Atom a) rest (ClauseStep label k) = tell_clause all w rest label k (slice_get w.clauses label)
tell_goal modules all w (Atom a) rest _ = Lost

-- what a step tells of these goals
abbrev pub tell_front : List ModuleTree → List Term → Walk → List Form → Step → Told
tell_front modules all w [] c = Lost
tell_front modules all w (g ∷ rest) c = tell_goal modules all (to_prove w rest) g rest c

-- what a step tells of where the walk stands
abbrev pub tell : List ModuleTree → List Term → Walk → Step → Told
tell modules all w c = tell_front modules all w w.goals c

-- a node in front of those after it
abbrev pub after_node : Told → (Walk → List Line) → List Line
after_node Lost go = []
after_node (Tells n w) go = n ∷ go w

-- the nodes that the steps tell
abbrev pub told : List ModuleTree → List Term → List Step → Walk → List Line
told modules all [] w = []
told modules all (c ∷ cs) w = after_node (tell modules all w c) (told modules all cs)

-- the step tells a node
abbrev pub IsTold : Told → Type 0
IsTold Lost = ⊥
IsTold (Tells n w) = Unit {0}

-- where the walk along a branch of a problem's search starts
abbrev pub walk_start : ProblemTree → Walk
walk_start p = record { goals = bare p.goal ∷ []; clauses = map (λ c. bare c.form) p.clauses; eigens = 0; used = length p.asked }
