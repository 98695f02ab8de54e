-- Which formulas are goals and which are clauses, and which problems are valid.
use Rattle.std.specs.Prelude.{◌≡◌, ◌≤◌, ◌<◌, ℕ, suc, Bool, true, false, ◌&&◌, List, [], ◌∷◌, ◌++◌, length, replicate, nat_eq, nat_lt, nat_le, slice_get}
use Rattle.std.specs.Prelude.{slice_index_or, Option, Some, None}
use Rattle.std.specs.List.{list_all}
use Rattle.ll_bank.specs.declared.Head.{Head}
use Rattle.ll_bank.specs.declared.Head.TheVariants.{Name, Bound}
use Rattle.ll_bank.specs.Term.{Term, Con, Ap, head_of, arity, eigens_below, is_spine}
use Rattle.ll_bank.specs.Form.{Form, Top, One, Atom, With, Tensor, Plus, Bang, Lolli, Imp, Forall, Exists, Use, Num}
use Rattle.ll_laws.specs.Leaf.{ways}
use Rattle.ll_laws.specs.Module.{ClauseTree, ModuleTree}
use Rattle.ll_laws.specs.Unify.{vars_below}
use Rattle.ll_laws.specs.Problem.{ProblemTree}

-- the side of a sequent on which a formula stands: a goal on the right, a clause on the left
pub data Side : Type 0 where
  GoalSide : Side
  ClauseSide : Side

-- the formula may stand on this side (Hodas and Miller 1994, goals and resource formulas)
abbrev pub is_on : Side → Form → Bool
is_on GoalSide Top = true
is_on GoalSide One = true
is_on GoalSide (Atom a) = true
is_on GoalSide (With f g) = is_on GoalSide f && is_on GoalSide g
is_on GoalSide (Tensor f g) = is_on GoalSide f && is_on GoalSide g
is_on GoalSide (Plus f g) = is_on GoalSide f && is_on GoalSide g
is_on GoalSide (Bang f) = is_on GoalSide f
is_on GoalSide (Lolli r g) = is_on ClauseSide r && is_on GoalSide g
is_on GoalSide (Imp r g) = is_on ClauseSide r && is_on GoalSide g
is_on GoalSide (Forall f) = is_on GoalSide f
is_on GoalSide (Exists f) = is_on GoalSide f
is_on GoalSide (Use m ts f) = is_on GoalSide f
is_on GoalSide (Num r t u) = true
is_on ClauseSide Top = true
is_on ClauseSide (Atom a) = true
is_on ClauseSide (With r s) = is_on ClauseSide r && is_on ClauseSide s
is_on ClauseSide (Lolli g r) = is_on GoalSide g && is_on ClauseSide r
is_on ClauseSide (Imp g r) = is_on GoalSide g && is_on ClauseSide r
is_on ClauseSide (Forall r) = is_on ClauseSide r
is_on ClauseSide _ = false

-- the formula is a goal
abbrev pub is_goal : Form → Bool
is_goal g = is_on GoalSide g

-- the formula is a clause
abbrev pub is_clause : Form → Bool
is_clause r = is_on ClauseSide r

-- a test of each atom of a formula, of each argument of a load and of both sides of a whole-number goal, given the number of quantifiers round it
abbrev pub each_term : (ℕ → Term → Bool) → ℕ → Form → Bool
each_term test n Top = true
each_term test n One = true
each_term test n (Atom a) = test n a
each_term test n (With f g) = each_term test n f && each_term test n g
each_term test n (Tensor f g) = each_term test n f && each_term test n g
each_term test n (Plus f g) = each_term test n f && each_term test n g
each_term test n (Bang f) = each_term test n f
each_term test n (Lolli f g) = each_term test n f && each_term test n g
each_term test n (Imp f g) = each_term test n f && each_term test n g
each_term test n (Forall f) = each_term test (suc n) f
each_term test n (Exists f) = each_term test (suc n) f
each_term test n (Use m ts f) = list_all (test n) ts && each_term test n f
each_term test n (Num r t u) = test n t && test n u

-- the bound places of a term are below n
abbrev pub places_below : ℕ → Term → Bool
places_below n (Con (Bound k)) = nat_lt k n
places_below n (Ap f a) = places_below n f && places_below n a
places_below n _ = true

-- the free bound places of a formula are below n
abbrev pub free_below : ℕ → Form → Bool
free_below n f = each_term places_below n f

-- the names of a term are below n
abbrev pub names_below : ℕ → Term → Bool
names_below n (Con (Name k)) = nat_lt k n
names_below n (Ap f a) = names_below n f && names_below n a
names_below n _ = true

-- no application in a term has more arguments than n
abbrev pub arity_up_to : ℕ → Term → Bool
arity_up_to n (Ap f a) = nat_le (arity (Ap f a)) n && arity_up_to n f && arity_up_to n a
arity_up_to n _ = true

-- The quantifiers round a formula, the innermost first: for each, whether its bound place may be a predicate or have
-- arguments.
abbrev pub Scope : Type 0
Scope = List Bool

-- a bound place as the head of a term is one that may be
abbrev pub may_head : Scope → Option Head → Bool
may_head scope (Some (Bound k)) = slice_index_or scope k false
may_head scope _ = true

-- what stands in front of arguments, anywhere in a term, is a head that may have them
abbrev pub is_headed : Scope → Term → Bool
is_headed scope (Ap f a) = is_spine f && may_head scope (head_of f) && is_headed scope f && is_headed scope a
is_headed scope _ = true

-- an atom has a head, which may be a predicate
abbrev pub is_atom : Scope → Term → Bool
is_atom scope a = is_spine a && may_head scope (head_of a) && is_headed scope a

-- the atoms of a formula on this side, the arguments of its loads and the sides of its whole-number goals have heads that may be. `opens` says that the bound
-- place of a goal's `forall` may be one, as it may where an eigenvariable takes its place.
abbrev pub has_heads : Bool → Side → Scope → Form → Bool
has_heads opens side scope Top = true
has_heads opens side scope One = true
has_heads opens side scope (Atom a) = is_atom scope a
has_heads opens side scope (With f g) = has_heads opens side scope f && has_heads opens side scope g
has_heads opens side scope (Tensor f g) = has_heads opens side scope f && has_heads opens side scope g
has_heads opens side scope (Plus f g) = has_heads opens side scope f && has_heads opens side scope g
has_heads opens side scope (Bang f) = has_heads opens side scope f
has_heads opens GoalSide scope (Lolli r g) = has_heads opens ClauseSide scope r && has_heads opens GoalSide scope g
has_heads opens ClauseSide scope (Lolli g r) = has_heads opens GoalSide scope g && has_heads opens ClauseSide scope r
has_heads opens GoalSide scope (Imp r g) = has_heads opens ClauseSide scope r && has_heads opens GoalSide scope g
has_heads opens ClauseSide scope (Imp g r) = has_heads opens GoalSide scope g && has_heads opens ClauseSide scope r
has_heads opens GoalSide scope (Forall f) = has_heads opens GoalSide (opens ∷ scope) f
has_heads opens ClauseSide scope (Forall r) = has_heads opens ClauseSide (false ∷ scope) r
has_heads opens side scope (Exists f) = has_heads opens side (false ∷ scope) f
has_heads opens side scope (Use m ts f) = list_all (is_headed scope) ts && has_heads opens side scope f
has_heads opens side scope (Num r t u) = is_headed scope t && is_headed scope u

-- a load has a module, and as many arguments as this has parameters
abbrev pub fits_module : Option ModuleTree → List Term → Bool
fits_module None ts = false
fits_module (Some m) ts = nat_eq (length ts) m.params

-- each load of a formula names one of the modules, with as many arguments as parameters
abbrev pub loads_fit : List ModuleTree → Form → Bool
loads_fit ms (With f g) = loads_fit ms f && loads_fit ms g
loads_fit ms (Tensor f g) = loads_fit ms f && loads_fit ms g
loads_fit ms (Plus f g) = loads_fit ms f && loads_fit ms g
loads_fit ms (Bang f) = loads_fit ms f
loads_fit ms (Lolli f g) = loads_fit ms f && loads_fit ms g
loads_fit ms (Imp f g) = loads_fit ms f && loads_fit ms g
loads_fit ms (Forall f) = loads_fit ms f
loads_fit ms (Exists f) = loads_fit ms f
loads_fit ms (Use m ts f) = fits_module (slice_get ms m) ts && loads_fit ms f
loads_fit ms _ = true

-- each clause within a formula on this side has at most n leaves
abbrev pub leaves_up_to : ℕ → Side → Form → Bool
leaves_up_to n GoalSide (With f g) = leaves_up_to n GoalSide f && leaves_up_to n GoalSide g
leaves_up_to n GoalSide (Tensor f g) = leaves_up_to n GoalSide f && leaves_up_to n GoalSide g
leaves_up_to n GoalSide (Plus f g) = leaves_up_to n GoalSide f && leaves_up_to n GoalSide g
leaves_up_to n GoalSide (Bang f) = leaves_up_to n GoalSide f
leaves_up_to n GoalSide (Lolli r g) = leaves_up_to n ClauseSide r && leaves_up_to n GoalSide g
leaves_up_to n GoalSide (Imp r g) = leaves_up_to n ClauseSide r && leaves_up_to n GoalSide g
leaves_up_to n GoalSide (Forall f) = leaves_up_to n GoalSide f
leaves_up_to n GoalSide (Exists f) = leaves_up_to n GoalSide f
leaves_up_to n GoalSide (Use m ts f) = leaves_up_to n GoalSide f
leaves_up_to n ClauseSide (With r s) = nat_le (length (ways (With r s))) n && leaves_up_to n ClauseSide r && leaves_up_to n ClauseSide s
leaves_up_to n ClauseSide (Lolli g r) = leaves_up_to n GoalSide g && leaves_up_to n ClauseSide r
leaves_up_to n ClauseSide (Imp g r) = leaves_up_to n GoalSide g && leaves_up_to n ClauseSide r
leaves_up_to n ClauseSide (Forall r) = leaves_up_to n ClauseSide r
leaves_up_to n _ _ = true

-- the greatest number of program clauses, of leaves of a clause, and of arguments
abbrev pub largest_count : ℕ
largest_count = 16777216

-- what formulas may mention: modules, variables below a number, and eigenvariables below a number; and whether the bound
-- place of a goal's `forall` may be a predicate
pub record Allowed : Type 0 where
  pub modules : List ModuleTree
  pub variables : ℕ
  pub eigens : ℕ
  pub opens : Bool

-- a formula on this side and in this scope, well sorted and well scoped
pub record IsFormula (may : Allowed) (side : Side) (scope : Scope) (f : Form) : Type 0 where
  pub sorted : is_on side f ≡ true
  -- a free bound place is that of a quantifier in its scope
  pub closed : free_below (length scope) f ≡ true
  pub heads : has_heads may.opens side scope f ≡ true
  pub variables : each_term (λ n. vars_below may.variables) 0 f ≡ true
  pub eigens : each_term (λ n. eigens_below may.eigens) 0 f ≡ true
  pub loads : loads_fit may.modules f ≡ true

-- the numbers in a formula have their limits: names are among so many, clauses and terms are not too wide
pub record IsWithinLimits (names : ℕ) (side : Side) (f : Form) : Type 0 where
  pub named : each_term (λ n. names_below names) 0 f ≡ true
  pub leaves : leaves_up_to largest_count side f ≡ true
  pub arguments : each_term (λ n. arity_up_to largest_count) 0 f ≡ true

-- a formula of a problem: it has no eigenvariable, and only the bound place of a module's local may be a predicate
abbrev pub given : List ModuleTree → ℕ → Allowed
given modules variables = record { modules = modules; variables = variables; eigens = 0; opens = false }

-- each of the clauses is one in this scope, and holds no variable
abbrev pub AreClauses : ℕ → List ModuleTree → Scope → List ClauseTree → Type 0
AreClauses names modules scope [] = Unit {0}
AreClauses names modules scope (c ∷ cs) =
    IsFormula (given modules 0) ClauseSide scope c.form × IsWithinLimits names ClauseSide c.form × AreClauses names modules scope cs

-- the scope of a module's clauses: its parameters, the last one innermost, and round them its locals
abbrev pub module_scope : ModuleTree → Scope
module_scope m = replicate m.params false ++ replicate m.locals true

-- the clauses of each module are clauses in its scope, and its name is one of the names
abbrev pub AreModules : ℕ → List ModuleTree → List ModuleTree → Type 0
AreModules names modules [] = Unit {0}
AreModules names modules (m ∷ ms) = AreClauses names modules (module_scope m) m.clauses × (m.name < names) × AreModules names modules ms

-- the name of a variable, if it has one, is one of the names
abbrev pub is_asked : ℕ → Option ℕ → Bool
is_asked names None = true
is_asked names (Some n) = nat_lt n names

-- a valid problem
pub record IsValid (p : ProblemTree) : Type 0 where
  pub goal : IsFormula (given p.modules (length p.asked)) GoalSide [] p.goal
  pub goal_limits : IsWithinLimits (length p.names) GoalSide p.goal
  pub clauses : AreClauses (length p.names) p.modules [] p.clauses
  pub modules : AreModules (length p.names) p.modules p.modules
  pub asked : list_all (is_asked (length p.names)) p.asked ≡ true
  pub clause_count : length p.clauses ≤ largest_count
  pub bound : p.bound ≤ 1000000
