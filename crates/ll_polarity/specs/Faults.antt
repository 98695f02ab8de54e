-- The faults of scope and sorting in a text, in the order of the text.
use Rattle.std.specs.Prelude.{◌≡◌, ◌⊎◌, ℕ, suc, Bool, true, false, List, [], ◌∷◌, ◌++◌, map, length, nat_eq, if◌then◌else◌, Option, Some, None, flat_map, find}
use Rattle.std.specs.List.{list_any}
use Rattle.std.specs.Str.{bytes_eq}
use Rattle.ll_lexer.specs.declared.Place.{Place}
use Rattle.ll_lexer.specs.declared.Fault.{Fault}
use Rattle.ll_laws.specs.Valid.{Side, GoalSide, ClauseSide}
use Rattle.ll_parser.specs.declared.Op.{Op}
use Rattle.ll_parser.specs.declared.Op.TheVariants as op
use Rattle.ll_parser.specs.Tokens.{Identifier, Tok, tok_place}
use Rattle.ll_parser.specs.Raw.{Raw, truth, erasure, braces, universal, existential, load, binary, is_goal, less_goal, most_goal, head, anything, int, RawList}
use Rattle.ll_parser.specs.Raw.{none, more, ClauseTree, ModuleTree, ProgramTree}
use Rattle.ll_polarity.specs.Scope.{Scope, binds, Meaning, Bound, Local, Free, Constant, meaning, module_scope}

-- one fault, unless the test holds
abbrev pub unless : Bool → ℕ → Place → List Fault
unless true kind at = []
unless false kind at = record { at = at; kind = kind } ∷ []

-- the name is a constant, so it may be a predicate or have arguments
abbrev pub may_be_head : Meaning → Bool
may_be_head (Bound k) = false
may_be_head (Local k) = true
may_be_head Free = false
may_be_head Constant = true

-- the number of raw trees
abbrev pub count : RawList → ℕ
count none = 0
count (more r rs) = suc (count rs)

-- a name with so many arguments in a term: kind 9, a variable with arguments
abbrev pub applied_fault : Scope → Identifier → RawList → List Fault
applied_fault scope n none = []
applied_fault scope n (more r rs) = unless (may_be_head (meaning scope n.text)) 9 n.at

abbrev mutual
  -- the faults of a term
  pub term_faults : Scope → Raw → List Fault
  term_faults scope (head n args) = applied_fault scope n args ++ terms_faults scope args
  term_faults scope (anything at) = []
  term_faults scope (int at z) = []
  -- no other raw tree is a term
  term_faults scope (truth at) = []
  term_faults scope (erasure at) = []
  term_faults scope (braces at r) = []
  term_faults scope (universal at n r) = []
  term_faults scope (existential at n r) = []
  term_faults scope (load at m args r) = []
  term_faults scope (binary o at l r) = []
  term_faults scope (is_goal at l r) = []
  term_faults scope (less_goal at l r) = []
  term_faults scope (most_goal at l r) = []

  pub terms_faults : Scope → RawList → List Fault
  terms_faults scope none = []
  terms_faults scope (more r rs) = term_faults scope r ++ terms_faults scope rs

-- the other side of a sequent
abbrev pub other : Side → Side
other GoalSide = ClauseSide
other ClauseSide = GoalSide

-- the formula stands where a goal is needed
abbrev pub on_goal_side : Side → Bool
on_goal_side GoalSide = true
on_goal_side ClauseSide = false

-- the side of an operator's left operand, where the whole stands on a side
abbrev pub left_side : Op → Side → Side
left_side op.Lolli side = other side
left_side op.RightArrow side = other side
left_side o side = side

-- the side of its right operand
abbrev pub right_side : Op → Side → Side
right_side op.ColonDash side = other side
right_side op.LeftArrow side = other side
right_side o side = side

-- the operator may stand on a side: not `,` and not `;` where a clause is needed
abbrev pub may_join : Op → Side → Bool
may_join op.Plus side = on_goal_side side
may_join op.Tensor side = on_goal_side side
may_join o side = true

-- a module of the program as loads see it: its name and its number of parameters
pub record Heading : Type 0 where
  pub name : List ℕ
  pub params : ℕ

-- the module has this name
abbrev pub is_named : List ℕ → Heading → Bool
is_named w m = bytes_eq w m.name

-- a load of the first module that has the name: kind 10 if there is none, kind 11 with another number of arguments than parameters
abbrev pub load_fault : Option Heading → Identifier → ℕ → List Fault
load_fault None m n = record { at = m.at; kind = 10 } ∷ []
load_fault (Some h) m n = unless (nat_eq n h.params) 11 m.at

-- the faults of a whole-number goal, whose sign stands at this place between its sides
abbrev pub number_faults : Side → Scope → Place → Raw → Raw → List Fault
number_faults side scope at l r = term_faults scope l ++ unless (on_goal_side side) 7 at ++ term_faults scope r

-- the faults of a formula on a side
abbrev pub form_faults : List Heading → Side → Scope → Raw → List Fault
form_faults ms side scope (truth at) = unless (on_goal_side side) 7 at
form_faults ms side scope (erasure at) = []
form_faults ms side scope (braces at r) = unless (on_goal_side side) 7 at ++ form_faults ms side scope r
form_faults ms side scope (universal at n r) = form_faults ms side (binds n.text ∷ scope) r
form_faults ms side scope (existential at n r) = unless (on_goal_side side) 7 at ++ form_faults ms side (binds n.text ∷ scope) r
form_faults ms side scope (load at m args r) =
    load_fault (find (is_named m.text) ms) m (count args) ++ terms_faults scope args ++ unless (on_goal_side side) 8 at ++ form_faults ms side scope r
form_faults ms side scope (binary o at l r) = form_faults ms (left_side o side) scope l ++ unless (may_join o side) 7 at
    ++ form_faults ms (right_side o side) scope r
form_faults ms side scope (is_goal at l r) = number_faults side scope at l r
form_faults ms side scope (less_goal at l r) = number_faults side scope at l r
form_faults ms side scope (most_goal at l r) = number_faults side scope at l r
form_faults ms side scope (head n args) = unless (may_be_head (meaning scope n.text)) 9 n.at ++ terms_faults scope args
-- no other raw tree is a formula
form_faults ms side scope (anything at) = []
form_faults ms side scope (int at z) = []

-- the faults of clauses
abbrev pub clauses_faults : List Heading → Scope → List ClauseTree → List Fault
clauses_faults ms scope cs = flat_map (λ c. form_faults ms ClauseSide scope c.form) cs

-- names of which each is new after some earlier ones: kind 12 at each that is not
abbrev pub repeated : List (List ℕ) → List Identifier → List Fault
repeated earlier [] = []
repeated earlier (n ∷ ns) = (if list_any (bytes_eq n.text) earlier then record { at = n.at; kind = 12 } ∷ [] else []) ++ repeated (n.text ∷ earlier) ns

-- the faults of modules after modules with some names
abbrev pub modules_faults : List Heading → List (List ℕ) → List ModuleTree → List Fault
modules_faults ms earlier [] = []
modules_faults ms earlier (m ∷ rest) =
    (if list_any (bytes_eq m.name.text) earlier then record { at = m.name.at; kind = 12 } ∷ [] else [])
    ++ repeated [] (m.params ++ m.locals) ++ clauses_faults ms (module_scope m) m.clauses ++ modules_faults ms (m.name.text ∷ earlier) rest

-- a module as loads see it
abbrev pub heading : ModuleTree → Heading
heading m = record { name = m.name.text; params = length m.params }

-- the faults of a program
abbrev pub program_faults : ProgramTree → List Fault
program_faults p = let ms = map heading p.modules in clauses_faults ms [] p.clauses ++ modules_faults ms [] p.modules

-- the faults of a query over a program's modules
abbrev pub query_faults : List Heading → Raw → List Fault
query_faults ms goal = form_faults ms GoalSide [] goal

-- the faults stand at tokens, each at a later one than the fault before it
abbrev pub AreInOrder : List Fault → List Tok → Type 0
AreInOrder [] ts = Unit {0}
AreInOrder (f ∷ fs) [] = ⊥
AreInOrder (f ∷ fs) (t ∷ ts) = ((f.at ≡ tok_place t) × AreInOrder fs ts) ⊎ AreInOrder (f ∷ fs) ts
