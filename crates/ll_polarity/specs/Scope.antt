-- What the names of a text mean where they stand.
use Rattle.std.specs.Prelude.{ℕ, suc, Bool, true, false, ◌||◌, List, [], ◌∷◌, ◌++◌, map, reverse, nat_eq, if◌then◌else◌}
use Rattle.std.specs.Str.{bytes_eq}
use Rattle.std.specs.Char.{is_ascii_uppercase}
use Rattle.ll_parser.specs.Raw.{ModuleTree}

-- a name is a variable's if it begins with an upper-case letter or `_`
abbrev pub is_variable : List ℕ → Bool
is_variable [] = false
is_variable (b ∷ bs) = is_ascii_uppercase b || nat_eq b 95

-- what binds a name: a quantifier, a module's parameter, or a module's local constant
pub record Binder : Type 0 where
  pub text : List ℕ
  -- whether it is a local constant
  pub local : Bool

-- what binds names round a place, the innermost binder first
abbrev pub Scope : Type 0
Scope = List Binder

-- a quantifier or a parameter
abbrev pub binds : List ℕ → Binder
binds w = record { text = w; local = false }

-- a local constant
abbrev pub declares : List ℕ → Binder
declares w = record { text = w; local = true }

-- the scope without its innermost binder
abbrev pub outer : Scope → Scope
outer [] = []
outer (b ∷ bs) = bs

-- what a name means
pub data Meaning : Type 0 where
  -- what the quantifier or parameter that is so many binders further out stands for
  Bound : ℕ → Meaning
  -- the local constant that is so many binders further out
  Local : ℕ → Meaning
  -- a variable of the whole clause or query
  Free : Meaning
  -- a constant, a function or a predicate
  Constant : Meaning

-- what the binder that is k binders further out makes of its name
abbrev pub bound_by : Bool → ℕ → Meaning
bound_by true k = Local k
bound_by false k = Bound k

-- what a name means that nothing binds
abbrev pub unbound : Bool → Meaning
unbound true = Free
unbound false = Constant

-- what a name means in a scope of which k binders were passed: the innermost binder of the name counts
abbrev pub meaning_from : ℕ → Scope → List ℕ → Meaning
meaning_from k [] w = unbound (is_variable w)
meaning_from k (b ∷ bs) w = if bytes_eq w b.text then bound_by b.local k else meaning_from (suc k) bs w

-- what a name means in a scope
abbrev pub meaning : Scope → List ℕ → Meaning
meaning scope w = meaning_from 0 scope w

-- the scope of a module's clauses: its parameters, the last one innermost, and round them its local constants
abbrev pub module_scope : ModuleTree → Scope
module_scope m = map (λ n. binds n.text) (reverse m.params) ++ map (λ n. declares n.text) (reverse m.locals)

-- the scope of a place, and the texts of all names
pub record Scoped : Type 0 where
  pub texts : List (List ℕ)
  pub scope : Scope
