-- What the raw trees of clauses and queries mean: formulas, whose names are numbered in the order in which they first occur, and
-- whose variables in the order in which those first occur.
use Rattle.std.specs.Prelude.{ℕ, suc, ◌+◌, ◌-◌, Bool, false, pos, List, [], ◌∷◌, ◌++◌, map, length, nat_lt, if◌then◌else◌, Option, Some, None, position}
use Rattle.std.specs.Prelude.{unwrap_or}
use Rattle.std.specs.List.{list_any}
use Rattle.std.specs.Str.{bytes_eq}
use Rattle.ll_bank.specs.declared.Head.TheVariants as head
use Rattle.ll_bank.specs.Names.{number_of, with_name}
use Rattle.ll_bank.specs.Term.{Term, Var, Int, Con, Ap, apply}
use Rattle.ll_bank.specs.Form.{Form, Top, One, Atom, With, Tensor, Plus, Bang, Lolli, Imp, Forall, Exists, Use, Num, Relation, Is, Less, Most}
use Rattle.ll_laws.specs.Module.{forall_all}
use Rattle.ll_parser.specs.declared.Op.{Op}
use Rattle.ll_parser.specs.declared.Op.TheVariants as op
use Rattle.ll_parser.specs.Raw.{Raw, truth, erasure, braces, universal, existential, load, binary, is_goal, less_goal, most_goal, head, anything, int, RawList}
use Rattle.ll_parser.specs.Raw.{none, more}
use Rattle.ll_polarity.specs.Scope.{Scope, binds, Meaning, Bound, Local, Free, Constant, meaning}

-- what was met in a text so far: the texts of its names, and the variables of the clause or query at hand, `_` without a text
pub record Met : Type 0 where
  pub names : List (List ℕ)
  pub variables : List (Option (List ℕ))

-- what a part of a text means, and what was met up to its end
pub record Read (A : Type 0) : Type 0 where
  pub it : A
  pub met : Met

-- the variable has this text
abbrev pub has_text : List ℕ → Option (List ℕ) → Bool
has_text w None = false
has_text w (Some v) = bytes_eq w v

-- the number of a text among names that have it
abbrev pub number_in : List (List ℕ) → List ℕ → ℕ
number_in names w = unwrap_or (number_of names w) 0

-- the number of a variable among those that have it
abbrev pub variable_in : List (Option (List ℕ)) → List ℕ → ℕ
variable_in variables w = unwrap_or (position (has_text w) variables) 0

-- the variables with this one, which goes last unless it is among them
abbrev pub with_variable : List (Option (List ℕ)) → List ℕ → List (Option (List ℕ))
with_variable variables w = if list_any (has_text w) variables then variables else variables ++ Some w ∷ []

-- a constant
abbrev pub read_constant : Met → List ℕ → Read Term
read_constant met w = let names = with_name met.names w in record { it = Con (head.Name (number_in names w)); met = record met { names = names } }

-- a variable of the clause or query
abbrev pub read_variable : Met → List ℕ → Read Term
read_variable met w = let variables = with_variable met.variables w in record { it = Var (variable_in variables w); met = record met { variables = variables } }

-- a name with this meaning
abbrev pub read_name : Meaning → Met → List ℕ → Read Term
read_name (Bound k) met w = record { it = Con (head.Bound k); met = met }
read_name (Local k) met w = record { it = Con (head.Bound k); met = met }
read_name Free met w = read_variable met w
read_name Constant met w = read_constant met w

abbrev mutual
  -- a term
  pub read_term : Scope → Met → Raw → Read Term
  read_term scope met (head n args) =
      let f = read_name (meaning scope n.text) met n.text in let ts = read_terms scope f.met args in record { it = apply f.it ts.it; met = ts.met }
  read_term scope met (anything at) = record { it = Var (length met.variables); met = record met { variables = met.variables ++ None ∷ [] } }
  read_term scope met (int at z) = record { it = Int z; met = met }
  -- no other raw tree is a term
  read_term scope met (truth at) = record { it = Int (pos 0); met = met }
  read_term scope met (erasure at) = record { it = Int (pos 0); met = met }
  read_term scope met (braces at r) = record { it = Int (pos 0); met = met }
  read_term scope met (universal at n r) = record { it = Int (pos 0); met = met }
  read_term scope met (existential at n r) = record { it = Int (pos 0); met = met }
  read_term scope met (load at m args r) = record { it = Int (pos 0); met = met }
  read_term scope met (binary o at l r) = record { it = Int (pos 0); met = met }
  read_term scope met (is_goal at l r) = record { it = Int (pos 0); met = met }
  read_term scope met (less_goal at l r) = record { it = Int (pos 0); met = met }
  read_term scope met (most_goal at l r) = record { it = Int (pos 0); met = met }

  -- terms, from left to right
  pub read_terms : Scope → Met → RawList → Read (List Term)
  read_terms scope met none = record { it = []; met = met }
  read_terms scope met (more r rs) = let t = read_term scope met r in let ts = read_terms scope t.met rs in record { it = t.it ∷ ts.it; met = ts.met }

-- two formulas joined by an operator
abbrev pub joined : Op → Form → Form → Form
joined op.ColonDash h g = Lolli g h
joined op.LeftArrow h g = Imp g h
joined op.Lolli r g = Lolli r g
joined op.RightArrow r g = Imp r g
joined op.Plus f g = Plus f g
joined op.With f g = With f g
joined op.Tensor f g = Tensor f g

-- the place of the first module with this name
abbrev pub module_in : List (List ℕ) → List ℕ → ℕ
module_in modules w = unwrap_or (number_of modules w) 0

-- a whole-number goal: its left side, and then its right one
abbrev pub read_number : Relation → Scope → Met → Raw → Raw → Read Form
read_number q scope met l r = let t = read_term scope met l in let u = read_term scope t.met r in record { it = Num q t.it u.it; met = u.met }

-- a formula, where the modules have these names
abbrev pub read_form : List (List ℕ) → Scope → Met → Raw → Read Form
read_form ms scope met (truth at) = record { it = One; met = met }
read_form ms scope met (erasure at) = record { it = Top; met = met }
read_form ms scope met (braces at r) = let g = read_form ms scope met r in record { it = Bang g.it; met = g.met }
read_form ms scope met (universal at n r) = let g = read_form ms (binds n.text ∷ scope) met r in record { it = Forall g.it; met = g.met }
read_form ms scope met (existential at n r) = let g = read_form ms (binds n.text ∷ scope) met r in record { it = Exists g.it; met = g.met }
read_form ms scope met (load at m args r) =
    let ts = read_terms scope met args in let g = read_form ms scope ts.met r in record { it = Use (module_in ms m.text) ts.it g.it; met = g.met }
read_form ms scope met (binary o at l r) =
    let f = read_form ms scope met l in let g = read_form ms scope f.met r in record { it = joined o f.it g.it; met = g.met }
read_form ms scope met (is_goal at l r) = read_number Is scope met l r
read_form ms scope met (less_goal at l r) = read_number Less scope met l r
read_form ms scope met (most_goal at l r) = read_number Most scope met l r
read_form ms scope met (head n args) = let a = read_term scope met (head n args) in record { it = Atom a.it; met = a.met }
read_form ms scope met (anything at) = let a = read_term scope met (anything at) in record { it = Atom a.it; met = a.met }
read_form ms scope met (int at z) = let a = read_term scope met (int at z) in record { it = Atom a.it; met = a.met }

-- ---- the variables of a clause are quantified over it, outermost, in their order

-- a bound place below d is that of a quantifier inside; the others are n binders further out
abbrev pub moved_out : ℕ → ℕ → ℕ → ℕ
moved_out n d k = if nat_lt k d then k else k + n

-- a term inside d quantifiers, with the places of n quantifiers round these for variables 0 to n - 1
abbrev pub bind_term : ℕ → ℕ → Term → Term
bind_term n d (Var x) = Con (head.Bound (d + (n - suc x)))
bind_term n d (Con (head.Bound k)) = Con (head.Bound (moved_out n d k))
bind_term n d (Con h) = Con h
bind_term n d (Int z) = Int z
bind_term n d (Ap f a) = Ap (bind_term n d f) (bind_term n d a)

-- a formula inside d quantifiers, in the same way
abbrev pub bind_form : ℕ → ℕ → Form → Form
bind_form n d Top = Top
bind_form n d One = One
bind_form n d (Atom a) = Atom (bind_term n d a)
bind_form n d (With f g) = With (bind_form n d f) (bind_form n d g)
bind_form n d (Tensor f g) = Tensor (bind_form n d f) (bind_form n d g)
bind_form n d (Plus f g) = Plus (bind_form n d f) (bind_form n d g)
bind_form n d (Bang f) = Bang (bind_form n d f)
bind_form n d (Lolli f g) = Lolli (bind_form n d f) (bind_form n d g)
bind_form n d (Imp f g) = Imp (bind_form n d f) (bind_form n d g)
bind_form n d (Forall f) = Forall (bind_form n (suc d) f)
bind_form n d (Exists f) = Exists (bind_form n (suc d) f)
bind_form n d (Use m ts f) = Use m (map (bind_term n d) ts) (bind_form n d f)
bind_form n d (Num r t u) = Num r (bind_term n d t) (bind_term n d u)

-- a formula under quantifiers for its n variables, variable 0 outermost
abbrev pub quantified : ℕ → Form → Form
quantified n f = forall_all n (bind_form n 0 f)
