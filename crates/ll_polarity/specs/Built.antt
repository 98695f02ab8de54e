-- How the trees of terms and formulas are put together from raw trees, part by part.
use Rattle.std.specs.Prelude.{⊤, ℕ, zero, suc, pos, List, [], ◌∷◌, ◌++◌, length, Option, Some, None}
use Rattle.ll_bank.specs.Term.{Term, Var, Int, Con, Ap, apply}
use Rattle.ll_bank.specs.Form.{Form, Top, One, Atom, Bang, Forall, Exists, Use, Num, Relation, Is, Less, Most}
use Rattle.ll_parser.specs.Raw.{Raw, truth, erasure, braces, universal, existential, load, binary, is_goal, less_goal, most_goal, head, anything, int, RawList}
use Rattle.ll_parser.specs.Raw.{none, more}
use Rattle.ll_polarity.specs.Scope.{Scope, binds, meaning}
use Rattle.ll_polarity.specs.Reading.{Met, Read, read_name, joined, bind_term, bind_form}

-- where a part of a formula stands: how many quantifiers are put round the whole for its variables, none where these stay; how many
-- quantifiers of the text stand round the part; and what binds its names
pub record Around : Type 0 where
  pub quantified : Option ℕ
  pub depth : ℕ
  pub scope : Scope

-- inside a quantifier
abbrev pub inside : List ℕ → Around → Around
inside w a = record { quantified = a.quantified; depth = suc a.depth; scope = binds w ∷ a.scope }

-- a term inside so many quantifiers, with the places of the quantifiers for its variables
abbrev pub put_term : Option ℕ → ℕ → Term → Term
put_term None d t = t
put_term (Some n) d t = bind_term n d t

-- a formula, in the same way
abbrev pub put_form : Option ℕ → ℕ → Form → Form
put_form None d f = f
put_form (Some n) d f = bind_form n d f

-- what stands in front of arguments, with these; a variable has none
abbrev pub applied : Term → List Term → Term
applied (Var x) ts = Var x
applied (Int z) ts = Int z
applied (Con h) ts = apply (Con h) ts
applied (Ap f a) ts = apply (Ap f a) ts

abbrev mutual
  -- a term that stands there
  pub built_term : Around → Met → Raw → Read Term
  built_term a met (head n args) =
      let f = read_name (meaning a.scope n.text) met n.text in
      let ts = built_terms a f.met args in record { it = applied (put_term a.quantified a.depth f.it) ts.it; met = ts.met }
  built_term a met (anything at) =
      record { it = put_term a.quantified a.depth (Var (length met.variables)); met = record met { variables = met.variables ++ None ∷ [] } }
  built_term a met (int at z) = record { it = Int z; met = met }
  built_term a met (truth at) = record { it = Int (pos 0); met = met }
  built_term a met (erasure at) = record { it = Int (pos 0); met = met }
  built_term a met (braces at r) = record { it = Int (pos 0); met = met }
  built_term a met (universal at n r) = record { it = Int (pos 0); met = met }
  built_term a met (existential at n r) = record { it = Int (pos 0); met = met }
  built_term a met (load at m args r) = record { it = Int (pos 0); met = met }
  built_term a met (binary o at l r) = record { it = Int (pos 0); met = met }
  built_term a met (is_goal at l r) = record { it = Int (pos 0); met = met }
  built_term a met (less_goal at l r) = record { it = Int (pos 0); met = met }
  built_term a met (most_goal at l r) = record { it = Int (pos 0); met = met }

  -- terms, from left to right
  pub built_terms : Around → Met → RawList → Read (List Term)
  built_terms a met none = record { it = []; met = met }
  built_terms a met (more r rs) = let t = built_term a met r in let ts = built_terms a t.met rs in record { it = t.it ∷ ts.it; met = ts.met }

-- a whole-number goal that stands there
abbrev pub built_number : Relation → Around → Met → Raw → Raw → Read Form
built_number q a met l r = let t = built_term a met l in let u = built_term a t.met r in record { it = Num q t.it u.it; met = u.met }

-- a tree that is a whole-number goal
abbrev pub IsNumberGoal : Raw → Type 0
IsNumberGoal (is_goal at l r) = ⊤
IsNumberGoal (less_goal at l r) = ⊤
IsNumberGoal (most_goal at l r) = ⊤
IsNumberGoal _ = ⊥

-- a formula that stands there, where the modules with these names have these places
abbrev pub built_form : (List ℕ → ℕ) → Around → Met → Raw → Read Form
built_form places a met (truth at) = record { it = One; met = met }
built_form places a met (erasure at) = record { it = Top; met = met }
built_form places a met (braces at r) = let g = built_form places a met r in record { it = Bang g.it; met = g.met }
built_form places a met (universal at n r) = let g = built_form places (inside n.text a) met r in record { it = Forall g.it; met = g.met }
built_form places a met (existential at n r) = let g = built_form places (inside n.text a) met r in record { it = Exists g.it; met = g.met }
built_form places a met (load at m args r) =
    let ts = built_terms a met args in let g = built_form places a ts.met r in record { it = Use (places m.text) ts.it g.it; met = g.met }
built_form places a met (binary o at l r) = let f = built_form places a met l in let g = built_form places a f.met r in
    record { it = joined o f.it g.it; met = g.met }
built_form places a met (is_goal at l r) = built_number Is a met l r
built_form places a met (less_goal at l r) = built_number Less a met l r
built_form places a met (most_goal at l r) = built_number Most a met l r
built_form places a met (head n args) = let t = built_term a met (head n args) in record { it = Atom t.it; met = t.met }
built_form places a met (anything at) = let t = built_term a met (anything at) in record { it = Atom t.it; met = t.met }
built_form places a met (int at z) = let t = built_term a met (int at z) in record { it = Atom t.it; met = t.met }

-- ---- arguments

-- the arguments of a name
abbrev pub arguments : Raw → RawList
arguments (head n args) = args
arguments (load at m args r) = args
arguments (truth at) = none
arguments (erasure at) = none
arguments (braces at r) = none
arguments (universal at n r) = none
arguments (existential at n r) = none
arguments (binary o at l r) = none
arguments (is_goal at l r) = none
arguments (less_goal at l r) = none
arguments (most_goal at l r) = none
arguments (anything at) = none
arguments (int at z) = none

-- raw trees without the first ones
abbrev pub raws_past : ℕ → RawList → RawList
raws_past zero rs = rs
raws_past (suc n) none = none
raws_past (suc n) (more r rs) = raws_past n rs
