-- Formulas without their terms. The nodes of a branch depend on nothing else of its formulas, since a branch gives its terms itself.
use Rattle.std.specs.Prelude.{ℕ, zero, ◌-◌, List, [], ◌∷◌, ◌++◌, length, nat_lt, Option, Some, None, if◌then◌else◌, option_map}
use Rattle.ll_bank.specs.Term.{Var}
use Rattle.ll_bank.specs.Form.{Form, Top, One, Atom, With, Tensor, Plus, Bang, Lolli, Imp, Forall, Exists, Use, Num}
use Rattle.ll_laws.specs.Leaf.{Premise, Needs, NeedsFree, ways}
use Rattle.ll_laws.specs.Module.{ClauseTree, ModuleTree, load, forall_all}

-- a formula without its terms: each atom is the same one, and a load has no arguments
abbrev pub bare : Form → Form
bare Top = Top
bare One = One
bare (Atom a) = Atom (Var 0)
bare (With f g) = With (bare f) (bare g)
bare (Tensor f g) = Tensor (bare f) (bare g)
bare (Plus f g) = Plus (bare f) (bare g)
bare (Bang f) = Bang (bare f)
bare (Lolli f g) = Lolli (bare f) (bare g)
bare (Imp f g) = Imp (bare f) (bare g)
bare (Forall f) = Forall (bare f)
bare (Exists f) = Exists (bare f)
bare (Use m ts f) = Use m [] (bare f)
bare (Num r t u) = Num r (Var 0) (Var 0)

-- an atom without its terms
abbrev pub some_atom : Form
some_atom = Atom (Var 0)

-- a premise without its terms
abbrev pub bare_premise : Premise → Premise
bare_premise (Needs g) = Needs (bare g)
bare_premise (NeedsFree g) = NeedsFree (bare g)

-- premises with one more, further from the head
abbrev pub and_premise : Premise → List Premise → List Premise
and_premise p ps = ps ++ p ∷ []

-- the premises of leaf k of a clause without terms, the one nearest the head first
abbrev pub premises_at : Form → ℕ → Option (List Premise)
premises_at (Atom a) zero = Some []
premises_at (With r s) k = if nat_lt k (length (ways r)) then premises_at r k else premises_at s (k - length (ways r))
premises_at (Lolli g r) k = option_map (and_premise (Needs g)) (premises_at r k)
premises_at (Imp g r) k = option_map (and_premise (NeedsFree g)) (premises_at r k)
premises_at (Forall r) k = premises_at r k
premises_at _ k = None

-- a goal without terms, with clauses loaded for it
abbrev pub bare_load_all : List ClauseTree → Form → Form
bare_load_all [] g = g
bare_load_all (c ∷ cs) g = load c.kind (bare c.form) (bare_load_all cs g)

-- the goal that a load of the module stands for, round a goal without terms
abbrev pub bare_load : ModuleTree → Form → Form
bare_load m g = forall_all m.locals (bare_load_all m.clauses g)
