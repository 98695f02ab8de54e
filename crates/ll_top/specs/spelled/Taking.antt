-- Terms and formulas whose names have as many arguments as they may.
use Rattle.std.specs.Prelude.{◌≡◌, ◌≤◌, ℕ, suc, Bool, true, false, List, [], ◌∷◌, length, slice_index_or, slice_get, Some, ◌⊎◌, FitsSigned}
use Rattle.std.specs.Int.{w64}
use Rattle.ll_bank.specs.declared.Head.TheVariants.{Name, Eigen, Bound}
use Rattle.ll_bank.specs.Term.{Term, Var, Int, Con, Ap}
use Rattle.ll_bank.specs.Form.{Form, Top, One, Atom, With, Tensor, Plus, Bang, Lolli, Imp, Forall, Exists, Use, Num, Relation, Is, Less, Most}
use Rattle.ll_laws.specs.Valid.{Side, GoalSide, ClauseSide}
use Rattle.ll_laws.specs.Leaf.{ways}

-- the quantifiers round a term, the innermost first: for each, whether its bound place may have arguments
abbrev pub Places : Type 0
Places = List Bool

-- the bound place may have so many arguments
abbrev pub Holds : Places → ℕ → ℕ → Type 0
Holds sc n k = (k ≡ 0) ⊎ (slice_index_or sc n false ≡ true)

-- `takes n k` says that name n may have k arguments
abbrev pub TakesAt : Type 1
TakesAt = ℕ → ℕ → Type 0

-- each name in the term, which stands in front of k arguments more, has as many arguments as it may, and each number has 64 bits
abbrev pub TermTakes : TakesAt → Places → ℕ → Term → Type 0
TermTakes takes sc k (Var x) = k ≡ 0
TermTakes takes sc k (Int z) = (k ≡ 0) × FitsSigned w64 z
TermTakes takes sc k (Con (Name n)) = takes n k
TermTakes takes sc k (Con (Eigen n)) = Unit {0}
TermTakes takes sc k (Con (Bound n)) = Holds sc n k
TermTakes takes sc k (Ap f a) = TermTakes takes sc (suc k) f × TermTakes takes sc 0 a

-- the same of each of the terms
abbrev pub TermsTake : TakesAt → Places → List Term → Type 0
TermsTake takes sc [] = Unit {0}
TermsTake takes sc (t ∷ ts) = TermTakes takes sc 0 t × TermsTake takes sc ts

-- a clause has at most so many leaves, and so many quantifiers on the way to each
pub record IsLight (most : ℕ) (r : Form) : Type 0 where
  pub leaves : length (ways r) ≤ most
  pub quantifiers : (k n : ℕ) → slice_get (ways r) k ≡ Some n → n ≤ most

-- any name may have any number of arguments
abbrev pub anyhow : TakesAt
anyhow n k = Unit {0}

-- the left side of an `is`, and the numbers of its right side; of other whole-number goals nothing is asked, since they bind nothing
abbrev pub BoundTakes : TakesAt → Places → Relation → Term → Term → Type 0
BoundTakes takes sc Is t u = TermTakes takes sc 0 t × TermTakes anyhow sc 0 u
BoundTakes takes sc Less t u = Unit {0}
BoundTakes takes sc Most t u = Unit {0}

-- the same of the terms of a formula on this side; and the clauses that it loads are light
abbrev pub FormTakes : TakesAt → ℕ → Side → Places → Form → Type 0
FormTakes takes most side sc Top = Unit {0}
FormTakes takes most side sc One = Unit {0}
FormTakes takes most side sc (Atom a) = TermTakes takes sc 0 a
FormTakes takes most side sc (With f g) = FormTakes takes most side sc f × FormTakes takes most side sc g
FormTakes takes most side sc (Tensor f g) = FormTakes takes most side sc f × FormTakes takes most side sc g
FormTakes takes most side sc (Plus f g) = FormTakes takes most side sc f × FormTakes takes most side sc g
FormTakes takes most side sc (Bang f) = FormTakes takes most side sc f
FormTakes takes most GoalSide sc (Lolli r g) = IsLight most r × (FormTakes takes most ClauseSide sc r × FormTakes takes most GoalSide sc g)
FormTakes takes most ClauseSide sc (Lolli g r) = FormTakes takes most GoalSide sc g × FormTakes takes most ClauseSide sc r
FormTakes takes most GoalSide sc (Imp r g) = IsLight most r × (FormTakes takes most ClauseSide sc r × FormTakes takes most GoalSide sc g)
FormTakes takes most ClauseSide sc (Imp g r) = FormTakes takes most GoalSide sc g × FormTakes takes most ClauseSide sc r
FormTakes takes most GoalSide sc (Forall f) = FormTakes takes most GoalSide (true ∷ sc) f
FormTakes takes most ClauseSide sc (Forall f) = FormTakes takes most ClauseSide (false ∷ sc) f
FormTakes takes most side sc (Exists f) = FormTakes takes most side (false ∷ sc) f
FormTakes takes most side sc (Use m ts f) = TermsTake takes sc ts × FormTakes takes most side sc f
FormTakes takes most side sc (Num r t u) = BoundTakes takes sc r t u
