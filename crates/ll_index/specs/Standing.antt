-- The leaves of a clause as they stand in it, under its quantifiers.
use Rattle.std.specs.Prelude.{◌≡◌, ℕ, suc, List, [], ◌∷◌, ◌++◌, map, length, take, slice_get, Some}
use Rattle.ll_bank.specs.Term.{Term, Env, close}
use Rattle.ll_bank.specs.Form.{Form, Atom, With, Lolli, Imp, Forall, close_form}
use Rattle.ll_laws.specs.declared.Kind.{Kind}
use Rattle.ll_laws.specs.declared.Kind.TheVariants.{Linear, Unbounded}
use Rattle.ll_laws.specs.Leaf.{Premise, Needs, NeedsFree, Leaf, ways, leaf}

-- A premise: a bounded one, which `-o` brought, or an unbounded one, which `=>` brought. Of the quantifiers on the way to the leaf the
-- outermost ones stand round it, so many.
pub record StandingPremise : Type 0 where
  pub goal : Form
  pub kind : Kind
  pub quantifiers : ℕ

-- a leaf: the premises, the one nearest the head first, the number of quantifiers on the way to it, and the head
pub record StandingLeaf : Type 0 where
  pub premises : List StandingPremise
  pub quantifiers : ℕ
  pub head : Term

-- the leaves of a part of a clause, from left to right, which so many quantifiers and these premises stand round
abbrev pub leaves_under : ℕ → List StandingPremise → Form → List StandingLeaf
leaves_under n ps (Atom a) = record { premises = ps; quantifiers = n; head = a } ∷ []
leaves_under n ps (With r s) = leaves_under n ps r ++ leaves_under n ps s
leaves_under n ps (Lolli g r) = leaves_under n (record { goal = g; kind = Linear; quantifiers = n } ∷ ps) r
leaves_under n ps (Imp g r) = leaves_under n (record { goal = g; kind = Unbounded; quantifiers = n } ∷ ps) r
leaves_under n ps (Forall r) = leaves_under (suc n) ps r
leaves_under n ps _ = []

-- the leaves of a clause, from left to right
abbrev pub standing_leaves : Form → List StandingLeaf
standing_leaves r = leaves_under 0 [] r

-- an environment with these terms for more quantifiers, the outermost first
abbrev pub env_under : Env → List Term → Env
env_under e [] = e
env_under e (t ∷ ts) = env_under (Some t ∷ e) ts

-- a premise of a kind
abbrev pub premise_of_kind : Kind → Form → Premise
premise_of_kind Linear g = Needs g
premise_of_kind Unbounded g = NeedsFree g

-- a premise, with these terms for the quantifiers on the way to its leaf
abbrev pub opened_premise : List Term → StandingPremise → Premise
opened_premise ts p = premise_of_kind p.kind (close_form (env_under [] (take p.quantifiers ts)) p.goal)

-- a leaf, with these terms for the quantifiers on the way to it
abbrev pub opened_leaf : List Term → StandingLeaf → Leaf
opened_leaf ts l = record { premises = map (opened_premise ts) l.premises; head = close (env_under [] ts) l.head }

-- there is one for each leaf, with the number of quantifiers on the way to it
abbrev pub LeavesStand : Type 0
LeavesStand = (r : Form) → map (λ l. l.quantifiers) (standing_leaves r) ≡ ways r

-- opened with one term for each quantifier on the way, it is the leaf
abbrev pub LeavesOpen : Type 0
LeavesOpen = (r : Form) (k : ℕ) (ts : List Term) (l : StandingLeaf) → slice_get (standing_leaves r) k ≡ Some l → length ts ≡ l.quantifiers
    → leaf r k ts ≡ Some (opened_leaf ts l)
