-- The leaves of a clause: the ways in which it can prove an atom (Hodas and Miller 1994, the triples of a resource formula).
use Rattle.std.specs.Prelude.{ℕ, zero, suc, ◌-◌, List, [], ◌∷◌, ◌++◌, map, length, nat_lt, Option, Some, None, if◌then◌else◌, option_map}
use Rattle.ll_bank.specs.Term.{Term, Env, close}
use Rattle.ll_bank.specs.Form.{Form, Atom, With, Bang, Lolli, Imp, Forall, close_form}

-- a premise of a leaf: a bounded one, which `-o` brought, or an unbounded one, which `=>` brought
pub data Premise : Type 0 where
  Needs : Form → Premise
  NeedsFree : Form → Premise

-- the goal by which a premise is proved: an unbounded one from no bounded resource
abbrev pub premise_goal : Premise → Form
premise_goal (Needs g) = g
premise_goal (NeedsFree g) = Bang g

-- a leaf: the premises, the one nearest the head first, and the head, an atom's term
pub record Leaf : Type 0 where
  pub premises : List Premise
  pub head : Term

-- a leaf with one premise more, further from its head
abbrev pub add_premise : Premise → Leaf → Leaf
add_premise p l = record { premises = l.premises ++ p ∷ []; head = l.head }

-- the number of quantifiers on the way to each leaf of a clause, from left to right
abbrev pub ways : Form → List ℕ
ways (Atom a) = 0 ∷ []
ways (With r s) = ways r ++ ways s
ways (Lolli g r) = ways r
ways (Imp g r) = ways r
ways (Forall r) = map (λ n. suc n) (ways r)
ways _ = []

-- leaf k of a clause whose bound places the environment gives, with these terms for the quantifiers on the way
abbrev pub leaf_from : Env → Form → ℕ → List Term → Option Leaf
leaf_from e (Atom a) zero [] = Some (record { premises = []; head = close e a })
leaf_from e (With r s) k ts = if nat_lt k (length (ways r)) then leaf_from e r k ts else leaf_from e s (k - length (ways r)) ts
leaf_from e (Lolli g r) k ts = option_map (add_premise (Needs (close_form e g))) (leaf_from e r k ts)
leaf_from e (Imp g r) k ts = option_map (add_premise (NeedsFree (close_form e g))) (leaf_from e r k ts)
leaf_from e (Forall r) k (t ∷ ts) = leaf_from (Some t ∷ e) r k ts
leaf_from e _ k ts = None

-- leaf k of a clause, with one term for each quantifier on the way, the outermost first
abbrev pub leaf : Form → ℕ → List Term → Option Leaf
leaf r k ts = leaf_from [] r k ts
