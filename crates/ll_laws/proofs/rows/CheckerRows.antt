-- Worked examples of derivations: what the checker says of them, computed.
use Rattle.std.proofs.Common.{◌≡◌, ℕ, refl, List, [], ◌∷◌}
use Rattle.std.specs.Prelude.{pos, Option, Some, None}
use Rattle.ll_laws.specs.declared.Kind.TheVariants.{Linear, Unbounded}
use Rattle.ll_bank.specs.declared.Head.TheVariants.{Name, Eigen, Bound}
use Rattle.ll_bank.specs.Term.{Term, Var, Int, Con, app}
use Rattle.ll_bank.specs.Form.{Form, Top, One, Atom, With, Tensor, Lolli, Imp, Forall, Exists}
use Rattle.ll_laws.specs.Module.{ClauseTree}
use Rattle.ll_laws.specs.Problem.{ProblemTree}
use Rattle.ll_laws.specs.Shows.{Tree, OneNode}
use Rattle.ll_laws.specs.Fault.{Checked, Fits, Fault}
use Rattle.ll_laws.specs.Line.{Labels, Free, Line, OneLine, EraseLine, WithLine, LeftLine, BangLine, TensorLine, LolliLine, ForallLine, ExistsLine, ClauseLine}
use Rattle.ll_laws.specs.Line.{DerivationLines, trees_of}
use Rattle.ll_laws.specs.Verdict.{first_fault}

abbrev atom : ℕ → List Term → Form
atom n ts = Atom (app (Name n) ts)

abbrev a : Form
a = atom 0 []

abbrev b : Form
b = atom 1 []

abbrev place : ℕ → Term
place k = Con (Bound k)

abbrev linear : Form → ClauseTree
linear f = record { kind = Linear; form = f }

abbrev unbounded : Form → ClauseTree
unbounded f = record { kind = Unbounded; form = f }

-- a problem with this program and query, with so many variables asked for
abbrev problem : List ClauseTree → Form → List (Option ℕ) → ProblemTree
problem cs g asked = record { names = []; modules = []; clauses = cs; goal = g; asked = asked; bound = 0 }

-- the verdict on the first tree of a derivation
abbrev pub of_first : ProblemTree → DerivationLines → Option (List Tree) → Option Checked
of_first p d (Some (x ∷ [])) = Some (first_fault p d x)
of_first p d _ = None

abbrev pub Says : ProblemTree → List Term → List Line → Checked → Type 0
Says p ts ns v = of_first p (record { asked = ts; nodes = ns }) (trees_of ns) ≡ Some v

-- `LINEAR a. LINEAR b.` and `(erase & a) , b`
abbrev erase_or_a : ProblemTree
erase_or_a = problem (linear a ∷ linear b ∷ []) (Tensor (With Top a) b) []

both_dealt : Says erase_or_a [] (TensorLine (0 ∷ []) (1 ∷ []) ∷ WithLine ∷ EraseLine ∷ ClauseLine 0 0 [] [] ∷ ClauseLine 1 0 [] [] ∷ []) (Fits 6)
both_dealt = refl

dealt_to_one_side : Says erase_or_a [] (TensorLine (0 ∷ 1 ∷ []) [] ∷ WithLine ∷ EraseLine ∷ ClauseLine 0 0 [] [] ∷ ClauseLine 1 0 [] [] ∷ []) (Fault 4 3)
dealt_to_one_side = refl

label_dealt_twice : Says erase_or_a [] (TensorLine (0 ∷ 1 ∷ []) (1 ∷ []) ∷ WithLine ∷ EraseLine ∷ ClauseLine 0 0 [] [] ∷ ClauseLine 1 0 [] [] ∷ []) (Fault 1 3)
label_dealt_twice = refl

other_rule : Says erase_or_a [] (TensorLine (0 ∷ []) (1 ∷ []) ∷ LeftLine ∷ EraseLine ∷ ClauseLine 1 0 [] [] ∷ []) (Fault 2 1)
other_rule = refl

clause_used_twice : Says (problem (linear a ∷ []) (Tensor a a) []) [] (TensorLine (0 ∷ []) [] ∷ ClauseLine 0 0 [] [] ∷ ClauseLine 0 0 [] [] ∷ []) (Fault 3 4)
clause_used_twice = refl

no_such_leaf : Says (problem (unbounded a ∷ []) a []) [] (ClauseLine 0 1 [] [] ∷ []) (Fault 1 5)
no_such_leaf = refl

-- `p X X.` and `forall x\ exists y\ p x y`
equal_terms : Says (problem (unbounded (Forall (atom 2 (place 0 ∷ place 0 ∷ []))) ∷ []) (Forall (Exists (atom 2 (place 1 ∷ place 0 ∷ [])))) []) []
    (ForallLine 0 ∷ ExistsLine (Con (Eigen 0)) ∷ ClauseLine 0 0 (Con (Eigen 0) ∷ []) [] ∷ []) (Fits 4)
equal_terms = refl

-- `p X X.` and `forall x\ p x Y` with the constant for Y
constant_not_new : Says (problem (unbounded (Forall (atom 2 (place 0 ∷ place 0 ∷ []))) ∷ []) (Forall (atom 2 (place 0 ∷ Var 0 ∷ []))) (Some 3 ∷ []))
    (Con (Eigen 0) ∷ []) (ForallLine 0 ∷ ClauseLine 0 0 (Con (Eigen 0) ∷ []) [] ∷ []) (Fault 1 10)
constant_not_new = refl

too_few_terms : Says (problem (unbounded (Forall (atom 2 (place 0 ∷ []))) ∷ []) (atom 2 (Int (pos 1) ∷ [])) []) [] (ClauseLine 0 0 [] [] ∷ []) (Fault 1 6)
too_few_terms = refl

other_head : Says (problem (unbounded (Forall (atom 2 (place 0 ∷ []))) ∷ []) (atom 2 (Int (pos 1) ∷ [])) []) [] (ClauseLine 0 0 (Int (pos 2) ∷ []) [] ∷ [])
    (Fault 1 7)
other_head = refl

-- `p <= q. q.` and `p`
unbounded_premise : Says (problem (unbounded (Imp b a) ∷ unbounded b ∷ []) a []) [] (ClauseLine 0 0 [] (Free ∷ []) ∷ BangLine ∷ ClauseLine 1 0 [] [] ∷ [])
    (Fits 4)
unbounded_premise = refl

premise_of_the_other_kind : Says (problem (unbounded (Imp b a) ∷ unbounded b ∷ []) a []) [] (ClauseLine 0 0 [] (Labels [] ∷ []) ∷ ClauseLine 1 0 [] [] ∷ [])
    (Fault 1 8)
premise_of_the_other_kind = refl

-- `a -o true`
resource_left : Says (problem [] (Lolli a One) []) [] (LolliLine 0 ∷ OneLine ∷ []) (Fault 2 2)
resource_left = refl

label_not_new : Says (problem (linear a ∷ []) (Lolli b Top) []) [] (LolliLine 0 ∷ EraseLine ∷ []) (Fault 1 9)
label_not_new = refl

term_for_no_variable : Says (problem [] One []) (Int (pos 1) ∷ []) (OneLine ∷ []) (Fault 0 11)
term_for_no_variable = refl

one_line_too_many : trees_of (OneLine ∷ OneLine ∷ []) ≡ Some (OneNode ∷ OneNode ∷ [])
one_line_too_many = refl

one_line_too_few : trees_of (LeftLine ∷ []) ≡ None
one_line_too_few = refl
