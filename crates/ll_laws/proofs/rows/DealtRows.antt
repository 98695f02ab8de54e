-- Worked examples of the derivations of answers, computed.
use Rattle.std.proofs.Common.{◌≡◌, ℕ, refl, List, [], ◌∷◌}
use Rattle.std.specs.Prelude.{pos, Option, Some, None}
use Rattle.ll_laws.specs.declared.Kind.TheVariants.{Linear, Unbounded}
use Rattle.ll_laws.specs.declared.Event.{Event}
use Rattle.ll_laws.specs.declared.Event.TheVariants.{Answer}
use Rattle.ll_bank.specs.declared.Head.TheVariants.{Name, Bound}
use Rattle.ll_bank.specs.Term.{Term, Int, Con, Var, app}
use Rattle.ll_bank.specs.Form.{Form, Top, Atom, With, Tensor, Lolli, Imp, Forall}
use Rattle.ll_laws.specs.Module.{ClauseTree}
use Rattle.ll_laws.specs.Unify.{mgu}
use Rattle.ll_laws.specs.State.{settle}
use Rattle.ll_laws.specs.Attempt.{tries, attempt, successors}
use Rattle.ll_laws.specs.Search.{events}
use Rattle.ll_laws.specs.Problem.{ProblemTree, problem_events}
use Rattle.ll_laws.specs.Line.{Labels, Free, Line, EraseLine, WithLine, BangLine, TensorLine, LolliLine, ClauseLine, DerivationLines}
use Rattle.ll_laws.specs.Dealt.{dealt}

abbrev atom : ℕ → List Term → Form
atom n ts = Atom (app (Name n) ts)

abbrev a : Form
a = atom 0 []

abbrev b : Form
b = atom 1 []

abbrev linear : Form → ClauseTree
linear f = record { kind = Linear; form = f }

abbrev unbounded : Form → ClauseTree
unbounded f = record { kind = Unbounded; form = f }

-- a problem with this program and query, with so many variables asked for
abbrev problem : List ClauseTree → Form → List (Option ℕ) → ProblemTree
problem cs g asked = record { names = []; modules = []; clauses = cs; goal = g; asked = asked; bound = 10 }

-- the derivation of the first event, if it is an answer
abbrev of_first : ProblemTree → List Event → Option DerivationLines
of_first p (Answer x ∷ es) = dealt p x
of_first p _ = None

abbrev Gives : ProblemTree → List Term → List Line → Type 0
Gives p ts ns = of_first p (problem_events p) ≡ Some (record { asked = ts; nodes = ns })

-- `LINEAR a.` and `erase , erase`: the first `erase` takes the label
first_erase : Gives (problem (linear a ∷ []) (Tensor Top Top) []) [] (TensorLine (0 ∷ []) [] ∷ EraseLine ∷ EraseLine ∷ [])
unfolding events settle tries attempt successors mgu dealt
first_erase = refl

-- `LINEAR a. LINEAR b.` and `(erase & a) , b`
both_dealt : Gives (problem (linear a ∷ linear b ∷ []) (Tensor (With Top a) b) []) []
    (TensorLine (0 ∷ []) (1 ∷ []) ∷ WithLine ∷ EraseLine ∷ ClauseLine 0 0 [] [] ∷ ClauseLine 1 0 [] [] ∷ [])
unfolding events settle tries attempt successors mgu dealt
both_dealt = refl

-- the same with the sides of `&` changed about
sides_changed : Gives (problem (linear a ∷ linear b ∷ []) (Tensor (With a Top) b) []) []
    (TensorLine (0 ∷ []) (1 ∷ []) ∷ WithLine ∷ ClauseLine 0 0 [] [] ∷ EraseLine ∷ ClauseLine 1 0 [] [] ∷ [])
unfolding events settle tries attempt successors mgu dealt
sides_changed = refl

-- `LINEAR a. LINEAR b.` and `(erase , a) & erase`
left_to_erase : Gives (problem (linear a ∷ linear b ∷ []) (With (Tensor Top a) Top) []) []
    (WithLine ∷ TensorLine (1 ∷ []) (0 ∷ []) ∷ EraseLine ∷ ClauseLine 0 0 [] [] ∷ EraseLine ∷ [])
unfolding events settle tries attempt successors mgu dealt
left_to_erase = refl

-- `a <= b. b.` and `a`: an unbounded premise
unbounded_premise : Gives (problem (unbounded (Imp b a) ∷ unbounded b ∷ []) a []) [] (ClauseLine 0 0 [] (Free ∷ []) ∷ BangLine ∷ ClauseLine 1 0 [] [] ∷ [])
unfolding events settle tries attempt successors mgu dealt
unbounded_premise = refl

-- `a X :- b X.` and `b 1 -o a Y`: the loaded clause has label 1, and the terms are those of the answer
loaded_clause : Gives (problem (unbounded (Forall (Lolli (atom 1 (Con (Bound 0) ∷ [])) (atom 0 (Con (Bound 0) ∷ [])))) ∷ [])
    (Lolli (atom 1 (Int (pos 1) ∷ [])) (atom 0 (Var 0 ∷ []))) (None ∷ [])) (Int (pos 1) ∷ [])
    (LolliLine 1 ∷ ClauseLine 0 0 (Int (pos 1) ∷ []) (Labels (1 ∷ []) ∷ []) ∷ ClauseLine 1 0 [] [] ∷ [])
unfolding events settle tries attempt successors mgu dealt
loaded_clause = refl
