-- Worked examples of the candidates for an atom by the sign of its first argument, computed.
use Rattle.std.proofs.Common.{◌≡◌, ℕ, refl, List, [], ◌∷◌}
use Rattle.std.specs.Prelude.{pos, slice_get, Some}
use Rattle.ll_bank.specs.declared.Head.TheVariants.{Name, Eigen, Bound}
use Rattle.ll_bank.specs.Term.{Term, Int, Con, Var, app}
use Rattle.ll_bank.specs.Form.{Form, Atom, With, Lolli, Imp, Forall}
use Rattle.ll_laws.specs.declared.Candidate.{Candidate}
use Rattle.ll_laws.specs.declared.Kind.TheVariants.{Linear, Unbounded}
use Rattle.ll_laws.specs.Module.{ClauseTree}
use Rattle.ll_index.specs.Standing.{standing_leaves}
use Rattle.ll_index.specs.First.{first_of, program_matches}

abbrev at : ℕ → ℕ → Candidate
at label leaf = record { label = label; leaf = leaf }

abbrev clause : Form → ClauseTree
clause f = record { kind = Unbounded; form = f }

-- the names p, q and f
abbrev p : Term → Term
p t = app (Name 0) (t ∷ [])

abbrev q : Form
q = Atom (Con (Name 1))

abbrev f : List Term → Term
f ts = app (Name 2) ts

-- `p 1.`, `p X.`, `p (f Y).`, `LINEAR q & p f.`, `p 2 :- q.`
abbrev program : List ClauseTree
program =
    clause (Atom (p (Int (pos 1)))) ∷ clause (Forall (Atom (p (Con (Bound 0))))) ∷ clause (Forall (Atom (p (f (Con (Bound 0) ∷ [])))))
    ∷ record { kind = Linear; form = With q (Atom (p (f []))) } ∷ clause (Lolli q (Atom (p (Int (pos 2))))) ∷ []

abbrev matches : Term → List Candidate
matches a = program_matches (first_of a) a program

-- a number meets itself and a variable
number : matches (p (Int (pos 1))) ≡ at 0 0 ∷ at 1 0 ∷ []
number = refl

other_number : matches (p (Int (pos 3))) ≡ at 1 0 ∷ []
other_number = refl

-- a name counts with its number of arguments
applied : matches (p (f (Int (pos 7) ∷ []))) ≡ at 1 0 ∷ at 2 0 ∷ []
applied = refl

plain : matches (p (f [])) ≡ at 1 0 ∷ at 3 1 ∷ []
plain = refl

-- a variable and an eigenconstant clash with nothing
variable : matches (p (Var 0)) ≡ at 0 0 ∷ at 1 0 ∷ at 2 0 ∷ at 3 1 ∷ at 4 0 ∷ []
variable = refl

eigenconstant : matches (p (Con (Eigen 0))) ≡ at 0 0 ∷ at 1 0 ∷ at 2 0 ∷ at 3 1 ∷ at 4 0 ∷ []
eigenconstant = refl

-- an atom without arguments
alone : matches (Con (Name 1)) ≡ at 3 0 ∷ []
alone = refl

-- `forall X\ (q -o forall Y\ (q => p Y))` has one leaf, the premise nearest its head first
premises : slice_get (standing_leaves (Forall (Lolli q (Forall (Imp q (Atom (p (Con (Bound 0))))))))) 0
    ≡ Some (record {
      premises = record { goal = q; kind = Unbounded; quantifiers = 2 } ∷ record { goal = q; kind = Linear; quantifiers = 1 } ∷ [];
      quantifiers = 2;
      head = p (Con (Bound 0));
    })
premises = refl
