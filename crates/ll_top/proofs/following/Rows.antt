-- Worked examples of what follows, and of what does not.
use Rattle.std.proofs.Common.{◌≡◌, ℕ, refl, sym, ◌∙◌, true, false, List, [], ◌∷◌, arith}
use Rattle.ll_bank.specs.declared.Head.TheVariants.{Name, Eigen, Bound}
use Rattle.ll_bank.specs.Term.{Term, Con, app}
use Rattle.ll_bank.specs.Form.{Form, Atom, Tensor, Forall, Exists}
use Rattle.ll_laws.specs.declared.Kind.TheVariants.{Linear, Unbounded}
use Rattle.ll_laws.specs.Module.{ClauseTree}
use Rattle.ll_laws.specs.Unify.{mgu}
use Rattle.ll_laws.specs.State.{settle}
use Rattle.ll_laws.specs.Attempt.{tries, attempt, successors}
use Rattle.ll_laws.specs.Search.{events}
use Rattle.ll_laws.specs.Problem.{ProblemTree}
use Rattle.ll_laws.specs.Valid.{IsValid}
use Rattle.ll_laws.specs.Derive.{dealt_none, dealt_left, dealt_right, by_tensor, by_forall, by_exists, by_free, by_linear, no_premise}
use Rattle.ll_laws.specs.Completeness.{NothingIsShown}
use Rattle.ll_top.specs.textbook.Follows.{Follows, reckons}
use Rattle.ll_top.proofs.following.Numbered.{numberless_follows}
use Rattle.ll_top.proofs.following.Covering.{nothing_follows}

abbrev atom : ℕ → List Term → Form
atom n ts = Atom (app (Name n) ts)

abbrev place : ℕ → Term
place k = Con (Bound k)

-- a problem with this program and query, with no variable asked for
abbrev problem : List ClauseTree → Form → ProblemTree
problem cs g = record { names = [] ∷ [] ∷ []; modules = []; clauses = cs; goal = g; asked = []; bound = 10 }

abbrev linear : ℕ → ClauseTree
linear n = record { kind = Linear; form = atom n [] }

-- ---- `LINEAR a. LINEAR b.` and `b , a`: each clause goes to one side
both_used : Follows (problem (linear 0 ∷ linear 1 ∷ []) (Tensor (atom 1 []) (atom 0 []))) 3 []
both_used =
    by_tensor (dealt_right (dealt_left dealt_none)) (by_linear (atom 1 []) 0 [] [] (dealt_left dealt_none) tt refl no_premise)
    (by_linear (atom 0 []) 0 [] [] (dealt_left dealt_none) tt refl no_premise)

-- ---- `p X X.`

abbrev reflexive : ClauseTree
reflexive = record { kind = Unbounded; form = Forall (atom 0 (place 0 ∷ place 0 ∷ [])) }

-- `forall x\ exists y\ p x y` follows, with any eigenvariable
all_then_some : (k : ℕ) → Follows (problem (reflexive ∷ []) (Forall (Exists (atom 0 (place 1 ∷ place 0 ∷ []))))) 3 []
all_then_some k = by_forall k refl (by_exists (Con (Eigen k)) refl (by_free _ 0 (Con (Eigen k) ∷ []) [] (0, omega arith, refl) (refl, tt) refl no_premise))

-- `exists y\ forall x\ p x y` does not, by no number of nodes
abbrev some_then_all : ProblemTree
some_then_all = problem (reflexive ∷ []) (Exists (Forall (atom 0 (place 0 ∷ place 1 ∷ []))))

some_then_all-valid : IsValid some_then_all
some_then_all-valid = record {
  goal = record { sorted = refl; closed = refl; heads = refl; variables = refl; eigens = refl; loads = refl };
  goal_limits = record { named = refl; leaves = refl; arguments = refl };
  clauses = (
    record { sorted = refl; closed = refl; heads = refl; variables = refl; eigens = refl; loads = refl },
    record { named = refl; leaves = refl; arguments = refl },
    tt,
  );
  modules = tt;
  asked = refl;
  clause_count = omega arith;
  bound = omega arith;
}

some_then_all-fails : NothingIsShown → (m : ℕ) → Follows some_then_all m [] → ⊥
unfolding events settle tries attempt successors mgu
some_then_all-fails nothing_shown m h =
    let a : reckons h ≡ true = nothing_follows nothing_shown some_then_all [] m h some_then_all-valid refl (record { count = refl; closed = refl }) in
    let b : reckons h ≡ false = numberless_follows some_then_all [] m h (record { goal = refl; clauses = refl; modules = refl }) in
    let e : true ≡ false = sym a ∙ b in cc
