-- A valid problem stays one where names come to its own.
use Rattle.std.proofs.Common.{◌≡◌, ◌≤◌, ℕ, suc, Bool, true, List, [], ◌∷◌, Option, Some, None, refl, arith}
use Rattle.std.specs.Prelude.{length, nat_lt}
use Rattle.std.specs.List.{list_all}
use Rattle.std.proofs.lemmas.Bool.{and_from as and_intro}
use Rattle.ll_list_laws.proofs.CallerLemmas.{lt_more as below, and_true_left as and_left, and_true_right as and_right}
use Rattle.ll_bank.specs.declared.Head.TheVariants.{Name, Eigen, Bound}
use Rattle.ll_bank.specs.Term.{Term, Var, Int, Con, Ap}
use Rattle.ll_bank.specs.Form.{Form, Top, One, Atom, With, Tensor, Plus, Bang, Lolli, Imp, Forall, Exists, Use, Num}
use Rattle.ll_laws.specs.Module.{ModuleTree, ClauseTree}
use Rattle.ll_laws.specs.Problem.{ProblemTree}
use Rattle.ll_laws.specs.Valid.{Side, GoalSide, ClauseSide, Scope, module_scope, each_term, names_below, IsWithinLimits, AreClauses, AreModules, is_asked}
use Rattle.ll_laws.specs.Valid.{IsValid}

names_in_term : (n m : ℕ) → n ≤ m → (t : Term) → names_below n t ≡ true → names_below m t ≡ true
names_in_term n m le (Var x) h = refl
names_in_term n m le (Int z) h = refl
names_in_term n m le (Con (Name k)) h = below k n m le h
names_in_term n m le (Con (Eigen k)) h = refl
names_in_term n m le (Con (Bound k)) h = refl
names_in_term n m le (Ap f a) h =
    and_intro _ _ (names_in_term n m le f (and_left (names_below n f) (names_below n a) h))
    (names_in_term n m le a (and_right (names_below n f) (names_below n a) h))

names_in_terms : (n m : ℕ) → n ≤ m → (ts : List Term) → list_all (names_below n) ts ≡ true → list_all (names_below m) ts ≡ true
names_in_terms n m le [] h = refl
names_in_terms n m le (t ∷ ts) h =
    and_intro _ _ (names_in_term n m le t (and_left (names_below n t) (list_all (names_below n) ts) h))
    (names_in_terms n m le ts (and_right (names_below n t) (list_all (names_below n) ts) h))

-- the names of a formula's terms
abbrev named : ℕ → ℕ → Form → Bool
named n d f = each_term (λ _. names_below n) d f

names_in_form : (n m : ℕ) → n ≤ m → (d : ℕ) (f : Form) → named n d f ≡ true → named m d f ≡ true
names_in_form n m le d Top h = refl
names_in_form n m le d One h = refl
names_in_form n m le d (Atom a) h = names_in_term n m le a h
names_in_form n m le d (With f g) h = and_intro _ _ (names_in_form n m le d f (and_left (named n d f) (named n d g) h))
    (names_in_form n m le d g (and_right (named n d f) (named n d g) h))
names_in_form n m le d (Tensor f g) h = and_intro _ _ (names_in_form n m le d f (and_left (named n d f) (named n d g) h))
    (names_in_form n m le d g (and_right (named n d f) (named n d g) h))
names_in_form n m le d (Plus f g) h = and_intro _ _ (names_in_form n m le d f (and_left (named n d f) (named n d g) h))
    (names_in_form n m le d g (and_right (named n d f) (named n d g) h))
names_in_form n m le d (Bang f) h = names_in_form n m le d f h
names_in_form n m le d (Lolli f g) h = and_intro _ _ (names_in_form n m le d f (and_left (named n d f) (named n d g) h))
    (names_in_form n m le d g (and_right (named n d f) (named n d g) h))
names_in_form n m le d (Imp f g) h = and_intro _ _ (names_in_form n m le d f (and_left (named n d f) (named n d g) h))
    (names_in_form n m le d g (and_right (named n d f) (named n d g) h))
names_in_form n m le d (Forall f) h = names_in_form n m le (suc d) f h
names_in_form n m le d (Exists f) h = names_in_form n m le (suc d) f h
names_in_form n m le d (Use k ts f) h =
    and_intro _ _ (names_in_terms n m le ts (and_left (list_all (names_below n) ts) (named n d f) h))
    (names_in_form n m le d f (and_right (list_all (names_below n) ts) (named n d f) h))
names_in_form n m le d (Num r t u) h =
    and_intro _ _ (names_in_term n m le t (and_left (names_below n t) (names_below n u) h))
    (names_in_term n m le u (and_right (names_below n t) (names_below n u) h))

more_limits : (n m : ℕ) → n ≤ m → (side : Side) (f : Form) → IsWithinLimits n side f → IsWithinLimits m side f
more_limits n m le side f w = record { named = names_in_form n m le 0 f w.named; leaves = w.leaves; arguments = w.arguments }

more_clauses : (n m : ℕ) → n ≤ m → (modules : List ModuleTree) (scope : Scope) (cs : List ClauseTree) → AreClauses n modules scope cs
    → AreClauses m modules scope cs
more_clauses n m le modules scope [] h = tt
more_clauses n m le modules scope (c ∷ cs) (f, w, r) = (f, more_limits n m le ClauseSide c.form w, more_clauses n m le modules scope cs r)

more_modules : (n m : ℕ) → n ≤ m → (all ms : List ModuleTree) → AreModules n all ms → AreModules m all ms
more_modules n m le all [] h = tt
more_modules n m le all (l ∷ ls) (c, b, r) = (more_clauses n m le all (module_scope l) l.clauses c, omega (arith, b, le), more_modules n m le all ls r)

more_asked : (n m : ℕ) → n ≤ m → (asked : List (Option ℕ)) → list_all (is_asked n) asked ≡ true → list_all (is_asked m) asked ≡ true
more_asked n m le [] h = refl
more_asked n m le (None ∷ asked) h = more_asked n m le asked h
more_asked n m le (Some k ∷ asked) h = and_intro _ _ (below k n m le (and_left (nat_lt k n) (list_all (is_asked n) asked) h))
    (more_asked n m le asked (and_right (nat_lt k n) (list_all (is_asked n) asked) h))

-- with more names
pub valid-with : (p : ProblemTree) (names : List (List ℕ)) → length p.names ≤ length names → IsValid p → IsValid (record p { names = names })
valid-with p names le v = record {
  goal = v.goal;
  goal_limits = more_limits (length p.names) (length names) le GoalSide p.goal v.goal_limits;
  clauses = more_clauses (length p.names) (length names) le p.modules [] p.clauses v.clauses;
  modules = more_modules (length p.names) (length names) le p.modules p.modules v.modules;
  asked = more_asked (length p.names) (length names) le p.asked v.asked;
  clause_count = v.clause_count;
  bound = v.bound;
}
