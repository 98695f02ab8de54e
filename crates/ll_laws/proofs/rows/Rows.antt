-- Worked examples: what the definitions give, computed.
use Rattle.std.proofs.Common.{◌≡◌, ℕ, refl, List, [], ◌∷◌}
use Rattle.std.specs.Prelude.{pos, Some, None, Option, codes}
use Rattle.std.specs.Fmt.{digits}
use Rattle.ll_laws.specs.declared.Kind.TheVariants.{Linear, Unbounded}
use Rattle.ll_laws.specs.declared.Step.TheVariants.{Clause as ClauseStep}
use Rattle.ll_bank.specs.declared.Head.TheVariants.{Name, Bound}
use Rattle.ll_bank.specs.Term.{Term, Var, Int, Con, Ap, app}
use Rattle.ll_bank.specs.Form.{Form, Top, One, Atom, With, Tensor, Plus, Bang, Lolli, Imp, Forall, Exists, Use}
use Rattle.ll_laws.specs.Module.{ClauseTree, ModuleTree}
use Rattle.ll_laws.specs.Unify.{mgu}
use Rattle.ll_laws.specs.State.{settle}
use Rattle.ll_laws.specs.Attempt.{tries, attempt, successors}
use Rattle.ll_laws.specs.Search.{forks, events, cost}
use Rattle.ll_laws.specs.Problem.{ProblemTree, setting_of, start_of}
use Rattle.ll_laws.specs.Output.{run_text, run_status}
use Rattle.ll_laws.specs.Dealt.{dealt}
use Rattle.ll_laws.specs.ProofText.{proved_run_text}

-- ---- the names of the examples, by their numbers
abbrev names : List (List ℕ)
names = codes "a" ∷ codes "b" ∷ codes "p" ∷ codes "q" ∷ codes "f" ∷ codes "A" ∷ codes "B" ∷ codes "X" ∷ codes "nil" ∷ codes "::" ∷ codes "load" ∷ codes "unload"
    ∷ codes "item" ∷ codes "K" ∷ codes "get" ∷ codes "Z" ∷ codes "m" ∷ []

abbrev constant : ℕ → Term
constant n = Con (Name n)

abbrev atom : ℕ → List Term → Form
atom n ts = Atom (app (Name n) ts)

abbrev place : ℕ → Term
place k = Con (Bound k)

abbrev number : ℕ → Term
number n = Int (pos n)

-- a term `X::L`
abbrev cons : Term → Term → Term
cons x l = app (Name 9) (x ∷ l ∷ [])

abbrev nil : Term
nil = constant 8

abbrev a : Form
a = atom 0 []

abbrev b : Form
b = atom 1 []

abbrev linear : Form → ClauseTree
linear f = record { kind = Linear; form = f }

abbrev unbounded : Form → ClauseTree
unbounded f = record { kind = Unbounded; form = f }

-- a problem without modules and without variables asked for
abbrev ground_problem : List ClauseTree → Form → ℕ → ProblemTree
ground_problem clauses goal bound = record { names = names; modules = []; clauses = clauses; goal = goal; asked = []; bound = bound }

-- the same with variables asked for
abbrev asking : List (Option ℕ) → List ClauseTree → Form → ℕ → ProblemTree
asking asked clauses goal bound = record { names = names; modules = []; clauses = clauses; goal = goal; asked = asked; bound = bound }

-- the problem's run prints this text and ends with this status
abbrev pub Gives : ProblemTree → List ℕ → ℕ → Type 0
Gives p text status = (run_text p ≡ text) × (run_status p ≡ status)

-- ---- `true`, and linear facts

true_from_nothing : Gives (ground_problem [] One 1) (codes "answer 1\nyes\nanswers 1, bound reached 0, inferences 1\n") 0
unfolding events cost settle tries attempt successors mgu digits
true_from_nothing = (refl, refl)

true_from_nothing-bound_0 : Gives (ground_problem [] One 0) (codes "answers 0, bound reached 1, inferences 0\n") 2
unfolding events cost settle tries attempt successors mgu digits
true_from_nothing-bound_0 = (refl, refl)

two_linear_facts : Gives (ground_problem (linear a ∷ linear b ∷ []) (Tensor a b) 3) (codes "answer 1\nyes\nanswers 1, bound reached 0, inferences 3\n") 0
unfolding events cost settle tries attempt successors mgu digits
two_linear_facts = (refl, refl)

two_linear_facts-bound_2 : Gives (ground_problem (linear a ∷ linear b ∷ []) (Tensor a b) 2) (codes "answers 0, bound reached 1, inferences 2\n") 2
unfolding events cost settle tries attempt successors mgu digits
two_linear_facts-bound_2 = (refl, refl)

linear_fact_asked_twice : Gives (ground_problem (linear a ∷ []) (Tensor a a) 10) (codes "answers 0, bound reached 0, inferences 3\n") 1
unfolding events cost settle tries attempt successors mgu digits
linear_fact_asked_twice = (refl, refl)

linear_fact_left_by_true : Gives (ground_problem (linear a ∷ []) One 10) (codes "answers 0, bound reached 0, inferences 1\n") 1
unfolding events cost settle tries attempt successors mgu digits
linear_fact_left_by_true = (refl, refl)

-- ---- `erase`, flags and `&`

linear_fact_erased : Gives (ground_problem (linear a ∷ []) Top 10) (codes "answer 1\nyes\nanswers 1, bound reached 0, inferences 1\n") 0
unfolding events cost settle tries attempt successors mgu digits
linear_fact_erased = (refl, refl)

-- `erase , (a -o true)`
flag_is_cleared_at_a_linear_load : Gives (ground_problem [] (Tensor Top (Lolli a One)) 10) (codes "answers 0, bound reached 0, inferences 4\n") 1
unfolding events cost settle tries attempt successors mgu digits
flag_is_cleared_at_a_linear_load = (refl, refl)

-- `erase & a`
erase_with_a_leaves_b : Gives (ground_problem (linear a ∷ linear b ∷ []) (With Top a) 10) (codes "answers 0, bound reached 0, inferences 3\n") 1
unfolding events cost settle tries attempt successors mgu digits
erase_with_a_leaves_b = (refl, refl)

-- `(erase & a) , b`
erase_with_a_then_b : Gives (ground_problem (linear a ∷ linear b ∷ []) (Tensor (With Top a) b) 10)
    (codes "answer 1\nyes\nanswers 1, bound reached 0, inferences 5\n") 0
unfolding events cost settle tries attempt successors mgu digits
erase_with_a_then_b = (refl, refl)

-- `(a & erase) , b`
a_with_erase_then_b : Gives (ground_problem (linear a ∷ linear b ∷ []) (Tensor (With a Top) b) 10)
    (codes "answer 1\nyes\nanswers 1, bound reached 0, inferences 5\n") 0
unfolding events cost settle tries attempt successors mgu digits
a_with_erase_then_b = (refl, refl)

two_erasures : Gives (ground_problem (linear a ∷ []) (Tensor Top Top) 10) (codes "answer 1\nyes\nanswers 1, bound reached 0, inferences 3\n") 0
unfolding events cost settle tries attempt successors mgu digits
two_erasures = (refl, refl)

-- ---- `{}`

bang_takes_no_linear_fact : Gives (ground_problem (linear a ∷ []) (Bang a) 10) (codes "answers 0, bound reached 0, inferences 2\n") 1
unfolding events cost settle tries attempt successors mgu digits
bang_takes_no_linear_fact = (refl, refl)

bang_takes_an_unbounded_fact : Gives (ground_problem (unbounded a ∷ []) (Bang a) 10) (codes "answer 1\nyes\nanswers 1, bound reached 0, inferences 2\n") 0
unfolding events cost settle tries attempt successors mgu digits
bang_takes_an_unbounded_fact = (refl, refl)

-- `p <= q. q.` and `p`
unbounded_premise : Gives (ground_problem (unbounded (Imp (atom 3 []) (atom 2 [])) ∷ unbounded (atom 3 []) ∷ []) (atom 2 []) 10)
    (codes "answer 1\nyes\nanswers 1, bound reached 0, inferences 3\n") 0
unfolding events cost settle tries attempt successors mgu digits
unbounded_premise = (refl, refl)

-- `a => (a , a)`
unbounded_load_taken_twice : Gives (ground_problem [] (Imp a (Tensor a a)) 10) (codes "answer 1\nyes\nanswers 1, bound reached 0, inferences 4\n") 0
unfolding events cost settle tries attempt successors mgu digits
unbounded_load_taken_twice = (refl, refl)

-- ---- quantifiers and unification

-- `p X X.` and `exists y\ forall x\ p x y`
exists_before_forall : Gives (ground_problem (unbounded (Forall (atom 2 (place 0 ∷ place 0 ∷ []))) ∷ []) (Exists (Forall (atom 2 (place 0 ∷ place 1 ∷ [])))) 10)
    (codes "answers 0, bound reached 0, inferences 3\n") 1
unfolding events cost settle tries attempt successors mgu digits
exists_before_forall = (refl, refl)

-- `p X X.` and `forall x\ exists y\ p x y`
forall_before_exists : Gives (ground_problem (unbounded (Forall (atom 2 (place 0 ∷ place 0 ∷ []))) ∷ []) (Forall (Exists (atom 2 (place 1 ∷ place 0 ∷ [])))) 10)
    (codes "answer 1\nyes\nanswers 1, bound reached 0, inferences 3\n") 0
unfolding events cost settle tries attempt successors mgu digits
forall_before_exists = (refl, refl)

-- `p X X.` and `p A B`
unbound_answers : Gives (asking (Some 5 ∷ Some 6 ∷ []) (unbounded (Forall (atom 2 (place 0 ∷ place 0 ∷ []))) ∷ []) (atom 2 (Var 0 ∷ Var 1 ∷ [])) 10)
    (codes "answer 1\nA = ?0\nB = ?0\nanswers 1, bound reached 0, inferences 1\n") 0
unfolding events cost settle tries attempt successors mgu digits
unbound_answers = (refl, refl)

-- `p _ B`
unbound_answers-first_unnamed : Gives (asking (None ∷ Some 6 ∷ []) (unbounded (Forall (atom 2 (place 0 ∷ place 0 ∷ []))) ∷ []) (atom 2 (Var 0 ∷ Var 1 ∷ [])) 10)
    (codes "answer 1\nB = ?0\nanswers 1, bound reached 0, inferences 1\n") 0
unfolding events cost settle tries attempt successors mgu digits
unbound_answers-first_unnamed = (refl, refl)

-- `p _ _`
unbound_answers-unnamed : Gives (asking (None ∷ None ∷ []) (unbounded (Forall (atom 2 (place 0 ∷ place 0 ∷ []))) ∷ []) (atom 2 (Var 0 ∷ Var 1 ∷ [])) 10)
    (codes "answer 1\nyes\nanswers 1, bound reached 0, inferences 1\n") 0
unfolding events cost settle tries attempt successors mgu digits
unbound_answers-unnamed = (refl, refl)

-- `p X (f X).` and `p Y Y`
occurs_check : Gives (asking (Some 7 ∷ []) (unbounded (Forall (atom 2 (place 0 ∷ app (Name 4) (place 0 ∷ []) ∷ []))) ∷ []) (atom 2 (Var 0 ∷ Var 0 ∷ [])) 10)
    (codes "answers 0, bound reached 0, inferences 1\n") 1
unfolding events cost settle tries attempt successors mgu digits
occurs_check = (refl, refl)

-- `p X X.` and `forall x\ exists u\ exists z\ (p Y (f z) , p u z , p u x)`: the second equation binds u to the newer z, whose level is lower
newer_variable_of_lower_level : Gives (asking (Some 7 ∷ []) (unbounded (Forall (atom 2 (place 0 ∷ place 0 ∷ []))) ∷ [])
    (Forall
    (Exists (Exists (Tensor (atom 2 (Var 0 ∷ app (Name 4) (place 0 ∷ []) ∷ [])) (Tensor (atom 2 (place 1 ∷ place 0 ∷ [])) (atom 2 (place 1 ∷ place 2 ∷ [])))))))
    20) (codes "answers 0, bound reached 0, inferences 8\n") 1
unfolding events cost settle tries attempt successors mgu digits
newer_variable_of_lower_level = (refl, refl)

-- ---- the order of answers

-- `p X :- q X. p 9. q 1. q 2.` and `p X`
facts_through_two_predicates : Gives (asking (Some 7 ∷ []) (unbounded (Forall (Lolli (atom 3 (place 0 ∷ [])) (atom 2 (place 0 ∷ []))))
    ∷ unbounded (atom 2 (number 9 ∷ [])) ∷ unbounded (atom 3 (number 1 ∷ [])) ∷ unbounded (atom 3 (number 2 ∷ [])) ∷ []) (atom 2 (Var 0 ∷ [])) 10)
    (codes "answer 1\nX = 1\nanswer 2\nX = 2\nanswer 3\nX = 9\nanswers 3, bound reached 0, inferences 2\n") 0
unfolding events cost settle tries attempt successors mgu digits
facts_through_two_predicates = (refl, refl)

two_equal_answers : Gives (asking (Some 7 ∷ []) (unbounded (atom 3 (number 1 ∷ [])) ∷ unbounded (atom 3 (number 1 ∷ [])) ∷ []) (atom 3 (Var 0 ∷ [])) 10)
    (codes "answer 1\nX = 1\nanswer 2\nX = 1\nanswers 2, bound reached 0, inferences 1\n") 0
unfolding events cost settle tries attempt successors mgu digits
two_equal_answers = (refl, refl)

-- `p ; q`
either_side : Gives (ground_problem (unbounded (atom 2 []) ∷ unbounded (atom 3 []) ∷ []) (Plus (atom 2 []) (atom 3 [])) 10)
    (codes "answer 1\nyes\nanswer 2\nyes\nanswers 2, bound reached 0, inferences 3\n") 0
unfolding events cost settle tries attempt successors mgu digits
either_side = (refl, refl)

-- `LINEAR a & b.` and `b`
clause_with_two_leaves : Gives (ground_problem (linear (With a b) ∷ []) b 10) (codes "answer 1\nyes\nanswers 1, bound reached 0, inferences 1\n") 0
unfolding events cost settle tries attempt successors mgu digits
clause_with_two_leaves = (refl, refl)

-- `LINEAR a & b.` and `a , b`
clause_with_two_leaves-taken_once : Gives (ground_problem (linear (With a b) ∷ []) (Tensor a b) 10) (codes "answers 0, bound reached 0, inferences 3\n") 1
unfolding events cost settle tries attempt successors mgu digits
clause_with_two_leaves-taken_once = (refl, refl)

-- `p X :- q X. p 9. q 1. q 2.`: two forks on the way to the first answer
facts_through_two_predicates-forks : (let p : ProblemTree = asking (Some 7 ∷ [])
    (unbounded (Forall (Lolli (atom 3 (place 0 ∷ [])) (atom 2 (place 0 ∷ [])))) ∷ unbounded (atom 2 (number 9 ∷ [])) ∷ unbounded (atom 3 (number 1 ∷ []))
    ∷ unbounded (atom 3 (number 2 ∷ [])) ∷ []) (atom 2 (Var 0 ∷ [])) 10 in
    forks (setting_of p) (ClauseStep 0 0 ∷ ClauseStep 2 0 ∷ []) (start_of p) ≡ 2)
unfolding forks settle tries attempt successors mgu
facts_through_two_predicates-forks = refl

-- ---- a permutation by linear resources: each item of the list is loaded as a linear fact and taken once

-- `load nil K :- unload K. load (X::L) K :- item X -o load L K. unload nil. unload (X::L) :- item X , unload L.`
abbrev permute : List ClauseTree
permute =
    unbounded (Forall (Lolli (atom 11 (place 0 ∷ [])) (atom 10 (nil ∷ place 0 ∷ []))))
    ∷ unbounded
    (Forall
    (Forall (Forall (Lolli (Lolli (atom 12 (place 2 ∷ [])) (atom 10 (place 1 ∷ place 0 ∷ []))) (atom 10 (cons (place 2) (place 1) ∷ place 0 ∷ []))))))
    ∷ unbounded (atom 11 (nil ∷ []))
    ∷ unbounded (Forall (Forall (Lolli (Tensor (atom 12 (place 1 ∷ [])) (atom 11 (place 0 ∷ []))) (atom 11 (cons (place 1) (place 0) ∷ [])))))
    ∷ []

abbrev load_two : Form
load_two = atom 10 (cons (number 1) (cons (number 2) nil) ∷ Var 0 ∷ [])

permutation_of_two : Gives (asking (Some 13 ∷ []) permute load_two 100)
    (codes "answer 1\nK = 2::1::nil\nanswer 2\nK = 1::2::nil\nanswers 2, bound reached 0, inferences 20\n") 0
unfolding events cost settle tries attempt successors mgu digits
permutation_of_two = (refl, refl)

permutation_of_two-bound_11 : Gives (asking (Some 13 ∷ []) permute load_two 11) (codes "answers 0, bound reached 2, inferences 14\n") 2
unfolding events cost settle tries attempt successors mgu digits
permutation_of_two-bound_11 = (refl, refl)

permutation_of_two-bound_12 : Gives (asking (Some 13 ∷ []) permute load_two 12)
    (codes "answer 1\nK = 2::1::nil\nanswer 2\nK = 1::2::nil\nanswers 2, bound reached 2, inferences 16\n") 0
unfolding events cost settle tries attempt successors mgu digits
permutation_of_two-bound_12 = (refl, refl)

-- ---- a module loaded inside itself

-- `MODULE m X. LOCAL k. k X. get Y :- k Y.`
abbrev getter : ModuleTree
getter =
    record {
      name = 16;
      params = 1;
      locals = 1;
      clauses = unbounded (Atom (Ap (place 1) (place 0))) ∷ unbounded (Forall (Lolli (Atom (Ap (place 2) (place 0))) (atom 14 (place 0 ∷ [])))) ∷ [];
    }

-- `m 1 --> m 2 --> get Z`
module_loaded_inside_itself : Gives (record {
  names = names;
  modules = getter ∷ [];
  clauses = [];
  goal =
      Use 0 (number 1 ∷ []) (Use 0 (number 2 ∷ []) (atom 14 (Var 0 ∷ [])));
  asked = Some 15 ∷ [];
  bound = 100;
})
    (codes "answer 1\nZ = 2\nanswer 2\nZ = 1\nanswers 2, bound reached 0, inferences 11\n") 0
unfolding events cost settle tries attempt successors mgu digits
module_loaded_inside_itself = (refl, refl)

-- ---- with proofs

-- the problem's run prints this text with proofs
abbrev pub Proves : ProblemTree → List ℕ → Type 0
Proves p text = proved_run_text p ≡ text

linear_fact_erased-proof : Proves (ground_problem (linear a ∷ []) Top 10) (codes "answer 1\nyes\nproof 1\nerase\nanswers 1, bound reached 0, inferences 1\n")
unfolding events cost settle tries attempt successors mgu digits dealt
linear_fact_erased-proof = refl

-- `(erase & a) , b`
erase_with_a_then_b-proof : Proves (ground_problem (linear a ∷ linear b ∷ []) (Tensor (With Top a) b) 10)
    (codes "answer 1\nyes\nproof 1\ntensor {0} {1}\nwith\nerase\nclause 0 0\nclause 1 0\nanswers 1, bound reached 0, inferences 5\n")
unfolding events cost settle tries attempt successors mgu digits dealt
erase_with_a_then_b-proof = refl

-- `p <= q. q.`
unbounded_premise-proof : Proves (ground_problem (unbounded (Imp b a) ∷ unbounded b ∷ []) a 10)
    (codes "answer 1\nyes\nproof 1\nclause 0 0 !\nbang\nclause 1 0\nanswers 1, bound reached 0, inferences 3\n")
unfolding events cost settle tries attempt successors mgu digits dealt
unbounded_premise-proof = refl

-- `load (1::nil) K`
abbrev load_one : Form
load_one = atom 10 (cons (number 1) nil ∷ Var 0 ∷ [])

permutation_of_one-proof : Proves (asking (Some 13 ∷ []) permute load_one 100)
    (codes "answer 1\nK = 1::nil\nproof 1\nlet (1::nil)\nclause 1 0 1 nil (1::nil) {}\nlolli 4\nclause 0 0 (1::nil) {4}\nclause 3 0 1 nil {4}\ntensor {4} {}\nclause 4 0\nclause 2 0\nanswers 1, bound reached 0, inferences 9\n")
unfolding events cost settle tries attempt successors mgu digits dealt
permutation_of_one-proof = refl
