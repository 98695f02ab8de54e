-- Worked examples of instances, hidden terms, runs, and what the completeness of the search says.
use Rattle.std.proofs.Common.{◌≡◌, ℕ, refl, sym, subst, List, [], ◌∷◌, arith}
use Rattle.std.specs.Prelude.{pos, Option, Some, None, slice_get}
use Rattle.ll_laws.specs.declared.Kind.TheVariants.{Unbounded}
use Rattle.ll_laws.specs.declared.Step.TheVariants.{Clause as ClauseStep}
use Rattle.ll_bank.specs.declared.Head.TheVariants.{Name, Eigen, Bound}
use Rattle.ll_bank.specs.Term.{Term, Var, Int, Con, app}
use Rattle.ll_bank.specs.Form.{Form, Atom, Forall, Exists}
use Rattle.ll_laws.specs.Module.{ClauseTree}
use Rattle.ll_laws.specs.Unify.{mgu}
use Rattle.ll_laws.specs.State.{settle}
use Rattle.ll_laws.specs.Attempt.{tries, attempt, successors}
use Rattle.ll_laws.specs.Search.{events}
use Rattle.ll_laws.specs.Problem.{ProblemTree, setting_of, problem_events}
use Rattle.ll_laws.specs.Valid.{IsValid}
use Rattle.ll_laws.specs.Line.{ForallLine, ExistsLine, ClauseLine, DerivationLines}
use Rattle.ll_laws.specs.Run.{trace_end, trace_step, goes_forall, goes_exists, goes_atom, Run, run_start}
use Rattle.ll_laws.specs.Instance.{IsInstance, hide}
use Rattle.ll_laws.specs.Completeness.{ShowsClosed, NamesCover, answers_in}
use Rattle.ll_laws.specs.Dealt.{asked_terms}
use Rattle.ll_laws.specs.Shows.{ClauseNode, NoParts}
use Rattle.ll_laws.proofs.completeness.ShownRun.{shown_runs}
use Rattle.ll_laws.proofs.completeness.ShownFound.{shown_numbered, nothing_shown}

abbrev number : ℕ → Term
number n = Int (pos n)

abbrev atom : ℕ → List Term → Form
atom n ts = Atom (app (Name n) ts)

abbrev place : ℕ → Term
place k = Con (Bound k)

abbrev unbounded : Form → ClauseTree
unbounded f = record { kind = Unbounded; form = f }

-- a problem with this program and query, with so many variables asked for
abbrev problem : List ClauseTree → Form → List (Option ℕ) → ℕ → ProblemTree
problem cs g asked bound = record { names = [] ∷ []; modules = []; clauses = cs; goal = g; asked = asked; bound = bound }

-- ---- instances

-- `X , X` has the instance `2 , 2`
same_twice : IsInstance (Var 0 ∷ Var 0 ∷ []) (number 2 ∷ number 2 ∷ [])
same_twice = record { values = λ x. number 2; closed = λ x. refl; is = refl }

-- and not the instance `1 , 2`
two_values : IsInstance (Var 0 ∷ Var 0 ∷ []) (number 1 ∷ number 2 ∷ []) → ⊥
two_values i = let e = i.is in cc

-- 1 has no instance but itself
other_number : IsInstance (number 1 ∷ []) (number 2 ∷ []) → ⊥
other_number i = let e = i.is in cc

-- lists of different lengths
other_length : IsInstance (Var 0 ∷ []) (number 2 ∷ number 2 ∷ []) → ⊥
other_length i = let e = i.is in cc

-- ---- hidden terms: `f (c 1) d 2`, where c and d are eigenvariables, hides `c 1` and `d`
hidden_parts : (name : Term → ℕ)
    → hide name (app (Name 0) (app (Eigen 3) (number 1 ∷ []) ∷ Con (Eigen 5) ∷ number 2 ∷ []))
    ≡ app (Name 0) (Var (name (app (Eigen 3) (number 1 ∷ []))) ∷ Var (name (Con (Eigen 5))) ∷ number 2 ∷ [])
hidden_parts name = refl

-- what an eigenvariable has as arguments is hidden with it
hidden_whole : (name : Term → ℕ) → hide name (app (Eigen 3) (Con (Eigen 5) ∷ [])) ≡ Var (name (app (Eigen 3) (Con (Eigen 5) ∷ [])))
hidden_whole name = refl

-- ---- runs: `p X X.` and `forall x\ exists y\ p x y`

abbrev reflexive : ClauseTree
reflexive = unbounded (Forall (atom 0 (place 0 ∷ place 0 ∷ [])))

abbrev all_then_some : ProblemTree
all_then_some = problem (reflexive ∷ []) (Forall (Exists (atom 0 (place 1 ∷ place 0 ∷ [])))) [] 10

-- the term that is chosen for y has the eigenvariable of x
run_of_quantifiers : Run (setting_of all_then_some) 3 (run_start all_then_some [])
unfolding settle
run_of_quantifiers =
    record {
      nodes = ForallLine 0 ∷ ExistsLine (Con (Eigen 0)) ∷ ClauseLine 0 0 (Con (Eigen 0) ∷ []) [] ∷ [];
      trace =
          trace_step _ _ _ _ refl refl (goes_forall refl)
          (trace_step _ _ _ _ refl refl (goes_exists (Con (Eigen 0)) (refl, refl, tt))
          (trace_step _ _ _ _ refl refl (goes_atom _ 0 0 (Con (Eigen 0) ∷ []) [] refl refl (refl, refl, tt) refl) (trace_end _ refl refl refl)));
      count = refl;
      numberless = refl;
    }

-- ---- the number of an answer

-- `q 1. q 2.`, `q X`: the second answer is named for the derivation with 2
abbrev two_facts : ProblemTree
two_facts = problem (unbounded (atom 0 (number 1 ∷ [])) ∷ unbounded (atom 0 (number 2 ∷ [])) ∷ []) (atom 0 (Var 0 ∷ [])) (None ∷ []) 1

abbrev second_fact : DerivationLines
second_fact = record { asked = number 2 ∷ []; nodes = ClauseLine 1 0 [] [] ∷ [] }

second_is_named : NamesCover two_facts second_fact 2
unfolding events settle tries attempt successors mgu
second_is_named =
    record {
      place = 1;
      counted = refl;
      answer = record { terms = number 2 ∷ []; steps = ClauseStep 1 0 ∷ [] };
      is = refl;
      instance = record { values = Var; closed = λ x. refl; is = refl };
      steps = refl;
    }

-- and the first one is not
first_is_not : NamesCover two_facts second_fact 1 → ⊥
unfolding events settle tries attempt successors mgu
first_is_not c =
    let z : c.place ≡ 0 = omega (arith, c.counted) in
    let a : Some (record { terms = number 1 ∷ []; steps = ClauseStep 0 0 ∷ [] }) ≡ Some c.answer =
    subst (λ k. slice_get (answers_in (problem_events two_facts)) k ≡ Some c.answer) z c.is in
    let e : record { terms = number 1 ∷ []; steps = ClauseStep 0 0 ∷ [] } ≡ c.answer = cc in
    other_number (subst (λ w. IsInstance (asked_terms two_facts w) (number 2 ∷ [])) (sym e) c.instance)

-- `p X X.`, `p A B`: the answer has one variable for both, and `f 1`, `f 1` is an instance
abbrev one_variable : ProblemTree
one_variable = problem (reflexive ∷ []) (atom 0 (Var 0 ∷ Var 1 ∷ [])) (None ∷ None ∷ []) 1

abbrev twice : DerivationLines
twice = record { asked = app (Name 0) (number 1 ∷ []) ∷ app (Name 0) (number 1 ∷ []) ∷ []; nodes = ClauseLine 0 0 (app (Name 0) (number 1 ∷ []) ∷ []) [] ∷ [] }

instance_is_named : NamesCover one_variable twice 1
unfolding events settle tries attempt successors mgu
instance_is_named =
    record {
      place = 0;
      counted = refl;
      answer = record { terms = Var 0 ∷ Var 0 ∷ Var 0 ∷ []; steps = ClauseStep 0 0 ∷ [] };
      is = refl;
      instance = record { values = λ x. app (Name 0) (number 1 ∷ []); closed = λ x. refl; is = refl };
      steps = refl;
    }

-- ---- what is not shown: `p X X.` and `exists y\ forall x\ p x y`

abbrev some_then_all : ProblemTree
some_then_all = problem (reflexive ∷ []) (Exists (Forall (atom 0 (place 0 ∷ place 1 ∷ [])))) [] 10

some_then_all-valid : IsValid some_then_all
some_then_all-valid = record {
  goal = record { sorted = refl; closed = refl; heads = refl; variables = refl; eigens = refl; loads = refl };
  goal_limits = record { named = refl; leaves = refl; arguments = refl };
  clauses = (
    record { sorted = refl; closed = refl; heads = refl; variables = refl; eigens = refl; loads = refl },
    record { named = refl; leaves = refl; arguments = refl },
    tt,
  );
  modules = tt;
  asked = refl;
  clause_count = omega arith;
  bound = omega arith;
}

-- no derivation shows it, of whatever size
some_then_all-not_shown : (d : DerivationLines) → ShowsClosed some_then_all d → ⊥
unfolding events settle tries attempt successors mgu
some_then_all-not_shown d h = nothing_shown some_then_all d some_then_all-valid refl h

-- ---- what is shown is found: `p X X.` and `p A B`, with a term that an eigenvariable heads for both

abbrev hidden_twice : DerivationLines
hidden_twice = record {
  asked = app (Eigen 7) (number 1 ∷ []) ∷ app (Eigen 7) (number 1 ∷ []) ∷ [];
  nodes =
      ClauseLine 0 0 (app (Eigen 7) (number 1 ∷ []) ∷ []) [] ∷ [];
}

one_variable-valid : IsValid one_variable
one_variable-valid = record {
  goal = record { sorted = refl; closed = refl; heads = refl; variables = refl; eigens = refl; loads = refl };
  goal_limits = record { named = refl; leaves = refl; arguments = refl };
  clauses = (
    record { sorted = refl; closed = refl; heads = refl; variables = refl; eigens = refl; loads = refl },
    record { named = refl; leaves = refl; arguments = refl },
    tt,
  );
  modules = tt;
  asked = refl;
  clause_count = omega arith;
  bound = omega arith;
}

hidden_twice-shown : ShowsClosed one_variable hidden_twice
hidden_twice-shown =
    record {
      shows = record {
        tree = ClauseNode 0 0 (app (Eigen 7) (number 1 ∷ []) ∷ []) NoParts;
        is_tree = refl;
        count = refl;
        shows = (Forall (atom 0 (place 0 ∷ place 0 ∷ [])), [], [], refl, (refl, tt), refl, refl);
      };
      closed = refl;
      numberless = refl;
    }

hidden_twice-named : (number : ℕ) × NamesCover one_variable hidden_twice number
hidden_twice-named = shown_numbered one_variable hidden_twice one_variable-valid hidden_twice-shown (omega arith)

-- its run starts with a variable for both terms
hidden_twice-run : (name : Term → ℕ) → Run (setting_of one_variable) 1
    (run_start one_variable (Var (name (app (Eigen 7) (number 1 ∷ []))) ∷ Var (name (app (Eigen 7) (number 1 ∷ []))) ∷ []))
hidden_twice-run name = shown_runs one_variable hidden_twice name one_variable-valid hidden_twice-shown
