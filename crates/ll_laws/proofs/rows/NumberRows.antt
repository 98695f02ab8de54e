-- Worked examples of whole-number goals: the values of expressions, what the goals give, and what the checker says of their nodes, computed.
use Rattle.std.proofs.Common.{◌≡◌, ℕ, pos, negsuc, refl, List, [], ◌∷◌, Option, Some, None, codes}
use Rattle.std.specs.Prelude.{option_map}
use Rattle.std.specs.Fmt.{digits}
use Rattle.ll_laws.specs.declared.Kind.TheVariants.{Linear, Unbounded}
use Rattle.ll_laws.specs.declared.Candidate.{Candidate}
use Rattle.ll_bank.specs.declared.Head.TheVariants.{Name, Bound}
use Rattle.ll_bank.specs.Term.{Term, Var, Int, Con, app}
use Rattle.ll_bank.specs.Form.{Form, One, Atom, Tensor, Lolli, Forall, Num, Is, Less, Most}
use Rattle.ll_laws.specs.Number.{Operators, operators_of, value_of}
use Rattle.ll_laws.specs.Module.{ClauseTree, Setting}
use Rattle.ll_laws.specs.Unify.{mgu}
use Rattle.ll_laws.specs.Settle.{Item}
use Rattle.ll_laws.specs.State.{settle}
use Rattle.ll_laws.specs.Attempt.{tries, attempt, only_try, successors}
use Rattle.ll_laws.specs.Search.{start, events, cost}
use Rattle.ll_laws.specs.Problem.{ProblemTree}
use Rattle.ll_laws.specs.Dealt.{dealt}
use Rattle.ll_laws.specs.Derive.{Derivable, by_num}
use Rattle.ll_laws.specs.Shows.{Labelled, NumNode, Shows}
use Rattle.ll_laws.specs.Fault.{Fits, Fault}
use Rattle.ll_laws.specs.Line.{OneLine, TensorLine, ClauseLine, NumLine}
use Rattle.ll_laws.proofs.rows.Rows.{Gives, Proves}
use Rattle.ll_laws.proofs.rows.CheckerRows.{Says}

-- ---- the names of the examples, by their numbers

abbrev names : List (List ℕ)
names = codes "a" ∷ codes "f" ∷ codes "X" ∷ codes "Y" ∷ codes "+" ∷ codes "-" ∷ codes "*" ∷ []

abbrev operators : Operators
operators = operators_of names

abbrev setting : Setting
setting = record { modules = []; operators = operators }

abbrev number : ℕ → Term
number n = Int (pos n)

abbrev greatest : Term
greatest = number 9223372036854775807

abbrev least : Term
least = Int (negsuc 9223372036854775807)

abbrev minus_one : Term
minus_one = Int (negsuc 0)

abbrev sum : Term → Term → Term
sum t u = app (Name 4) (t ∷ u ∷ [])

abbrev difference : Term → Term → Term
difference t u = app (Name 5) (t ∷ u ∷ [])

abbrev product : Term → Term → Term
product t u = app (Name 6) (t ∷ u ∷ [])

abbrev a : Form
a = Atom (Con (Name 0))

abbrev f : Term → Term → Form
f t u = Atom (app (Name 1) (t ∷ u ∷ []))

abbrev place : ℕ → Term
place k = Con (Bound k)

-- a problem with this program and query, with so many variables asked for
abbrev problem : List ClauseTree → Form → List (Option ℕ) → ProblemTree
problem clauses goal asked = record { names = names; modules = []; clauses = clauses; goal = goal; asked = asked; bound = 100 }

-- `LINEAR a.`
abbrev linear_a : List ClauseTree
linear_a = record { kind = Linear; form = a } ∷ []

-- ---- values

-- the greatest number has itself
greatest_number : value_of operators greatest ≡ Some (pos 9223372036854775807)
greatest_number = refl

-- and so has the least one
least_number : value_of operators least ≡ Some (negsuc 9223372036854775807)
least_number = refl

-- `9223372036854775807 + 1`
past_the_greatest : value_of operators (sum greatest (number 1)) ≡ None
past_the_greatest = refl

-- `9223372036854775807 + 1 - 1`: each part needs a value
past_the_greatest_and_back : value_of operators (difference (sum greatest (number 1)) (number 1)) ≡ None
past_the_greatest_and_back = refl

-- `-9223372036854775807 - 1`
down_to_the_least : value_of operators (difference (Int (negsuc 9223372036854775806)) (number 1)) ≡ Some (negsuc 9223372036854775807)
down_to_the_least = refl

-- `-9223372036854775808 - 1`
past_the_least : value_of operators (difference least (number 1)) ≡ None
past_the_least = refl

-- `-9223372036854775808 * -1`
least_times_minus_one : value_of operators (product least minus_one) ≡ None
least_times_minus_one = refl

-- `2 - 3 * 4`
product_in_a_difference : value_of operators (difference (number 2) (product (number 3) (number 4))) ≡ Some (negsuc 9)
product_in_a_difference = refl

-- `X + 1`
of_a_variable : value_of operators (sum (Var 0) (number 1)) ≡ None
of_a_variable = refl

-- a name that is no operator
of_another_name : value_of operators (app (Name 1) (number 1 ∷ number 2 ∷ [])) ≡ None
of_another_name = refl

-- an operator with three sides
of_three_sides : value_of operators (app (Name 4) (number 1 ∷ number 2 ∷ number 3 ∷ [])) ≡ None
of_three_sides = refl

-- a name without a text
of_no_name : value_of operators (app (Name 9) (number 1 ∷ number 2 ∷ [])) ≡ None
of_no_name = refl

-- ---- one inference

-- the one candidate of a whole-number goal
abbrev the_try : Candidate
the_try = record { label = 0; leaf = 0 }

-- the agenda after a goal of so many variables, and the terms that they stand for
abbrev goes_to : Form → ℕ → Option (List (Item Form) × List Term)
goes_to goal variables = option_map (λ s. (s.agenda, s.terms)) (attempt setting (start [] goal variables) the_try)

-- `X is 1 + 2` has one candidate
one_candidate : tries (start [] (Num Is (Var 0) (sum (number 1) (number 2))) 1) ≡ only_try
unfolding tries
one_candidate = refl

-- `X is 1 + 2`: the variable has the value
variable_is_a_sum : goes_to (Num Is (Var 0) (sum (number 1) (number 2))) 1 ≡ Some ([], number 3 ∷ [])
unfolding attempt mgu
variable_is_a_sum = refl

-- `3 is 1 + 2`
number_is_a_sum : goes_to (Num Is (number 3) (sum (number 1) (number 2))) 0 ≡ Some ([], [])
unfolding attempt mgu
number_is_a_sum = refl

-- `4 is 1 + 2`
other_number_is_a_sum : goes_to (Num Is (number 4) (sum (number 1) (number 2))) 0 ≡ None
unfolding attempt mgu
other_number_is_a_sum = refl

-- `1 + 2 is 1 + 2`: the left side is not evaluated
sum_is_a_sum : goes_to (Num Is (sum (number 1) (number 2)) (sum (number 1) (number 2))) 0 ≡ None
unfolding attempt mgu
sum_is_a_sum = refl

-- `X is Y + 1`: a variable has no value
of_an_unbound_variable : goes_to (Num Is (Var 0) (sum (Var 1) (number 1))) 2 ≡ None
unfolding attempt mgu
of_an_unbound_variable = refl

-- `1 < 2`
one_less_than_two : goes_to (Num Less (number 1) (number 2)) 0 ≡ Some ([], [])
unfolding attempt
one_less_than_two = refl

-- `1 < 1`
one_less_than_one : goes_to (Num Less (number 1) (number 1)) 0 ≡ None
unfolding attempt
one_less_than_one = refl

-- `2 < 1`
two_less_than_one : goes_to (Num Less (number 2) (number 1)) 0 ≡ None
unfolding attempt
two_less_than_one = refl

-- `1 =< 1`
one_at_most_one : goes_to (Num Most (number 1) (number 1)) 0 ≡ Some ([], [])
unfolding attempt
one_at_most_one = refl

-- `2 =< 1`
two_at_most_one : goes_to (Num Most (number 2) (number 1)) 0 ≡ None
unfolding attempt
two_at_most_one = refl

-- `0 - 1 < 0 * 5`: both sides are evaluated
sides_are_evaluated : goes_to (Num Less (difference (number 0) (number 1)) (product (number 0) (number 5))) 0 ≡ Some ([], [])
unfolding attempt
sides_are_evaluated = refl

-- `X < 1`
variable_less_than_one : goes_to (Num Less (Var 0) (number 1)) 1 ≡ None
unfolding attempt
variable_less_than_one = refl

-- ---- whole runs

-- `X is 1 + 2`
value_is_an_answer : Gives (problem [] (Num Is (Var 0) (sum (number 1) (number 2))) (Some 2 ∷ []))
    (codes "answer 1\nX = 3\nanswers 1, bound reached 0, inferences 1\n") 0
unfolding events cost settle tries attempt successors mgu digits
value_is_an_answer = (refl, refl)

-- `X is 9223372036854775807 + 1`
no_value_is_no_answer : Gives (problem [] (Num Is (Var 0) (sum greatest (number 1))) (Some 2 ∷ [])) (codes "answers 0, bound reached 0, inferences 1\n") 1
unfolding events cost settle tries attempt successors mgu digits
no_value_is_no_answer = (refl, refl)

-- `LINEAR a.` and `1 < 2`: the goal takes no linear fact
linear_fact_left : Gives (problem linear_a (Num Less (number 1) (number 2)) []) (codes "answers 0, bound reached 0, inferences 1\n") 1
unfolding events cost settle tries attempt successors mgu digits
linear_fact_left = (refl, refl)

-- `f 0 1. f N F :- 0 < N , M is N - 1 , f M G , F is N * G.`
abbrev factorials : List ClauseTree
factorials =
    record { kind = Unbounded; form = f (number 0) (number 1) }
    ∷ record {
      kind = Unbounded;
      form = Forall (Forall (Forall (Forall (Lolli (Tensor (Num Less (number 0) (place 3)) (Tensor (Num Is (place 1) (difference (place 3) (number 1)))
          (Tensor (f (place 1) (place 0)) (Num Is (place 2) (product (place 3) (place 0)))))) (f (place 3) (place 2))))));
    }
    ∷ []

-- `f 5 X`
factorial_of_five : Gives (problem factorials (f (number 5) (Var 0)) (Some 2 ∷ [])) (codes "answer 1\nX = 120\nanswers 1, bound reached 0, inferences 38\n") 0
unfolding events cost settle tries attempt successors mgu digits
factorial_of_five = (refl, refl)

-- `LINEAR a.` and `a , 1 =< 1`
number_in_a_tensor-proof : Proves (problem linear_a (Tensor a (Num Most (number 1) (number 1))) [])
    (codes "answer 1\nyes\nproof 1\ntensor {0} {}\nclause 0 0\nnum\nanswers 1, bound reached 0, inferences 3\n")
unfolding events cost settle tries attempt successors mgu digits dealt
number_in_a_tensor-proof = refl

-- ---- derivations

-- `1 < 2` follows from nothing
less_follows : Derivable setting 1 [] [] (Num Less (number 1) (number 2))
less_follows = by_num refl

-- and a node shows it
less_is_shown : Shows setting NumNode [] [] (Num Less (number 1) (number 2))
less_is_shown = (refl, refl)

-- over a bounded clause none does
less_over_a_clause : (l : Labelled) → Shows setting NumNode [] (l ∷ []) (Num Less (number 1) (number 2)) → ⊥
less_over_a_clause l h = let e = h.0 in cc

-- ---- verdicts

-- `1 < 2`
less_fits : Says (problem [] (Num Less (number 1) (number 2)) []) [] (NumLine ∷ []) (Fits 2)
less_fits = refl

-- `X is Y + 1` with 3 and 2 for the variables, which no search gives
given_numbers_fit : Says (problem [] (Num Is (Var 0) (sum (Var 1) (number 1))) (Some 2 ∷ Some 3 ∷ []))
    (number 3 ∷ number 2 ∷ []) (NumLine ∷ []) (Fits 2)
given_numbers_fit = refl

-- `2 < 1`
numbers_do_not_fit : Says (problem [] (Num Less (number 2) (number 1)) []) [] (NumLine ∷ []) (Fault 1 12)
numbers_do_not_fit = refl

-- `1 + 2 is 3`
sides_changed : Says (problem [] (Num Is (sum (number 1) (number 2)) (number 3)) []) [] (NumLine ∷ []) (Fault 1 12)
sides_changed = refl

-- `X is 9223372036854775807 + 1`, with the least number for the variable
sum_that_wraps : Says (problem [] (Num Is (Var 0) (sum greatest (number 1))) (Some 2 ∷ [])) (least ∷ []) (NumLine ∷ []) (Fault 1 12)
sum_that_wraps = refl

-- `LINEAR a.` and `1 < 2`
label_left : Says (problem linear_a (Num Less (number 1) (number 2)) []) [] (NumLine ∷ []) (Fault 1 2)
label_left = refl

-- `LINEAR a.` and `2 < 1`: labels come before numbers
label_left_and_numbers : Says (problem linear_a (Num Less (number 2) (number 1)) []) [] (NumLine ∷ []) (Fault 1 2)
label_left_and_numbers = refl

-- `LINEAR a.` and `true`: the goal comes before labels
goal_without_numbers : Says (problem linear_a One []) [] (NumLine ∷ []) (Fault 1 1)
goal_without_numbers = refl

-- another rule at `1 < 2`
other_rule : Says (problem [] (Num Less (number 1) (number 2)) []) [] (OneLine ∷ []) (Fault 1 1)
other_rule = refl

-- `LINEAR a.` and `a , 2 =< 1`
second_side_does_not_fit : Says (problem linear_a (Tensor a (Num Most (number 2) (number 1))) []) []
    (TensorLine (0 ∷ []) [] ∷ ClauseLine 0 0 [] [] ∷ NumLine ∷ []) (Fault 3 12)
second_side_does_not_fit = refl
