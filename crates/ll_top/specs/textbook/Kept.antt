-- What another bound changes of a search: a greater one keeps each answer.
use Rattle.std.specs.Prelude.{◌≡◌, ◌≤◌, ℕ, List, length, filter, nat_le}
use Rattle.ll_laws.specs.Answered.{Answered}
use Rattle.ll_laws.specs.Problem.{ProblemTree, problem_events}
use Rattle.ll_laws.specs.Completeness.{answers_in}
use Rattle.ll_laws.specs.Dealt.{dealt}

-- the problem with another bound
abbrev pub bounded_by : ProblemTree → ℕ → ProblemTree
bounded_by p n = record p { bound = n }

-- the answers to the problem with this bound, in the order of the search
abbrev pub answers_by : ProblemTree → ℕ → List Answered
answers_by p n = answers_in (problem_events (bounded_by p n))

-- those of the answers whose branches have at most so many steps, in their order
abbrev pub short_answers : ℕ → List Answered → List Answered
short_answers n answers = filter (λ a. nat_le (length a.steps) n) answers

-- Of two bounds the greater one keeps each answer that the smaller one gives, with its terms and its steps, and their order. What it adds are the
-- answers whose branches have more steps than the smaller bound allows, and no others.
abbrev pub AnswersAreKept : Type 0
AnswersAreKept = (p : ProblemTree) (n m : ℕ) → n ≤ m → answers_by p n ≡ short_answers n (answers_by p m)

-- An answer has the same derivation whatever the bound.
abbrev pub DerivationsAreKept : Type 0
DerivationsAreKept = (p : ProblemTree) (n : ℕ) (a : Answered) → dealt (bounded_by p n) a ≡ dealt p a
