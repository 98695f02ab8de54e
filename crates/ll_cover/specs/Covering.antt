-- Which answer covers a derivation, on the way of a search.
use Rattle.std.specs.Prelude.{◌≡◌, ℕ, suc, ◌<◌, List, ◌++◌, length, All, slice_get, Some}
use Rattle.ll_laws.specs.declared.Event.{Event}
use Rattle.ll_laws.specs.Answered.{Answered}
use Rattle.ll_laws.specs.Problem.{ProblemTree, problem_events}
use Rattle.ll_laws.specs.Search.{cut_count}
use Rattle.ll_laws.specs.Line.{DerivationLines}
use Rattle.ll_laws.specs.Dealt.{asked_terms}
use Rattle.ll_laws.specs.Instance.{IsInstance}
use Rattle.ll_laws.specs.Completeness.{answers_in}

-- the terms of the derivation are an instance of those of the answer, whose branch has as many steps as the derivation has nodes
pub record IsCoveredBy (p : ProblemTree) (d : DerivationLines) (a : Answered) : Type 0 where
  pub instance : IsInstance (asked_terms p a) d.asked
  pub steps : length a.steps ≡ length d.nodes

-- the number names the first answer of the search that covers the derivation, counted from 1 and cut as counts are
pub record NamesFirst (p : ProblemTree) (d : DerivationLines) (number : ℕ) : Type 0 where
  pub place : ℕ
  pub counted : number ≡ cut_count (suc place)
  pub answer : Answered
  pub is : slice_get (answers_in (problem_events p)) place ≡ Some answer
  pub covers : IsCoveredBy p d answer
  pub before : (k : ℕ) (a : Answered) → k < place → slice_get (answers_in (problem_events p)) k ≡ Some a → IsCoveredBy p d a → ⊥

-- so many answers of the search were passed, of which none covers the derivation, and these events are still to come
pub record IsPassing (p : ProblemTree) (d : DerivationLines) (rest : List Event) (number : ℕ) : Type 0 where
  pub passed : List Event
  pub events : passed ++ rest ≡ problem_events p
  pub counted : number ≡ cut_count (length (answers_in passed))
  pub none : All (λ a. IsCoveredBy p d a → ⊥) (answers_in passed)
