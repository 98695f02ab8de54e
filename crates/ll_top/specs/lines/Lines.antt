-- What a worker makes of an event: the lines of an answer behind its number.
use Rattle.std.specs.Prelude.{◌≡◌, ℕ, suc, List, [], ◌++◌, length, codes, decimal, nat_le, if◌then◌else◌, Option, Some, None}
use Rattle.ll_laws.specs.declared.Event.{Event}
use Rattle.ll_laws.specs.declared.Event.TheVariants.{Answer, Reached}
use Rattle.ll_laws.specs.Answered.{Answered}
use Rattle.ll_laws.specs.Problem.{ProblemTree}
use Rattle.ll_laws.specs.Output.{line, bindings_text}
use Rattle.ll_laws.specs.Search.{cut_count}

-- the lines of an answer behind its number; an answer that lacks a term of a variable that is asked for has none
abbrev pub lines_behind : ProblemTree → Answered → List ℕ
lines_behind p a = if nat_le (length p.asked) (length a.terms) then bindings_text p a else []

-- the same of an event, where it is an answer
abbrev pub lines_of_event : ProblemTree → Event → Option (List ℕ)
lines_of_event p (Answer a) = Some (lines_behind p a)
lines_of_event p Reached = None

-- what is printed of an event without proofs, after k answers
abbrev pub line_text : ProblemTree → ℕ → Event → List ℕ
line_text p k (Answer a) = line (codes "answer " ++ decimal (cut_count (suc k))) ++ lines_behind p a
line_text p k Reached = []

-- the text is what an event of the problem comes to
abbrev pub Tells : ProblemTree → Option (List ℕ) → Event → Type 0
Tells p text e = text ≡ lines_of_event p e
