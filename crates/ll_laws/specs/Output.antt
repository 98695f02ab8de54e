-- The text that a run prints, without proofs.
use Rattle.std.specs.Prelude.{ℕ, suc, Bool, true, false, List, [], ◌∷◌, ◌++◌, count_by, slice_index_or, Option, Some, None, if◌then◌else◌, codes, decimal}
use Rattle.std.specs.Fmt.{signed_decimal}
use Rattle.std.specs.Str.{bytes_eq}
use Rattle.std.specs.List.{list_any}
use Rattle.ll_bank.specs.declared.Head.{Head}
use Rattle.ll_bank.specs.declared.Head.TheVariants.{Name, Eigen, Bound}
use Rattle.ll_bank.specs.Term.{Term, Var, Int, Con, Ap}
use Rattle.ll_laws.specs.declared.Event.{Event}
use Rattle.ll_laws.specs.declared.Event.TheVariants.{Answer, Reached}
use Rattle.ll_laws.specs.Answered.{Answered}
use Rattle.ll_laws.specs.Search.{is_answer, is_reached, cut_count}
use Rattle.ll_laws.specs.Problem.{ProblemTree, problem_events, problem_cost}

-- a line: the bytes and a line feed
abbrev pub line : List ℕ → List ℕ
line bytes = bytes ++ 10 ∷ []

-- the text of a name, by its number
abbrev pub name_text : List (List ℕ) → ℕ → List ℕ
name_text names n = slice_index_or names n []

-- the text of a head: a name, `#n` for an eigenvariable
abbrev pub head_text : List (List ℕ) → Head → List ℕ
head_text names (Name n) = name_text names n
head_text names (Eigen n) = codes "#" ++ decimal n
head_text names (Bound n) = []

-- the head is the sign `::`
abbrev pub is_cons_head : List (List ℕ) → Head → Bool
is_cons_head names (Name n) = bytes_eq (name_text names n) (codes "::")
is_cons_head names _ = false

-- the term is of the form `X::L`
abbrev pub is_cons : List (List ℕ) → Term → Bool
is_cons names (Ap (Ap (Con h) x) l) = is_cons_head names h
is_cons names _ = false

-- the term has arguments
abbrev pub has_arguments : Term → Bool
has_arguments (Ap f a) = true
has_arguments _ = false

-- a text in round brackets, where a test holds
abbrev pub bracket_if : Bool → List ℕ → List ℕ
bracket_if true text = codes "(" ++ text ++ codes ")"
bracket_if false text = text

-- an argument's text: in brackets where the argument has arguments itself
abbrev pub argument_text : Term → List ℕ → List ℕ
argument_text a text = bracket_if (has_arguments a) text

abbrev mutual
  -- the text of a term; `?n` stands for a variable
  pub term_text : List (List ℕ) → Term → List ℕ
  term_text names (Var n) = codes "?" ++ decimal n
  term_text names (Int z) = signed_decimal z
  term_text names (Con h) = head_text names h
  term_text names (Ap (Ap (Con h) x) l) =
      if is_cons_head names h
      then bracket_if (is_cons names x) (term_text names x) ++ codes "::" ++ term_text names l
      else head_text names h ++ codes " " ++ argument_text x (term_text names x) ++ codes " " ++ argument_text l (term_text names l)
  term_text names (Ap f a) = applied_text names f ++ codes " " ++ argument_text a (term_text names a)

  -- the text of a head with its first arguments
  pub applied_text : List (List ℕ) → Term → List ℕ
  applied_text names (Var n) = codes "?" ++ decimal n
  applied_text names (Int z) = signed_decimal z
  applied_text names (Con h) = head_text names h
  applied_text names (Ap f a) = applied_text names f ++ codes " " ++ argument_text a (term_text names a)

-- one line for each named variable of the query, given the terms of the variables
abbrev pub binding_lines : List (List ℕ) → List (Option ℕ) → List Term → List ℕ
binding_lines names (Some n ∷ asked) (t ∷ ts) = line (name_text names n ++ codes " = " ++ term_text names t) ++ binding_lines names asked ts
binding_lines names (None ∷ asked) (t ∷ ts) = binding_lines names asked ts
binding_lines names _ _ = []

-- the variable has a name
abbrev pub is_named : Option ℕ → Bool
is_named None = false
is_named (Some n) = true

-- the lines of an answer's variables that have names, or `yes` if there is none
abbrev pub bindings_text : ProblemTree → Answered → List ℕ
bindings_text p a = if list_any is_named p.asked then binding_lines p.names p.asked a.terms else line (codes "yes")

-- the lines of answer k
abbrev pub answer_text : ProblemTree → ℕ → Answered → List ℕ
answer_text p k a = line (codes "answer " ++ decimal (cut_count k)) ++ bindings_text p a

-- the lines of the answers among the events, after k answers
abbrev pub answers_text : ProblemTree → ℕ → List Event → List ℕ
answers_text p k [] = []
answers_text p k (Answer a ∷ es) = answer_text p (suc k) a ++ answers_text p (suc k) es
answers_text p k (Reached ∷ es) = answers_text p k es

-- the last line, with the numbers of answers, of branches that reached the bound, and of inferences
abbrev pub counts_text : ℕ → ℕ → ℕ → List ℕ
counts_text answers reached inferences =
    line (codes "answers " ++ decimal answers ++ codes ", bound reached " ++ decimal reached ++ codes ", inferences " ++ decimal inferences)

-- the last line for exact numbers, each cut where it is printed
abbrev pub summary_text : ℕ → ℕ → ℕ → List ℕ
summary_text answers reached inferences = counts_text (cut_count answers) (cut_count reached) (cut_count inferences)

-- the text for a list of events and a cost
abbrev pub output_text : ProblemTree → List Event → ℕ → List ℕ
output_text p es inferences = answers_text p 0 es ++ summary_text (count_by is_answer es) (count_by is_reached es) inferences

-- the text that a run of the problem prints
abbrev pub run_text : ProblemTree → List ℕ
run_text p = output_text p (problem_events p) (problem_cost p)

-- the status of a run: 0 where there is an answer, else 2 where the bound was reached, else 1
abbrev pub status_by : Bool → Bool → ℕ
status_by true reached = 0
status_by false true = 2
status_by false false = 1

-- the status for a list of events
abbrev pub output_status : List Event → ℕ
output_status es = status_by (list_any is_answer es) (list_any is_reached es)

-- the status with which a run of the problem ends
abbrev pub run_status : ProblemTree → ℕ
run_status p = output_status (problem_events p)
