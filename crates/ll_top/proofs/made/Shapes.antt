-- The parse trees of the programs that are made; no place counts.
use Rattle.std.specs.Prelude.{ℕ, zero, suc, ◌+◌, ◌-◌, pos, false, List, [], ◌∷◌, map, codes}
use Rattle.std.specs.List.{range_with_len}
use Rattle.ll_parser.specs.Bare.{nowhere}
use Rattle.ll_parser.specs.Tokens.{Identifier}
use Rattle.ll_parser.specs.Grammar.{lower, upper, Term, of_app, cons, App, applied, app_number, Simple, simple_word, simple_number, simple_bracket, no_more}
use Rattle.ll_parser.specs.Grammar.{and_then, by_colon, by_lolli, of_arrow, clause, Arrow, of_sum, implies, Sum, of_with, of_tensor, Tensor, of_primary, times}
use Rattle.ll_parser.specs.Grammar.{Primary, atom}
use Rattle.ll_parser.specs.Text.{Clause, plain}
use Rattle.ll_make.specs.Numbered.{numbered}

abbrev pub identifier : List ℕ → Identifier
identifier text = record { text = text; at = nowhere }

-- ---- arguments

-- a constant and a variable
abbrev pub constant : List ℕ → Simple
constant text = simple_word (lower (identifier text))

abbrev pub unknown : List ℕ → Simple
unknown text = simple_word (upper (identifier text))

-- a variable as an element of a list
abbrev pub unknown_element : List ℕ → App
unknown_element text = applied (upper (identifier text)) no_more

-- the list of some elements
abbrev pub list_term : List App → Term
list_term [] = of_app (applied (lower (identifier (codes "nil"))) no_more)
list_term (x ∷ xs) = cons x nowhere (list_term xs)

-- the same as an argument
abbrev pub list_simple : List App → Simple
list_simple [] = constant (codes "nil")
list_simple (x ∷ xs) = simple_bracket nowhere (list_term (x ∷ xs)) nowhere

-- `(X::L)`
abbrev pub front_and_rest : Simple
front_and_rest = simple_bracket nowhere (cons (unknown_element (codes "X")) nowhere (of_app (unknown_element (codes "L")))) nowhere

-- ---- formulas

-- a predicate without arguments, with one and with two
abbrev pub alone : List ℕ → Primary false
alone text = atom (lower (identifier text)) no_more

abbrev pub of_one : List ℕ → Simple → Primary false
of_one text x = atom (lower (identifier text)) (and_then no_more x)

abbrev pub of_two : List ℕ → Simple → Simple → Primary false
of_two text x y = atom (lower (identifier text)) (and_then (and_then no_more x) y)

-- as a body, and as the side of an operator
abbrev pub side : Primary false → Sum false
side p = of_with (of_tensor (of_primary p))

abbrev pub body : Primary false → Arrow false
body p = of_sum (side p)

-- the clauses `h.` and `h :- b.`
abbrev pub fact : Primary false → Clause
fact h = plain (of_arrow (body h)) nowhere

abbrev pub rule : Primary false → Arrow false → Clause
rule h b = plain (clause (of_arrow (body h)) by_colon nowhere b) nowhere

-- ---- the clauses of programs

abbrev pub perm_clauses : ℕ → List Clause
perm_clauses n =
    rule (of_one (codes "go") (unknown (codes "K"))) (body (of_two (codes "load") (list_simple (map (λ k. app_number (pos k) nowhere) (range_with_len 1 n)))
    (unknown (codes "K"))))
    ∷ rule (of_two (codes "load") (constant (codes "nil")) (unknown (codes "K"))) (body (of_one (codes "unload") (unknown (codes "K"))))
    ∷ rule (of_two (codes "load") front_and_rest (unknown (codes "K")))
    (implies (side (of_one (codes "item") (unknown (codes "X")))) by_lolli nowhere
    (body (of_two (codes "load") (unknown (codes "L")) (unknown (codes "K")))))
    ∷ fact (of_one (codes "unload") (constant (codes "nil")))
    ∷ rule (of_one (codes "unload") front_and_rest) (of_sum (of_with
    (of_tensor (times (of_one (codes "item") (unknown (codes "X"))) nowhere (of_primary (of_one (codes "unload") (unknown (codes "L"))))))))
    ∷ []

-- a goal for the first number and one for each behind it
abbrev pub bits : ℕ → List ℕ → Tensor false
bits k [] = of_primary (of_one (codes "bit") (unknown (numbered (codes "X") k)))
bits k (m ∷ ms) = times (of_one (codes "bit") (unknown (numbered (codes "X") k))) nowhere (bits m ms)

-- for one bit more than n
abbrev pub choice_clauses : ℕ → List Clause
choice_clauses n =
    fact (of_one (codes "bit") (simple_number (pos 0) nowhere))
    ∷ fact (of_one (codes "bit") (simple_number (pos 1) nowhere))
    ∷ rule (of_one (codes "go") (list_simple (map (λ k. unknown_element (numbered (codes "X") k)) (range_with_len 1 (suc n)))))
    (of_sum (of_with (of_tensor (bits 1 (range_with_len 2 n)))))
    ∷ []

-- `h :- b.`, without arguments
abbrev pub follows : List ℕ → List ℕ → Clause
follows h b = rule (alone h) (body (alone b))

-- the clauses of a chain below the first: k links and the lowest place
abbrev pub lower_clauses : ℕ → List Clause
lower_clauses zero = fact (alone (codes "p1")) ∷ []
lower_clauses (suc k) = follows (numbered (codes "p") (k + 1 + 1)) (numbered (codes "p") (k + 1)) ∷ lower_clauses k

abbrev pub chain_clauses : ℕ → List Clause
chain_clauses n = follows (codes "go") (numbered (codes "p") n) ∷ lower_clauses (n - 1)
