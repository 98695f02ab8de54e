-- The program that a kind and a number give: its lines, and their text.
use Rattle.std.specs.Prelude.{ℕ, zero, suc, ◌+◌, ◌-◌, List, [], ◌∷◌, ◌++◌, codes, flat_map}
use Rattle.ll_make.specs.declared.kind.MakeKind.{MakeKind}
use Rattle.ll_make.specs.declared.kind.MakeKind.TheVariants.{Perm, Choice, Chain}
use Rattle.ll_make.specs.Numbered.{numbered, names_to, list_argument, goals}

-- a line of a text: its bytes and a line feed
abbrev pub line : List ℕ → List ℕ
line bytes = bytes ++ 10 ∷ []

-- the text of some lines
abbrev pub lines_text : List (List ℕ) → List ℕ
lines_text lines = flat_map line lines

-- The permutations of the numbers from 1 to n: each is made a linear resource, and the resources are taken in any order.
abbrev pub perm_lines : ℕ → List (List ℕ)
perm_lines n =
    (codes "go K :- load " ++ list_argument (names_to [] n) ++ codes " K.")
    ∷ codes "load nil K :- unload K."
    ∷ codes "load (X::L) K :- item X -o load L K."
    ∷ codes "unload nil."
    ∷ codes "unload (X::L) :- item X , unload L."
    ∷ []

-- A list of n bits: each is chosen.
abbrev pub choice_lines : ℕ → List (List ℕ)
choice_lines n =
    codes "bit 0."
    ∷ codes "bit 1."
    ∷ (codes "go " ++ list_argument (names_to (codes "X") n) ++ codes " :- " ++ goals (codes "bit ") (names_to (codes "X") n) ++ codes ".")
    ∷ []

-- the clause of a chain by which the place above this one follows from it
abbrev pub link : ℕ → List ℕ
link below = numbered (codes "p") (below + 1) ++ numbered (codes " :- p") below ++ codes "."

-- the clauses of a chain by which each place above the first, the highest of them first, follows from the one below it; k of them
abbrev pub links : ℕ → List (List ℕ)
links zero = []
links (suc k) = link (k + 1) ∷ links k

-- A chain of n places: the goal follows from the highest, each from the one below it, and the lowest holds.
abbrev pub chain_lines : ℕ → List (List ℕ)
chain_lines n = (numbered (codes "go :- p") n ++ codes ".") ∷ links (n - 1) ++ codes "p1." ∷ []

-- the lines of the program of a kind for a number
abbrev pub program_lines : MakeKind → ℕ → List (List ℕ)
program_lines Perm n = perm_lines n
program_lines Choice n = choice_lines n
program_lines Chain n = chain_lines n

-- its text
abbrev pub program_text : MakeKind → ℕ → List ℕ
program_text kind n = lines_text (program_lines kind n)
