-- Worked examples: what some texts are read as, each evaluated by the checker. All their tokens stand in line 1.
use Rattle.std.proofs.Common.{◌≡◌, ℕ, zero, suc, true, false, List, [], ◌∷◌, ◌++◌, codes, refl, pos}
use Rattle.ll_lexer.specs.declared.Place.{Place}
use Rattle.ll_parser.specs.declared.Op.TheVariants as op
use Rattle.ll_parser.specs.Tokens.{Identifier, Tok, name, variable, any, number, forall_word, exists_word, module_word, local_word, linear_word, true_word}
use Rattle.ll_parser.specs.Tokens.{dot, comma, ampersand, semicolon, paren_left, paren_right, brace_left, brace_right, backslash, cons_sign, colon_dash}
use Rattle.ll_parser.specs.Tokens.{left_arrow, right_arrow, lolli, load_arrow}
use Rattle.ll_parser.specs.Raw.{Raw, truth, braces, universal, existential, load, binary, head, anything, int, none, more, cons_raw, ProgramTree}
use Rattle.ll_parser.specs.Text.{programs, queries}
use Rattle.ll_parser.specs.FlatText.{FlatProgram, program_start, program_step, program_final, FlatQuery, query_start, query_step, query_final}
use Rattle.ll_parser.proofs.machines.Programs.{decides-programs}
use Rattle.ll_parser.proofs.machines.Queries.{decides-queries}
use Rattle.ll_parser.proofs.verdicts.Answer.{Answer, tree, fault, answer_to, IsAnswer, answer-right}

-- the place of a column
abbrev at : ℕ → Place
at column = record { line = 1; column = column }

abbrev id : List ℕ → ℕ → Identifier
id text column = record { text = text; at = at column }

-- the atom of a name alone
abbrev atom : List ℕ → ℕ → Raw
atom text column = head (id text column) none

-- what a query is read as, with so many brackets at most, where its text ends at a column
abbrev asks : ℕ → ℕ → List Tok → Answer Raw
asks limit end ts = answer_to queries FlatQuery query_start query_step query_final decides-queries limit (at end) ts

-- what a program is read as
abbrev says : ℕ → List Tok → Answer ProgramTree
says end ts = answer_to programs FlatProgram program_start program_step program_final decides-programs 1000 (at end) ts

-- these answers are what the definitions give
asks-right : (limit end : ℕ) (ts : List Tok) → IsAnswer queries FlatQuery query_start query_step query_final decides-queries limit (at end) ts
    (asks limit end ts)
asks-right limit end = answer-right queries FlatQuery query_start query_step query_final decides-queries limit (at end)

says-right : (end : ℕ) (ts : List Tok) → IsAnswer programs FlatProgram program_start program_step program_final decides-programs 1000 (at end) ts (says end ts)
says-right end = answer-right programs FlatProgram program_start program_step program_final decides-programs 1000 (at end)

-- ---- operators

-- `a :- b <= c` leans to the left
clauses-lean-left : asks 1000 12 (name (id (codes "a") 1) ∷ colon_dash (at 3) ∷ name (id (codes "b") 6) ∷ left_arrow (at 8) ∷ name (id (codes "c") 11) ∷ [])
    ≡ tree (binary op.LeftArrow (at 8) (binary op.ColonDash (at 3) (atom (codes "a") 1) (atom (codes "b") 6)) (atom (codes "c") 11))
clauses-lean-left = refl

-- `a -o b => c` leans to the right
arrows-lean-right : asks 1000 12 (name (id (codes "a") 1) ∷ lolli (at 3) ∷ name (id (codes "b") 6) ∷ right_arrow (at 8) ∷ name (id (codes "c") 11) ∷ [])
    ≡ tree (binary op.Lolli (at 3) (atom (codes "a") 1) (binary op.RightArrow (at 8) (atom (codes "b") 6) (atom (codes "c") 11)))
arrows-lean-right = refl

-- `a , b , c` leans to the right
tensors-lean-right : asks 1000 10 (name (id (codes "a") 1) ∷ comma (at 3) ∷ name (id (codes "b") 5) ∷ comma (at 7) ∷ name (id (codes "c") 9) ∷ [])
    ≡ tree (binary op.Tensor (at 3) (atom (codes "a") 1) (binary op.Tensor (at 7) (atom (codes "b") 5) (atom (codes "c") 9)))
tensors-lean-right = refl

-- `a , b & c ; d -o e` by the levels
levels : asks 1000 19 (name (id (codes "a") 1) ∷ comma (at 3) ∷ name (id (codes "b") 5) ∷ ampersand (at 7) ∷ name (id (codes "c") 9) ∷ semicolon (at 11)
    ∷ name (id (codes "d") 13) ∷ lolli (at 15) ∷ name (id (codes "e") 18) ∷ [])
    ≡ tree
    (binary op.Lolli (at 15) (binary op.Plus (at 11) (binary op.With (at 7) (binary op.Tensor (at 3) (atom (codes "a") 1) (atom (codes "b") 5))
    (atom (codes "c") 9)) (atom (codes "d") 13)) (atom (codes "e") 18))
levels = refl

-- `a -o b :- c <= d`
loosest : asks 1000 17 (name (id (codes "a") 1) ∷ lolli (at 3) ∷ name (id (codes "b") 6) ∷ colon_dash (at 8) ∷ name (id (codes "c") 11) ∷ left_arrow (at 13)
    ∷ name (id (codes "d") 16) ∷ [])
    ≡ tree (binary op.LeftArrow (at 13) (binary op.ColonDash (at 8) (binary op.Lolli (at 3) (atom (codes "a") 1) (atom (codes "b") 6)) (atom (codes "c") 11))
    (atom (codes "d") 16))
loosest = refl

-- `{ a } , (b ; c)`: braces are kept, brackets are not
brackets : asks 1000 16 (brace_left (at 1) ∷ name (id (codes "a") 3) ∷ brace_right (at 5) ∷ comma (at 7) ∷ paren_left (at 9) ∷ name (id (codes "b") 10)
    ∷ semicolon (at 12) ∷ name (id (codes "c") 14) ∷ paren_right (at 15) ∷ [])
    ≡ tree (binary op.Tensor (at 7) (braces (at 1) (atom (codes "a") 3)) (binary op.Plus (at 12) (atom (codes "b") 10) (atom (codes "c") 14)))
brackets = refl

-- ---- quantifiers

-- `forall x\ a , b`: the scope reaches to the end
scope-reaches-far : asks 1000 16 (forall_word (at 1) ∷ name (id (codes "x") 8) ∷ backslash (at 9) ∷ name (id (codes "a") 11) ∷ comma (at 13)
    ∷ name (id (codes "b") 15) ∷ [])
    ≡ tree (universal (at 1) (id (codes "x") 8) (binary op.Tensor (at 13) (atom (codes "a") 11) (atom (codes "b") 15)))
scope-reaches-far = refl

-- `(forall x\ a) , b`: brackets end it
scope-in-brackets : asks 1000 18 (paren_left (at 1) ∷ forall_word (at 2) ∷ name (id (codes "x") 9) ∷ backslash (at 10) ∷ name (id (codes "a") 12)
    ∷ paren_right (at 13) ∷ comma (at 15) ∷ name (id (codes "b") 17) ∷ [])
    ≡ tree (binary op.Tensor (at 15) (universal (at 2) (id (codes "x") 9) (atom (codes "a") 12)) (atom (codes "b") 17))
scope-in-brackets = refl

-- `(a , exists X\ b) , c`: so do brackets round more
scope-in-wider-brackets : asks 1000 22 (paren_left (at 1) ∷ name (id (codes "a") 2) ∷ comma (at 4) ∷ exists_word (at 6) ∷ variable (id (codes "X") 13)
    ∷ backslash (at 14) ∷ name (id (codes "b") 16) ∷ paren_right (at 17) ∷ comma (at 19) ∷ name (id (codes "c") 21) ∷ [])
    ≡ tree (binary op.Tensor (at 19) (binary op.Tensor (at 4) (atom (codes "a") 2) (existential (at 6) (id (codes "X") 13) (atom (codes "b") 16)))
    (atom (codes "c") 21))
scope-in-wider-brackets = refl

-- ---- terms and loads

-- `p (X::a::L) (f 1) _`
terms : asks 1000 20 (name (id (codes "p") 1) ∷ paren_left (at 3) ∷ variable (id (codes "X") 4) ∷ cons_sign (at 5) ∷ name (id (codes "a") 7) ∷ cons_sign (at 8)
    ∷ variable (id (codes "L") 10) ∷ paren_right (at 11) ∷ paren_left (at 13) ∷ name (id (codes "f") 14) ∷ number (pos 1) (at 16) ∷ paren_right (at 17)
    ∷ any (at 19) ∷ [])
    ≡ tree (head (id (codes "p") 1) (more (cons_raw (at 5) (atom (codes "X") 4) (cons_raw (at 8) (atom (codes "a") 7) (atom (codes "L") 10)))
    (more (head (id (codes "f") 14) (more (int (at 16) (pos 1)) none)) (more (anything (at 19)) none))))
terms = refl

-- `m X --> a , b`: the load reaches over the tighter operators on its right
loads : asks 1000 14 (name (id (codes "m") 1) ∷ variable (id (codes "X") 3) ∷ load_arrow (at 5) ∷ name (id (codes "a") 9) ∷ comma (at 11)
    ∷ name (id (codes "b") 13) ∷ [])
    ≡ tree (load (at 5) (id (codes "m") 1) (more (atom (codes "X") 3) none) (binary op.Tensor (at 11) (atom (codes "a") 9) (atom (codes "b") 13)))
loads = refl

-- `a -o m --> b`: a load on the right of an arrow
load-after-arrow : asks 1000 13 (name (id (codes "a") 1) ∷ lolli (at 3) ∷ name (id (codes "m") 6) ∷ load_arrow (at 8) ∷ name (id (codes "b") 12) ∷ [])
    ≡ tree (binary op.Lolli (at 3) (atom (codes "a") 1) (load (at 8) (id (codes "m") 6) none (atom (codes "b") 12)))
load-after-arrow = refl

-- `a , m --> b`: none beside a tighter operator
no-load-after-comma : asks 1000 12 (name (id (codes "a") 1) ∷ comma (at 3) ∷ name (id (codes "m") 5) ∷ load_arrow (at 7) ∷ name (id (codes "b") 11) ∷ [])
    ≡ fault (at 7) 4
no-load-after-comma = refl

-- `X --> a`: a module has a Name
no-load-of-variable : asks 1000 8 (variable (id (codes "X") 1) ∷ load_arrow (at 3) ∷ name (id (codes "a") 7) ∷ []) ≡ fault (at 3) 4
no-load-of-variable = refl

-- `(m X) --> a`: and no brackets
no-load-of-brackets : asks 1000 12 (paren_left (at 1) ∷ name (id (codes "m") 2) ∷ variable (id (codes "X") 4) ∷ paren_right (at 5) ∷ load_arrow (at 7)
    ∷ name (id (codes "a") 11) ∷ []) ≡ fault (at 7) 4
no-load-of-brackets = refl

-- `p (a --> b)`: no formula in a term
no-load-in-term : asks 1000 12 (name (id (codes "p") 1) ∷ paren_left (at 3) ∷ name (id (codes "a") 4) ∷ load_arrow (at 6) ∷ name (id (codes "b") 10)
    ∷ paren_right (at 11) ∷ []) ≡ fault (at 6) 4
no-load-in-term = refl

-- ---- faults

-- `p :- forall x\`
quantifier-ends-early : says 15 (name (id (codes "p") 1) ∷ colon_dash (at 3) ∷ forall_word (at 6) ∷ name (id (codes "x") 13) ∷ backslash (at 14) ∷ [])
    ≡ fault (at 15) 5
quantifier-ends-early = refl

-- `p q).`
bracket-too-many : says 6 (name (id (codes "p") 1) ∷ name (id (codes "q") 3) ∷ paren_right (at 4) ∷ dot (at 5) ∷ []) ≡ fault (at 4) 4
bracket-too-many = refl

-- `(a}`: brackets of two kinds
brackets-of-two-kinds : asks 1000 4 (paren_left (at 1) ∷ name (id (codes "a") 2) ∷ brace_right (at 3) ∷ []) ≡ fault (at 3) 4
brackets-of-two-kinds = refl

-- `p :- q :- r :- s.` is allowed
many-clauses : says 18 (name (id (codes "p") 1) ∷ colon_dash (at 3) ∷ name (id (codes "q") 6) ∷ colon_dash (at 8) ∷ name (id (codes "r") 11)
    ∷ colon_dash (at 13) ∷ name (id (codes "s") 16) ∷ dot (at 17) ∷ [])
    ≡ tree (record {
      clauses = record {
        linear = false;
        form =
            binary op.ColonDash (at 13) (binary op.ColonDash (at 8) (binary op.ColonDash (at 3) (atom (codes "p") 1) (atom (codes "q") 6))
            (atom (codes "r") 11))
            (atom (codes "s") 16);
      } ∷ [];
      modules = [];
    })
many-clauses = refl

-- `p..` has a dot too many, `p. q` lacks one in a program, and in a query nothing follows the dot
two-dots : says 4 (name (id (codes "p") 1) ∷ dot (at 2) ∷ dot (at 3) ∷ []) ≡ fault (at 3) 4
two-dots = refl

missing-dot : says 5 (name (id (codes "p") 1) ∷ dot (at 2) ∷ name (id (codes "q") 4) ∷ []) ≡ fault (at 5) 5
missing-dot = refl

after-the-dot : asks 1000 5 (name (id (codes "p") 1) ∷ dot (at 2) ∷ name (id (codes "q") 4) ∷ []) ≡ fault (at 4) 4
after-the-dot = refl

-- an empty text is a program, and no query
empty-program : says 1 [] ≡ tree (record { clauses = []; modules = [] })
empty-program = refl

empty-query : asks 1000 1 [] ≡ fault (at 1) 5
empty-query = refl

-- `((a) , {` where two brackets may be open: the third that is open
one-bracket-more : asks 1 9 (paren_left (at 1) ∷ name (id (codes "a") 2) ∷ paren_right (at 3) ∷ comma (at 5) ∷ brace_left (at 7) ∷ paren_left (at 8) ∷ [])
    ≡ fault (at 8) 6
one-bracket-more = refl

-- `p :- ((..(` with 1,001 brackets from column 6 on: the last one is at column 1006; with 1,000 the text ends early
abbrev lefts : ℕ → ℕ → List Tok
lefts zero column = []
lefts (suc n) column = paren_left (at column) ∷ lefts n (suc column)

past-the-limit : says 1007 (name (id (codes "p") 1) ∷ colon_dash (at 3) ∷ lefts 1001 6) ≡ fault (at 1006) 6
past-the-limit = refl

abbrev rights : ℕ → ℕ → List Tok → List Tok
rights zero column ts = ts
rights (suc n) column ts = paren_right (at column) ∷ rights n (suc column) ts

-- and with all of them closed again it is a program
within-the-limit : says 2011 (name (id (codes "p") 1) ∷ colon_dash (at 3) ∷ (lefts 1000 6 ++ true_word (at 1006) ∷ rights 1000 1010 (dot (at 2010) ∷ [])))
    ≡ tree (record { clauses = record { linear = false; form = binary op.ColonDash (at 3) (atom (codes "p") 1) (truth (at 1006)) } ∷ []; modules = [] })
within-the-limit = refl

at-the-limit : says 1006 (name (id (codes "p") 1) ∷ colon_dash (at 3) ∷ lefts 1000 6) ≡ fault (at 1006) 5
at-the-limit = refl

-- `p (` where no bracket may be open, in a term
bracket-in-term : asks 0 4 (name (id (codes "p") 1) ∷ paren_left (at 3) ∷ []) ≡ fault (at 3) 6
bracket-in-term = refl

-- `((` after an operand: a bracket that the grammar does not admit is a bad token, however many are open
bracket-not-admitted : asks 1 6 (paren_left (at 1) ∷ true_word (at 2) ∷ paren_left (at 7) ∷ []) ≡ fault (at 7) 4
bracket-not-admitted = refl

-- ---- modules

-- `a. MODULE m X. LOCAL c d. LOCAL e. LINEAR p. MODULE n.`
modules : says 52 (name (id (codes "a") 1) ∷ dot (at 2) ∷ module_word (at 4) ∷ name (id (codes "m") 11) ∷ variable (id (codes "X") 13) ∷ dot (at 14)
    ∷ local_word (at 16) ∷ name (id (codes "c") 22) ∷ name (id (codes "d") 24) ∷ dot (at 25) ∷ local_word (at 27) ∷ name (id (codes "e") 33) ∷ dot (at 34)
    ∷ linear_word (at 36) ∷ name (id (codes "p") 43) ∷ dot (at 44) ∷ module_word (at 46) ∷ name (id (codes "n") 53) ∷ dot (at 54) ∷ [])
    ≡ tree (record {
      clauses = record { linear = false; form = atom (codes "a") 1 } ∷ [];
      modules = record {
        name = id (codes "m") 11;
        params = id (codes "X") 13 ∷ [];
        locals = id (codes "c") 22 ∷ id (codes "d") 24 ∷ id (codes "e") 33 ∷ [];
        clauses = record { linear = true; form = atom (codes "p") 43 } ∷ [];
      }
          ∷ record { name = id (codes "n") 53; params = []; locals = []; clauses = [] } ∷ [];
    })
modules = refl

-- `LOCAL c.`: no local constants outside of a module
local-outside : says 9 (local_word (at 1) ∷ name (id (codes "c") 7) ∷ dot (at 8) ∷ []) ≡ fault (at 1) 4
local-outside = refl

-- `MODULE m. p. LOCAL c.`: none after a clause
local-after-clause : says 22 (module_word (at 1) ∷ name (id (codes "m") 8) ∷ dot (at 9) ∷ name (id (codes "p") 11) ∷ dot (at 12) ∷ local_word (at 14)
    ∷ name (id (codes "c") 20) ∷ dot (at 21) ∷ []) ≡ fault (at 14) 4
local-after-clause = refl

-- `MODULE m. LOCAL.`: at least one name
local-without-name : says 17 (module_word (at 1) ∷ name (id (codes "m") 8) ∷ dot (at 9) ∷ local_word (at 11) ∷ dot (at 16) ∷ []) ≡ fault (at 16) 4
local-without-name = refl

-- `MODULE m x.`: a parameter is a Variable
parameter-name : says 12 (module_word (at 1) ∷ name (id (codes "m") 8) ∷ name (id (codes "x") 10) ∷ dot (at 11) ∷ []) ≡ fault (at 10) 4
parameter-name = refl

-- `LINEAR MODULE`: a clause follows `LINEAR`
linear-module : says 14 (linear_word (at 1) ∷ module_word (at 8) ∷ []) ≡ fault (at 8) 4
linear-module = refl
