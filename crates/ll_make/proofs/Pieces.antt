-- Lines that were written in pieces.
use Rattle.std.proofs.Common.{◌≡◌, ℕ, List, [], ◌∷◌, ◌++◌, ap, ◌∙◌, append_assoc}
use Rattle.std.specs.Prelude.{codes, Result, Ok, Err, OnOk, is_ok, if◌then◌else◌}
use Rattle.ll_make.specs.Programs.{line, lines_text}

-- what follows from the bytes that were appended, where they were
pub when_appended : {A E P : Type 0} (r : Result A E) (old with new : List ℕ) → new ≡ (if is_ok r then with else old) → (new ≡ with → P) → OnOk r P
when_appended (Ok done) old with new e f = f e
when_appended (Err refusal) old with new e f = tt

-- a first line in three pieces, the last of them with more lines behind it
first_line : (before opening list closing rest : List ℕ)
    → ((before ++ opening) ++ list) ++ (closing ++ (10 ∷ rest)) ≡ before ++ (line ((opening ++ list) ++ closing) ++ rest)
first_line before opening list closing rest = simp append_assoc

-- a last line in five pieces
last_line : (before opening list middle goals closing : List ℕ)
    → ((((before ++ opening) ++ list) ++ middle) ++ goals) ++ (closing ++ 10 ∷ []) ≡ before
    ++ (line ((((opening ++ list) ++ middle) ++ goals) ++ closing) ++ [])
last_line before opening list middle goals closing = simp append_assoc

-- the lines of a program of permutations, as they are written
pub perm_written : (before list opened listed text : List ℕ)
    → opened ≡ before ++ codes "go K :- load "
    → listed ≡ opened ++ list
    → text ≡ listed ++ codes " K.\nload nil K :- unload K.\nload (X::L) K :- item X -o load L K.\nunload nil.\nunload (X::L) :- item X , unload L.\n"
    → text ≡ before ++ lines_text ((codes "go K :- load " ++ list ++ codes " K.") ∷ codes "load nil K :- unload K."
    ∷ codes "load (X::L) K :- item X -o load L K." ∷ codes "unload nil." ∷ codes "unload (X::L) :- item X , unload L." ∷ [])
perm_written before list opened listed text e f g =
    g
    ∙ ap (λ t. t ++ codes " K.\nload nil K :- unload K.\nload (X::L) K :- item X -o load L K.\nunload nil.\nunload (X::L) :- item X , unload L.\n")
    (f ∙ ap (λ t. t ++ list) e)
    ∙ first_line before (codes "go K :- load ") list (codes " K.")
    (lines_text (codes "load nil K :- unload K." ∷ codes "load (X::L) K :- item X -o load L K." ∷ codes "unload nil."
    ∷ codes "unload (X::L) :- item X , unload L." ∷ []))

-- the lines of a program of choices, as they are written
pub choice_written : (before list goals opened listed headed full text : List ℕ)
    → opened ≡ before ++ codes "bit 0.\nbit 1.\ngo "
    → listed ≡ opened ++ list
    → headed ≡ listed ++ codes " :- "
    → full ≡ headed ++ goals
    → text ≡ full ++ codes ".\n"
    → text ≡ before ++ lines_text (codes "bit 0." ∷ codes "bit 1." ∷ (codes "go " ++ list ++ codes " :- " ++ goals ++ codes ".") ∷ [])
choice_written before list goals opened listed headed full text e f g h i =
    i
    ∙ ap (λ t. t ++ codes ".\n") (h ∙ ap (λ t. t ++ goals) (g ∙ ap (λ t. t ++ codes " :- ") (f ∙ ap (λ t. t ++ list) e)))
    ∙ last_line before (codes "bit 0.\nbit 1.\ngo ") list (codes " :- ") goals (codes ".")
