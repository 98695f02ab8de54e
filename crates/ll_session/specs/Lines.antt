-- The lines of a text, and which of them are queries.
use Rattle.std.specs.Prelude.{ℕ, Bool, false, not, ◌==◌, ◌||◌, List, [], ◌∷◌, if◌then◌else◌}

-- the lines with a byte more in front of the first one
abbrev pub with_front : ℕ → List (List ℕ) → List (List ℕ)
with_front b [] = (b ∷ []) ∷ []
with_front b (line ∷ rest) = (b ∷ line) ∷ rest

-- the lines of a text: its parts between LF bytes, where an empty last part is no line
abbrev pub lines : List ℕ → List (List ℕ)
lines [] = []
lines (b ∷ bs) = if b == 10 then [] ∷ lines bs else with_front b (lines bs)

-- space, tab, CR and LF
abbrev pub is_blank_byte : ℕ → Bool
is_blank_byte b = ((b == 32 || b == 9) || b == 13) || b == 10

-- the line holds more than blanks and a comment: a byte that is no blank, and the first one begins no comment
abbrev pub is_query_line : List ℕ → Bool
is_query_line [] = false
is_query_line (b ∷ bs) = if is_blank_byte b then is_query_line bs else not (b == 37)
