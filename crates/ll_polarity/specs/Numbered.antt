-- How the variables of a clause or a query are numbered by the names that they have in the text.
use Rattle.std.specs.Prelude.{◌≡◌, ℕ, Bool, false, List, [], ◌∷◌, ◌++◌, map, Option, Some, None, option_map, nat_eq, position, unwrap_or, slice_index_or}
use Rattle.std.specs.Prelude.{if◌then◌else◌}
use Rattle.std.specs.List.{list_any}

-- the variable has the name with this number
abbrev pub has_number : ℕ → Option ℕ → Bool
has_number n None = false
has_number n (Some m) = nat_eq n m

-- the number of the variable with a name
abbrev pub numbered : List (Option ℕ) → ℕ → ℕ
numbered variables n = unwrap_or (position (has_number n) variables) 0

-- the variables with this one, which goes last unless it is among them
abbrev pub with_number : List (Option ℕ) → ℕ → List (Option ℕ)
with_number variables n = if list_any (has_number n) variables then variables else variables ++ Some n ∷ []

-- each name has the number of its variable, if there is one
abbrev pub AreNumbered : (ℕ → Option ℕ) → List (Option ℕ) → Type 0
AreNumbered lookup variables = (n : ℕ) → lookup n ≡ position (has_number n) variables

-- the text of a name, or an empty one past the end of the texts
abbrev pub text_of : List (List ℕ) → ℕ → List ℕ
text_of texts n = slice_index_or texts n []

-- the variables by the texts of their names
abbrev pub variables_of : List (List ℕ) → List (Option ℕ) → List (Option (List ℕ))
variables_of texts variables = map (option_map (text_of texts)) variables
