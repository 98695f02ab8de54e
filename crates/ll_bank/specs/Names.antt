-- Names, seen as the list of their texts' bytes, each at its number.
use Rattle.std.specs.Prelude.{ℕ, List, [], ◌∷◌, ◌++◌, Option, Some, None, position, fold, if◌then◌else◌}
use Rattle.std.specs.Arc.{arc_value}
use Rattle.std.specs.declared.sync.Arc.{Arc}
use Rattle.std.specs.declared.alloc.Global.{Global}
use Rattle.std.specs.List.{list_any}
use Rattle.std.specs.Str.{bytes_eq}

-- the number of a text: the place of the first text that is equal to it
abbrev pub number_of : List (List ℕ) → List ℕ → Option ℕ
number_of texts text = position (bytes_eq text) texts

-- the texts after one is added: it goes last unless it is among them
abbrev pub with_name : List (List ℕ) → List ℕ → List (List ℕ)
with_name texts text = if list_any (bytes_eq text) texts then texts else texts ++ text ∷ []

-- the texts after several are added in turn
abbrev pub with_names : List (List ℕ) → List (List ℕ) → List (List ℕ)
with_names texts more = fold with_name texts more

-- the texts of a front, where there is one
abbrev pub front_texts : Option (Arc (List (List ℕ)) Global) → List (List ℕ)
front_texts None = []
front_texts (Some texts) = arc_value texts
