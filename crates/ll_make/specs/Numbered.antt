-- What is numbered from 1 up: names, list terms and goals.
use Rattle.std.specs.Prelude.{ℕ, List, [], ◌∷◌, ◌++◌, map, codes, decimal, flat_map}
use Rattle.std.specs.List.{range_with_len, join_by}

-- a name with a number behind it, as `X3`
abbrev pub numbered : List ℕ → ℕ → List ℕ
numbered name k = name ++ decimal k

-- the names that are numbered from 1 to n
abbrev pub names_to : List ℕ → ℕ → List (List ℕ)
names_to name n = map (numbered name) (range_with_len 1 n)

-- the elements of a list term, each with `::` behind it
abbrev pub elements_text : List (List ℕ) → List ℕ
elements_text elements = flat_map (λ element. element ++ codes "::") elements

-- the list of some elements as an argument: `nil`, or in brackets, as `(X1::X2::nil)`
abbrev pub list_argument : List (List ℕ) → List ℕ
list_argument [] = codes "nil"
list_argument (first ∷ others) = codes "(" ++ elements_text (first ∷ others) ++ codes "nil)"

-- a goal for each of these arguments, with ` , ` between each two: `bit X1 , bit X2`
abbrev pub goals : List ℕ → List (List ℕ) → List ℕ
goals predicate arguments = join_by (λ argument. predicate ++ argument) (codes " , ") arguments
