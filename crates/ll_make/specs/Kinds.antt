-- The numbers that each kind of program is made for, and its query.
use Rattle.std.specs.Prelude.{ℕ, ◌≤◌, List, codes}
use Rattle.ll_make.specs.declared.kind.MakeKind.{MakeKind}
use Rattle.ll_make.specs.declared.kind.MakeKind.TheVariants.{Perm, Choice, Chain}

-- the least number
abbrev pub least_number : MakeKind → ℕ
least_number Perm = 0
least_number Choice = 1
least_number Chain = 1

-- the greatest number
abbrev pub greatest_number : MakeKind → ℕ
greatest_number Perm = 8
greatest_number Choice = 16
greatest_number Chain = 100000

-- there is a program of this kind for this number
abbrev pub InRange : MakeKind → ℕ → Type 0
InRange kind n = (least_number kind ≤ n) × (n ≤ greatest_number kind)

-- the query
abbrev pub query_text : MakeKind → List ℕ
query_text Perm = codes "go K"
query_text Choice = codes "go X"
query_text Chain = codes "go"
