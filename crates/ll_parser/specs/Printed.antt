-- The text of raw trees as they are printed: brackets stand exactly where the levels or a quantifier ask for them.
use Rattle.std.specs.Prelude.{ℕ, nat_lt, Bool, true, false, cond, if◌then◌else◌, ◌&&◌, ◌||◌, List, [], ◌∷◌, ◌++◌, codes}
use Rattle.std.specs.Fmt.{signed_decimal}
use Rattle.std.specs.Str.{bytes_eq}
use Rattle.ll_parser.specs.declared.Op.{Op}
use Rattle.ll_parser.specs.declared.Op.TheVariants as op
use Rattle.ll_parser.specs.Tokens.{Identifier}
use Rattle.ll_parser.specs.Raw.{Raw, truth, erasure, braces, universal, existential, load, binary, head, anything, int, is_goal, less_goal, most_goal, RawList}
use Rattle.ll_parser.specs.Raw.{none, more, ClauseTree, ModuleTree, ProgramTree}

-- the levels, from the loosest: `:-` and `<=`; `-o`, `=>` and `-->`; `;`; `&`; `,`; primary formulas
pub data Rank : Type 0 where
  clauses arrows sums withs tensors primaries : Rank

-- their order
abbrev pub rank_number : Rank → ℕ
rank_number clauses = 0
rank_number arrows = 1
rank_number sums = 2
rank_number withs = 3
rank_number tensors = 4
rank_number primaries = 5

-- the first level is looser than the second
abbrev pub is_looser : Rank → Rank → Bool
is_looser r s = nat_lt (rank_number r) (rank_number s)

-- the level of an operator
abbrev pub op_rank : Op → Rank
op_rank op.ColonDash = clauses
op_rank op.LeftArrow = clauses
op_rank op.Lolli = arrows
op_rank op.RightArrow = arrows
op_rank op.Plus = sums
op_rank op.With = withs
op_rank op.Tensor = tensors

-- the loosest level that stands without brackets on the left of an operator, and on its right; `:-` and `<=` lean to the left
abbrev pub left_rank : Op → Rank
left_rank op.ColonDash = clauses
left_rank op.LeftArrow = clauses
left_rank op.Lolli = sums
left_rank op.RightArrow = sums
left_rank op.Plus = withs
left_rank op.With = tensors
left_rank op.Tensor = primaries

abbrev pub right_rank : Op → Rank
right_rank op.ColonDash = arrows
right_rank op.LeftArrow = arrows
right_rank op.Lolli = arrows
right_rank op.RightArrow = arrows
right_rank op.Plus = sums
right_rank op.With = withs
right_rank op.Tensor = tensors

-- the spelling of an operator
abbrev pub op_bytes : Op → List ℕ
op_bytes op.ColonDash = codes ":-"
op_bytes op.LeftArrow = codes "<="
op_bytes op.Lolli = codes "-o"
op_bytes op.RightArrow = codes "=>"
op_bytes op.Plus = codes ";"
op_bytes op.With = codes "&"
op_bytes op.Tensor = codes ","

-- an operator with a space on each side
abbrev pub between : List ℕ → List ℕ → List ℕ
between sign bytes = codes " " ++ (sign ++ (codes " " ++ bytes))

-- bytes, in brackets if it is so
abbrev pub bracketed : Bool → List ℕ → List ℕ
bracketed true bytes = codes "(" ++ (bytes ++ codes ")")
bracketed false bytes = bytes

-- ---- terms

-- the text of the sign `::`
abbrev pub is_cons : List ℕ → Bool
is_cons w = bytes_eq (codes "::") w

-- a term is of the form `::`
abbrev pub is_pair : Raw → Bool
is_pair (head n (more x (more y none))) = is_cons n.text
is_pair _ = false

-- an argument that has arguments itself, or is of the form `::`, stands in brackets
abbrev pub has_arguments : Raw → Bool
has_arguments (head n (more x rs)) = true
has_arguments _ = false

-- a head, with its two arguments on either side of it if it is `::`
abbrev pub head_text : Bool → Identifier → List ℕ → List ℕ → List ℕ
head_text true n pair args = pair
head_text false n pair args = n.text ++ args

-- the text of a term, of arguments with a space before each, and of two arguments with `::` between them
abbrev mutual
  pub term_text : Raw → List ℕ
  term_text (head n rs) = head_text (is_pair (head n rs)) n (pair_text rs) (arguments_text rs)
  term_text (int at z) = signed_decimal z
  term_text _ = codes "_"

  pub arguments_text : RawList → List ℕ
  arguments_text none = []
  arguments_text (more r rs) = codes " " ++ (bracketed (has_arguments r) (term_text r) ++ arguments_text rs)

  pub pair_text : RawList → List ℕ
  pair_text none = []
  pair_text (more r none) = []
  pair_text (more r (more s rs)) = bracketed (is_pair r) (term_text r) ++ (codes "::" ++ term_text s)

-- ---- expressions of whole numbers

-- the sign is `+` or `-`; it is `*`
abbrev pub is_add : List ℕ → Bool
is_add w = bytes_eq (codes "+") w || bytes_eq (codes "-") w

abbrev pub is_star : List ℕ → Bool
is_star w = bytes_eq (codes "*") w

-- an expression is a sum or a difference; it is a product
abbrev pub is_sum : Raw → Bool
is_sum (head n (more x (more y none))) = is_add n.text
is_sum _ = false

abbrev pub is_product : Raw → Bool
is_product (head n (more x (more y none))) = is_star n.text
is_product _ = false

-- brackets stand round a left operand of `*` that is a sum or a difference
abbrev pub left_encloses : List ℕ → Raw → Bool
left_encloses w x = is_star w && is_sum x

-- and round a right operand that is a sum or a difference, or, behind `*`, a product
abbrev pub right_encloses : List ℕ → Raw → Bool
right_encloses w y = is_sum y || (is_star w && is_product y)

-- the text of an expression, and of a sign with its two operands or a word that has none
abbrev mutual
  pub expr_text : Raw → List ℕ
  expr_text (head n rs) = sides_text n.text rs
  expr_text (int at z) = signed_decimal z
  expr_text _ = codes "_"

  pub sides_text : List ℕ → RawList → List ℕ
  sides_text w (more x (more y none)) = bracketed (left_encloses w x) (expr_text x) ++ between w (bracketed (right_encloses w y) (expr_text y))
  sides_text w _ = w

-- ---- formulas

-- a quantified formula, behind its word
abbrev pub bound_text : Identifier → List ℕ → List ℕ
bound_text n bytes = codes " " ++ (n.text ++ (92 ∷ (codes " " ++ bytes)))

-- The text of a formula where this level is the loosest that stands without brackets; the Bool says that something other than a
-- closing bracket or a dot follows.
abbrev pub formula_text : Rank → Bool → Raw → List ℕ
formula_text s f (truth at) = codes "true"
formula_text s f (erasure at) = codes "erase"
formula_text s f (braces at g) = codes "{" ++ (formula_text clauses false g ++ codes "}")
formula_text s f (universal at n g) = bracketed f (codes "forall" ++ bound_text n (formula_text clauses false g))
formula_text s f (existential at n g) = bracketed f (codes "exists" ++ bound_text n (formula_text clauses false g))
formula_text s f (load at n rs g) =
    let b : Bool = is_looser arrows s in
    bracketed b (n.text ++ (arguments_text rs ++ between (codes "-->") (formula_text arrows (cond b false f) g)))
formula_text s f (binary o at l r) =
    let b : Bool = is_looser (op_rank o) s in
    bracketed b (formula_text (left_rank o) true l ++ between (op_bytes o) (formula_text (right_rank o) (cond b false f) r))
formula_text s f (head n rs) = n.text ++ arguments_text rs
formula_text s f (anything at) = codes "true"
formula_text s f (int at z) = codes "true"
formula_text s f (is_goal at l r) = expr_text l ++ between (codes "is") (expr_text r)
formula_text s f (less_goal at l r) = expr_text l ++ between (codes "<") (expr_text r)
formula_text s f (most_goal at l r) = expr_text l ++ between (codes "=<") (expr_text r)

-- ---- programs: each line ends with a dot and LF

-- a dot, and the end of the line
abbrev pub line_end : List ℕ
line_end = codes "." ++ 10 ∷ []

-- names, each with a space before it, to the end of the line
abbrev pub names_text : List Identifier → List ℕ
names_text [] = line_end
names_text (n ∷ ns) = codes " " ++ (n.text ++ names_text ns)

-- a clause in its line, with its mark
abbrev pub clause_text : ClauseTree → List ℕ
clause_text c = if c.linear then codes "LINEAR" ++ (codes " " ++ (formula_text clauses false c.form ++ line_end)) else formula_text clauses false c.form
    ++ line_end

abbrev pub clauses_text : List ClauseTree → List ℕ
clauses_text [] = []
clauses_text (c ∷ cs) = clause_text c ++ clauses_text cs

-- one line `LOCAL` with all local constants, if there are any
abbrev pub locals_text : List Identifier → List ℕ
locals_text [] = []
locals_text (n ∷ ns) = codes "LOCAL" ++ names_text (n ∷ ns)

-- a module: its first line, its local constants and its clauses
abbrev pub module_text : ModuleTree → List ℕ
module_text m = (codes "MODULE" ++ names_text (m.name ∷ m.params)) ++ (locals_text m.locals ++ clauses_text m.clauses)

abbrev pub modules_text : List ModuleTree → List ℕ
modules_text [] = []
modules_text (m ∷ ms) = module_text m ++ modules_text ms

-- the text of a program
abbrev pub program_text : ProgramTree → List ℕ
program_text p = clauses_text p.clauses ++ modules_text p.modules
