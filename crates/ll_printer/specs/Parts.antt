-- The parts of a formula that are still to be printed, the last one first.
use Rattle.std.specs.Prelude.{◌≡◌, ℕ, ◌+◌, ◌*◌, ◌<◌, Bool, true, false, List, [], ◌∷◌, ◌++◌, length, codes}
use Rattle.std.specs.Fmt.{signed_decimal}
use Rattle.ll_parser.specs.declared.Named.{Named}
use Rattle.ll_parser.specs.declared.RawAt.{RawAt}
use Rattle.ll_parser.specs.Raw.{Raw, truth, erasure, braces, universal, existential, load, binary, is_goal, less_goal, most_goal, head, anything, int, RawList}
use Rattle.ll_parser.specs.Raw.{none, more}
use Rattle.ll_parser.specs.Nodes.{Node, identifier, raw_at}
use Rattle.ll_parser.specs.Printed.{Rank, clauses, arrows, sums, withs, tensors, primaries, is_looser, op_rank, left_rank, right_rank, op_bytes, between}
use Rattle.ll_parser.specs.Printed.{bracketed, is_pair, has_arguments, term_text, arguments_text, left_encloses, right_encloses, expr_text, bound_text}
use Rattle.ll_parser.specs.Printed.{formula_text}
use Rattle.ll_printer.specs.declared.formulas.Level.{Level}
use Rattle.ll_printer.specs.declared.formulas.Level.TheVariants as level
use Rattle.ll_printer.specs.declared.formulas.Word.{Word}
use Rattle.ll_printer.specs.declared.formulas.Word.TheVariants as word
use Rattle.ll_printer.specs.declared.formulas.Part.{Part}
use Rattle.ll_printer.specs.declared.formulas.Part.TheVariants as part

-- the level
abbrev pub rank_of : Level → Rank
rank_of level.Clauses = clauses
rank_of level.Arrows = arrows
rank_of level.Sums = sums
rank_of level.Withs = withs
rank_of level.Tensors = tensors
rank_of level.Primaries = primaries

-- the text of a word
abbrev pub word_text : Word → List ℕ
word_text word.Open = codes "("
word_text word.Close = codes ")"
word_text word.OpenBrace = codes "{"
word_text word.CloseBrace = codes "}"
word_text word.Space = codes " "
word_text word.True = codes "true"
word_text word.Erase = codes "erase"
word_text word.Forall = codes "forall "
word_text word.Exists = codes "exists "
word_text word.Backslash = 92 ∷ codes " "
word_text word.LoadArrow = codes " --> "
word_text (word.Operator o) = between (op_bytes o) []
word_text word.Is = between (codes "is") []
word_text word.Less = between (codes "<") []
word_text word.Most = between (codes "=<") []
word_text word.Cons = codes "::"
word_text word.Any = codes "_"

-- brackets stand round a formula
abbrev pub needs_brackets : Rank → Bool → Raw → Bool
needs_brackets s f (universal at n g) = f
needs_brackets s f (existential at n g) = f
needs_brackets s f (load at n rs g) = is_looser arrows s
needs_brackets s f (binary o at l r) = is_looser (op_rank o) s
needs_brackets s f _ = false

-- the text of a formula without brackets round it
abbrev pub inner_text : Bool → Raw → List ℕ
inner_text f (truth at) = codes "true"
inner_text f (erasure at) = codes "erase"
inner_text f (braces at g) = codes "{" ++ (formula_text clauses false g ++ codes "}")
inner_text f (universal at n g) = codes "forall" ++ bound_text n (formula_text clauses false g)
inner_text f (existential at n g) = codes "exists" ++ bound_text n (formula_text clauses false g)
inner_text f (load at n rs g) = n.text ++ (arguments_text rs ++ between (codes "-->") (formula_text arrows f g))
inner_text f (binary o at l r) = formula_text (left_rank o) true l ++ between (op_bytes o) (formula_text (right_rank o) f r)
inner_text f (head n rs) = n.text ++ arguments_text rs
inner_text f (anything at) = codes "true"
inner_text f (int at z) = codes "true"
inner_text f (is_goal at l r) = expr_text l ++ between (codes "is") (expr_text r)
inner_text f (less_goal at l r) = expr_text l ++ between (codes "<") (expr_text r)
inner_text f (most_goal at l r) = expr_text l ++ between (codes "=<") (expr_text r)

-- the text of a part
abbrev pub part_text : List (List ℕ) → List Node → Part → List ℕ
part_text names nodes (part.Formula at l f) = formula_text (rank_of l) f (raw_at names nodes at.0)
part_text names nodes (part.Inside at f) = inner_text f (raw_at names nodes at.0)
part_text names nodes (part.Term at) = term_text (raw_at names nodes at.0)
part_text names nodes (part.Argument at) = codes " " ++ bracketed (has_arguments (raw_at names nodes at.0)) (term_text (raw_at names nodes at.0))
part_text names nodes (part.Item at) = bracketed (is_pair (raw_at names nodes at.0)) (term_text (raw_at names nodes at.0))
part_text names nodes (part.Expression at) = expr_text (raw_at names nodes at.0)
part_text names nodes (part.Name n) = (identifier names n).text
part_text names nodes (part.Number z) = signed_decimal z
part_text names nodes (part.Word w) = word_text w

-- the text of all parts, of which the last one comes first, and what stands behind it
abbrev pub parts_text : List (List ℕ) → List Node → List Part → List ℕ → List ℕ
parts_text names nodes [] rest = rest
parts_text names nodes (p ∷ ps) rest = parts_text names nodes ps (part_text names nodes p ++ rest)

-- the number of nodes of a tree and of its arguments
abbrev mutual
  pub raw_size : Raw → ℕ
  raw_size (braces at g) = 1 + raw_size g
  raw_size (universal at n g) = 1 + raw_size g
  raw_size (existential at n g) = 1 + raw_size g
  raw_size (load at n rs g) = 1 + raws_size rs + raw_size g
  raw_size (binary o at l r) = 1 + raw_size l + raw_size r
  raw_size (is_goal at l r) = 1 + raw_size l + raw_size r
  raw_size (less_goal at l r) = 1 + raw_size l + raw_size r
  raw_size (most_goal at l r) = 1 + raw_size l + raw_size r
  raw_size (head n rs) = 1 + raws_size rs
  raw_size _ = 1

  pub raws_size : RawList → ℕ
  raws_size none = 0
  raws_size (more r rs) = 1 + raw_size r + raws_size rs

-- how much work a part is
abbrev pub part_weight : List (List ℕ) → List Node → Part → ℕ
part_weight names nodes (part.Formula at l f) = 8 * raw_size (raw_at names nodes at.0) + 3
part_weight names nodes (part.Inside at f) = 8 * raw_size (raw_at names nodes at.0)
part_weight names nodes (part.Term at) = 8 * raw_size (raw_at names nodes at.0)
part_weight names nodes (part.Argument at) = 8 * raw_size (raw_at names nodes at.0) + 4
part_weight names nodes (part.Item at) = 8 * raw_size (raw_at names nodes at.0) + 3
part_weight names nodes (part.Expression at) = 8 * raw_size (raw_at names nodes at.0)
part_weight names nodes (part.Name n) = 1
part_weight names nodes (part.Number z) = 1
part_weight names nodes (part.Word w) = 1

abbrev pub parts_weight : List (List ℕ) → List Node → List Part → ℕ
parts_weight names nodes [] = 0
parts_weight names nodes (p ∷ ps) = part_weight names nodes p + parts_weight names nodes ps

-- the tree of a part is there
abbrev pub HasPart : List Node → Part → Type 0
HasPart nodes (part.Formula at l f) = at.0 < length nodes
HasPart nodes (part.Inside at f) = at.0 < length nodes
HasPart nodes (part.Term at) = at.0 < length nodes
HasPart nodes (part.Argument at) = at.0 < length nodes
HasPart nodes (part.Item at) = at.0 < length nodes
HasPart nodes (part.Expression at) = at.0 < length nodes
HasPart nodes (part.Name n) = Unit {0}
HasPart nodes (part.Number z) = Unit {0}
HasPart nodes (part.Word w) = Unit {0}

abbrev pub AreParts : List Node → List Part → Type 0
AreParts nodes [] = Unit {0}
AreParts nodes (p ∷ ps) = HasPart nodes p × AreParts nodes ps

-- the parts of arguments, of which the first one is on top
abbrev pub argument_parts : List RawAt → List Part
argument_parts [] = []
argument_parts (a ∷ args) = argument_parts args ++ part.Argument a ∷ []

-- the parts of a `::` with its two arguments
abbrev pub pair_parts : List RawAt → List Part
pair_parts (x ∷ l ∷ []) = part.Term l ∷ part.Word word.Cons ∷ part.Item x ∷ []
pair_parts _ = []

-- those of a name and its arguments, which may be the two of a `::`
abbrev pub head_parts : Bool → Named → List RawAt → List Part
head_parts true n args = pair_parts args
head_parts false n args = argument_parts args ++ part.Name n ∷ []

-- the sign of an expression with two operands, and of any other an empty text
abbrev pub operator_text : Raw → List ℕ
operator_text (head n (more x (more y none))) = n.text
operator_text _ = []

-- the parts of an operand, with its brackets if it has any
abbrev pub operand_parts : Bool → RawAt → List Part
operand_parts true at = part.Word word.Close ∷ part.Expression at ∷ part.Word word.Open ∷ []
operand_parts false at = part.Expression at ∷ []

-- the parts of a sign between its two operands
abbrev pub sides_parts : List (List ℕ) → List Node → Named → RawAt → RawAt → List Part
sides_parts names nodes n x y =
    let w = (identifier names n).text in
    operand_parts (right_encloses w (raw_at names nodes y.0)) y
    ++ (part.Word word.Space ∷ part.Name n ∷ part.Word word.Space ∷ operand_parts (left_encloses w (raw_at names nodes x.0)) x)

-- those of a name with these arguments in an expression; with two it is a sign
abbrev pub expression_parts : List (List ℕ) → List Node → Bool → Named → List RawAt → List Part
expression_parts names nodes true n (x ∷ y ∷ []) = sides_parts names nodes n x y
expression_parts names nodes true n _ = []
expression_parts names nodes false n args = part.Name n ∷ []

-- the parts that were put on the stack have the text of a part, and are less work
pub record PushesParts (names : List (List ℕ)) (nodes : List Node) (p : Part) (old new : List Part) : Type 0 where
  pub left : List Part
  pub is : new ≡ old ++ left
  pub same : (rest : List ℕ) → parts_text names nodes left rest ≡ part_text names nodes p ++ rest
  pub inside : AreParts nodes left
  pub lighter : parts_weight names nodes left < part_weight names nodes p

-- some first bytes of a part were appended, and the parts that were put on the stack are what is left of it, with less work
pub record PartMoves (names : List (List ℕ)) (nodes : List Node) (p : Part) (old : List Part) (start : List ℕ) (new : List Part) (end : List ℕ) : Type 0 where
  pub written : List ℕ
  pub left : List Part
  pub appended : end ≡ start ++ written
  pub is : new ≡ old ++ left
  pub same : (rest : List ℕ) → written ++ parts_text names nodes left rest ≡ part_text names nodes p ++ rest
  pub inside : AreParts nodes left
  pub lighter : parts_weight names nodes left < part_weight names nodes p

-- a text on its way: what was appended, and what is still to come
pub record IsWriting (text start now todo : List ℕ) : Type 0 where
  pub written : List ℕ
  pub is : now ≡ start ++ written
  pub rest : text ≡ written ++ todo
