-- The bytes in which a parse tree is written: a line for each clause, for each line `LOCAL` and for the beginning of each module.
use Rattle.std.specs.Prelude.{ℕ, Bool, List, [], ◌∷◌, ◌++◌, codes}
use Rattle.std.specs.Fmt.{signed_decimal}
use Rattle.ll_parser.specs.declared.Quantifier.{Quantifier}
use Rattle.ll_parser.specs.declared.Quantifier.TheVariants as quantifier
use Rattle.ll_parser.specs.Grammar.{Term, of_app, cons, App, applied, app_any, app_number, app_bracket, Simple, simple_word, simple_any, simple_number}
use Rattle.ll_parser.specs.Grammar.{simple_bracket, Simples, no_more, and_then, ClauseOp, by_colon, by_left, ArrowOp, by_lolli, by_right, Formula, of_arrow}
use Rattle.ll_parser.specs.Grammar.{clause, Arrow, of_sum, implies, loads, Sum, of_with, plus, With, of_tensor, with, Tensor, of_primary, times, Primary}
use Rattle.ll_parser.specs.Grammar.{truly, erased, bracket, brace, quantified, atom, word_identifier, Plain, plain_word, plain_any, plain_number, Expr}
use Rattle.ll_parser.specs.Grammar.{of_product, adds, Product, of_item, multiplies, Item, item_plain, item_bracket, First, first_plain, first_times, Lead}
use Rattle.ll_parser.specs.Grammar.{of_first, lead_adds, valued, tested, by_less, by_most, TestOp, add_sign, star}
use Rattle.ll_parser.specs.Printed.{between, line_end, names_text}
use Rattle.ll_parser.specs.Text.{Clause, plain, linear, Local, Heading, Module, Program}

-- ---- terms: a space before each argument, and none round `::`

abbrev mutual
  pub term_bytes : Term → List ℕ
  term_bytes (of_app a) = app_bytes a
  term_bytes (cons a at t) = app_bytes a ++ (codes "::" ++ term_bytes t)

  pub app_bytes : App → List ℕ
  app_bytes (applied w ss) = (word_identifier w).text ++ simples_bytes ss
  app_bytes (app_any at) = codes "_"
  app_bytes (app_number z at) = signed_decimal z
  app_bytes (app_bracket at t end) = codes "(" ++ (term_bytes t ++ codes ")")

  pub simple_bytes : Simple → List ℕ
  simple_bytes (simple_word w) = (word_identifier w).text
  simple_bytes (simple_any at) = codes "_"
  simple_bytes (simple_number z at) = signed_decimal z
  simple_bytes (simple_bracket at t end) = codes "(" ++ (term_bytes t ++ codes ")")

  pub simples_bytes : Simples → List ℕ
  simples_bytes no_more = []
  simples_bytes (and_then ss s) = simples_bytes ss ++ (codes " " ++ simple_bytes s)

-- ---- formulas: a space on each side of an operator and of `-->`, behind the word of a quantifier and behind `\`

abbrev pub clause_op_bytes : ClauseOp → List ℕ
clause_op_bytes by_colon = codes ":-"
clause_op_bytes by_left = codes "<="

abbrev pub arrow_op_bytes : ArrowOp → List ℕ
arrow_op_bytes by_lolli = codes "-o"
arrow_op_bytes by_right = codes "=>"

abbrev pub quantifier_bytes : Quantifier → List ℕ
quantifier_bytes quantifier.Forall = codes "forall"
quantifier_bytes quantifier.Exists = codes "exists"

abbrev pub test_bytes : TestOp → List ℕ
test_bytes by_less = codes "<"
test_bytes by_most = codes "=<"

-- expressions of whole numbers: a space on each side of a sign
abbrev pub plain_bytes : Plain → List ℕ
plain_bytes (plain_word w) = (word_identifier w).text
plain_bytes (plain_any at) = codes "_"
plain_bytes (plain_number z at) = signed_decimal z

abbrev mutual
  pub expr_bytes : Expr → List ℕ
  expr_bytes (of_product p) = product_bytes p
  expr_bytes (adds e o at p) = expr_bytes e ++ between (add_sign o) (product_bytes p)

  pub product_bytes : Product → List ℕ
  product_bytes (of_item x) = item_bytes x
  product_bytes (multiplies p at x) = product_bytes p ++ between star (item_bytes x)

  pub item_bytes : Item → List ℕ
  item_bytes (item_plain x) = plain_bytes x
  item_bytes (item_bracket at e end) = codes "(" ++ (expr_bytes e ++ codes ")")

abbrev pub first_bytes : First → List ℕ
first_bytes (first_plain x) = plain_bytes x
first_bytes (first_times f at x) = first_bytes f ++ between star (item_bytes x)

abbrev pub lead_bytes : Lead → List ℕ
lead_bytes (of_first f) = first_bytes f
lead_bytes (lead_adds l o at p) = lead_bytes l ++ between (add_sign o) (product_bytes p)

abbrev mutual
  pub formula_bytes : {o : Bool} → Formula o → List ℕ
  formula_bytes (of_arrow a) = arrow_bytes a
  formula_bytes (clause f c at a) = formula_bytes f ++ between (clause_op_bytes c) (arrow_bytes a)

  pub arrow_bytes : {o : Bool} → Arrow o → List ℕ
  arrow_bytes (of_sum s) = sum_bytes s
  arrow_bytes (implies s c at a) = sum_bytes s ++ between (arrow_op_bytes c) (arrow_bytes a)
  arrow_bytes (loads n ss at a) = n.text ++ (simples_bytes ss ++ between (codes "-->") (arrow_bytes a))

  pub sum_bytes : {o : Bool} → Sum o → List ℕ
  sum_bytes (of_with w) = with_bytes w
  sum_bytes (plus w at s) = with_bytes w ++ between (codes ";") (sum_bytes s)

  pub with_bytes : {o : Bool} → With o → List ℕ
  with_bytes (of_tensor t) = tensor_bytes t
  with_bytes (with t at w) = tensor_bytes t ++ between (codes "&") (with_bytes w)

  pub tensor_bytes : {o : Bool} → Tensor o → List ℕ
  tensor_bytes (of_primary p) = primary_bytes p
  tensor_bytes (times p at t) = primary_bytes p ++ between (codes ",") (tensor_bytes t)

  pub primary_bytes : {o : Bool} → Primary o → List ℕ
  primary_bytes (truly at) = codes "true"
  primary_bytes (erased at) = codes "erase"
  primary_bytes (bracket at f end) = codes "(" ++ (formula_bytes f ++ codes ")")
  primary_bytes (brace at f end) = codes "{" ++ (formula_bytes f ++ codes "}")
  primary_bytes (quantified q at w slash f) = quantifier_bytes q ++ (codes " " ++ ((word_identifier w).text ++ (92 ∷ (codes " " ++ formula_bytes f))))
  primary_bytes (atom w ss) = (word_identifier w).text ++ simples_bytes ss
  primary_bytes (valued x at e) = plain_bytes x ++ between (codes "is") (expr_bytes e)
  primary_bytes (tested l c at e) = lead_bytes l ++ between (test_bytes c) (expr_bytes e)

-- ---- programs: each line ends with a dot and LF

abbrev pub clause_bytes : Clause → List ℕ
clause_bytes (plain f end) = formula_bytes f ++ line_end
clause_bytes (linear at f end) = codes "LINEAR" ++ (codes " " ++ (formula_bytes f ++ line_end))

abbrev pub clauses_bytes : List Clause → List ℕ
clauses_bytes [] = []
clauses_bytes (c ∷ cs) = clause_bytes c ++ clauses_bytes cs

abbrev pub local_bytes : Local → List ℕ
local_bytes l = codes "LOCAL" ++ names_text (l.first ∷ l.others)

abbrev pub locals_bytes : List Local → List ℕ
locals_bytes [] = []
locals_bytes (l ∷ ls) = local_bytes l ++ locals_bytes ls

abbrev pub heading_bytes : Heading → List ℕ
heading_bytes h = codes "MODULE" ++ names_text (h.name ∷ h.params)

abbrev pub module_bytes : Module → List ℕ
module_bytes m = heading_bytes m.heading ++ (locals_bytes m.locals ++ clauses_bytes m.clauses)

abbrev pub modules_bytes : List Module → List ℕ
modules_bytes [] = []
modules_bytes (m ∷ ms) = module_bytes m ++ modules_bytes ms

abbrev pub program_bytes : Program → List ℕ
program_bytes p = clauses_bytes p.clauses ++ modules_bytes p.modules
