-- The grammar of terms and formulas: a parse tree has one constructor per production, and with it come its tokens and its raw tree.
use Rattle.std.specs.Prelude.{ℤ, Bool, true, false, List, [], ◌∷◌, ◌++◌, ℕ, codes}
use Rattle.ll_lexer.specs.declared.Place.{Place}
use Rattle.ll_parser.specs.declared.Op.{Op}
use Rattle.ll_parser.specs.declared.Op.TheVariants as op
use Rattle.ll_parser.specs.declared.Quantifier.{Quantifier}
use Rattle.ll_parser.specs.declared.Quantifier.TheVariants as quantifier
pub use Rattle.ll_parser.specs.declared.SumOp.{SumOp}
pub use Rattle.ll_parser.specs.declared.SumOp.TheVariants.{Plus as by_plus, Minus as by_minus}
pub use Rattle.ll_parser.specs.declared.TestOp.{TestOp}
pub use Rattle.ll_parser.specs.declared.TestOp.TheVariants.{Less as by_less, Most as by_most}
use Rattle.ll_parser.specs.Tokens.{Identifier, Tok, name, variable, any, number, true_word, erase_word, forall_word, exists_word, comma, ampersand, semicolon}
use Rattle.ll_parser.specs.Tokens.{paren_left, paren_right, brace_left, brace_right, backslash, cons_sign, colon_dash, left_arrow, right_arrow, lolli}
use Rattle.ll_parser.specs.Tokens.{load_arrow, is_sign, most_sign, less_sign, plus_sign, minus_sign, star_sign}
use Rattle.ll_parser.specs.Raw.{Raw, truth, erasure, braces, universal, existential, load, binary, head, anything, int, RawList, none, raws_then, cons_raw}
use Rattle.ll_parser.specs.Raw.{is_goal, less_goal, most_goal, sign_raw}

-- ---- parse trees

-- Name | Variable
pub data Word : Type 0 where
  lower upper : Identifier → Word

mutual
  -- term = app [ "::" term ]
  pub data Term : Type 0 where
    of_app : App → Term
    cons : App → Place → Term → Term

  -- app = ( Name | Variable ) { simple } | Any | Number | "(" term ")"
  pub data App : Type 0 where
    applied : Word → Simples → App
    app_any : Place → App
    app_number : ℤ → Place → App
    app_bracket : Place → Term → Place → App

  -- simple = Name | Variable | Any | Number | "(" term ")"
  pub data Simple : Type 0 where
    simple_word : Word → Simple
    simple_any : Place → Simple
    simple_number : ℤ → Place → Simple
    simple_bracket : Place → Term → Place → Simple

  -- { simple }, the last one outermost
  pub data Simples : Type 0 where
    no_more : Simples
    and_then : Simples → Simple → Simples

-- `:-` or `<=`
pub data ClauseOp : Type 0 where
  by_colon by_left : ClauseOp

-- `-o` or `=>`
pub data ArrowOp : Type 0 where
  by_lolli by_right : ArrowOp

-- plain = Name | Variable | Any | Number
pub data Plain : Type 0 where
  plain_word : Word → Plain
  plain_any : Place → Plain
  plain_number : ℤ → Place → Plain

mutual
  -- expr = factor { ( "+" | "-" ) factor }, the last one outermost
  pub data Expr : Type 0 where
    of_product : Product → Expr
    adds : Expr → SumOp → Place → Product → Expr

  -- factor = unit { "*" unit }
  pub data Product : Type 0 where
    of_item : Item → Product
    multiplies : Product → Place → Item → Product

  -- unit = plain | "(" expr ")"
  pub data Item : Type 0 where
    item_plain : Plain → Item
    item_bracket : Place → Expr → Place → Item

-- first = plain { "*" unit }
pub data First : Type 0 where
  first_plain : Plain → First
  first_times : First → Place → Item → First

-- lead = first { ( "+" | "-" ) factor }: the left side of a comparison, which does not begin with a bracket
pub data Lead : Type 0 where
  of_first : First → Lead
  lead_adds : Lead → SumOp → Place → Product → Lead

-- The Bool says that the form ends in a quantifier that has no brackets of its own. What stands on the left of an operator does
-- not, so the scope of a quantifier reaches as far to the right as it can.
mutual
  -- formula = arrow { ( ":-" | "<=" ) arrow }
  pub data Formula : Bool → Type 0 where
    of_arrow : {o : Bool} → Arrow o → Formula o
    clause : {o : Bool} → Formula false → ClauseOp → Place → Arrow o → Formula o

  -- arrow = sum [ ( "-o" | "=>" ) arrow ] | Name { simple } "-->" arrow
  pub data Arrow : Bool → Type 0 where
    of_sum : {o : Bool} → Sum o → Arrow o
    implies : {o : Bool} → Sum false → ArrowOp → Place → Arrow o → Arrow o
    loads : {o : Bool} → Identifier → Simples → Place → Arrow o → Arrow o

  -- sum = with [ ";" sum ]
  pub data Sum : Bool → Type 0 where
    of_with : {o : Bool} → With o → Sum o
    plus : {o : Bool} → With false → Place → Sum o → Sum o

  -- with = tensor [ "&" with ]
  pub data With : Bool → Type 0 where
    of_tensor : {o : Bool} → Tensor o → With o
    with : {o : Bool} → Tensor false → Place → With o → With o

  -- tensor = primary [ "," tensor ]
  pub data Tensor : Bool → Type 0 where
    of_primary : {o : Bool} → Primary o → Tensor o
    times : {o : Bool} → Primary false → Place → Tensor o → Tensor o

  -- primary = "true" | "erase" | "(" formula ")" | "{" formula "}"
  --         | ( "forall" | "exists" ) ( Name | Variable ) "\" formula
  --         | ( Name | Variable ) { simple }
  --         | plain "is" expr
  --         | lead ( "<" | "=<" ) expr
  pub data Primary : Bool → Type 0 where
    truly erased : Place → Primary false
    bracket brace : {o : Bool} → Place → Formula o → Place → Primary false
    quantified : {o : Bool} → Quantifier → Place → Word → Place → Formula o → Primary true
    atom : Word → Simples → Primary false
    valued : Plain → Place → Expr → Primary false
    tested : Lead → TestOp → Place → Expr → Primary false

-- ---- their tokens

-- the token of a Name or a Variable
abbrev pub word_token : Word → Tok
word_token (lower n) = name n
word_token (upper n) = variable n

-- the tokens `:-` and `<=`, `-o` and `=>`, `forall` and `exists`
abbrev pub clause_token : ClauseOp → Place → Tok
clause_token by_colon at = colon_dash at
clause_token by_left at = left_arrow at

abbrev pub arrow_token : ArrowOp → Place → Tok
arrow_token by_lolli at = lolli at
arrow_token by_right at = right_arrow at

abbrev pub quantifier_token : Quantifier → Place → Tok
quantifier_token quantifier.Forall at = forall_word at
quantifier_token quantifier.Exists at = exists_word at

-- the tokens `+` and `-`, `<` and `=<`
abbrev pub add_token : SumOp → Place → Tok
add_token by_plus at = plus_sign at
add_token by_minus at = minus_sign at

abbrev pub test_token : TestOp → Place → Tok
test_token by_less at = less_sign at
test_token by_most at = most_sign at

-- the token of a plain
abbrev pub plain_token : Plain → Tok
plain_token (plain_word w) = word_token w
plain_token (plain_any at) = any at
plain_token (plain_number n at) = number n at

abbrev mutual
  pub expr_tokens : Expr → List Tok
  expr_tokens (of_product p) = product_tokens p
  expr_tokens (adds e o at p) = expr_tokens e ++ add_token o at ∷ product_tokens p

  pub product_tokens : Product → List Tok
  product_tokens (of_item x) = item_tokens x
  product_tokens (multiplies p at x) = product_tokens p ++ star_sign at ∷ item_tokens x

  pub item_tokens : Item → List Tok
  item_tokens (item_plain x) = plain_token x ∷ []
  item_tokens (item_bracket at e end) = paren_left at ∷ (expr_tokens e ++ paren_right end ∷ [])

abbrev pub first_tokens : First → List Tok
first_tokens (first_plain x) = plain_token x ∷ []
first_tokens (first_times f at x) = first_tokens f ++ star_sign at ∷ item_tokens x

abbrev pub lead_tokens : Lead → List Tok
lead_tokens (of_first f) = first_tokens f
lead_tokens (lead_adds l o at p) = lead_tokens l ++ add_token o at ∷ product_tokens p

abbrev mutual
  pub term_tokens : Term → List Tok
  term_tokens (of_app a) = app_tokens a
  term_tokens (cons a at t) = app_tokens a ++ cons_sign at ∷ term_tokens t

  pub app_tokens : App → List Tok
  app_tokens (applied w ss) = word_token w ∷ simples_tokens ss
  app_tokens (app_any at) = any at ∷ []
  app_tokens (app_number n at) = number n at ∷ []
  app_tokens (app_bracket at t end) = paren_left at ∷ (term_tokens t ++ paren_right end ∷ [])

  pub simple_tokens : Simple → List Tok
  simple_tokens (simple_word w) = word_token w ∷ []
  simple_tokens (simple_any at) = any at ∷ []
  simple_tokens (simple_number n at) = number n at ∷ []
  simple_tokens (simple_bracket at t end) = paren_left at ∷ (term_tokens t ++ paren_right end ∷ [])

  pub simples_tokens : Simples → List Tok
  simples_tokens no_more = []
  simples_tokens (and_then ss s) = simples_tokens ss ++ simple_tokens s

abbrev mutual
  pub formula_tokens : {o : Bool} → Formula o → List Tok
  formula_tokens (of_arrow a) = arrow_tokens a
  formula_tokens (clause f c at a) = formula_tokens f ++ clause_token c at ∷ arrow_tokens a

  pub arrow_tokens : {o : Bool} → Arrow o → List Tok
  arrow_tokens (of_sum s) = sum_tokens s
  arrow_tokens (implies s c at a) = sum_tokens s ++ arrow_token c at ∷ arrow_tokens a
  arrow_tokens (loads n ss at a) = name n ∷ (simples_tokens ss ++ load_arrow at ∷ arrow_tokens a)

  pub sum_tokens : {o : Bool} → Sum o → List Tok
  sum_tokens (of_with w) = with_tokens w
  sum_tokens (plus w at s) = with_tokens w ++ semicolon at ∷ sum_tokens s

  pub with_tokens : {o : Bool} → With o → List Tok
  with_tokens (of_tensor t) = tensor_tokens t
  with_tokens (with t at w) = tensor_tokens t ++ ampersand at ∷ with_tokens w

  pub tensor_tokens : {o : Bool} → Tensor o → List Tok
  tensor_tokens (of_primary p) = primary_tokens p
  tensor_tokens (times p at t) = primary_tokens p ++ comma at ∷ tensor_tokens t

  pub primary_tokens : {o : Bool} → Primary o → List Tok
  primary_tokens (truly at) = true_word at ∷ []
  primary_tokens (erased at) = erase_word at ∷ []
  primary_tokens (bracket at f end) = paren_left at ∷ (formula_tokens f ++ paren_right end ∷ [])
  primary_tokens (brace at f end) = brace_left at ∷ (formula_tokens f ++ brace_right end ∷ [])
  primary_tokens (quantified q at w slash f) = quantifier_token q at ∷ word_token w ∷ backslash slash ∷ formula_tokens f
  primary_tokens (atom w ss) = word_token w ∷ simples_tokens ss
  primary_tokens (valued x at e) = plain_token x ∷ is_sign at ∷ expr_tokens e
  primary_tokens (tested l c at e) = lead_tokens l ++ test_token c at ∷ expr_tokens e

-- ---- their raw trees

-- the text of a Name or a Variable, and its place
abbrev pub word_identifier : Word → Identifier
word_identifier (lower n) = n
word_identifier (upper n) = n

abbrev mutual
  pub term_raw : Term → Raw
  term_raw (of_app a) = app_raw a
  term_raw (cons a at t) = cons_raw at (app_raw a) (term_raw t)

  pub app_raw : App → Raw
  app_raw (applied w ss) = head (word_identifier w) (simples_raws ss)
  app_raw (app_any at) = anything at
  app_raw (app_number n at) = int at n
  app_raw (app_bracket at t end) = term_raw t

  pub simple_raw : Simple → Raw
  simple_raw (simple_word w) = head (word_identifier w) none
  simple_raw (simple_any at) = anything at
  simple_raw (simple_number n at) = int at n
  simple_raw (simple_bracket at t end) = term_raw t

  pub simples_raws : Simples → RawList
  simples_raws no_more = none
  simples_raws (and_then ss s) = raws_then (simples_raws ss) (simple_raw s)

-- the operators of raw trees
abbrev pub clause_op : ClauseOp → Op
clause_op by_colon = op.ColonDash
clause_op by_left = op.LeftArrow

abbrev pub arrow_op : ArrowOp → Op
arrow_op by_lolli = op.Lolli
arrow_op by_right = op.RightArrow

-- the raw tree of a quantified formula
abbrev pub quantifier_raw : Quantifier → Place → Identifier → Raw → Raw
quantifier_raw quantifier.Forall at n r = universal at n r
quantifier_raw quantifier.Exists at n r = existential at n r

-- the sign of an operator
abbrev pub add_sign : SumOp → List ℕ
add_sign by_plus = codes "+"
add_sign by_minus = codes "-"

abbrev pub star : List ℕ
star = codes "*"

-- the raw tree of a comparison
abbrev pub test_raw : TestOp → Place → Raw → Raw → Raw
test_raw by_less at l r = less_goal at l r
test_raw by_most at l r = most_goal at l r

-- the raw trees of expressions
abbrev pub plain_raw : Plain → Raw
plain_raw (plain_word w) = head (word_identifier w) none
plain_raw (plain_any at) = anything at
plain_raw (plain_number n at) = int at n

abbrev mutual
  pub expr_raw : Expr → Raw
  expr_raw (of_product p) = product_raw p
  expr_raw (adds e o at p) = sign_raw (add_sign o) at (expr_raw e) (product_raw p)

  pub product_raw : Product → Raw
  product_raw (of_item x) = item_raw x
  product_raw (multiplies p at x) = sign_raw star at (product_raw p) (item_raw x)

  pub item_raw : Item → Raw
  item_raw (item_plain x) = plain_raw x
  item_raw (item_bracket at e end) = expr_raw e

abbrev pub first_raw : First → Raw
first_raw (first_plain x) = plain_raw x
first_raw (first_times f at x) = sign_raw star at (first_raw f) (item_raw x)

abbrev pub lead_raw : Lead → Raw
lead_raw (of_first f) = first_raw f
lead_raw (lead_adds l o at p) = sign_raw (add_sign o) at (lead_raw l) (product_raw p)

abbrev mutual
  pub formula_raw : {o : Bool} → Formula o → Raw
  formula_raw (of_arrow a) = arrow_raw a
  formula_raw (clause f c at a) = binary (clause_op c) at (formula_raw f) (arrow_raw a)

  pub arrow_raw : {o : Bool} → Arrow o → Raw
  arrow_raw (of_sum s) = sum_raw s
  arrow_raw (implies s c at a) = binary (arrow_op c) at (sum_raw s) (arrow_raw a)
  arrow_raw (loads n ss at a) = load at n (simples_raws ss) (arrow_raw a)

  pub sum_raw : {o : Bool} → Sum o → Raw
  sum_raw (of_with w) = with_raw w
  sum_raw (plus w at s) = binary op.Plus at (with_raw w) (sum_raw s)

  pub with_raw : {o : Bool} → With o → Raw
  with_raw (of_tensor t) = tensor_raw t
  with_raw (with t at w) = binary op.With at (tensor_raw t) (with_raw w)

  pub tensor_raw : {o : Bool} → Tensor o → Raw
  tensor_raw (of_primary p) = primary_raw p
  tensor_raw (times p at t) = binary op.Tensor at (primary_raw p) (tensor_raw t)

  pub primary_raw : {o : Bool} → Primary o → Raw
  primary_raw (truly at) = truth at
  primary_raw (erased at) = erasure at
  primary_raw (bracket at f end) = formula_raw f
  primary_raw (brace at f end) = braces at (formula_raw f)
  primary_raw (quantified q at w slash f) = quantifier_raw q at (word_identifier w) (formula_raw f)
  primary_raw (atom w ss) = head (word_identifier w) (simples_raws ss)
  primary_raw (valued x at e) = is_goal at (plain_raw x) (expr_raw e)
  primary_raw (tested l c at e) = test_raw c at (lead_raw l) (expr_raw e)
