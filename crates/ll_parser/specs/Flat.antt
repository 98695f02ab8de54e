-- The machine for one formula over raw trees, with one flat list of what is pending, the newest first.
use Rattle.std.specs.Prelude.{Bool, true, false, cond, List, [], ◌∷◌, Option, Some, None}
use Rattle.ll_lexer.specs.declared.Place.{Place}
use Rattle.ll_parser.specs.declared.Op.{Op}
use Rattle.ll_parser.specs.declared.Op.TheVariants as op
use Rattle.ll_parser.specs.declared.Level.{Level}
use Rattle.ll_parser.specs.declared.Level.TheVariants as level
use Rattle.ll_parser.specs.declared.Quantifier.{Quantifier}
use Rattle.ll_parser.specs.declared.Quantifier.TheVariants as quantifier
use Rattle.ll_parser.specs.Tokens.{Identifier, Tok, name, variable, any, number, true_word, erase_word, forall_word, exists_word, comma, ampersand, semicolon}
use Rattle.ll_parser.specs.Tokens.{paren_left, paren_right, brace_left, brace_right, backslash, cons_sign, colon_dash, left_arrow, right_arrow, lolli}
use Rattle.ll_parser.specs.Tokens.{load_arrow, is_sign, most_sign, less_sign, plus_sign, minus_sign, star_sign}
use Rattle.ll_parser.specs.Raw.{Raw, truth, erasure, braces, load, binary, head, anything, int, RawList, none, raws_then, cons_raw, is_goal, sign_raw}
use Rattle.ll_parser.specs.Grammar.{Word, lower, upper, word_identifier, quantifier_raw, SumOp, by_plus, by_minus, TestOp, by_less, by_most, add_sign, star}
use Rattle.ll_parser.specs.Grammar.{test_raw}

-- What waits for its end: the left operand of an operator; a load, for the formula behind its arrow; a bracket, a brace or a
-- quantifier of a formula; an atom or a head inside a term, in the brackets of whose argument the reader is; a bracket that is a
-- term of its own; the left side of `::`. In whole-number goals: the left side of `+` or `-`, of `*`, of `is`, and of `<` or `=<`; a
-- bracket of an expression, and one on the left side of a comparison.
pub data Pending : Type 0 where
  operand : Op → Place → Raw → Pending
  loading : Place → Identifier → RawList → Pending
  in_bracket : Pending
  in_brace : Place → Pending
  in_quantifier : Quantifier → Place → Identifier → Pending
  in_atom : Word → RawList → Pending
  in_argument : Word → RawList → Pending
  in_group : Pending
  cell : Place → Raw → Pending
  added : SumOp → Place → Raw → Pending
  multiplied : Place → Raw → Pending
  valuing : Place → Raw → Pending
  testing : TestOp → Place → Raw → Pending
  in_expression : Pending
  in_left_side : Pending

-- where in a formula the tokens so far end, and what is pending: an operand is wanted; behind an atom, which may get more arguments;
-- behind another operand; behind a quantifier's word; behind its name; and the same in terms
pub data Flat : Type 0 where
  want : List Pending → Flat
  part : Word → RawList → List Pending → Flat
  whole : Raw → List Pending → Flat
  binder : Quantifier → Place → List Pending → Flat
  slash : Quantifier → Place → Word → List Pending → Flat
  term_want : List Pending → Flat
  term_part : Word → RawList → List Pending → Flat
  term_whole : Raw → List Pending → Flat
  plain : Raw → List Pending → Flat
  led : Raw → List Pending → Flat
  lead_want : List Pending → Flat
  item_want : List Pending → Flat
  item : Raw → List Pending → Flat

-- the sign takes this operator together: it is tighter, or, for `:-` and `<=`, which lean to the left, as tight
abbrev pub op_taken : Level → Op → Bool
op_taken l op.Tensor = true
op_taken level.Ampersand o = false
op_taken level.Semicolon op.With = true
op_taken level.Semicolon o = false
op_taken level.Arrow op.With = true
op_taken level.Arrow op.Plus = true
op_taken level.Arrow o = false
op_taken level.Clause o = true
op_taken level.Close o = true

-- the sign takes a load together
abbrev pub load_taken : Level → Bool
load_taken level.Clause = true
load_taken level.Close = true
load_taken l = false

-- the sign ends the scope of a quantifier
abbrev pub quantifier_taken : Level → Bool
quantifier_taken level.Close = true
quantifier_taken l = false

-- the sign takes this together
abbrev pub taken : Level → Pending → Bool
taken l (operand o at r) = op_taken l o
taken l (loading at n rs) = load_taken l
taken l (in_quantifier q at n) = quantifier_taken l
taken l _ = false

-- what was pending, with its last part
abbrev pub build : Pending → Raw → Raw
build (operand o at l) r = binary o at l r
build (loading at n rs) r = load at n rs r
build (in_quantifier q at n) r = quantifier_raw q at n r
build _ r = r

-- an operand, with all that a sign takes together before it, and what is still pending
abbrev pub reduce : Level → Raw → List Pending → Raw × List Pending
reduce l r [] = (r, [])
reduce l r (p ∷ ps) = cond (taken l p) (reduce l (build p r) ps) (r, p ∷ ps)

-- a term, with all that stands left of it before `::`
abbrev pub gather : Raw → List Pending → Raw × List Pending
gather r [] = (r, [])
gather r (cell at x ∷ ps) = gather (cons_raw at x r) ps
gather r (p ∷ ps) = (r, p ∷ ps)

-- an operator, with its left operand
abbrev pub push : Op → Place → Raw × List Pending → Option Flat
push o at q = Some (want (operand o at q.0 ∷ q.1))

-- `)` behind a formula
abbrev pub close_bracket : Raw → List Pending → Option Flat
close_bracket r (in_bracket ∷ ps) = Some (whole r ps)
close_bracket r _ = None

-- `}` behind a formula
abbrev pub close_brace : Raw → List Pending → Option Flat
close_brace r (in_brace at ∷ ps) = Some (whole (braces at r) ps)
close_brace r _ = None

-- `)` behind a term: the next argument of an atom or a head, or a term of its own
abbrev pub close_term : Raw → List Pending → Option Flat
close_term r (in_atom w rs ∷ ps) = Some (part w (raws_then rs r) ps)
close_term r (in_argument w rs ∷ ps) = Some (term_part w (raws_then rs r) ps)
close_term r (in_group ∷ ps) = Some (term_whole r ps)
close_term r _ = None

-- a formula that nothing waits for
abbrev pub end_with : Raw → List Pending → Option Raw
end_with r [] = Some r
end_with r (p ∷ ps) = None

-- a load may stand on the right of the operator
abbrev pub op_admits_load : Op → Bool
op_admits_load op.Tensor = false
op_admits_load op.With = false
op_admits_load op.Plus = false
op_admits_load o = true

-- a load may stand here
abbrev pub admits_load : List Pending → Bool
admits_load (operand o at r ∷ ps) = op_admits_load o
admits_load ps = true

-- `-->` behind an atom, which is a load if the atom's word is a Name
abbrev pub begin_load : Word → RawList → Place → List Pending → Option Flat
begin_load (lower n) rs at ps = cond (admits_load ps) (Some (want (loading at n rs ∷ ps))) None
begin_load (upper n) rs at ps = None

-- what a token does behind an operand
abbrev pub operate : Raw → List Pending → Tok → Option Flat
operate r ps (comma at) = Some (want (operand op.Tensor at r ∷ ps))
operate r ps (ampersand at) = push op.With at (reduce level.Ampersand r ps)
operate r ps (semicolon at) = push op.Plus at (reduce level.Semicolon r ps)
operate r ps (lolli at) = push op.Lolli at (reduce level.Arrow r ps)
operate r ps (right_arrow at) = push op.RightArrow at (reduce level.Arrow r ps)
operate r ps (colon_dash at) = push op.ColonDash at (reduce level.Clause r ps)
operate r ps (left_arrow at) = push op.LeftArrow at (reduce level.Clause r ps)
operate r ps (paren_right at) = let q = reduce level.Close r ps in close_bracket q.0 q.1
operate r ps (brace_right at) = let q = reduce level.Close r ps in close_brace q.0 q.1
operate r ps _ = None

-- what a token does behind a term
abbrev pub term_operate : Raw → List Pending → Tok → Option Flat
term_operate r ps (cons_sign at) = Some (term_want (cell at r ∷ ps))
term_operate r ps (paren_right at) = let q = gather r ps in close_term q.0 q.1
term_operate r ps _ = None

-- an item, with the product that it ends, and with the sum that this ends: all operators lean to the left
abbrev pub take_product : Raw → List Pending → Raw × List Pending
take_product r (multiplied at l ∷ ps) = (sign_raw star at l r, ps)
take_product r ps = (r, ps)

abbrev pub take_sum : Raw → List Pending → Raw × List Pending
take_sum r (added o at l ∷ ps) = (sign_raw (add_sign o) at l r, ps)
take_sum r ps = (r, ps)

abbrev pub take_both : Raw → List Pending → Raw × List Pending
take_both r ps = let q = take_product r ps in take_sum q.0 q.1

-- behind a sign of numbers
abbrev pub multiply : (List Pending → Flat) → Place → Raw × List Pending → Option Flat
multiply go at q = Some (go (multiplied at q.0 ∷ q.1))

abbrev pub add : (List Pending → Flat) → SumOp → Place → Raw × List Pending → Option Flat
add go o at q = Some (go (added o at q.0 ∷ q.1))

abbrev pub test : TestOp → Place → Raw × List Pending → Option Flat
test c at q = Some (item_want (testing c at q.0 ∷ q.1))

-- what a token does behind a plain with which a formula begins
abbrev pub after_plain : Raw → List Pending → Tok → Option Flat
after_plain r ps (star_sign at) = multiply lead_want at (r, ps)
after_plain r ps (plus_sign at) = add lead_want by_plus at (r, ps)
after_plain r ps (minus_sign at) = add lead_want by_minus at (r, ps)
after_plain r ps (less_sign at) = test by_less at (r, ps)
after_plain r ps (most_sign at) = test by_most at (r, ps)
after_plain r ps (is_sign at) = Some (item_want (valuing at r ∷ ps))
after_plain r ps _ = None

-- behind an atom: only one without arguments is a plain
abbrev pub after_word : Word → RawList → List Pending → Tok → Option Flat
after_word w none ps t = after_plain (head (word_identifier w) none) ps t
after_word w _ ps t = None

-- behind an item of a left side
abbrev pub after_led : Raw → List Pending → Tok → Option Flat
after_led r ps (star_sign at) = multiply lead_want at (take_product r ps)
after_led r ps (plus_sign at) = add lead_want by_plus at (take_both r ps)
after_led r ps (minus_sign at) = add lead_want by_minus at (take_both r ps)
after_led r ps (less_sign at) = test by_less at (take_both r ps)
after_led r ps (most_sign at) = test by_most at (take_both r ps)
after_led r ps _ = None

-- `)` behind an expression
abbrev pub close_group : Flat → Tok → Option Flat
close_group f (paren_right end) = Some f
close_group f _ = None

-- what a token does behind an expression in brackets
abbrev pub close_number : Raw → List Pending → Tok → Option Flat
close_number r (in_expression ∷ ps) t = close_group (item r ps) t
close_number r (in_left_side ∷ ps) t = close_group (led r ps) t
close_number r _ t = None

-- behind an expression that a sign of numbers does not follow: its bracket is closed, or its goal is an operand
abbrev pub end_expression : Raw → List Pending → Tok → Option Flat
end_expression r (in_expression ∷ ps) t = close_group (item r ps) t
end_expression r (in_left_side ∷ ps) t = close_group (led r ps) t
end_expression r (valuing at l ∷ ps) t = operate (is_goal at l r) ps t
end_expression r (testing c at l ∷ ps) t = operate (test_raw c at l r) ps t
end_expression r _ t = None

-- behind an item of any other expression
abbrev pub after_item : Raw → List Pending → Tok → Option Flat
after_item r ps (star_sign at) = multiply item_want at (take_product r ps)
after_item r ps (plus_sign at) = add item_want by_plus at (take_both r ps)
after_item r ps (minus_sign at) = add item_want by_minus at (take_both r ps)
after_item r ps t = let q = take_both r ps in end_expression q.0 q.1 t

-- the whole formula that ends with an expression
abbrev pub final_expression : Raw → List Pending → Option Raw
final_expression r (valuing at l ∷ ps) = let q = reduce level.Close (is_goal at l r) ps in end_with q.0 q.1
final_expression r (testing c at l ∷ ps) = let q = reduce level.Close (test_raw c at l r) ps in end_with q.0 q.1
final_expression r _ = None

-- what a token does
abbrev pub flat_step : Flat → Tok → Option Flat
flat_step (want ps) (true_word at) = Some (whole (truth at) ps)
flat_step (want ps) (erase_word at) = Some (whole (erasure at) ps)
flat_step (want ps) (paren_left at) = Some (want (in_bracket ∷ ps))
flat_step (want ps) (brace_left at) = Some (want (in_brace at ∷ ps))
flat_step (want ps) (forall_word at) = Some (binder quantifier.Forall at ps)
flat_step (want ps) (exists_word at) = Some (binder quantifier.Exists at ps)
flat_step (want ps) (name n) = Some (part (lower n) none ps)
flat_step (want ps) (variable n) = Some (part (upper n) none ps)
flat_step (want ps) (any at) = Some (plain (anything at) ps)
flat_step (want ps) (number n at) = Some (plain (int at n) ps)
flat_step (want ps) _ = None
flat_step (part w rs ps) (name n) = Some (part w (raws_then rs (head n none)) ps)
flat_step (part w rs ps) (variable n) = Some (part w (raws_then rs (head n none)) ps)
flat_step (part w rs ps) (any at) = Some (part w (raws_then rs (anything at)) ps)
flat_step (part w rs ps) (number n at) = Some (part w (raws_then rs (int at n)) ps)
flat_step (part w rs ps) (paren_left at) = Some (term_want (in_atom w rs ∷ ps))
flat_step (part w rs ps) (load_arrow at) = begin_load w rs at ps
flat_step (part w rs ps) (is_sign at) = after_word w rs ps (is_sign at)
flat_step (part w rs ps) (most_sign at) = after_word w rs ps (most_sign at)
flat_step (part w rs ps) (less_sign at) = after_word w rs ps (less_sign at)
flat_step (part w rs ps) (plus_sign at) = after_word w rs ps (plus_sign at)
flat_step (part w rs ps) (minus_sign at) = after_word w rs ps (minus_sign at)
flat_step (part w rs ps) (star_sign at) = after_word w rs ps (star_sign at)
flat_step (part w rs ps) t = operate (head (word_identifier w) rs) ps t
flat_step (whole r ps) t = operate r ps t
flat_step (binder q at ps) (name n) = Some (slash q at (lower n) ps)
flat_step (binder q at ps) (variable n) = Some (slash q at (upper n) ps)
flat_step (binder q at ps) _ = None
flat_step (slash q at w ps) (backslash sl) = Some (want (in_quantifier q at (word_identifier w) ∷ ps))
flat_step (slash q at w ps) _ = None
flat_step (term_want ps) (name n) = Some (term_part (lower n) none ps)
flat_step (term_want ps) (variable n) = Some (term_part (upper n) none ps)
flat_step (term_want ps) (any at) = Some (term_whole (anything at) ps)
flat_step (term_want ps) (number n at) = Some (term_whole (int at n) ps)
flat_step (term_want ps) (paren_left at) = Some (term_want (in_group ∷ ps))
flat_step (term_want ps) _ = None
flat_step (term_part w rs ps) (name n) = Some (term_part w (raws_then rs (head n none)) ps)
flat_step (term_part w rs ps) (variable n) = Some (term_part w (raws_then rs (head n none)) ps)
flat_step (term_part w rs ps) (any at) = Some (term_part w (raws_then rs (anything at)) ps)
flat_step (term_part w rs ps) (number n at) = Some (term_part w (raws_then rs (int at n)) ps)
flat_step (term_part w rs ps) (paren_left at) = Some (term_want (in_argument w rs ∷ ps))
flat_step (term_part w rs ps) t = term_operate (head (word_identifier w) rs) ps t
flat_step (term_whole r ps) t = term_operate r ps t
flat_step (plain r ps) t = after_plain r ps t
flat_step (led r ps) t = after_led r ps t
flat_step (lead_want ps) (name n) = Some (led (head n none) ps)
flat_step (lead_want ps) (variable n) = Some (led (head n none) ps)
flat_step (lead_want ps) (any at) = Some (led (anything at) ps)
flat_step (lead_want ps) (number n at) = Some (led (int at n) ps)
flat_step (lead_want ps) (paren_left at) = Some (item_want (in_left_side ∷ ps))
flat_step (lead_want ps) _ = None
flat_step (item_want ps) (name n) = Some (item (head n none) ps)
flat_step (item_want ps) (variable n) = Some (item (head n none) ps)
flat_step (item_want ps) (any at) = Some (item (anything at) ps)
flat_step (item_want ps) (number n at) = Some (item (int at n) ps)
flat_step (item_want ps) (paren_left at) = Some (item_want (in_expression ∷ ps))
flat_step (item_want ps) _ = None
flat_step (item r ps) t = after_item r ps t

-- the whole formula, if the tokens may end here
abbrev pub flat_final : Flat → Option Raw
flat_final (part w rs ps) = let q = reduce level.Close (head (word_identifier w) rs) ps in end_with q.0 q.1
flat_final (whole r ps) = let q = reduce level.Close r ps in end_with q.0 q.1
flat_final (item r ps) = let q = take_both r ps in final_expression q.0 q.1
flat_final _ = None
