-- Places do not steer the machine: tokens that differ in their places alone give trees that differ in their places alone.
use Rattle.std.proofs.Common.{◌≡◌, Bool, true, false, cond, List, [], ◌∷◌, Some, None, option_map, refl, ◌∙◌, ap}
use Rattle.ll_lexer.specs.declared.Place.{Place}
use Rattle.ll_parser.specs.Tokens.{Tok, name, variable, any, number, ampersand, semicolon, paren_left, paren_right, brace_right, backslash, cons_sign}
use Rattle.ll_parser.specs.Tokens.{colon_dash, left_arrow, right_arrow, lolli, load_arrow, is_sign, most_sign, less_sign, plus_sign, minus_sign, star_sign}
use Rattle.ll_parser.specs.declared.Op.TheVariants as op
use Rattle.ll_parser.specs.declared.Quantifier.TheVariants as quantifier
use Rattle.ll_parser.specs.Raw.{Raw, head, anything, int, is_goal, less_goal, most_goal, RawList, none, more, raws_then, cons_raw}
use Rattle.ll_parser.specs.Grammar.{Word, lower, upper, word_identifier, by_plus, by_minus, by_less, by_most}
use Rattle.ll_parser.specs.Bare.{nowhere, bare_identifier, bare_tok, bare_raw, bare_raws}
use Rattle.ll_parser.specs.declared.Level.{Level}
use Rattle.ll_parser.specs.declared.Level.TheVariants as level
use Rattle.ll_parser.specs.Flat.{Pending, operand, loading, in_bracket, in_brace, in_quantifier, in_atom, in_argument, in_group, cell, added, multiplied}
use Rattle.ll_parser.specs.Flat.{valuing, testing, in_expression, in_left_side, Flat, want, part, whole, binder, slash, term_want, term_part, term_whole}
use Rattle.ll_parser.specs.Flat.{plain, led, lead_want, item_want, item, take_product, take_sum, take_both, multiply, add, test, after_plain, after_word}
use Rattle.ll_parser.specs.Flat.{after_led, close_group, end_expression, after_item, final_expression, taken, build, reduce, gather, push, close_bracket}
use Rattle.ll_parser.specs.Flat.{close_brace, close_term, end_with, admits_load, begin_load, operate, term_operate, flat_step, flat_final}

abbrev pub bare_word : Word → Word
bare_word (lower n) = lower (bare_identifier n)
bare_word (upper n) = upper (bare_identifier n)

abbrev pub bare_pending : Pending → Pending
bare_pending (operand o at r) = operand o nowhere (bare_raw r)
bare_pending (loading at n rs) = loading nowhere (bare_identifier n) (bare_raws rs)
bare_pending in_bracket = in_bracket
bare_pending (in_brace at) = in_brace nowhere
bare_pending (in_quantifier q at n) = in_quantifier q nowhere (bare_identifier n)
bare_pending (in_atom w rs) = in_atom (bare_word w) (bare_raws rs)
bare_pending (in_argument w rs) = in_argument (bare_word w) (bare_raws rs)
bare_pending in_group = in_group
bare_pending (cell at r) = cell nowhere (bare_raw r)
bare_pending (added o at r) = added o nowhere (bare_raw r)
bare_pending (multiplied at r) = multiplied nowhere (bare_raw r)
bare_pending (valuing at r) = valuing nowhere (bare_raw r)
bare_pending (testing c at r) = testing c nowhere (bare_raw r)
bare_pending in_expression = in_expression
bare_pending in_left_side = in_left_side

abbrev pub bares : List Pending → List Pending
bares [] = []
bares (p ∷ ps) = bare_pending p ∷ bares ps

abbrev pub bare_flat : Flat → Flat
bare_flat (want ps) = want (bares ps)
bare_flat (part w rs ps) = part (bare_word w) (bare_raws rs) (bares ps)
bare_flat (whole r ps) = whole (bare_raw r) (bares ps)
bare_flat (binder q at ps) = binder q nowhere (bares ps)
bare_flat (slash q at w ps) = slash q nowhere (bare_word w) (bares ps)
bare_flat (term_want ps) = term_want (bares ps)
bare_flat (term_part w rs ps) = term_part (bare_word w) (bare_raws rs) (bares ps)
bare_flat (term_whole r ps) = term_whole (bare_raw r) (bares ps)
bare_flat (plain r ps) = plain (bare_raw r) (bares ps)
bare_flat (led r ps) = led (bare_raw r) (bares ps)
bare_flat (lead_want ps) = lead_want (bares ps)
bare_flat (item_want ps) = item_want (bares ps)
bare_flat (item r ps) = item (bare_raw r) (bares ps)

abbrev bare_pair : Raw × List Pending → Raw × List Pending
bare_pair q = (bare_raw q.0, bares q.1)

then-bare : (rs : RawList) (r : Raw) → raws_then (bare_raws rs) (bare_raw r) ≡ bare_raws (raws_then rs r)
then-bare none r = refl
then-bare (more x rs) r = ap (more (bare_raw x)) (then-bare rs r)

named-bare : (w : Word) → word_identifier (bare_word w) ≡ bare_identifier (word_identifier w)
named-bare (lower n) = refl
named-bare (upper n) = refl

taken-bare : (l : Level) (p : Pending) → taken l (bare_pending p) ≡ taken l p
taken-bare l (operand o at r) = refl
taken-bare l (loading at n rs) = refl
taken-bare l in_bracket = refl
taken-bare l (in_brace at) = refl
taken-bare l (in_quantifier q at n) = refl
taken-bare l (in_atom w rs) = refl
taken-bare l (in_argument w rs) = refl
taken-bare l in_group = refl
taken-bare l (cell at r) = refl
taken-bare l (added o at x) = refl
taken-bare l (multiplied at x) = refl
taken-bare l (valuing at x) = refl
taken-bare l (testing c at x) = refl
taken-bare l in_expression = refl
taken-bare l in_left_side = refl

build-bare : (p : Pending) (r : Raw) → build (bare_pending p) (bare_raw r) ≡ bare_raw (build p r)
build-bare (operand o at l) r = refl
build-bare (loading at n rs) r = refl
build-bare in_bracket r = refl
build-bare (in_brace at) r = refl
build-bare (in_quantifier quantifier.Forall at n) r = refl
build-bare (in_quantifier quantifier.Exists at n) r = refl
build-bare (in_atom w rs) r = refl
build-bare (in_argument w rs) r = refl
build-bare in_group r = refl
build-bare (cell at x) r = refl
build-bare (added o at x) r = refl
build-bare (multiplied at x) r = refl
build-bare (valuing at x) r = refl
build-bare (testing c at x) r = refl
build-bare in_expression r = refl
build-bare in_left_side r = refl

reduce-bare : (l : Level) (ps : List Pending) (r : Raw) → reduce l (bare_raw r) (bares ps) ≡ bare_pair (reduce l r ps)
reduce-bare l [] r = refl
reduce-bare l (p ∷ ps) r = rw (taken-bare l p, build-bare p r) (by-test (taken l p) (reduce-bare l ps (build p r)))
  where
    by-test : (v : Bool) → reduce l (bare_raw (build p r)) (bares ps) ≡ bare_pair (reduce l (build p r) ps)
        → cond v (reduce l (bare_raw (build p r)) (bares ps)) (bare_raw r, bare_pending p ∷ bares ps) ≡ bare_pair (cond v (reduce l (build p r) ps) (r, p ∷ ps))
    by-test true h = h
    by-test false h = refl

gather-bare : (ps : List Pending) (r : Raw) → gather (bare_raw r) (bares ps) ≡ bare_pair (gather r ps)
gather-bare [] r = refl
gather-bare (cell at x ∷ ps) r = gather-bare ps (cons_raw at x r)
gather-bare (operand o at x ∷ ps) r = refl
gather-bare (loading at n rs ∷ ps) r = refl
gather-bare (in_bracket ∷ ps) r = refl
gather-bare (in_brace at ∷ ps) r = refl
gather-bare (in_quantifier q at n ∷ ps) r = refl
gather-bare (in_atom w rs ∷ ps) r = refl
gather-bare (in_argument w rs ∷ ps) r = refl
gather-bare (in_group ∷ ps) r = refl
gather-bare (added o at x ∷ ps) r = refl
gather-bare (multiplied at x ∷ ps) r = refl
gather-bare (valuing at x ∷ ps) r = refl
gather-bare (testing c at x ∷ ps) r = refl
gather-bare (in_expression ∷ ps) r = refl
gather-bare (in_left_side ∷ ps) r = refl

bracket-bare : (r : Raw) (ps : List Pending) → close_bracket (bare_raw r) (bares ps) ≡ option_map bare_flat (close_bracket r ps)
bracket-bare r [] = refl
bracket-bare r (in_bracket ∷ ps) = refl
bracket-bare r (operand o at x ∷ ps) = refl
bracket-bare r (loading at n rs ∷ ps) = refl
bracket-bare r (in_brace at ∷ ps) = refl
bracket-bare r (in_quantifier q at n ∷ ps) = refl
bracket-bare r (in_atom w rs ∷ ps) = refl
bracket-bare r (in_argument w rs ∷ ps) = refl
bracket-bare r (in_group ∷ ps) = refl
bracket-bare r (cell at x ∷ ps) = refl
bracket-bare r (added o at x ∷ ps) = refl
bracket-bare r (multiplied at x ∷ ps) = refl
bracket-bare r (valuing at x ∷ ps) = refl
bracket-bare r (testing c at x ∷ ps) = refl
bracket-bare r (in_expression ∷ ps) = refl
bracket-bare r (in_left_side ∷ ps) = refl

brace-bare : (r : Raw) (ps : List Pending) → close_brace (bare_raw r) (bares ps) ≡ option_map bare_flat (close_brace r ps)
brace-bare r [] = refl
brace-bare r (in_brace at ∷ ps) = refl
brace-bare r (in_bracket ∷ ps) = refl
brace-bare r (operand o at x ∷ ps) = refl
brace-bare r (loading at n rs ∷ ps) = refl
brace-bare r (in_quantifier q at n ∷ ps) = refl
brace-bare r (in_atom w rs ∷ ps) = refl
brace-bare r (in_argument w rs ∷ ps) = refl
brace-bare r (in_group ∷ ps) = refl
brace-bare r (cell at x ∷ ps) = refl
brace-bare r (added o at x ∷ ps) = refl
brace-bare r (multiplied at x ∷ ps) = refl
brace-bare r (valuing at x ∷ ps) = refl
brace-bare r (testing c at x ∷ ps) = refl
brace-bare r (in_expression ∷ ps) = refl
brace-bare r (in_left_side ∷ ps) = refl

term-bare : (r : Raw) (ps : List Pending) → close_term (bare_raw r) (bares ps) ≡ option_map bare_flat (close_term r ps)
term-bare r [] = refl
term-bare r (in_atom w rs ∷ ps) = ap (λ z. Some (part (bare_word w) z (bares ps))) (then-bare rs r)
term-bare r (in_argument w rs ∷ ps) = ap (λ z. Some (term_part (bare_word w) z (bares ps))) (then-bare rs r)
term-bare r (in_group ∷ ps) = refl
term-bare r (in_brace at ∷ ps) = refl
term-bare r (in_bracket ∷ ps) = refl
term-bare r (operand o at x ∷ ps) = refl
term-bare r (loading at n rs ∷ ps) = refl
term-bare r (in_quantifier q at n ∷ ps) = refl
term-bare r (cell at x ∷ ps) = refl
term-bare r (added o at x ∷ ps) = refl
term-bare r (multiplied at x ∷ ps) = refl
term-bare r (valuing at x ∷ ps) = refl
term-bare r (testing c at x ∷ ps) = refl
term-bare r (in_expression ∷ ps) = refl
term-bare r (in_left_side ∷ ps) = refl

admits-bare : (ps : List Pending) → admits_load (bares ps) ≡ admits_load ps
admits-bare [] = refl
admits-bare (operand o at x ∷ ps) = refl
admits-bare (loading at n rs ∷ ps) = refl
admits-bare (in_bracket ∷ ps) = refl
admits-bare (in_brace at ∷ ps) = refl
admits-bare (in_quantifier q at n ∷ ps) = refl
admits-bare (in_atom w rs ∷ ps) = refl
admits-bare (in_argument w rs ∷ ps) = refl
admits-bare (in_group ∷ ps) = refl
admits-bare (cell at x ∷ ps) = refl
admits-bare (added o at x ∷ ps) = refl
admits-bare (multiplied at x ∷ ps) = refl
admits-bare (valuing at x ∷ ps) = refl
admits-bare (testing c at x ∷ ps) = refl
admits-bare (in_expression ∷ ps) = refl
admits-bare (in_left_side ∷ ps) = refl

load-bare : (w : Word) (rs : RawList) (at : Place) (ps : List Pending)
    → begin_load (bare_word w) (bare_raws rs) nowhere (bares ps) ≡ option_map bare_flat (begin_load w rs at ps)
load-bare (upper n) rs at ps = refl
load-bare (lower n) rs at ps = rw (admits-bare ps) (by-test (admits_load ps))
  where
    by-test : (v : Bool) → cond v (Some (want (loading nowhere (bare_identifier n) (bare_raws rs) ∷ bares ps))) None
        ≡ option_map bare_flat (cond v (Some (want (loading at n rs ∷ ps))) None)
    by-test true = refl
    by-test false = refl

operate-bare : (r : Raw) (ps : List Pending) (t : Tok) → operate (bare_raw r) (bares ps) (bare_tok t) ≡ option_map bare_flat (operate r ps t)
operate-bare r ps (ampersand at) = ap (push op.With nowhere) (reduce-bare level.Ampersand ps r)
operate-bare r ps (semicolon at) = ap (push op.Plus nowhere) (reduce-bare level.Semicolon ps r)
operate-bare r ps (lolli at) = ap (push op.Lolli nowhere) (reduce-bare level.Arrow ps r)
operate-bare r ps (right_arrow at) = ap (push op.RightArrow nowhere) (reduce-bare level.Arrow ps r)
operate-bare r ps (colon_dash at) = ap (push op.ColonDash nowhere) (reduce-bare level.Clause ps r)
operate-bare r ps (left_arrow at) = ap (push op.LeftArrow nowhere) (reduce-bare level.Clause ps r)
operate-bare r ps (paren_right at) = ap (λ q. close_bracket q.0 q.1) (reduce-bare level.Close ps r)
    ∙ bracket-bare (reduce level.Close r ps).0 (reduce level.Close r ps).1
operate-bare r ps (brace_right at) = ap (λ q. close_brace q.0 q.1) (reduce-bare level.Close ps r)
    ∙ brace-bare (reduce level.Close r ps).0 (reduce level.Close r ps).1
operate-bare r ps _ = refl

term-operate-bare : (r : Raw) (ps : List Pending) (t : Tok) → term_operate (bare_raw r) (bares ps) (bare_tok t) ≡ option_map bare_flat (term_operate r ps t)
term-operate-bare r ps (cons_sign at) = refl
term-operate-bare r ps (paren_right at) = ap (λ q. close_term q.0 q.1) (gather-bare ps r) ∙ term-bare (gather r ps).0 (gather r ps).1
term-operate-bare r ps _ = refl

part-bare : (w : Word) (rs : RawList) (ps : List Pending) (t : Tok)
    → operate (head (word_identifier (bare_word w)) (bare_raws rs)) (bares ps) (bare_tok t) ≡ option_map bare_flat (operate (head (word_identifier w) rs) ps t)
part-bare (lower n) rs ps t = operate-bare (head n rs) ps t
part-bare (upper n) rs ps t = operate-bare (head n rs) ps t

term-part-bare : (w : Word) (rs : RawList) (ps : List Pending) (t : Tok)
    → term_operate (head (word_identifier (bare_word w)) (bare_raws rs)) (bares ps) (bare_tok t)
    ≡ option_map bare_flat (term_operate (head (word_identifier w) rs) ps t)
term-part-bare (lower n) rs ps t = term-operate-bare (head n rs) ps t
term-part-bare (upper n) rs ps t = term-operate-bare (head n rs) ps t

-- ---- expressions of whole numbers

take-product-bare : (r : Raw) (ps : List Pending) → take_product (bare_raw r) (bares ps) ≡ bare_pair (take_product r ps)
take-product-bare r [] = refl
take-product-bare r (operand o at x ∷ ps) = refl
take-product-bare r (loading at n rs ∷ ps) = refl
take-product-bare r (in_bracket ∷ ps) = refl
take-product-bare r (in_brace at ∷ ps) = refl
take-product-bare r (in_quantifier q at n ∷ ps) = refl
take-product-bare r (in_atom w rs ∷ ps) = refl
take-product-bare r (in_argument w rs ∷ ps) = refl
take-product-bare r (in_group ∷ ps) = refl
take-product-bare r (cell at x ∷ ps) = refl
take-product-bare r (added o at x ∷ ps) = refl
take-product-bare r (multiplied at x ∷ ps) = refl
take-product-bare r (valuing at x ∷ ps) = refl
take-product-bare r (testing c at x ∷ ps) = refl
take-product-bare r (in_expression ∷ ps) = refl
take-product-bare r (in_left_side ∷ ps) = refl

take-sum-bare : (r : Raw) (ps : List Pending) → take_sum (bare_raw r) (bares ps) ≡ bare_pair (take_sum r ps)
take-sum-bare r [] = refl
take-sum-bare r (operand o at x ∷ ps) = refl
take-sum-bare r (loading at n rs ∷ ps) = refl
take-sum-bare r (in_bracket ∷ ps) = refl
take-sum-bare r (in_brace at ∷ ps) = refl
take-sum-bare r (in_quantifier q at n ∷ ps) = refl
take-sum-bare r (in_atom w rs ∷ ps) = refl
take-sum-bare r (in_argument w rs ∷ ps) = refl
take-sum-bare r (in_group ∷ ps) = refl
take-sum-bare r (cell at x ∷ ps) = refl
take-sum-bare r (added o at x ∷ ps) = refl
take-sum-bare r (multiplied at x ∷ ps) = refl
take-sum-bare r (valuing at x ∷ ps) = refl
take-sum-bare r (testing c at x ∷ ps) = refl
take-sum-bare r (in_expression ∷ ps) = refl
take-sum-bare r (in_left_side ∷ ps) = refl

take-both-bare : (r : Raw) (ps : List Pending) → take_both (bare_raw r) (bares ps) ≡ bare_pair (take_both r ps)
take-both-bare r ps = ap (λ q. take_sum q.0 q.1) (take-product-bare r ps) ∙ take-sum-bare (take_product r ps).0 (take_product r ps).1

after-plain-bare : (r : Raw) (ps : List Pending) (t : Tok) → after_plain (bare_raw r) (bares ps) (bare_tok t) ≡ option_map bare_flat (after_plain r ps t)
after-plain-bare r ps (name n) = refl
after-plain-bare r ps _ = refl

after-word-bare : (w : Word) (rs : RawList) (ps : List Pending) (t : Tok)
    → after_word (bare_word w) (bare_raws rs) (bares ps) (bare_tok t) ≡ option_map bare_flat (after_word w rs ps t)
after-word-bare (lower n) none ps t = after-plain-bare (head n none) ps t
after-word-bare (upper n) none ps t = after-plain-bare (head n none) ps t
after-word-bare w (more x rs) ps t = refl

after-led-bare : (r : Raw) (ps : List Pending) (t : Tok) → after_led (bare_raw r) (bares ps) (bare_tok t) ≡ option_map bare_flat (after_led r ps t)
after-led-bare r ps (star_sign at) = ap (multiply lead_want nowhere) (take-product-bare r ps)
after-led-bare r ps (plus_sign at) = ap (add lead_want by_plus nowhere) (take-both-bare r ps)
after-led-bare r ps (minus_sign at) = ap (add lead_want by_minus nowhere) (take-both-bare r ps)
after-led-bare r ps (less_sign at) = ap (test by_less nowhere) (take-both-bare r ps)
after-led-bare r ps (most_sign at) = ap (test by_most nowhere) (take-both-bare r ps)
after-led-bare r ps _ = refl

close-group-bare : (f : Flat) (t : Tok) → close_group (bare_flat f) (bare_tok t) ≡ option_map bare_flat (close_group f t)
close-group-bare f (paren_right at) = refl
close-group-bare f _ = refl

end-expression-bare : (r : Raw) (ps : List Pending) (t : Tok)
    → end_expression (bare_raw r) (bares ps) (bare_tok t) ≡ option_map bare_flat (end_expression r ps t)
end-expression-bare r [] t = refl
end-expression-bare r (operand o at x ∷ ps) t = refl
end-expression-bare r (loading at n rs ∷ ps) t = refl
end-expression-bare r (in_bracket ∷ ps) t = refl
end-expression-bare r (in_brace at ∷ ps) t = refl
end-expression-bare r (in_quantifier q at n ∷ ps) t = refl
end-expression-bare r (in_atom w rs ∷ ps) t = refl
end-expression-bare r (in_argument w rs ∷ ps) t = refl
end-expression-bare r (in_group ∷ ps) t = refl
end-expression-bare r (cell at x ∷ ps) t = refl
end-expression-bare r (added o at x ∷ ps) t = refl
end-expression-bare r (multiplied at x ∷ ps) t = refl
end-expression-bare r (valuing at x ∷ ps) t = operate-bare (is_goal at x r) ps t
end-expression-bare r (testing by_less at x ∷ ps) t = operate-bare (less_goal at x r) ps t
end-expression-bare r (testing by_most at x ∷ ps) t = operate-bare (most_goal at x r) ps t
end-expression-bare r (in_expression ∷ ps) t = close-group-bare (item r ps) t
end-expression-bare r (in_left_side ∷ ps) t = close-group-bare (led r ps) t

after-item-bare : (r : Raw) (ps : List Pending) (t : Tok) → after_item (bare_raw r) (bares ps) (bare_tok t) ≡ option_map bare_flat (after_item r ps t)
after-item-bare r ps (star_sign at) = ap (multiply item_want nowhere) (take-product-bare r ps)
after-item-bare r ps (plus_sign at) = ap (add item_want by_plus nowhere) (take-both-bare r ps)
after-item-bare r ps (minus_sign at) = ap (add item_want by_minus nowhere) (take-both-bare r ps)
after-item-bare r ps t =
    ap (λ q. end_expression q.0 q.1 (bare_tok t)) (take-both-bare r ps) ∙ end-expression-bare (take_both r ps).0 (take_both r ps).1 t

pub step-bare : (s : Flat) (t : Tok) → flat_step (bare_flat s) (bare_tok t) ≡ option_map bare_flat (flat_step s t)
step-bare (want ps) (name n) = refl
step-bare (want ps) _ = refl
step-bare (part w rs ps) (name n) = ap (λ z. Some (part (bare_word w) z (bares ps))) (then-bare rs (head n none))
step-bare (part w rs ps) (variable n) = ap (λ z. Some (part (bare_word w) z (bares ps))) (then-bare rs (head n none))
step-bare (part w rs ps) (any at) = ap (λ z. Some (part (bare_word w) z (bares ps))) (then-bare rs (anything at))
step-bare (part w rs ps) (number n at) = ap (λ z. Some (part (bare_word w) z (bares ps))) (then-bare rs (int at n))
step-bare (part w rs ps) (paren_left at) = refl
step-bare (part w rs ps) (load_arrow at) = load-bare w rs at ps
step-bare (part w rs ps) (is_sign at) = after-word-bare w rs ps (is_sign at)
step-bare (part w rs ps) (most_sign at) = after-word-bare w rs ps (most_sign at)
step-bare (part w rs ps) (less_sign at) = after-word-bare w rs ps (less_sign at)
step-bare (part w rs ps) (plus_sign at) = after-word-bare w rs ps (plus_sign at)
step-bare (part w rs ps) (minus_sign at) = after-word-bare w rs ps (minus_sign at)
step-bare (part w rs ps) (star_sign at) = after-word-bare w rs ps (star_sign at)
step-bare (part w rs ps) t = part-bare w rs ps t
step-bare (whole r ps) t = operate-bare r ps t
step-bare (binder q at ps) (name n) = refl
step-bare (binder q at ps) _ = refl
step-bare (slash q at w ps) (backslash sl) = ap (λ z. Some (want (in_quantifier q nowhere z ∷ bares ps))) (named-bare w)
step-bare (slash q at w ps) _ = refl
step-bare (term_want ps) (name n) = refl
step-bare (term_want ps) _ = refl
step-bare (term_part w rs ps) (name n) = ap (λ z. Some (term_part (bare_word w) z (bares ps))) (then-bare rs (head n none))
step-bare (term_part w rs ps) (variable n) = ap (λ z. Some (term_part (bare_word w) z (bares ps))) (then-bare rs (head n none))
step-bare (term_part w rs ps) (any at) = ap (λ z. Some (term_part (bare_word w) z (bares ps))) (then-bare rs (anything at))
step-bare (term_part w rs ps) (number n at) = ap (λ z. Some (term_part (bare_word w) z (bares ps))) (then-bare rs (int at n))
step-bare (term_part w rs ps) (paren_left at) = refl
step-bare (term_part w rs ps) t = term-part-bare w rs ps t
step-bare (term_whole r ps) t = term-operate-bare r ps t
step-bare (plain r ps) t = after-plain-bare r ps t
step-bare (led r ps) t = after-led-bare r ps t
step-bare (lead_want ps) (name n) = refl
step-bare (lead_want ps) _ = refl
step-bare (item_want ps) (name n) = refl
step-bare (item_want ps) _ = refl
step-bare (item r ps) t = after-item-bare r ps t

end-bare : (r : Raw) (ps : List Pending) → end_with (bare_raw r) (bares ps) ≡ option_map bare_raw (end_with r ps)
end-bare r [] = refl
end-bare r (p ∷ ps) = refl

final-goal-bare : (r : Raw) (ps : List Pending)
    → (let q = reduce level.Close (bare_raw r) (bares ps) in end_with q.0 q.1) ≡ option_map bare_raw (let q = reduce level.Close r ps in end_with q.0 q.1)
final-goal-bare r ps = ap (λ q. end_with q.0 q.1) (reduce-bare level.Close ps r) ∙ end-bare (reduce level.Close r ps).0 (reduce level.Close r ps).1

final-expression-bare : (r : Raw) (ps : List Pending) → final_expression (bare_raw r) (bares ps) ≡ option_map bare_raw (final_expression r ps)
final-expression-bare r [] = refl
final-expression-bare r (operand o at x ∷ ps) = refl
final-expression-bare r (loading at n rs ∷ ps) = refl
final-expression-bare r (in_bracket ∷ ps) = refl
final-expression-bare r (in_brace at ∷ ps) = refl
final-expression-bare r (in_quantifier q at n ∷ ps) = refl
final-expression-bare r (in_atom w rs ∷ ps) = refl
final-expression-bare r (in_argument w rs ∷ ps) = refl
final-expression-bare r (in_group ∷ ps) = refl
final-expression-bare r (cell at x ∷ ps) = refl
final-expression-bare r (added o at x ∷ ps) = refl
final-expression-bare r (multiplied at x ∷ ps) = refl
final-expression-bare r (valuing at x ∷ ps) = final-goal-bare (is_goal at x r) ps
final-expression-bare r (testing by_less at x ∷ ps) = final-goal-bare (less_goal at x r) ps
final-expression-bare r (testing by_most at x ∷ ps) = final-goal-bare (most_goal at x r) ps
final-expression-bare r (in_expression ∷ ps) = refl
final-expression-bare r (in_left_side ∷ ps) = refl

pub final-bare : (s : Flat) → flat_final (bare_flat s) ≡ option_map bare_raw (flat_final s)
final-bare (part (lower n) rs ps) = ap (λ q. end_with q.0 q.1) (reduce-bare level.Close ps (head n rs))
    ∙ end-bare (reduce level.Close (head n rs) ps).0 (reduce level.Close (head n rs) ps).1
final-bare (part (upper n) rs ps) = ap (λ q. end_with q.0 q.1) (reduce-bare level.Close ps (head n rs))
    ∙ end-bare (reduce level.Close (head n rs) ps).0 (reduce level.Close (head n rs) ps).1
final-bare (whole r ps) = ap (λ q. end_with q.0 q.1) (reduce-bare level.Close ps r) ∙ end-bare (reduce level.Close r ps).0 (reduce level.Close r ps).1
final-bare (want ps) = refl
final-bare (binder q at ps) = refl
final-bare (slash q at w ps) = refl
final-bare (term_want ps) = refl
final-bare (term_part w rs ps) = refl
final-bare (term_whole r ps) = refl
final-bare (plain r ps) = refl
final-bare (led r ps) = refl
final-bare (lead_want ps) = refl
final-bare (item_want ps) = refl
final-bare (item r ps) = ap (λ q. final_expression q.0 q.1) (take-both-bare r ps) ∙ final-expression-bare (take_both r ps).0 (take_both r ps).1
