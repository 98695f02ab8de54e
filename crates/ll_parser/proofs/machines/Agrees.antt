-- The flat machine over raw trees does what the machine over parse trees does.
use Rattle.std.proofs.Common.{◌≡◌, Bool, true, false, List, [], ◌∷◌, Some, option_map, refl, ◌∙◌, ap, sym, None}
use Rattle.ll_lexer.specs.declared.Place.{Place}
use Rattle.ll_parser.specs.Tokens.{Identifier, Tok, name, variable, any, number, true_word, erase_word, forall_word, exists_word, comma, ampersand, semicolon}
use Rattle.ll_parser.specs.Tokens.{paren_left, paren_right, brace_left, brace_right, backslash, colon_dash, left_arrow, right_arrow, lolli, load_arrow}
use Rattle.ll_parser.specs.Tokens.{is_sign, most_sign, less_sign, plus_sign, minus_sign, star_sign}
use Rattle.ll_parser.specs.declared.Op.TheVariants as op
use Rattle.ll_parser.specs.declared.Quantifier.TheVariants as quantifier
use Rattle.ll_parser.specs.Raw.{Raw, truth, erasure, braces, anything, int, RawList, none, more, raws_then}
use Rattle.ll_parser.specs.Grammar.{lower, upper, Term, of_app, cons, App, applied, app_any, app_number, app_bracket, Simples, by_colon, by_left, by_lolli}
use Rattle.ll_parser.specs.Grammar.{by_right, Formula, Arrow, of_sum, implies, loads, Sum, of_with, plus, With, of_tensor, with, Tensor, of_primary, times}
use Rattle.ll_parser.specs.Grammar.{Primary, truly, erased, bracket, brace, quantified, atom, word_identifier, clause_op, arrow_op, term_raw, app_raw}
use Rattle.ll_parser.specs.Grammar.{simples_raws, formula_raw, arrow_raw, sum_raw, with_raw, tensor_raw, primary_raw, by_plus, by_minus, by_less, by_most}
use Rattle.ll_parser.specs.Grammar.{plain_word, plain_any, plain_number, Expr, of_product, adds, Product, of_item, multiplies, Item, item_plain, item_bracket}
use Rattle.ll_parser.specs.Grammar.{First, first_plain, first_times, Lead, of_first, lead_adds, valued, tested, Word, no_more, and_then, Simple, simple_raw}
use Rattle.ll_parser.specs.Grammar.{plain_raw, expr_raw, product_raw, item_raw, first_raw, lead_raw}
use Rattle.ll_parser.proofs.machines.Machine as m
use Rattle.ll_parser.proofs.machines.Machine.{Factor, factor, Share, share, Part, Left, implying, Before, nothing, after_clause, Scope, scope, fresh, Frame}
use Rattle.ll_parser.proofs.machines.Machine.{Cell, TermFrame, Base, base, State, fold_factors, fold_shares, fold_parts, fold_lefts, fold_before, up_to_with}
use Rattle.ll_parser.proofs.machines.Machine.{up_to_sum, up_to_formula, fold_cells, Shut, at_bottom, at_bracket, at_brace, shut, shut_whole, shut_right}
use Rattle.ll_parser.proofs.machines.Machine.{shut_brace, Closed, closed, shut_end, term_closed, step, final, Hole, first_hole, times_hole, sum_hole}
use Rattle.ll_parser.proofs.machines.Machine.{both_hole, LeadHole, lead_times, lead_sum, lead_both, Side, value_of, test_of, Around, on_right, within, Inside}
use Rattle.ll_parser.proofs.machines.Machine.{in_lead, in_item}
use Rattle.ll_parser.specs.declared.Level.{Level}
use Rattle.ll_parser.specs.declared.Level.TheVariants as level
use Rattle.ll_parser.specs.Flat.{Pending, operand, loading, in_bracket, in_brace, in_quantifier, in_atom, in_argument, in_group, cell, Flat, want, part, whole}
use Rattle.ll_parser.specs.Flat.{binder, slash, term_want, term_part, term_whole, op_taken, reduce, gather, push, close_bracket, close_brace, close_term}
use Rattle.ll_parser.specs.Flat.{end_with, admits_load, begin_load, operate, term_operate, flat_step, flat_final, added, multiplied, valuing, testing}
use Rattle.ll_parser.specs.Flat.{in_expression, in_left_side, plain, led, lead_want, item_want, item, take_product, take_sum, take_both, multiply, add, test}
use Rattle.ll_parser.specs.Flat.{after_word, end_expression, final_expression}

abbrev pub flat_factors : List Factor → List Pending → List Pending
flat_factors [] k = k
flat_factors (factor p at ∷ ps) k = operand op.Tensor at (primary_raw p) ∷ flat_factors ps k

abbrev pub flat_shares : List Share → List Pending → List Pending
flat_shares [] k = k
flat_shares (share t at ∷ qs) k = operand op.With at (tensor_raw t) ∷ flat_shares qs k

abbrev pub flat_parts : List Part → List Pending → List Pending
flat_parts [] k = k
flat_parts (m.part w at ∷ ws) k = operand op.Plus at (with_raw w) ∷ flat_parts ws k

abbrev pub flat_lefts : List Left → List Pending → List Pending
flat_lefts [] k = k
flat_lefts (implying s c at ∷ ls) k = operand (arrow_op c) at (sum_raw s) ∷ flat_lefts ls k
flat_lefts (m.loading n ss at ∷ ls) k = loading at n (simples_raws ss) ∷ flat_lefts ls k

abbrev pub flat_before : Before → List Pending → List Pending
flat_before nothing k = k
flat_before (after_clause f c at) k = operand (clause_op c) at (formula_raw f) ∷ k

abbrev pub flat_scope : Scope → List Pending → List Pending
flat_scope (scope b ls ws qs ps) k = flat_factors ps (flat_shares qs (flat_parts ws (flat_lefts ls (flat_before b k))))

abbrev pub flat_frames : List Frame → List Pending
flat_frames [] = []
flat_frames (m.in_bracket at s ∷ k) = in_bracket ∷ flat_scope s (flat_frames k)
flat_frames (m.in_brace at s ∷ k) = in_brace at ∷ flat_scope s (flat_frames k)
flat_frames (m.in_quantifier q at w sl s ∷ k) = in_quantifier q at (word_identifier w) ∷ flat_scope s (flat_frames k)

abbrev pub flat_base : Base → List Pending
flat_base (base at w ss s k) = in_atom w (simples_raws ss) ∷ flat_scope s (flat_frames k)

abbrev pub flat_cells : List Cell → List Pending → List Pending
flat_cells [] k = k
flat_cells (m.cell a at ∷ cs) k = cell at (app_raw a) ∷ flat_cells cs k

abbrev pub flat_terms : List TermFrame → List Pending → List Pending
flat_terms [] k = k
flat_terms (m.in_argument at w ss cs ∷ tk) k = in_argument w (simples_raws ss) ∷ flat_cells cs (flat_terms tk k)
flat_terms (m.in_group at cs ∷ tk) k = in_group ∷ flat_cells cs (flat_terms tk k)

abbrev pub flat_product : Product → List Pending → Flat
flat_product (of_item x) k = item (item_raw x) k
flat_product (multiplies p at x) k = item (item_raw x) (multiplied at (product_raw p) ∷ k)

abbrev pub flat_expr : Expr → List Pending → Flat
flat_expr (of_product p) k = flat_product p k
flat_expr (adds e o at p) k = flat_product p (added o at (expr_raw e) ∷ k)

abbrev pub flat_first : First → List Pending → Flat
flat_first (first_plain x) k = plain (plain_raw x) k
flat_first (first_times f at x) k = led (item_raw x) (multiplied at (first_raw f) ∷ k)

abbrev pub flat_lead_product : Product → List Pending → Flat
flat_lead_product (of_item x) k = led (item_raw x) k
flat_lead_product (multiplies p at x) k = led (item_raw x) (multiplied at (product_raw p) ∷ k)

abbrev pub flat_lead : Lead → List Pending → Flat
flat_lead (of_first f) k = flat_first f k
flat_lead (lead_adds l o at p) k = flat_lead_product p (added o at (lead_raw l) ∷ k)

abbrev pub flat_hole : Hole → List Pending → List Pending
flat_hole first_hole k = k
flat_hole (times_hole p at) k = multiplied at (product_raw p) ∷ k
flat_hole (sum_hole e o at) k = added o at (expr_raw e) ∷ k
flat_hole (both_hole e o at p b) k = multiplied b (product_raw p) ∷ added o at (expr_raw e) ∷ k

abbrev pub flat_lead_hole : LeadHole → List Pending → List Pending
flat_lead_hole (lead_times f at) k = multiplied at (first_raw f) ∷ k
flat_lead_hole (lead_sum l o at) k = added o at (lead_raw l) ∷ k
flat_lead_hole (lead_both l o at p b) k = multiplied b (product_raw p) ∷ added o at (lead_raw l) ∷ k

abbrev pub flat_side : Side → List Pending → List Pending
flat_side (value_of x at) k = valuing at (plain_raw x) ∷ k
flat_side (test_of l c at) k = testing c at (lead_raw l) ∷ k

abbrev mutual
  pub flat_around : Around → List Pending → List Pending
  flat_around (on_right d) k = flat_side d k
  flat_around (within i) k = flat_inside i k

  pub flat_inside : Inside → List Pending → List Pending
  flat_inside (in_lead at h) k = in_left_side ∷ flat_lead_hole h k
  flat_inside (in_item at h a) k = in_expression ∷ flat_hole h (flat_around a k)

abbrev pub flat_primary : Primary false → List Pending → Flat
flat_primary (atom w ss) k = part w (simples_raws ss) k
flat_primary (truly at) k = whole (truth at) k
flat_primary (erased at) k = whole (erasure at) k
flat_primary (bracket at f end) k = whole (formula_raw f) k
flat_primary (brace at f end) k = whole (braces at (formula_raw f)) k
flat_primary (valued x at e) k = flat_expr e (valuing at (plain_raw x) ∷ k)
flat_primary (tested l c at e) k = flat_expr e (testing c at (lead_raw l) ∷ k)

abbrev pub flat_app : App → List Pending → Flat
flat_app (applied w ss) k = term_part w (simples_raws ss) k
flat_app (app_any at) k = term_whole (anything at) k
flat_app (app_number n at) k = term_whole (int at n) k
flat_app (app_bracket at t end) k = term_whole (term_raw t) k

abbrev pub flat : State → Flat
flat (m.want s k) = want (flat_scope s (flat_frames k))
flat (m.whole p s k) = flat_primary p (flat_scope s (flat_frames k))
flat (m.binder q at s k) = binder q at (flat_scope s (flat_frames k))
flat (m.slash q at w s k) = slash q at w (flat_scope s (flat_frames k))
flat (m.term_want cs tk b) = term_want (flat_cells cs (flat_terms tk (flat_base b)))
flat (m.term_whole a cs tk b) = flat_app a (flat_cells cs (flat_terms tk (flat_base b)))
flat (m.led l s k) = flat_lead l (flat_scope s (flat_frames k))
flat (m.lead_want h s k) = lead_want (flat_lead_hole h (flat_scope s (flat_frames k)))
flat (m.expr_want h a s k) = item_want (flat_hole h (flat_around a (flat_scope s (flat_frames k))))
flat (m.expr_whole e i s k) = flat_expr e (flat_inside i (flat_scope s (flat_frames k)))

abbrev pub flat_shut : Shut → Raw × List Pending
flat_shut (at_bottom f) = (formula_raw f, [])
flat_shut (at_bracket f at s k) = (formula_raw f, in_bracket ∷ flat_scope s (flat_frames k))
flat_shut (at_brace f at s k) = (formula_raw f, in_brace at ∷ flat_scope s (flat_frames k))

-- ---- reducing takes what folding takes

reduce-factors : {o : Bool} (l : Level) (ps : List Factor) (t : Tensor o) (k : List Pending)
    → reduce l (tensor_raw t) (flat_factors ps k) ≡ reduce l (tensor_raw (fold_factors ps t)) k
reduce-factors l [] t k = refl
reduce-factors l (factor p at ∷ ps) t k = reduce-factors l ps (times p at t) k

reduce-shares : {o : Bool} (l : Level) (qs : List Share) (w : With o) (k : List Pending) → op_taken l op.With ≡ true
    → reduce l (with_raw w) (flat_shares qs k) ≡ reduce l (with_raw (fold_shares qs w)) k
reduce-shares l [] w k h = refl
reduce-shares l (share t at ∷ qs) w k h = rw h (reduce-shares l qs (with t at w) k h)

reduce-parts : {o : Bool} (l : Level) (ws : List Part) (s : Sum o) (k : List Pending) → op_taken l op.Plus ≡ true
    → reduce l (sum_raw s) (flat_parts ws k) ≡ reduce l (sum_raw (fold_parts ws s)) k
reduce-parts l [] s k h = refl
reduce-parts l (m.part w at ∷ ws) s k h = rw h (reduce-parts l ws (plus w at s) k h)

reduce-lefts-clause : {o : Bool} (ls : List Left) (a : Arrow o) (k : List Pending)
    → reduce level.Clause (arrow_raw a) (flat_lefts ls k) ≡ reduce level.Clause (arrow_raw (fold_lefts ls a)) k
reduce-lefts-clause [] a k = refl
reduce-lefts-clause (implying s by_lolli at ∷ ls) a k = reduce-lefts-clause ls (implies s by_lolli at a) k
reduce-lefts-clause (implying s by_right at ∷ ls) a k = reduce-lefts-clause ls (implies s by_right at a) k
reduce-lefts-clause (m.loading n ss at ∷ ls) a k = reduce-lefts-clause ls (loads n ss at a) k

reduce-lefts-close : {o : Bool} (ls : List Left) (a : Arrow o) (k : List Pending)
    → reduce level.Close (arrow_raw a) (flat_lefts ls k) ≡ reduce level.Close (arrow_raw (fold_lefts ls a)) k
reduce-lefts-close [] a k = refl
reduce-lefts-close (implying s by_lolli at ∷ ls) a k = reduce-lefts-close ls (implies s by_lolli at a) k
reduce-lefts-close (implying s by_right at ∷ ls) a k = reduce-lefts-close ls (implies s by_right at a) k
reduce-lefts-close (m.loading n ss at ∷ ls) a k = reduce-lefts-close ls (loads n ss at a) k

before-clause : {o : Bool} (b : Before) (a : Arrow o) (k : List Frame)
    → reduce level.Clause (arrow_raw a) (flat_before b (flat_frames k)) ≡ (formula_raw (fold_before b a), flat_frames k)
before-clause nothing a [] = refl
before-clause nothing a (m.in_bracket at s ∷ k) = refl
before-clause nothing a (m.in_brace at s ∷ k) = refl
before-clause nothing a (m.in_quantifier q at w sl s ∷ k) = refl
before-clause (after_clause f by_colon at) a [] = refl
before-clause (after_clause f by_colon at) a (m.in_bracket x s ∷ k) = refl
before-clause (after_clause f by_colon at) a (m.in_brace x s ∷ k) = refl
before-clause (after_clause f by_colon at) a (m.in_quantifier q x w sl s ∷ k) = refl
before-clause (after_clause f by_left at) a [] = refl
before-clause (after_clause f by_left at) a (m.in_bracket x s ∷ k) = refl
before-clause (after_clause f by_left at) a (m.in_brace x s ∷ k) = refl
before-clause (after_clause f by_left at) a (m.in_quantifier q x w sl s ∷ k) = refl

before-close : {o : Bool} (b : Before) (a : Arrow o) (k : List Pending)
    → reduce level.Close (arrow_raw a) (flat_before b k) ≡ reduce level.Close (formula_raw (fold_before b a)) k
before-close nothing a k = refl
before-close (after_clause f by_colon at) a k = refl
before-close (after_clause f by_left at) a k = refl

reduce-scope : {o : Bool} (s : Scope) (p : Primary o) (k : List Pending)
    → reduce level.Close (primary_raw p) (flat_scope s k) ≡ reduce level.Close (formula_raw (up_to_formula s p)) k
reduce-scope (scope b ls ws qs ps) p k =
    reduce-factors level.Close ps (of_primary p) (flat_shares qs (flat_parts ws (flat_lefts ls (flat_before b k))))
    ∙ reduce-shares level.Close qs (of_tensor (fold_factors ps (of_primary p))) (flat_parts ws (flat_lefts ls (flat_before b k))) refl
    ∙ reduce-parts level.Close ws (of_with (up_to_with qs ps p)) (flat_lefts ls (flat_before b k)) refl
    ∙ reduce-lefts-close ls (of_sum (up_to_sum ws qs ps p)) (flat_before b k)
    ∙ before-close b (fold_lefts ls (of_sum (up_to_sum ws qs ps p))) k

reduce-frames : {o : Bool} (k : List Frame) (f : Formula o) → reduce level.Close (formula_raw f) (flat_frames k) ≡ flat_shut (shut k f)
reduce-frames [] f = refl
reduce-frames (m.in_bracket at s ∷ k) f = refl
reduce-frames (m.in_brace at s ∷ k) f = refl
reduce-frames (m.in_quantifier quantifier.Forall at w sl s ∷ k) f =
    reduce-scope s (quantified quantifier.Forall at w sl f) (flat_frames k) ∙ reduce-frames k (up_to_formula s (quantified quantifier.Forall at w sl f))
reduce-frames (m.in_quantifier quantifier.Exists at w sl s ∷ k) f =
    reduce-scope s (quantified quantifier.Exists at w sl f) (flat_frames k) ∙ reduce-frames k (up_to_formula s (quantified quantifier.Exists at w sl f))

pub reduce-whole : (p : Primary false) (s : Scope) (k : List Frame)
    → reduce level.Close (primary_raw p) (flat_scope s (flat_frames k)) ≡ flat_shut (shut_whole p s k)
reduce-whole p s k = reduce-scope s p (flat_frames k) ∙ reduce-frames k (up_to_formula s p)

-- ---- a level stops at what is looser

frames-stop : (l : Level) (r : Raw) (k : List Frame) → (l ≡ level.Close → ⊥) → reduce l r (flat_frames k) ≡ (r, flat_frames k)
frames-stop l r [] h = refl
frames-stop l r (m.in_bracket at s ∷ k) h = refl
frames-stop l r (m.in_brace at s ∷ k) h = refl
frames-stop level.Ampersand r (m.in_quantifier q at w sl s ∷ k) h = refl
frames-stop level.Semicolon r (m.in_quantifier q at w sl s ∷ k) h = refl
frames-stop level.Arrow r (m.in_quantifier q at w sl s ∷ k) h = refl
frames-stop level.Clause r (m.in_quantifier q at w sl s ∷ k) h = refl
frames-stop level.Close r (m.in_quantifier q at w sl s ∷ k) h = absurd (h refl)

arrow-stops : (r : Raw) (ls : List Left) (b : Before) (k : List Frame)
    → reduce level.Arrow r (flat_lefts ls (flat_before b (flat_frames k))) ≡ (r, flat_lefts ls (flat_before b (flat_frames k)))
arrow-stops r (implying s by_lolli at ∷ ls) b k = refl
arrow-stops r (implying s by_right at ∷ ls) b k = refl
arrow-stops r (m.loading n ss at ∷ ls) b k = refl
arrow-stops r [] (after_clause f by_colon at) k = refl
arrow-stops r [] (after_clause f by_left at) k = refl
arrow-stops r [] nothing k = frames-stop level.Arrow r k (λ e. absurd cc)

semicolon-stops : (r : Raw) (ws : List Part) (ls : List Left) (b : Before) (k : List Frame)
    → reduce level.Semicolon r (flat_parts ws (flat_lefts ls (flat_before b (flat_frames k))))
    ≡ (r, flat_parts ws (flat_lefts ls (flat_before b (flat_frames k))))
semicolon-stops r (m.part w at ∷ ws) ls b k = refl
semicolon-stops r [] (implying s by_lolli at ∷ ls) b k = refl
semicolon-stops r [] (implying s by_right at ∷ ls) b k = refl
semicolon-stops r [] (m.loading n ss at ∷ ls) b k = refl
semicolon-stops r [] [] (after_clause f by_colon at) k = refl
semicolon-stops r [] [] (after_clause f by_left at) k = refl
semicolon-stops r [] [] nothing k = frames-stop level.Semicolon r k (λ e. absurd cc)

ampersand-stops : (r : Raw) (qs : List Share) (ws : List Part) (ls : List Left) (b : Before) (k : List Frame)
    → reduce level.Ampersand r (flat_shares qs (flat_parts ws (flat_lefts ls (flat_before b (flat_frames k)))))
    ≡ (r, flat_shares qs (flat_parts ws (flat_lefts ls (flat_before b (flat_frames k)))))
ampersand-stops r (share t at ∷ qs) ws ls b k = refl
ampersand-stops r [] (m.part w at ∷ ws) ls b k = refl
ampersand-stops r [] [] (implying s by_lolli at ∷ ls) b k = refl
ampersand-stops r [] [] (implying s by_right at ∷ ls) b k = refl
ampersand-stops r [] [] (m.loading n ss at ∷ ls) b k = refl
ampersand-stops r [] [] [] (after_clause f by_colon at) k = refl
ampersand-stops r [] [] [] (after_clause f by_left at) k = refl
ampersand-stops r [] [] [] nothing k = frames-stop level.Ampersand r k (λ e. absurd cc)

-- ---- steps

close-shut : (h : Shut) (at : Place) → close_bracket (flat_shut h).0 (flat_shut h).1 ≡ option_map flat (shut_right h at)
close-shut (at_bottom f) at = refl
close-shut (at_bracket f x s k) at = refl
close-shut (at_brace f x s k) at = refl

brace-shut : (h : Shut) (at : Place) → close_brace (flat_shut h).0 (flat_shut h).1 ≡ option_map flat (shut_brace h at)
brace-shut (at_bottom f) at = refl
brace-shut (at_bracket f x s k) at = refl
brace-shut (at_brace f x s k) at = refl

abbrev pub closed_raw : Closed → Raw
closed_raw (closed f) = formula_raw f

end-shut : (h : Shut) → end_with (flat_shut h).0 (flat_shut h).1 ≡ option_map closed_raw (shut_end h)
end-shut (at_bottom f) = refl
end-shut (at_bracket f x s k) = refl
end-shut (at_brace f x s k) = refl

up-to-sum : (p : Primary false) (b : Before) (ls : List Left) (ws : List Part) (qs : List Share) (ps : List Factor) (k : List Frame)
    → reduce level.Arrow (primary_raw p) (flat_scope (scope b ls ws qs ps) (flat_frames k))
    ≡ (sum_raw (up_to_sum ws qs ps p), flat_lefts ls (flat_before b (flat_frames k)))
up-to-sum p b ls ws qs ps k =
    reduce-factors level.Arrow ps (of_primary p) (flat_shares qs (flat_parts ws (flat_lefts ls (flat_before b (flat_frames k)))))
    ∙ reduce-shares level.Arrow qs (of_tensor (fold_factors ps (of_primary p))) (flat_parts ws (flat_lefts ls (flat_before b (flat_frames k)))) refl
    ∙ reduce-parts level.Arrow ws (of_with (up_to_with qs ps p)) (flat_lefts ls (flat_before b (flat_frames k))) refl
    ∙ arrow-stops (sum_raw (up_to_sum ws qs ps p)) ls b k

up-to-clause : (p : Primary false) (s : Scope) (k : List Frame)
    → reduce level.Clause (primary_raw p) (flat_scope s (flat_frames k)) ≡ (formula_raw (up_to_formula s p), flat_frames k)
up-to-clause p (scope b ls ws qs ps) k =
    reduce-factors level.Clause ps (of_primary p) (flat_shares qs (flat_parts ws (flat_lefts ls (flat_before b (flat_frames k)))))
    ∙ reduce-shares level.Clause qs (of_tensor (fold_factors ps (of_primary p))) (flat_parts ws (flat_lefts ls (flat_before b (flat_frames k)))) refl
    ∙ reduce-parts level.Clause ws (of_with (up_to_with qs ps p)) (flat_lefts ls (flat_before b (flat_frames k))) refl
    ∙ reduce-lefts-clause ls (of_sum (up_to_sum ws qs ps p)) (flat_before b (flat_frames k))
    ∙ before-clause b (fold_lefts ls (of_sum (up_to_sum ws qs ps p))) k

operate-agrees : (p : Primary false) (s : Scope) (k : List Frame) (t : Tok)
    → operate (primary_raw p) (flat_scope s (flat_frames k)) t ≡ option_map flat (m.operate p s k t)
operate-agrees p (scope b ls ws qs ps) k (comma at) = refl
operate-agrees p (scope b ls ws qs ps) k (ampersand at) = ap (push op.With at)
    (reduce-factors level.Ampersand ps (of_primary p) (flat_shares qs (flat_parts ws (flat_lefts ls (flat_before b (flat_frames k)))))
    ∙ ampersand-stops (tensor_raw (fold_factors ps (of_primary p))) qs ws ls b k)
operate-agrees p (scope b ls ws qs ps) k (semicolon at) = ap (push op.Plus at)
    (reduce-factors level.Semicolon ps (of_primary p) (flat_shares qs (flat_parts ws (flat_lefts ls (flat_before b (flat_frames k)))))
    ∙ reduce-shares level.Semicolon qs (of_tensor (fold_factors ps (of_primary p))) (flat_parts ws (flat_lefts ls (flat_before b (flat_frames k)))) refl
    ∙ semicolon-stops (with_raw (up_to_with qs ps p)) ws ls b k)
operate-agrees p (scope b ls ws qs ps) k (lolli at) = ap (push op.Lolli at) (up-to-sum p b ls ws qs ps k)
operate-agrees p (scope b ls ws qs ps) k (right_arrow at) = ap (push op.RightArrow at) (up-to-sum p b ls ws qs ps k)
operate-agrees p s k (colon_dash at) = ap (push op.ColonDash at) (up-to-clause p s k)
operate-agrees p s k (left_arrow at) = ap (push op.LeftArrow at) (up-to-clause p s k)
operate-agrees p s k (paren_right at) = ap (λ q. close_bracket q.0 q.1) (reduce-whole p s k) ∙ close-shut (shut_whole p s k) at
operate-agrees p s k (brace_right at) = ap (λ q. close_brace q.0 q.1) (reduce-whole p s k) ∙ brace-shut (shut_whole p s k) at
operate-agrees p s k _ = refl

load-scope : (ls : List Left) (b : Before) (k : List Frame) → admits_load (flat_lefts ls (flat_before b (flat_frames k))) ≡ true
load-scope (implying s by_lolli at ∷ ls) b k = refl
load-scope (implying s by_right at ∷ ls) b k = refl
load-scope (m.loading n ss at ∷ ls) b k = refl
load-scope [] (after_clause f by_colon at) k = refl
load-scope [] (after_clause f by_left at) k = refl
load-scope [] nothing [] = refl
load-scope [] nothing (m.in_bracket at s ∷ k) = refl
load-scope [] nothing (m.in_brace at s ∷ k) = refl
load-scope [] nothing (m.in_quantifier q at w sl s ∷ k) = refl

load-agrees : (n : Identifier) (ss : Simples) (at : Place) (s : Scope) (k : List Frame)
    → begin_load (lower n) (simples_raws ss) at (flat_scope s (flat_frames k)) ≡ option_map flat (m.load_in n ss at s k)
load-agrees n ss at (scope b ls [] [] []) k = rw (load-scope ls b k) refl
load-agrees n ss at (scope b ls [] [] (factor p x ∷ ps)) k = refl
load-agrees n ss at (scope b ls [] (share t x ∷ qs) []) k = refl
load-agrees n ss at (scope b ls [] (share t x ∷ qs) (factor p y ∷ ps)) k = refl
load-agrees n ss at (scope b ls (m.part w x ∷ ws) [] []) k = refl
load-agrees n ss at (scope b ls (m.part w x ∷ ws) [] (factor p y ∷ ps)) k = refl
load-agrees n ss at (scope b ls (m.part w x ∷ ws) (share t y ∷ qs) []) k = refl
load-agrees n ss at (scope b ls (m.part w x ∷ ws) (share t y ∷ qs) (factor p z ∷ ps)) k = refl

gather-cells : (cs : List Cell) (t : Term) (k : List Pending) → gather (term_raw t) (flat_cells cs k) ≡ gather (term_raw (fold_cells cs t)) k
gather-cells [] t k = refl
gather-cells (m.cell a at ∷ cs) t k = gather-cells cs (cons a at t) k

gather-stops : (r : Raw) (tk : List TermFrame) (b : Base) → gather r (flat_terms tk (flat_base b)) ≡ (r, flat_terms tk (flat_base b))
gather-stops r [] (base at w ss s k) = refl
gather-stops r (m.in_argument at w ss cs ∷ tk) b = refl
gather-stops r (m.in_group at cs ∷ tk) b = refl

term-closes : (tk : List TermFrame) (b : Base) (t : Term) (end : Place)
    → close_term (term_raw t) (flat_terms tk (flat_base b)) ≡ Some (flat (term_closed tk b t end))
term-closes [] (base at w ss s k) t end = refl
term-closes (m.in_argument at w ss cs ∷ tk) b t end = refl
term-closes (m.in_group at cs ∷ tk) b t end = refl

app-agrees : (a : App) (cs : List Cell) (tk : List TermFrame) (b : Base) (end : Place)
    → term_operate (app_raw a) (flat_cells cs (flat_terms tk (flat_base b))) (paren_right end) ≡ Some (flat (term_closed tk b (fold_cells cs (of_app a)) end))
app-agrees a cs tk b end = ap (λ q. close_term q.0 q.1) (gather-cells cs (of_app a) (flat_terms tk (flat_base b))
    ∙ gather-stops (term_raw (fold_cells cs (of_app a))) tk b) ∙ term-closes tk b (fold_cells cs (of_app a)) end

-- ---- expressions

-- nothing of an expression waits in a scope
record Bare (k : List Pending) : Type 0 where
  product : (r : Raw) → take_product r k ≡ (r, k)
  sum : (r : Raw) → take_sum r k ≡ (r, k)

bare-frames : (k : List Frame) → Bare (flat_frames k)
bare-frames [] = record { product = λ r. refl; sum = λ r. refl }
bare-frames (m.in_bracket at s ∷ k) = record { product = λ r. refl; sum = λ r. refl }
bare-frames (m.in_brace at s ∷ k) = record { product = λ r. refl; sum = λ r. refl }
bare-frames (m.in_quantifier q at w sl s ∷ k) = record { product = λ r. refl; sum = λ r. refl }

bare-scope : (s : Scope) (k : List Frame) → Bare (flat_scope s (flat_frames k))
bare-scope (scope b ls ws qs (factor p at ∷ ps)) k = record { product = λ r. refl; sum = λ r. refl }
bare-scope (scope b ls ws (share t at ∷ qs) []) k = record { product = λ r. refl; sum = λ r. refl }
bare-scope (scope b ls (m.part w at ∷ ws) [] []) k = record { product = λ r. refl; sum = λ r. refl }
bare-scope (scope b (implying z c at ∷ ls) [] [] []) k = record { product = λ r. refl; sum = λ r. refl }
bare-scope (scope b (m.loading n ss at ∷ ls) [] [] []) k = record { product = λ r. refl; sum = λ r. refl }
bare-scope (scope (after_clause f c at) [] [] [] []) k = record { product = λ r. refl; sum = λ r. refl }
bare-scope (scope nothing [] [] [] []) k = bare-frames k

-- behind an item that fills a hole
fill-flat : (h : Hole) (x : Item) (a : Around) (s : Scope) (k : List Frame) → flat (m.settled (m.fill h x) a s k)
    ≡ item (item_raw x) (flat_hole h (flat_around a (flat_scope s (flat_frames k))))
fill-flat first_hole x (on_right (value_of y at)) s k = refl
fill-flat first_hole x (on_right (test_of l c at)) s k = refl
fill-flat first_hole x (within i) s k = refl
fill-flat (times_hole p b) x (on_right (value_of y at)) s k = refl
fill-flat (times_hole p b) x (on_right (test_of l c at)) s k = refl
fill-flat (times_hole p b) x (within i) s k = refl
fill-flat (sum_hole e o b) x (on_right (value_of y at)) s k = refl
fill-flat (sum_hole e o b) x (on_right (test_of l c at)) s k = refl
fill-flat (sum_hole e o b) x (within i) s k = refl
fill-flat (both_hole e o b p d) x (on_right (value_of y at)) s k = refl
fill-flat (both_hole e o b p d) x (on_right (test_of l c at)) s k = refl
fill-flat (both_hole e o b p d) x (within i) s k = refl

fill-lead-flat : (h : LeadHole) (x : Item) (s : Scope) (k : List Frame) → flat (m.led (m.fill_lead h x) s k)
    ≡ led (item_raw x) (flat_lead_hole h (flat_scope s (flat_frames k)))
fill-lead-flat (lead_times f at) x s k = refl
fill-lead-flat (lead_sum l o at) x s k = refl
fill-lead-flat (lead_both l o at p b) x s k = refl

-- what stands round an expression is none of its products and sums
around-product : (a : Around) (k : List Pending) (r : Raw) → take_product r (flat_around a k) ≡ (r, flat_around a k)
around-product (on_right (value_of x at)) k r = refl
around-product (on_right (test_of l c at)) k r = refl
around-product (within (in_lead at h)) k r = refl
around-product (within (in_item at h a)) k r = refl

around-sum : (a : Around) (k : List Pending) (r : Raw) → take_sum r (flat_around a k) ≡ (r, flat_around a k)
around-sum (on_right (value_of x at)) k r = refl
around-sum (on_right (test_of l c at)) k r = refl
around-sum (within (in_lead at h)) k r = refl
around-sum (within (in_item at h a)) k r = refl

-- an expression behind which nothing of it waits: what its last item makes of what waits
last_item : Expr → Raw
last_item (of_product (of_item x)) = item_raw x
last_item (of_product (multiplies p at x)) = item_raw x
last_item (adds e o b (of_item x)) = item_raw x
last_item (adds e o b (multiplies p at x)) = item_raw x

waits : Expr → List Pending → List Pending
waits (of_product (of_item x)) k = k
waits (of_product (multiplies p at x)) k = multiplied at (product_raw p) ∷ k
waits (adds e o b (of_item x)) k = added o b (expr_raw e) ∷ k
waits (adds e o b (multiplies p at x)) k = multiplied at (product_raw p) ∷ added o b (expr_raw e) ∷ k

flat-expr-is : (e : Expr) (k : List Pending) → flat_expr e k ≡ item (last_item e) (waits e k)
unfolding last_item waits
flat-expr-is (of_product (of_item x)) k = refl
flat-expr-is (of_product (multiplies p at x)) k = refl
flat-expr-is (adds e o b (of_item x)) k = refl
flat-expr-is (adds e o b (multiplies p at x)) k = refl

star-takes : (e : Expr) (a : Around) (k : List Pending) (at : Place) → multiply item_want at (take_product (last_item e) (waits e (flat_around a k)))
    ≡ Some (item_want (flat_hole (m.star_hole e at) (flat_around a k)))
unfolding last_item waits
star-takes (of_product (of_item x)) a k at = ap (multiply item_want at) (around-product a k (item_raw x))
star-takes (of_product (multiplies p b x)) a k at = refl
star-takes (adds e o b (of_item x)) a k at = refl
star-takes (adds e o b (multiplies p d x)) a k at = refl

both-takes : (e : Expr) (a : Around) (k : List Pending) → take_both (last_item e) (waits e (flat_around a k)) ≡ (expr_raw e, flat_around a k)
unfolding last_item waits
both-takes (of_product (of_item x)) a k = ap (λ q. take_sum q.0 q.1) (around-product a k (item_raw x)) ∙ around-sum a k (item_raw x)
both-takes (of_product (multiplies p b x)) a k = around-sum a k _
both-takes (adds e o b (of_item x)) a k = refl
both-takes (adds e o b (multiplies p d x)) a k = refl

-- the flat state behind an expression, whatever is round it
behind : (e : Expr) (a : Around) (s : Scope) (k : List Frame) → flat (m.settled e a s k)
    ≡ item (last_item e) (waits e (flat_around a (flat_scope s (flat_frames k))))
behind e (on_right (value_of x at)) s k = flat-expr-is e _
behind e (on_right (test_of l c at)) s k = flat-expr-is e _
behind e (within i) s k = flat-expr-is e _

-- what ends an expression goes on with it as a whole
ends : (e : Expr) (a : Around) (k : List Pending) (t : Tok)
    → (let q = take_both (last_item e) (waits e (flat_around a k)) in end_expression q.0 q.1 t) ≡ end_expression (expr_raw e) (flat_around a k) t
ends e a k t = ap (λ q. end_expression q.0 q.1 t) (both-takes e a k)

inside-close : (e : Expr) (i : Inside) (s : Scope) (k : List Frame) (end : Place)
    → end_expression (expr_raw e) (flat_inside i (flat_scope s (flat_frames k))) (paren_right end) ≡ Some (flat (m.inside_closed i e end s k))
inside-close e (in_lead at h) s k end = ap Some (sym (fill-lead-flat h (item_bracket at e end) s k))
inside-close e (in_item at h a) s k end = ap Some (sym (fill-flat h (item_bracket at e end) a s k))

-- behind a left side
led-agrees : (l : Lead) (s : Scope) (k : List Frame) (t : Tok) → flat_step (flat (m.led l s k)) t ≡ option_map flat (m.after_lead l s k t)
led-agrees (of_first (first_plain x)) s k (star_sign at) = refl
led-agrees (of_first (first_plain x)) s k (plus_sign at) = refl
led-agrees (of_first (first_plain x)) s k (minus_sign at) = refl
led-agrees (of_first (first_plain x)) s k (less_sign at) = refl
led-agrees (of_first (first_plain x)) s k (most_sign at) = refl
led-agrees (of_first (first_plain x)) s k (is_sign at) = refl
led-agrees (of_first (first_plain x)) s k _ = refl
led-agrees (of_first (first_times f b x)) s k (star_sign at) = refl
led-agrees (of_first (first_times f b x)) s k (plus_sign at) = ap (add lead_want by_plus at) ((bare-scope s k).sum _)
led-agrees (of_first (first_times f b x)) s k (minus_sign at) = ap (add lead_want by_minus at) ((bare-scope s k).sum _)
led-agrees (of_first (first_times f b x)) s k (less_sign at) = ap (test by_less at) ((bare-scope s k).sum _)
led-agrees (of_first (first_times f b x)) s k (most_sign at) = ap (test by_most at) ((bare-scope s k).sum _)
led-agrees (of_first (first_times f b x)) s k _ = refl
led-agrees (lead_adds l o b (of_item x)) s k (star_sign at) = refl
led-agrees (lead_adds l o b (of_item x)) s k (plus_sign at) = refl
led-agrees (lead_adds l o b (of_item x)) s k (minus_sign at) = refl
led-agrees (lead_adds l o b (of_item x)) s k (less_sign at) = refl
led-agrees (lead_adds l o b (of_item x)) s k (most_sign at) = refl
led-agrees (lead_adds l o b (of_item x)) s k _ = refl
led-agrees (lead_adds l o b (multiplies p d x)) s k (star_sign at) = refl
led-agrees (lead_adds l o b (multiplies p d x)) s k (plus_sign at) = refl
led-agrees (lead_adds l o b (multiplies p d x)) s k (minus_sign at) = refl
led-agrees (lead_adds l o b (multiplies p d x)) s k (less_sign at) = refl
led-agrees (lead_adds l o b (multiplies p d x)) s k (most_sign at) = refl
led-agrees (lead_adds l o b (multiplies p d x)) s k _ = refl

-- behind a whole-number goal
after-star : (e : Expr) (a : Around) (s : Scope) (k : List Frame) (at : Place) → flat_step (flat (m.settled e a s k)) (star_sign at)
    ≡ Some (flat (m.expr_want (m.star_hole e at) a s k))
after-star e a s k at = ap (λ f. flat_step f (star_sign at)) (behind e a s k) ∙ star-takes e a (flat_scope s (flat_frames k)) at

after-plus : (e : Expr) (a : Around) (s : Scope) (k : List Frame) (at : Place) → flat_step (flat (m.settled e a s k)) (plus_sign at)
    ≡ Some (flat (m.expr_want (m.sum_hole e by_plus at) a s k))
after-plus e a s k at = ap (λ f. flat_step f (plus_sign at)) (behind e a s k) ∙ ap (add item_want by_plus at) (both-takes e a (flat_scope s (flat_frames k)))

after-minus : (e : Expr) (a : Around) (s : Scope) (k : List Frame) (at : Place) → flat_step (flat (m.settled e a s k)) (minus_sign at)
    ≡ Some (flat (m.expr_want (m.sum_hole e by_minus at) a s k))
after-minus e a s k at = ap (λ f. flat_step f (minus_sign at)) (behind e a s k) ∙ ap (add item_want by_minus at) (both-takes e a (flat_scope s (flat_frames k)))

-- a token that is no sign of an expression
abbrev is_other : Tok → Bool
is_other (star_sign at) = false
is_other (plus_sign at) = false
is_other (minus_sign at) = false
is_other _ = true

other-step : (r : Raw) (ps : List Pending) (t : Tok) → is_other t ≡ true
    → flat_step (item r ps) t ≡ (let q = take_both r ps in end_expression q.0 q.1 t)
other-step r ps (star_sign at) h = absurd cc
other-step r ps (plus_sign at) h = absurd cc
other-step r ps (minus_sign at) h = absurd cc
other-step r ps _ h = refl

goal-other : (d : Side) (e : Expr) (s : Scope) (k : List Frame) (t : Tok) → is_other t ≡ true
    → flat_step (flat (m.whole (m.sided d e) s k)) t ≡ option_map flat (m.operate (m.sided d e) s k t)
goal-other (value_of x at) e s k t h =
    ap (λ f. flat_step f t) (behind e (on_right (value_of x at)) s k)
    ∙ other-step (last_item e) (waits e (valuing at (plain_raw x) ∷ flat_scope s (flat_frames k))) t h
    ∙ ends e (on_right (value_of x at)) (flat_scope s (flat_frames k)) t ∙ operate-agrees (valued x at e) s k t
goal-other (test_of l by_less at) e s k t h =
    ap (λ f. flat_step f t) (behind e (on_right (test_of l by_less at)) s k)
    ∙ other-step (last_item e) (waits e (testing by_less at (lead_raw l) ∷ flat_scope s (flat_frames k))) t h
    ∙ ends e (on_right (test_of l by_less at)) (flat_scope s (flat_frames k)) t ∙ operate-agrees (tested l by_less at e) s k t
goal-other (test_of l by_most at) e s k t h =
    ap (λ f. flat_step f t) (behind e (on_right (test_of l by_most at)) s k)
    ∙ other-step (last_item e) (waits e (testing by_most at (lead_raw l) ∷ flat_scope s (flat_frames k))) t h
    ∙ ends e (on_right (test_of l by_most at)) (flat_scope s (flat_frames k)) t ∙ operate-agrees (tested l by_most at e) s k t

goal-agrees : (d : Side) (e : Expr) (s : Scope) (k : List Frame) (t : Tok) → flat_step (flat (m.whole (m.sided d e) s k)) t
    ≡ option_map flat (m.after_primary (m.sided d e) s k t)
goal-agrees (value_of x b) e s k (star_sign at) = after-star e (on_right (value_of x b)) s k at
goal-agrees (test_of l c b) e s k (star_sign at) = after-star e (on_right (test_of l c b)) s k at
goal-agrees (value_of x b) e s k (plus_sign at) = after-plus e (on_right (value_of x b)) s k at
goal-agrees (test_of l c b) e s k (plus_sign at) = after-plus e (on_right (test_of l c b)) s k at
goal-agrees (value_of x b) e s k (minus_sign at) = after-minus e (on_right (value_of x b)) s k at
goal-agrees (test_of l c b) e s k (minus_sign at) = after-minus e (on_right (test_of l c b)) s k at
goal-agrees (value_of x b) e s k t = goal-other (value_of x b) e s k t refl
goal-agrees (test_of l c b) e s k t = goal-other (test_of l c b) e s k t refl

inside-agrees : (e : Expr) (i : Inside) (s : Scope) (k : List Frame) (t : Tok) → flat_step (flat (m.expr_whole e i s k)) t
    ≡ option_map flat (m.after_inside e i s k t)
inside-agrees e i s k (star_sign at) = after-star e (within i) s k at
inside-agrees e i s k (plus_sign at) = after-plus e (within i) s k at
inside-agrees e i s k (minus_sign at) = after-minus e (within i) s k at
inside-agrees e i s k (paren_right end) =
    ap (λ f. flat_step f (paren_right end)) (behind e (within i) s k) ∙ ends e (within i) (flat_scope s (flat_frames k)) (paren_right end)
    ∙ inside-close e i s k end
inside-agrees e (in_lead b h) s k t =
    ap (λ f. flat_step f t) (behind e (within (in_lead b h)) s k) ∙ ends e (within (in_lead b h)) (flat_scope s (flat_frames k)) t
inside-agrees e (in_item b h a) s k t =
    ap (λ f. flat_step f t) (behind e (within (in_item b h a)) s k) ∙ ends e (within (in_item b h a)) (flat_scope s (flat_frames k)) t

goal-final : (d : Side) (e : Expr) (s : Scope) (k : List Frame) → flat_final (flat (m.whole (m.sided d e) s k))
    ≡ option_map closed_raw (final (m.whole (m.sided d e) s k))
goal-final (value_of x at) e s k =
    ap flat_final (behind e (on_right (value_of x at)) s k)
    ∙ ap (λ q. final_expression q.0 q.1) (both-takes e (on_right (value_of x at)) (flat_scope s (flat_frames k)))
    ∙ ap (λ q. end_with q.0 q.1) (reduce-whole (valued x at e) s k) ∙ end-shut (shut_whole (valued x at e) s k)
goal-final (test_of l by_less at) e s k =
    ap flat_final (behind e (on_right (test_of l by_less at)) s k)
    ∙ ap (λ q. final_expression q.0 q.1) (both-takes e (on_right (test_of l by_less at)) (flat_scope s (flat_frames k)))
    ∙ ap (λ q. end_with q.0 q.1) (reduce-whole (tested l by_less at e) s k) ∙ end-shut (shut_whole (tested l by_less at e) s k)
goal-final (test_of l by_most at) e s k =
    ap flat_final (behind e (on_right (test_of l by_most at)) s k)
    ∙ ap (λ q. final_expression q.0 q.1) (both-takes e (on_right (test_of l by_most at)) (flat_scope s (flat_frames k)))
    ∙ ap (λ q. end_with q.0 q.1) (reduce-whole (tested l by_most at e) s k) ∙ end-shut (shut_whole (tested l by_most at e) s k)

expr-final : (e : Expr) (i : Inside) (s : Scope) (k : List Frame) → flat_final (flat (m.expr_whole e i s k)) ≡ None
expr-final e (in_lead at h) s k =
    ap flat_final (behind e (within (in_lead at h)) s k)
    ∙ ap (λ q. final_expression q.0 q.1) (both-takes e (within (in_lead at h)) (flat_scope s (flat_frames k)))
expr-final e (in_item at h a) s k =
    ap flat_final (behind e (within (in_item at h a)) s k)
    ∙ ap (λ q. final_expression q.0 q.1) (both-takes e (within (in_item at h a)) (flat_scope s (flat_frames k)))

led-final : (l : Lead) (s : Scope) (k : List Frame) → flat_final (flat (m.led l s k)) ≡ None
led-final (of_first (first_plain x)) s k = refl
led-final (of_first (first_times f b x)) s k = refl
led-final (lead_adds l o b (of_item x)) s k = refl
led-final (lead_adds l o b (multiplies p d x)) s k = refl

-- an atom with arguments is no left side
some-arguments : (rs : RawList) (r : Raw) (w : Word) (ps : List Pending) (t : Tok) → after_word w (raws_then rs r) ps t ≡ None
some-arguments none r w ps t = refl
some-arguments (more x rs) r w ps t = refl

arguments-none : (w : Word) (ss : Simples) (x : Simple) (ps : List Pending) (t : Tok) → after_word w (raws_then (simples_raws ss) (simple_raw x)) ps t ≡ None
arguments-none w ss x ps t = some-arguments (simples_raws ss) (simple_raw x) w ps t

pub step-agrees : (s : State) (t : Tok) → flat_step (flat s) t ≡ option_map flat (step s t)
step-agrees (m.want s k) (true_word at) = refl
step-agrees (m.want s k) (erase_word at) = refl
step-agrees (m.want s k) (paren_left at) = refl
step-agrees (m.want s k) (brace_left at) = refl
step-agrees (m.want s k) (forall_word at) = refl
step-agrees (m.want s k) (exists_word at) = refl
step-agrees (m.want s k) (name n) = refl
step-agrees (m.want s k) (variable n) = refl
step-agrees (m.want s k) (any at) = refl
step-agrees (m.want s k) (number n at) = refl
step-agrees (m.want s k) _ = refl
step-agrees (m.whole (atom w ss) s k) (name n) = refl
step-agrees (m.whole (atom w ss) s k) (variable n) = refl
step-agrees (m.whole (atom w ss) s k) (any at) = refl
step-agrees (m.whole (atom w ss) s k) (number n at) = refl
step-agrees (m.whole (atom w ss) s k) (paren_left at) = refl
step-agrees (m.whole (atom (lower n) ss) s k) (load_arrow at) = load-agrees n ss at s k
step-agrees (m.whole (atom (upper n) ss) s k) (load_arrow at) = refl
step-agrees (m.whole (atom w no_more) s k) (is_sign at) = refl
step-agrees (m.whole (atom w no_more) s k) (most_sign at) = refl
step-agrees (m.whole (atom w no_more) s k) (less_sign at) = refl
step-agrees (m.whole (atom w no_more) s k) (plus_sign at) = refl
step-agrees (m.whole (atom w no_more) s k) (minus_sign at) = refl
step-agrees (m.whole (atom w no_more) s k) (star_sign at) = refl
step-agrees (m.whole (atom w (and_then ss x)) s k) (is_sign at) = arguments-none w ss x (flat_scope s (flat_frames k)) (is_sign at)
step-agrees (m.whole (atom w (and_then ss x)) s k) (most_sign at) = arguments-none w ss x (flat_scope s (flat_frames k)) (most_sign at)
step-agrees (m.whole (atom w (and_then ss x)) s k) (less_sign at) = arguments-none w ss x (flat_scope s (flat_frames k)) (less_sign at)
step-agrees (m.whole (atom w (and_then ss x)) s k) (plus_sign at) = arguments-none w ss x (flat_scope s (flat_frames k)) (plus_sign at)
step-agrees (m.whole (atom w (and_then ss x)) s k) (minus_sign at) = arguments-none w ss x (flat_scope s (flat_frames k)) (minus_sign at)
step-agrees (m.whole (atom w (and_then ss x)) s k) (star_sign at) = arguments-none w ss x (flat_scope s (flat_frames k)) (star_sign at)
step-agrees (m.whole (atom w ss) s k) t = operate-agrees (atom w ss) s k t
step-agrees (m.whole (valued x at e) s k) t = goal-agrees (value_of x at) e s k t
step-agrees (m.whole (tested l c at e) s k) t = goal-agrees (test_of l c at) e s k t
step-agrees (m.whole (truly x) s k) (name n) = refl
step-agrees (m.whole (truly x) s k) (variable n) = refl
step-agrees (m.whole (truly x) s k) (any at) = refl
step-agrees (m.whole (truly x) s k) (number n at) = refl
step-agrees (m.whole (truly x) s k) (paren_left at) = refl
step-agrees (m.whole (truly x) s k) (load_arrow at) = refl
step-agrees (m.whole (truly x) s k) (is_sign at) = refl
step-agrees (m.whole (truly x) s k) (most_sign at) = refl
step-agrees (m.whole (truly x) s k) (less_sign at) = refl
step-agrees (m.whole (truly x) s k) (plus_sign at) = refl
step-agrees (m.whole (truly x) s k) (minus_sign at) = refl
step-agrees (m.whole (truly x) s k) (star_sign at) = refl
step-agrees (m.whole (truly x) s k) t = operate-agrees (truly x) s k t
step-agrees (m.whole (erased x) s k) (name n) = refl
step-agrees (m.whole (erased x) s k) (variable n) = refl
step-agrees (m.whole (erased x) s k) (any at) = refl
step-agrees (m.whole (erased x) s k) (number n at) = refl
step-agrees (m.whole (erased x) s k) (paren_left at) = refl
step-agrees (m.whole (erased x) s k) (load_arrow at) = refl
step-agrees (m.whole (erased x) s k) (is_sign at) = refl
step-agrees (m.whole (erased x) s k) (most_sign at) = refl
step-agrees (m.whole (erased x) s k) (less_sign at) = refl
step-agrees (m.whole (erased x) s k) (plus_sign at) = refl
step-agrees (m.whole (erased x) s k) (minus_sign at) = refl
step-agrees (m.whole (erased x) s k) (star_sign at) = refl
step-agrees (m.whole (erased x) s k) t = operate-agrees (erased x) s k t
step-agrees (m.whole (bracket x f end) s k) (name n) = refl
step-agrees (m.whole (bracket x f end) s k) (variable n) = refl
step-agrees (m.whole (bracket x f end) s k) (any at) = refl
step-agrees (m.whole (bracket x f end) s k) (number n at) = refl
step-agrees (m.whole (bracket x f end) s k) (paren_left at) = refl
step-agrees (m.whole (bracket x f end) s k) (load_arrow at) = refl
step-agrees (m.whole (bracket x f end) s k) (is_sign at) = refl
step-agrees (m.whole (bracket x f end) s k) (most_sign at) = refl
step-agrees (m.whole (bracket x f end) s k) (less_sign at) = refl
step-agrees (m.whole (bracket x f end) s k) (plus_sign at) = refl
step-agrees (m.whole (bracket x f end) s k) (minus_sign at) = refl
step-agrees (m.whole (bracket x f end) s k) (star_sign at) = refl
step-agrees (m.whole (bracket x f end) s k) t = operate-agrees (bracket x f end) s k t
step-agrees (m.whole (brace x f end) s k) (name n) = refl
step-agrees (m.whole (brace x f end) s k) (variable n) = refl
step-agrees (m.whole (brace x f end) s k) (any at) = refl
step-agrees (m.whole (brace x f end) s k) (number n at) = refl
step-agrees (m.whole (brace x f end) s k) (paren_left at) = refl
step-agrees (m.whole (brace x f end) s k) (load_arrow at) = refl
step-agrees (m.whole (brace x f end) s k) (is_sign at) = refl
step-agrees (m.whole (brace x f end) s k) (most_sign at) = refl
step-agrees (m.whole (brace x f end) s k) (less_sign at) = refl
step-agrees (m.whole (brace x f end) s k) (plus_sign at) = refl
step-agrees (m.whole (brace x f end) s k) (minus_sign at) = refl
step-agrees (m.whole (brace x f end) s k) (star_sign at) = refl
step-agrees (m.whole (brace x f end) s k) t = operate-agrees (brace x f end) s k t
step-agrees (m.binder q at s k) (name n) = refl
step-agrees (m.binder q at s k) (variable n) = refl
step-agrees (m.binder q at s k) _ = refl
step-agrees (m.slash q at w s k) (backslash sl) = refl
step-agrees (m.slash q at w s k) _ = refl
step-agrees (m.term_want cs tk b) (name n) = refl
step-agrees (m.term_want cs tk b) (variable n) = refl
step-agrees (m.term_want cs tk b) (any at) = refl
step-agrees (m.term_want cs tk b) (number n at) = refl
step-agrees (m.term_want cs tk b) (paren_left at) = refl
step-agrees (m.term_want cs tk b) _ = refl
step-agrees (m.term_whole (applied w ss) cs tk b) (name n) = refl
step-agrees (m.term_whole (applied w ss) cs tk b) (variable n) = refl
step-agrees (m.term_whole (applied w ss) cs tk b) (any at) = refl
step-agrees (m.term_whole (applied w ss) cs tk b) (number n at) = refl
step-agrees (m.term_whole (applied w ss) cs tk b) (paren_left at) = refl
step-agrees (m.term_whole (applied w ss) cs tk b) (paren_right end) = app-agrees (applied w ss) cs tk b end
step-agrees (m.term_whole (applied w ss) cs tk b) _ = refl
step-agrees (m.term_whole (app_any x) cs tk b) (paren_right end) = app-agrees (app_any x) cs tk b end
step-agrees (m.term_whole (app_any x) cs tk b) _ = refl
step-agrees (m.term_whole (app_number n x) cs tk b) (paren_right end) = app-agrees (app_number n x) cs tk b end
step-agrees (m.term_whole (app_number n x) cs tk b) _ = refl
step-agrees (m.term_whole (app_bracket x u y) cs tk b) (paren_right end) = app-agrees (app_bracket x u y) cs tk b end
step-agrees (m.term_whole (app_bracket x u y) cs tk b) _ = refl
step-agrees (m.led l s k) t = led-agrees l s k t
step-agrees (m.lead_want h s k) (name n) = ap Some (sym (fill-lead-flat h (item_plain (plain_word (lower n))) s k))
step-agrees (m.lead_want h s k) (variable n) = ap Some (sym (fill-lead-flat h (item_plain (plain_word (upper n))) s k))
step-agrees (m.lead_want h s k) (any at) = ap Some (sym (fill-lead-flat h (item_plain (plain_any at)) s k))
step-agrees (m.lead_want h s k) (number n at) = ap Some (sym (fill-lead-flat h (item_plain (plain_number n at)) s k))
step-agrees (m.lead_want h s k) (paren_left at) = refl
step-agrees (m.lead_want h s k) _ = refl
step-agrees (m.expr_want h a s k) (name n) = ap Some (sym (fill-flat h (item_plain (plain_word (lower n))) a s k))
step-agrees (m.expr_want h a s k) (variable n) = ap Some (sym (fill-flat h (item_plain (plain_word (upper n))) a s k))
step-agrees (m.expr_want h a s k) (any at) = ap Some (sym (fill-flat h (item_plain (plain_any at)) a s k))
step-agrees (m.expr_want h a s k) (number n at) = ap Some (sym (fill-flat h (item_plain (plain_number n at)) a s k))
step-agrees (m.expr_want h a s k) (paren_left at) = refl
step-agrees (m.expr_want h a s k) _ = refl
step-agrees (m.expr_whole e i s k) t = inside-agrees e i s k t

pub final-agrees : (s : State) → flat_final (flat s) ≡ option_map closed_raw (final s)
final-agrees (m.want s k) = refl
final-agrees (m.whole (truly x) s k) = ap (λ q. end_with q.0 q.1) (reduce-whole (truly x) s k) ∙ end-shut (shut_whole (truly x) s k)
final-agrees (m.whole (erased x) s k) = ap (λ q. end_with q.0 q.1) (reduce-whole (erased x) s k) ∙ end-shut (shut_whole (erased x) s k)
final-agrees (m.whole (atom w ss) s k) = ap (λ q. end_with q.0 q.1) (reduce-whole (atom w ss) s k) ∙ end-shut (shut_whole (atom w ss) s k)
final-agrees (m.whole (bracket x f end) s k) = ap (λ q. end_with q.0 q.1) (reduce-whole (bracket x f end) s k) ∙ end-shut (shut_whole (bracket x f end) s k)
final-agrees (m.whole (brace x f end) s k) = ap (λ q. end_with q.0 q.1) (reduce-whole (brace x f end) s k) ∙ end-shut (shut_whole (brace x f end) s k)
final-agrees (m.binder q at s k) = refl
final-agrees (m.slash q at w s k) = refl
final-agrees (m.term_want cs tk b) = refl
final-agrees (m.term_whole (applied w ss) cs tk b) = refl
final-agrees (m.term_whole (app_any x) cs tk b) = refl
final-agrees (m.term_whole (app_number n x) cs tk b) = refl
final-agrees (m.term_whole (app_bracket x u y) cs tk b) = refl
final-agrees (m.whole (valued x at e) s k) = goal-final (value_of x at) e s k
final-agrees (m.whole (tested l c at e) s k) = goal-final (test_of l c at) e s k
final-agrees (m.led l s k) = led-final l s k
final-agrees (m.lead_want h s k) = refl
final-agrees (m.expr_want h a s k) = refl
final-agrees (m.expr_whole e i s k) = expr-final e i s k
