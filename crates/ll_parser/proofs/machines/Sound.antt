-- What is pending, as tokens: each step adds the token that it took.
use Rattle.std.proofs.Common.{◌≡◌, Bool, false, List, [], ◌∷◌, ◌++◌, Option, refl, ◌∙◌, ap, append_assoc, append-nil, IfSome, subst, Some}
use Rattle.ll_lexer.specs.declared.Place.{Place}
use Rattle.ll_parser.specs.Tokens.{Identifier, Tok, name, variable, any, number, true_word, erase_word, forall_word, exists_word, comma, ampersand, semicolon}
use Rattle.ll_parser.specs.Tokens.{paren_left, paren_right, brace_left, brace_right, backslash, cons_sign, colon_dash, left_arrow, right_arrow, lolli}
use Rattle.ll_parser.specs.Tokens.{load_arrow, is_sign, most_sign, less_sign, plus_sign, minus_sign, star_sign}
use Rattle.ll_parser.specs.Grammar.{lower, upper, Term, of_app, cons, App, applied, app_any, app_number, app_bracket, Simple, simple_word, simple_any}
use Rattle.ll_parser.specs.Grammar.{simple_number, Simples, Formula, Arrow, of_sum, implies, loads, Sum, of_with, plus, With, of_tensor, with, Tensor}
use Rattle.ll_parser.specs.Grammar.{of_primary, times, Primary, truly, erased, bracket, brace, quantified, atom, word_token, clause_token, arrow_token}
use Rattle.ll_parser.specs.Grammar.{quantifier_token, term_tokens, app_tokens, simple_tokens, simples_tokens, formula_tokens, arrow_tokens, sum_tokens}
use Rattle.ll_parser.specs.Grammar.{with_tokens, tensor_tokens, primary_tokens, Plain, plain_word, plain_any, plain_number, Expr, of_product, adds, Item}
use Rattle.ll_parser.specs.Grammar.{item_plain, item_bracket, first_plain, first_times, Lead, of_first, lead_adds, valued, tested, no_more, and_then}
use Rattle.ll_parser.specs.Grammar.{plain_token, add_token, test_token, expr_tokens, product_tokens, item_tokens, first_tokens, lead_tokens}
use Rattle.ll_parser.proofs.machines.Machine.{Factor, factor, Share, share, Part, part, Left, implying, loading, Before, nothing, after_clause, Scope, scope}
use Rattle.ll_parser.proofs.machines.Machine.{Frame, in_bracket, in_brace, in_quantifier, Cell, cell, TermFrame, in_argument, in_group, Base, base, State}
use Rattle.ll_parser.proofs.machines.Machine.{want, whole, binder, slash, term_want, term_whole, fold_factors, fold_shares, fold_parts, fold_lefts}
use Rattle.ll_parser.proofs.machines.Machine.{fold_before, up_to_with, up_to_sum, up_to_formula, fold_cells, Shut, at_bottom, at_bracket, at_brace, shut}
use Rattle.ll_parser.proofs.machines.Machine.{shut_whole, shut_right, shut_brace, term_closed, operate, load_in, begin_load, with_simple, open_argument}
use Rattle.ll_parser.proofs.machines.Machine.{app_simple, app_argument, step, Hole, first_hole, times_hole, sum_hole, both_hole, LeadHole, lead_times}
use Rattle.ll_parser.proofs.machines.Machine.{lead_sum, lead_both, Side, value_of, test_of, Around, on_right, within, Inside, in_lead, in_item, led, lead_want}
use Rattle.ll_parser.proofs.machines.Machine.{expr_want, expr_whole, fill, fill_lead, star_hole, star_lead, settled, inside_closed, begin_value, after_lead}
use Rattle.ll_parser.proofs.machines.Machine.{after_right, numbered}

abbrev pub factors_tokens : List Factor → List Tok
factors_tokens [] = []
factors_tokens (factor p at ∷ ps) = factors_tokens ps ++ (primary_tokens p ++ comma at ∷ [])

abbrev pub shares_tokens : List Share → List Tok
shares_tokens [] = []
shares_tokens (share t at ∷ ts) = shares_tokens ts ++ (tensor_tokens t ++ ampersand at ∷ [])

abbrev pub parts_tokens : List Part → List Tok
parts_tokens [] = []
parts_tokens (part w at ∷ ws) = parts_tokens ws ++ (with_tokens w ++ semicolon at ∷ [])

abbrev pub lefts_tokens : List Left → List Tok
lefts_tokens [] = []
lefts_tokens (implying s c at ∷ ls) = lefts_tokens ls ++ (sum_tokens s ++ arrow_token c at ∷ [])
lefts_tokens (loading n ss at ∷ ls) = lefts_tokens ls ++ (name n ∷ (simples_tokens ss ++ load_arrow at ∷ []))

abbrev pub before_tokens : Before → List Tok
before_tokens nothing = []
before_tokens (after_clause f c at) = formula_tokens f ++ clause_token c at ∷ []

abbrev pub scope_tokens : Scope → List Tok
scope_tokens (scope b ls ws qs ps) = before_tokens b ++ (lefts_tokens ls ++ (parts_tokens ws ++ (shares_tokens qs ++ factors_tokens ps)))

abbrev pub frames_tokens : List Frame → List Tok
frames_tokens [] = []
frames_tokens (in_bracket at s ∷ k) = frames_tokens k ++ (scope_tokens s ++ paren_left at ∷ [])
frames_tokens (in_brace at s ∷ k) = frames_tokens k ++ (scope_tokens s ++ brace_left at ∷ [])
frames_tokens (in_quantifier q at w sl s ∷ k) = frames_tokens k ++ (scope_tokens s ++ quantifier_token q at ∷ word_token w ∷ backslash sl ∷ [])

abbrev pub base_tokens : Base → List Tok
base_tokens (base at w ss s k) = frames_tokens k ++ (scope_tokens s ++ word_token w ∷ (simples_tokens ss ++ paren_left at ∷ []))

abbrev pub cells_tokens : List Cell → List Tok
cells_tokens [] = []
cells_tokens (cell a at ∷ cs) = cells_tokens cs ++ (app_tokens a ++ cons_sign at ∷ [])

abbrev pub terms_tokens : List TermFrame → List Tok
terms_tokens [] = []
terms_tokens (in_argument at w ss cs ∷ tk) = terms_tokens tk ++ (cells_tokens cs ++ word_token w ∷ (simples_tokens ss ++ paren_left at ∷ []))
terms_tokens (in_group at cs ∷ tk) = terms_tokens tk ++ (cells_tokens cs ++ paren_left at ∷ [])

-- what was read of an expression
abbrev pub hole_tokens : Hole → List Tok
hole_tokens first_hole = []
hole_tokens (times_hole p at) = product_tokens p ++ star_sign at ∷ []
hole_tokens (sum_hole e o at) = expr_tokens e ++ add_token o at ∷ []
hole_tokens (both_hole e o at p b) = expr_tokens e ++ add_token o at ∷ (product_tokens p ++ star_sign b ∷ [])

abbrev pub lead_hole_tokens : LeadHole → List Tok
lead_hole_tokens (lead_times f at) = first_tokens f ++ star_sign at ∷ []
lead_hole_tokens (lead_sum l o at) = lead_tokens l ++ add_token o at ∷ []
lead_hole_tokens (lead_both l o at p b) = lead_tokens l ++ add_token o at ∷ (product_tokens p ++ star_sign b ∷ [])

abbrev pub side_tokens : Side → List Tok
side_tokens (value_of x at) = plain_token x ∷ is_sign at ∷ []
side_tokens (test_of l c at) = lead_tokens l ++ test_token c at ∷ []

abbrev mutual
  pub around_tokens : Around → List Tok
  around_tokens (on_right d) = side_tokens d
  around_tokens (within i) = inside_tokens i

  pub inside_tokens : Inside → List Tok
  inside_tokens (in_lead at h) = lead_hole_tokens h ++ paren_left at ∷ []
  inside_tokens (in_item at h a) = around_tokens a ++ (hole_tokens h ++ paren_left at ∷ [])

abbrev pub so_far : State → List Tok
so_far (want s k) = frames_tokens k ++ scope_tokens s
so_far (whole p s k) = frames_tokens k ++ (scope_tokens s ++ primary_tokens p)
so_far (binder q at s k) = frames_tokens k ++ (scope_tokens s ++ quantifier_token q at ∷ [])
so_far (slash q at w s k) = frames_tokens k ++ (scope_tokens s ++ quantifier_token q at ∷ word_token w ∷ [])
so_far (term_want cs tk b) = base_tokens b ++ (terms_tokens tk ++ cells_tokens cs)
so_far (term_whole a cs tk b) = base_tokens b ++ (terms_tokens tk ++ (cells_tokens cs ++ app_tokens a))
so_far (led l s k) = frames_tokens k ++ (scope_tokens s ++ lead_tokens l)
so_far (lead_want h s k) = frames_tokens k ++ (scope_tokens s ++ lead_hole_tokens h)
so_far (expr_want h a s k) = frames_tokens k ++ (scope_tokens s ++ (around_tokens a ++ hole_tokens h))
so_far (expr_whole e i s k) = frames_tokens k ++ (scope_tokens s ++ (inside_tokens i ++ expr_tokens e))

abbrev pub shut_tokens : Shut → List Tok
shut_tokens (at_bottom f) = formula_tokens f
shut_tokens (at_bracket f at s k) = frames_tokens k ++ (scope_tokens s ++ paren_left at ∷ formula_tokens f)
shut_tokens (at_brace f at s k) = frames_tokens k ++ (scope_tokens s ++ brace_left at ∷ formula_tokens f)

factors-folded : {o : Bool} (ps : List Factor) (t : Tensor o) → tensor_tokens (fold_factors ps t) ≡ factors_tokens ps ++ tensor_tokens t
factors-folded [] t = refl
factors-folded (factor p at ∷ ps) t = factors-folded ps (times p at t) ∙ simp append_assoc

shares-folded : {o : Bool} (ts : List Share) (w : With o) → with_tokens (fold_shares ts w) ≡ shares_tokens ts ++ with_tokens w
shares-folded [] w = refl
shares-folded (share t at ∷ ts) w = shares-folded ts (with t at w) ∙ simp append_assoc

parts-folded : {o : Bool} (ws : List Part) (s : Sum o) → sum_tokens (fold_parts ws s) ≡ parts_tokens ws ++ sum_tokens s
parts-folded [] s = refl
parts-folded (part w at ∷ ws) s = parts-folded ws (plus w at s) ∙ simp append_assoc

lefts-folded : {o : Bool} (ls : List Left) (a : Arrow o) → arrow_tokens (fold_lefts ls a) ≡ lefts_tokens ls ++ arrow_tokens a
lefts-folded [] a = refl
lefts-folded (implying s c at ∷ ls) a = lefts-folded ls (implies s c at a) ∙ simp append_assoc
lefts-folded (loading n ss at ∷ ls) a = lefts-folded ls (loads n ss at a) ∙ simp append_assoc

before-folded : {o : Bool} (b : Before) (a : Arrow o) → formula_tokens (fold_before b a) ≡ before_tokens b ++ arrow_tokens a
before-folded nothing a = refl
before-folded (after_clause f c at) a = simp append_assoc

cells-folded : (cs : List Cell) (t : Term) → term_tokens (fold_cells cs t) ≡ cells_tokens cs ++ term_tokens t
cells-folded [] t = refl
cells-folded (cell a at ∷ cs) t = cells-folded cs (cons a at t) ∙ simp append_assoc

with-folded : {o : Bool} (qs : List Share) (ps : List Factor) (p : Primary o)
    → with_tokens (up_to_with qs ps p) ≡ shares_tokens qs ++ (factors_tokens ps ++ primary_tokens p)
with-folded qs ps p = shares-folded qs (of_tensor (fold_factors ps (of_primary p))) ∙ ap (λ z. shares_tokens qs ++ z) (factors-folded ps (of_primary p))

sum-folded : {o : Bool} (ws : List Part) (qs : List Share) (ps : List Factor) (p : Primary o)
    → sum_tokens (up_to_sum ws qs ps p) ≡ parts_tokens ws ++ (shares_tokens qs ++ (factors_tokens ps ++ primary_tokens p))
sum-folded ws qs ps p = parts-folded ws (of_with (up_to_with qs ps p)) ∙ ap (λ z. parts_tokens ws ++ z) (with-folded qs ps p)

formula-folded : {o : Bool} (s : Scope) (p : Primary o) → formula_tokens (up_to_formula s p) ≡ scope_tokens s ++ primary_tokens p
formula-folded (scope b ls ws qs ps) p =
    before-folded b (fold_lefts ls (of_sum (up_to_sum ws qs ps p)))
    ∙ ap (λ z. before_tokens b ++ z) (lefts-folded ls (of_sum (up_to_sum ws qs ps p)) ∙ ap (λ z. lefts_tokens ls ++ z) (sum-folded ws qs ps p))
    ∙ simp append_assoc

shut-folded : {o : Bool} (k : List Frame) (f : Formula o) → shut_tokens (shut k f) ≡ frames_tokens k ++ formula_tokens f
shut-folded [] f = refl
shut-folded (in_bracket at s ∷ k) f = simp append_assoc
shut-folded (in_brace at s ∷ k) f = simp append_assoc
shut-folded (in_quantifier q at w sl s ∷ k) f = shut-folded k (up_to_formula s (quantified q at w sl f))
    ∙ simp (formula-folded s (quantified q at w sl f), append_assoc)

pub shut-whole-tokens : (p : Primary false) (s : Scope) (k : List Frame) → shut_tokens (shut_whole p s k) ≡ so_far (whole p s k)
shut-whole-tokens p s k = shut-folded k (up_to_formula s p) ∙ ap (λ z. frames_tokens k ++ z) (formula-folded s p)

fill-tokens : (h : Hole) (x : Item) → expr_tokens (fill h x) ≡ hole_tokens h ++ item_tokens x
fill-tokens first_hole x = refl
fill-tokens (times_hole p at) x = simp append_assoc
fill-tokens (sum_hole e o at) x = simp append_assoc
fill-tokens (both_hole e o at p b) x = simp append_assoc

fill-lead-tokens : (h : LeadHole) (x : Item) → lead_tokens (fill_lead h x) ≡ lead_hole_tokens h ++ item_tokens x
fill-lead-tokens (lead_times f at) x = simp append_assoc
fill-lead-tokens (lead_sum l o at) x = simp append_assoc
fill-lead-tokens (lead_both l o at p b) x = simp append_assoc

star-tokens : (e : Expr) (at : Place) → hole_tokens (star_hole e at) ≡ expr_tokens e ++ star_sign at ∷ []
star-tokens (of_product p) at = refl
star-tokens (adds e o b p) at = simp append_assoc

star-lead-tokens : (l : Lead) (at : Place) → lead_hole_tokens (star_lead l at) ≡ lead_tokens l ++ star_sign at ∷ []
star-lead-tokens (of_first f) at = refl
star-lead-tokens (lead_adds l o b p) at = simp append_assoc

settled-tokens : (e : Expr) (a : Around) (s : Scope) (k : List Frame) → so_far (settled e a s k)
    ≡ frames_tokens k ++ (scope_tokens s ++ (around_tokens a ++ expr_tokens e))
settled-tokens e (on_right (value_of x at)) s k = refl
settled-tokens e (on_right (test_of l c at)) s k = simp append_assoc
settled-tokens e (within i) s k = refl

-- ---- what each step adds

abbrev pub AddsTo : List Tok → Tok → Option State → Type 0
AddsTo xs t o = IfSome o (λ next. so_far next ≡ xs ++ t ∷ [])

shut-right-adds : (h : Shut) (end : Place) → AddsTo (shut_tokens h) (paren_right end) (shut_right h end)
shut-right-adds (at_bottom f) end = tt
shut-right-adds (at_bracket f at s k) end = simp append_assoc
shut-right-adds (at_brace f at s k) end = tt

shut-brace-adds : (h : Shut) (end : Place) → AddsTo (shut_tokens h) (brace_right end) (shut_brace h end)
shut-brace-adds (at_bottom f) end = tt
shut-brace-adds (at_bracket f at s k) end = tt
shut-brace-adds (at_brace f at s k) end = simp append_assoc

operate-adds : (p : Primary false) (s : Scope) (k : List Frame) (t : Tok) → AddsTo (so_far (whole p s k)) t (operate p s k t)
operate-adds p (scope b ls ws qs ps) k (comma at) = simp append_assoc
operate-adds p (scope b ls ws qs ps) k (ampersand at) = simp (factors-folded ps (of_primary p), append_assoc, append-nil)
operate-adds p (scope b ls ws qs ps) k (semicolon at) = simp (with-folded qs ps p, append_assoc, append-nil)
operate-adds p (scope b ls ws qs ps) k (lolli at) = simp (sum-folded ws qs ps p, append_assoc, append-nil)
operate-adds p (scope b ls ws qs ps) k (right_arrow at) = simp (sum-folded ws qs ps p, append_assoc, append-nil)
operate-adds p s k (colon_dash at) = simp (formula-folded s p, append_assoc, append-nil)
operate-adds p s k (left_arrow at) = simp (formula-folded s p, append_assoc, append-nil)
operate-adds p s k (paren_right at) = subst (λ xs. AddsTo xs (paren_right at) (operate p s k (paren_right at))) (shut-whole-tokens p s k)
    (shut-right-adds (shut_whole p s k) at)
operate-adds p s k (brace_right at) = subst (λ xs. AddsTo xs (brace_right at) (operate p s k (brace_right at))) (shut-whole-tokens p s k)
    (shut-brace-adds (shut_whole p s k) at)
operate-adds p s k _ = tt

simple-adds : (p : Primary false) (x : Simple) (t : Tok) (s : Scope) (k : List Frame) → simple_tokens x ≡ t ∷ []
    → AddsTo (so_far (whole p s k)) t (with_simple p x s k)
simple-adds (atom w ss) x t s k e = simp (e, append_assoc)
simple-adds (truly at) x t s k e = tt
simple-adds (erased at) x t s k e = tt
simple-adds (bracket at f end) x t s k e = tt
simple-adds (brace at f end) x t s k e = tt
simple-adds (valued y at f) x t s k e = tt
simple-adds (tested l c at f) x t s k e = tt

open-adds : (p : Primary false) (at : Place) (s : Scope) (k : List Frame) → AddsTo (so_far (whole p s k)) (paren_left at) (open_argument p at s k)
open-adds (atom w ss) at s k = simp (append_assoc, append-nil)
open-adds (truly x) at s k = tt
open-adds (erased x) at s k = tt
open-adds (bracket x f end) at s k = tt
open-adds (brace x f end) at s k = tt
open-adds (valued y b f) at s k = tt
open-adds (tested l c b f) at s k = tt

load-adds-in : (n : Identifier) (ss : Simples) (at : Place) (s : Scope) (k : List Frame)
    → AddsTo (so_far (whole (atom (lower n) ss) s k)) (load_arrow at) (load_in n ss at s k)
load-adds-in n ss at (scope b ls [] [] []) k = simp (append_assoc, append-nil)
load-adds-in n ss at (scope b ls [] [] (p ∷ ps)) k = tt
load-adds-in n ss at (scope b ls [] (q ∷ qs) ps) k = tt
load-adds-in n ss at (scope b ls (w ∷ ws) qs ps) k = tt

load-adds : (p : Primary false) (at : Place) (s : Scope) (k : List Frame) → AddsTo (so_far (whole p s k)) (load_arrow at) (begin_load p at s k)
load-adds (atom (lower n) ss) at s k = load-adds-in n ss at s k
load-adds (atom (upper n) ss) at s k = tt
load-adds (truly x) at s k = tt
load-adds (erased x) at s k = tt
load-adds (bracket x f end) at s k = tt
load-adds (brace x f end) at s k = tt
load-adds (valued y b f) at s k = tt
load-adds (tested l c b f) at s k = tt

item-adds : (h : Hole) (a : Around) (x : Plain) (t : Tok) (s : Scope) (k : List Frame) → plain_token x ≡ t
    → AddsTo (so_far (expr_want h a s k)) t (Some (settled (fill h (item_plain x)) a s k))
item-adds h a x t s k e = settled-tokens (fill h (item_plain x)) a s k ∙ simp (fill-tokens h (item_plain x), e, append_assoc)

lead-item-adds : (h : LeadHole) (x : Plain) (t : Tok) (s : Scope) (k : List Frame) → plain_token x ≡ t
    → AddsTo (so_far (lead_want h s k)) t (Some (led (fill_lead h (item_plain x)) s k))
lead-item-adds h x t s k e = simp (fill-lead-tokens h (item_plain x), e, append_assoc)

inside-adds : (e : Expr) (i : Inside) (end : Place) (s : Scope) (k : List Frame) → so_far (inside_closed i e end s k)
    ≡ so_far (expr_whole e i s k) ++ paren_right end ∷ []
inside-adds e (in_lead at h) end s k = simp (fill-lead-tokens h (item_bracket at e end), append_assoc)
inside-adds e (in_item at h a) end s k = settled-tokens (fill h (item_bracket at e end)) a s k ∙ simp (fill-tokens h (item_bracket at e end), append_assoc)

value-adds : (l : Lead) (at : Place) (s : Scope) (k : List Frame) → AddsTo (so_far (led l s k)) (is_sign at) (begin_value l at s k)
value-adds (of_first (first_plain x)) at s k = simp (append_assoc, append-nil)
value-adds (of_first (first_times f b x)) at s k = tt
value-adds (lead_adds l o b p) at s k = tt

lead-adds : (l : Lead) (s : Scope) (k : List Frame) (t : Tok) → AddsTo (so_far (led l s k)) t (after_lead l s k t)
lead-adds l s k (star_sign at) = simp (star-lead-tokens l at, append_assoc)
lead-adds l s k (plus_sign at) = simp append_assoc
lead-adds l s k (minus_sign at) = simp append_assoc
lead-adds l s k (less_sign at) = simp (append_assoc, append-nil)
lead-adds l s k (most_sign at) = simp (append_assoc, append-nil)
lead-adds l s k (is_sign at) = value-adds l at s k
lead-adds l s k _ = tt

right-adds : (d : Side) (e : Expr) (s : Scope) (k : List Frame) (t : Tok) → AddsTo (so_far (settled e (on_right d) s k)) t (after_right d e s k t)
right-adds d e s k (star_sign at) = rw (settled-tokens e (on_right d) s k) (simp (star-tokens e at, append_assoc))
right-adds d e s k (plus_sign at) = rw (settled-tokens e (on_right d) s k) (simp append_assoc)
right-adds d e s k (minus_sign at) = rw (settled-tokens e (on_right d) s k) (simp append_assoc)
right-adds d e s k _ = tt

numbered-adds : (p : Primary false) (s : Scope) (k : List Frame) (t : Tok) → AddsTo (so_far (whole p s k)) t (numbered p s k t)
numbered-adds (atom w no_more) s k t = lead-adds (of_first (first_plain (plain_word w))) s k t
numbered-adds (atom w (and_then ss x)) s k t = tt
numbered-adds (valued x at e) s k t = right-adds (value_of x at) e s k t
numbered-adds (tested l c at e) s k t = right-adds (test_of l c at) e s k t
numbered-adds (truly at) s k t = tt
numbered-adds (erased at) s k t = tt
numbered-adds (bracket at f end) s k t = tt
numbered-adds (brace at f end) s k t = tt

app-adds : (a : App) (x : Simple) (t : Tok) (cs : List Cell) (tk : List TermFrame) (b : Base) → simple_tokens x ≡ t ∷ []
    → AddsTo (so_far (term_whole a cs tk b)) t (app_simple a x cs tk b)
app-adds (applied w ss) x t cs tk b e = simp (e, append_assoc)
app-adds (app_any at) x t cs tk b e = tt
app-adds (app_number n at) x t cs tk b e = tt
app-adds (app_bracket at u end) x t cs tk b e = tt

app-opens : (a : App) (at : Place) (cs : List Cell) (tk : List TermFrame) (b : Base)
    → AddsTo (so_far (term_whole a cs tk b)) (paren_left at) (app_argument a at cs tk b)
app-opens (applied w ss) at cs tk b = simp (append_assoc, append-nil)
app-opens (app_any x) at cs tk b = tt
app-opens (app_number n x) at cs tk b = tt
app-opens (app_bracket x u end) at cs tk b = tt

term-closed-adds : (tk : List TermFrame) (b : Base) (t : Term) (end : Place)
    → so_far (term_closed tk b t end) ≡ (base_tokens b ++ (terms_tokens tk ++ term_tokens t)) ++ paren_right end ∷ []
term-closed-adds [] (base at w ss s k) t end = simp append_assoc
term-closed-adds (in_argument at w ss cs ∷ tk) b t end = simp append_assoc
term-closed-adds (in_group at cs ∷ tk) b t end = simp append_assoc

pub step-adds : (s : State) (t : Tok) → AddsTo (so_far s) t (step s t)
step-adds (want s k) (true_word at) = simp append_assoc
step-adds (want s k) (erase_word at) = simp append_assoc
step-adds (want s k) (paren_left at) = simp (append_assoc, append-nil)
step-adds (want s k) (brace_left at) = simp (append_assoc, append-nil)
step-adds (want s k) (forall_word at) = simp append_assoc
step-adds (want s k) (exists_word at) = simp append_assoc
step-adds (want s k) (name n) = simp append_assoc
step-adds (want s k) (variable n) = simp append_assoc
step-adds (want s k) (any at) = simp append_assoc
step-adds (want s k) (number n at) = simp append_assoc
step-adds (want s k) _ = tt
step-adds (whole p s k) (name n) = simple-adds p (simple_word (lower n)) (name n) s k refl
step-adds (whole p s k) (variable n) = simple-adds p (simple_word (upper n)) (variable n) s k refl
step-adds (whole p s k) (any at) = simple-adds p (simple_any at) (any at) s k refl
step-adds (whole p s k) (number n at) = simple-adds p (simple_number n at) (number n at) s k refl
step-adds (whole p s k) (paren_left at) = open-adds p at s k
step-adds (whole p s k) (load_arrow at) = load-adds p at s k
step-adds (whole p s k) (is_sign at) = numbered-adds p s k (is_sign at)
step-adds (whole p s k) (most_sign at) = numbered-adds p s k (most_sign at)
step-adds (whole p s k) (less_sign at) = numbered-adds p s k (less_sign at)
step-adds (whole p s k) (plus_sign at) = numbered-adds p s k (plus_sign at)
step-adds (whole p s k) (minus_sign at) = numbered-adds p s k (minus_sign at)
step-adds (whole p s k) (star_sign at) = numbered-adds p s k (star_sign at)
step-adds (whole p s k) t = operate-adds p s k t
step-adds (binder q at s k) (name n) = simp append_assoc
step-adds (binder q at s k) (variable n) = simp append_assoc
step-adds (binder q at s k) _ = tt
step-adds (slash q at w s k) (backslash sl) = simp (append_assoc, append-nil)
step-adds (slash q at w s k) _ = tt
step-adds (term_want cs tk b) (name n) = simp append_assoc
step-adds (term_want cs tk b) (variable n) = simp append_assoc
step-adds (term_want cs tk b) (any at) = simp append_assoc
step-adds (term_want cs tk b) (number n at) = simp append_assoc
step-adds (term_want cs tk b) (paren_left at) = simp (append_assoc, append-nil)
step-adds (term_want cs tk b) _ = tt
step-adds (term_whole a cs tk b) (cons_sign at) = simp append_assoc
step-adds (term_whole a cs tk b) (paren_right end) = term-closed-adds tk b (fold_cells cs (of_app a)) end ∙ simp (cells-folded cs (of_app a), append_assoc)
step-adds (term_whole a cs tk b) (name n) = app-adds a (simple_word (lower n)) (name n) cs tk b refl
step-adds (term_whole a cs tk b) (variable n) = app-adds a (simple_word (upper n)) (variable n) cs tk b refl
step-adds (term_whole a cs tk b) (any at) = app-adds a (simple_any at) (any at) cs tk b refl
step-adds (term_whole a cs tk b) (number n at) = app-adds a (simple_number n at) (number n at) cs tk b refl
step-adds (term_whole a cs tk b) (paren_left at) = app-opens a at cs tk b
step-adds (term_whole a cs tk b) _ = tt
step-adds (led l s k) t = lead-adds l s k t
step-adds (lead_want h s k) (name n) = lead-item-adds h (plain_word (lower n)) (name n) s k refl
step-adds (lead_want h s k) (variable n) = lead-item-adds h (plain_word (upper n)) (variable n) s k refl
step-adds (lead_want h s k) (any at) = lead-item-adds h (plain_any at) (any at) s k refl
step-adds (lead_want h s k) (number n at) = lead-item-adds h (plain_number n at) (number n at) s k refl
step-adds (lead_want h s k) (paren_left at) = simp (append_assoc, append-nil)
step-adds (lead_want h s k) _ = tt
step-adds (expr_want h a s k) (name n) = item-adds h a (plain_word (lower n)) (name n) s k refl
step-adds (expr_want h a s k) (variable n) = item-adds h a (plain_word (upper n)) (variable n) s k refl
step-adds (expr_want h a s k) (any at) = item-adds h a (plain_any at) (any at) s k refl
step-adds (expr_want h a s k) (number n at) = item-adds h a (plain_number n at) (number n at) s k refl
step-adds (expr_want h a s k) (paren_left at) = simp (append_assoc, append-nil)
step-adds (expr_want h a s k) _ = tt
step-adds (expr_whole e i s k) (star_sign at) = simp (star-tokens e at, append_assoc)
step-adds (expr_whole e i s k) (plus_sign at) = simp append_assoc
step-adds (expr_whole e i s k) (minus_sign at) = simp append_assoc
step-adds (expr_whole e i s k) (paren_right end) = inside-adds e i end s k
step-adds (expr_whole e i s k) _ = tt
