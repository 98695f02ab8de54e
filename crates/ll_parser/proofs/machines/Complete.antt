-- Each parse tree of a formula is found again from its tokens.
use Rattle.std.proofs.Common.{◌≡◌, Bool, false, List, [], ◌∷◌, ◌++◌, Option, Some, None, option_and_then, refl, sym, ◌∙◌, ap, append_assoc, append-nil}
use Rattle.ll_lexer.specs.declared.Place.{Place}
use Rattle.ll_parser.specs.Tokens.{Identifier, Tok, name, comma, ampersand, semicolon, paren_right, brace_right, cons_sign, right_arrow, lolli, load_arrow}
use Rattle.ll_parser.specs.Tokens.{is_sign, star_sign}
use Rattle.ll_parser.specs.declared.Quantifier.TheVariants as quantifier
use Rattle.ll_parser.specs.Grammar.{Word, lower, upper, Term, of_app, cons, App, applied, app_any, app_number, app_bracket, Simple, simple_word, simple_any}
use Rattle.ll_parser.specs.Grammar.{simple_number, simple_bracket, Simples, no_more, and_then, ClauseOp, by_colon, by_left, by_lolli, by_right, Formula}
use Rattle.ll_parser.specs.Grammar.{of_arrow, clause, Arrow, of_sum, implies, loads, Sum, of_with, plus, With, of_tensor, with, Tensor, of_primary, times}
use Rattle.ll_parser.specs.Grammar.{Primary, truly, erased, bracket, brace, quantified, atom, word_token, clause_token, term_tokens, app_tokens, simple_tokens}
use Rattle.ll_parser.specs.Grammar.{simples_tokens, formula_tokens, arrow_tokens, sum_tokens, with_tokens, tensor_tokens, primary_tokens, SumOp, by_plus}
use Rattle.ll_parser.specs.Grammar.{by_minus, TestOp, by_less, by_most, Plain, plain_word, plain_any, plain_number, Expr, of_product, adds, Product, of_item}
use Rattle.ll_parser.specs.Grammar.{multiplies, Item, item_plain, item_bracket, First, first_plain, first_times, Lead, of_first, lead_adds, valued, tested}
use Rattle.ll_parser.specs.Grammar.{plain_token, add_token, test_token, expr_tokens, product_tokens, item_tokens, first_tokens, lead_tokens}
use Rattle.ll_parser.proofs.machines.Machine.{Factor, factor, Share, share, Part, part, Left, implying, loading, Before, nothing, after_clause, Scope, scope}
use Rattle.ll_parser.proofs.machines.Machine.{fresh, Frame, in_bracket, in_brace, in_quantifier, Cell, cell, TermFrame, in_argument, in_group, Base, base}
use Rattle.ll_parser.proofs.machines.Machine.{State, want, whole, term_want, term_whole, fold_factors, fold_shares, fold_parts, fold_lefts, fold_before}
use Rattle.ll_parser.proofs.machines.Machine.{up_to_with, up_to_sum, up_to_formula, fold_cells, Shut, shut, shut_whole, shut_right, shut_brace, Closed, closed}
use Rattle.ll_parser.proofs.machines.Machine.{shut_end, term_closed, parse, start, Hole, first_hole, times_hole, sum_hole, both_hole, LeadHole, lead_times}
use Rattle.ll_parser.proofs.machines.Machine.{lead_sum, lead_both, value_of, test_of, Around, on_right, within, in_lead, in_item, led, lead_want, expr_want}
use Rattle.ll_parser.proofs.machines.Machine.{fill, fill_lead, star_hole, star_lead, settled}

-- ---- terms

mutual
  term-run : (t : Term) (cs : List Cell) (tk : List TermFrame) (b : Base) (end : Place) (ts : List Tok)
      → parse (term_want cs tk b) (term_tokens t ++ paren_right end ∷ ts) ≡ parse (term_closed tk b (fold_cells cs t) end) ts
  term-run (of_app a) cs tk b end ts = app-run a cs tk b (paren_right end ∷ ts)
  term-run (cons a at t) cs tk b end ts =
      ap (parse (term_want cs tk b)) (append_assoc (app_tokens a) (cons_sign at ∷ term_tokens t) (paren_right end ∷ ts))
      ∙ app-run a cs tk b (cons_sign at ∷ (term_tokens t ++ paren_right end ∷ ts))
      ∙ term-run t (cell a at ∷ cs) tk b end ts

  app-run : (a : App) (cs : List Cell) (tk : List TermFrame) (b : Base) (ts : List Tok)
      → parse (term_want cs tk b) (app_tokens a ++ ts) ≡ parse (term_whole a cs tk b) ts
  app-run (applied (lower n) ss) cs tk b ts = simples-run ss (lower n) cs tk b ts
  app-run (applied (upper n) ss) cs tk b ts = simples-run ss (upper n) cs tk b ts
  app-run (app_any at) cs tk b ts = refl
  app-run (app_number n at) cs tk b ts = refl
  app-run (app_bracket at t end) cs tk b ts =
      ap (parse (term_want [] (in_group at cs ∷ tk) b)) (append_assoc (term_tokens t) (paren_right end ∷ []) ts)
      ∙ term-run t [] (in_group at cs ∷ tk) b end ts

  simples-run : (ss : Simples) (w : Word) (cs : List Cell) (tk : List TermFrame) (b : Base) (ts : List Tok)
      → parse (term_whole (applied w no_more) cs tk b) (simples_tokens ss ++ ts) ≡ parse (term_whole (applied w ss) cs tk b) ts
  simples-run no_more w cs tk b ts = refl
  simples-run (and_then ss s) w cs tk b ts =
      ap (parse (term_whole (applied w no_more) cs tk b)) (append_assoc (simples_tokens ss) (simple_tokens s) ts)
      ∙ simples-run ss w cs tk b (simple_tokens s ++ ts)
      ∙ simple-run s w ss cs tk b ts

  simple-run : (s : Simple) (w : Word) (ss : Simples) (cs : List Cell) (tk : List TermFrame) (b : Base) (ts : List Tok)
      → parse (term_whole (applied w ss) cs tk b) (simple_tokens s ++ ts) ≡ parse (term_whole (applied w (and_then ss s)) cs tk b) ts
  simple-run (simple_word (lower n)) w ss cs tk b ts = refl
  simple-run (simple_word (upper n)) w ss cs tk b ts = refl
  simple-run (simple_any at) w ss cs tk b ts = refl
  simple-run (simple_number n at) w ss cs tk b ts = refl
  simple-run (simple_bracket at t end) w ss cs tk b ts =
      ap (parse (term_want [] (in_argument at w ss cs ∷ tk) b)) (append_assoc (term_tokens t) (paren_right end ∷ []) ts)
      ∙ term-run t [] (in_argument at w ss cs ∷ tk) b end ts

-- the arguments of an atom
argument-run : (x : Simple) (w : Word) (ss : Simples) (s : Scope) (k : List Frame) (ts : List Tok)
    → parse (whole (atom w ss) s k) (simple_tokens x ++ ts) ≡ parse (whole (atom w (and_then ss x)) s k) ts
argument-run (simple_word (lower n)) w ss s k ts = refl
argument-run (simple_word (upper n)) w ss s k ts = refl
argument-run (simple_any at) w ss s k ts = refl
argument-run (simple_number n at) w ss s k ts = refl
argument-run (simple_bracket at t end) w ss s k ts =
    ap (parse (term_want [] [] (base at w ss s k))) (append_assoc (term_tokens t) (paren_right end ∷ []) ts)
    ∙ term-run t [] [] (base at w ss s k) end ts

arguments-run : (ss : Simples) (w : Word) (s : Scope) (k : List Frame) (ts : List Tok)
    → parse (whole (atom w no_more) s k) (simples_tokens ss ++ ts) ≡ parse (whole (atom w ss) s k) ts
arguments-run no_more w s k ts = refl
arguments-run (and_then ss x) w s k ts =
    ap (parse (whole (atom w no_more) s k)) (append_assoc (simples_tokens ss) (simple_tokens x) ts)
    ∙ arguments-run ss w s k (simple_tokens x ++ ts)
    ∙ argument-run x w ss s k ts

atom-run : (w : Word) (ss : Simples) (s : Scope) (k : List Frame) (ts : List Tok)
    → parse (want s k) (word_token w ∷ (simples_tokens ss ++ ts)) ≡ parse (whole (atom w ss) s k) ts
atom-run (lower n) ss s k ts = arguments-run ss (lower n) s k ts
atom-run (upper n) ss s k ts = arguments-run ss (upper n) s k ts

-- ---- expressions

-- behind a left side: an atom without arguments is one too
abbrev pub led_state : Lead → Scope → List Frame → State
led_state (of_first (first_plain (plain_word w))) s k = whole (atom w no_more) s k
led_state l s k = led l s k

-- the part of an expression in front of a product
data Front : Type 0 where
  no_front : Front
  front : Expr → SumOp → Place → Front

abbrev hole_behind : Front → Hole
hole_behind no_front = first_hole
hole_behind (front e o at) = sum_hole e o at

abbrev with_product : Front → Product → Expr
with_product no_front p = of_product p
with_product (front e o at) p = adds e o at p

star-step : (e : Expr) (at : Place) (a : Around) (s : Scope) (k : List Frame) (ts : List Tok) → parse (settled e a s k) (star_sign at ∷ ts)
    ≡ parse (expr_want (star_hole e at) a s k) ts
star-step e at (on_right (value_of x b)) s k ts = refl
star-step e at (on_right (test_of l c b)) s k ts = refl
star-step e at (within i) s k ts = refl

add-step : (e : Expr) (o : SumOp) (at : Place) (a : Around) (s : Scope) (k : List Frame) (ts : List Tok)
    → parse (settled e a s k) (add_token o at ∷ ts) ≡ parse (expr_want (sum_hole e o at) a s k) ts
add-step e by_plus at (on_right (value_of x b)) s k ts = refl
add-step e by_plus at (on_right (test_of l c b)) s k ts = refl
add-step e by_plus at (within i) s k ts = refl
add-step e by_minus at (on_right (value_of x b)) s k ts = refl
add-step e by_minus at (on_right (test_of l c b)) s k ts = refl
add-step e by_minus at (within i) s k ts = refl

mutual
  item-run : (x : Item) (h : Hole) (a : Around) (s : Scope) (k : List Frame) (ts : List Tok) → parse (expr_want h a s k) (item_tokens x ++ ts)
      ≡ parse (settled (fill h x) a s k) ts
  item-run (item_plain (plain_word (lower n))) h a s k ts = refl
  item-run (item_plain (plain_word (upper n))) h a s k ts = refl
  item-run (item_plain (plain_any at)) h a s k ts = refl
  item-run (item_plain (plain_number n at)) h a s k ts = refl
  item-run (item_bracket at e end) h a s k ts =
      ap (parse (expr_want first_hole (within (in_item at h a)) s k)) (append_assoc (expr_tokens e) (paren_right end ∷ []) ts)
      ∙ expr-run e (within (in_item at h a)) s k (paren_right end ∷ ts)

  product-run : (p : Product) (c : Front) (a : Around) (s : Scope) (k : List Frame) (ts : List Tok)
      → parse (expr_want (hole_behind c) a s k) (product_tokens p ++ ts) ≡ parse (settled (with_product c p) a s k) ts
  product-run (of_item x) no_front a s k ts = item-run x first_hole a s k ts
  product-run (of_item x) (front e o b) a s k ts = item-run x (sum_hole e o b) a s k ts
  product-run (multiplies p at x) no_front a s k ts =
      ap (parse (expr_want first_hole a s k)) (append_assoc (product_tokens p) (star_sign at ∷ item_tokens x) ts)
      ∙ product-run p no_front a s k (star_sign at ∷ (item_tokens x ++ ts)) ∙ star-step (of_product p) at a s k (item_tokens x ++ ts)
      ∙ item-run x (times_hole p at) a s k ts
  product-run (multiplies p at x) (front e o b) a s k ts =
      ap (parse (expr_want (sum_hole e o b) a s k)) (append_assoc (product_tokens p) (star_sign at ∷ item_tokens x) ts)
      ∙ product-run p (front e o b) a s k (star_sign at ∷ (item_tokens x ++ ts)) ∙ star-step (adds e o b p) at a s k (item_tokens x ++ ts)
      ∙ item-run x (both_hole e o b p at) a s k ts

  expr-run : (e : Expr) (a : Around) (s : Scope) (k : List Frame) (ts : List Tok) → parse (expr_want first_hole a s k) (expr_tokens e ++ ts)
      ≡ parse (settled e a s k) ts
  expr-run (of_product p) a s k ts = product-run p no_front a s k ts
  expr-run (adds e o at p) a s k ts =
      ap (parse (expr_want first_hole a s k)) (append_assoc (expr_tokens e) (add_token o at ∷ product_tokens p) ts)
      ∙ expr-run e a s k (add_token o at ∷ (product_tokens p ++ ts)) ∙ add-step e o at a s k (product_tokens p ++ ts) ∙ product-run p (front e o at) a s k ts

-- ---- the left side of a comparison

plain-run : (x : Plain) (s : Scope) (k : List Frame) (ts : List Tok) → parse (want s k) (plain_token x ∷ ts)
    ≡ parse (led_state (of_first (first_plain x)) s k) ts
plain-run (plain_word (lower n)) s k ts = refl
plain-run (plain_word (upper n)) s k ts = refl
plain-run (plain_any at) s k ts = refl
plain-run (plain_number n at) s k ts = refl

is-led : (x : Plain) (at : Place) (s : Scope) (k : List Frame) (ts : List Tok) → parse (led_state (of_first (first_plain x)) s k) (is_sign at ∷ ts)
    ≡ parse (expr_want first_hole (on_right (value_of x at)) s k) ts
is-led (plain_word w) at s k ts = refl
is-led (plain_any b) at s k ts = refl
is-led (plain_number n b) at s k ts = refl

star-led : (l : Lead) (at : Place) (s : Scope) (k : List Frame) (ts : List Tok) → parse (led_state l s k) (star_sign at ∷ ts)
    ≡ parse (lead_want (star_lead l at) s k) ts
star-led (of_first (first_plain (plain_word w))) at s k ts = refl
star-led (of_first (first_plain (plain_any b))) at s k ts = refl
star-led (of_first (first_plain (plain_number n b))) at s k ts = refl
star-led (of_first (first_times f b x)) at s k ts = refl
star-led (lead_adds l o b p) at s k ts = refl

add-led : (l : Lead) (o : SumOp) (at : Place) (s : Scope) (k : List Frame) (ts : List Tok) → parse (led_state l s k) (add_token o at ∷ ts)
    ≡ parse (lead_want (lead_sum l o at) s k) ts
add-led (of_first (first_plain (plain_word w))) by_plus at s k ts = refl
add-led (of_first (first_plain (plain_any b))) by_plus at s k ts = refl
add-led (of_first (first_plain (plain_number n b))) by_plus at s k ts = refl
add-led (of_first (first_times f b x)) by_plus at s k ts = refl
add-led (lead_adds l o b p) by_plus at s k ts = refl
add-led (of_first (first_plain (plain_word w))) by_minus at s k ts = refl
add-led (of_first (first_plain (plain_any b))) by_minus at s k ts = refl
add-led (of_first (first_plain (plain_number n b))) by_minus at s k ts = refl
add-led (of_first (first_times f b x)) by_minus at s k ts = refl
add-led (lead_adds l o b p) by_minus at s k ts = refl

test-led : (l : Lead) (c : TestOp) (at : Place) (s : Scope) (k : List Frame) (ts : List Tok) → parse (led_state l s k) (test_token c at ∷ ts)
    ≡ parse (expr_want first_hole (on_right (test_of l c at)) s k) ts
test-led (of_first (first_plain (plain_word w))) by_less at s k ts = refl
test-led (of_first (first_plain (plain_any b))) by_less at s k ts = refl
test-led (of_first (first_plain (plain_number n b))) by_less at s k ts = refl
test-led (of_first (first_times f b x)) by_less at s k ts = refl
test-led (lead_adds l o b p) by_less at s k ts = refl
test-led (of_first (first_plain (plain_word w))) by_most at s k ts = refl
test-led (of_first (first_plain (plain_any b))) by_most at s k ts = refl
test-led (of_first (first_plain (plain_number n b))) by_most at s k ts = refl
test-led (of_first (first_times f b x)) by_most at s k ts = refl
test-led (lead_adds l o b p) by_most at s k ts = refl

lead-item-run : (x : Item) (h : LeadHole) (s : Scope) (k : List Frame) (ts : List Tok) → parse (lead_want h s k) (item_tokens x ++ ts)
    ≡ parse (led (fill_lead h x) s k) ts
lead-item-run (item_plain (plain_word (lower n))) h s k ts = refl
lead-item-run (item_plain (plain_word (upper n))) h s k ts = refl
lead-item-run (item_plain (plain_any at)) h s k ts = refl
lead-item-run (item_plain (plain_number n at)) h s k ts = refl
lead-item-run (item_bracket at e end) h s k ts =
    ap (parse (expr_want first_hole (within (in_lead at h)) s k)) (append_assoc (expr_tokens e) (paren_right end ∷ []) ts)
    ∙ expr-run e (within (in_lead at h)) s k (paren_right end ∷ ts)

lead-product-run : (p : Product) (l : Lead) (o : SumOp) (at : Place) (s : Scope) (k : List Frame) (ts : List Tok)
    → parse (lead_want (lead_sum l o at) s k) (product_tokens p ++ ts) ≡ parse (led (lead_adds l o at p) s k) ts
lead-product-run (of_item x) l o at s k ts = lead-item-run x (lead_sum l o at) s k ts
lead-product-run (multiplies p b x) l o at s k ts =
    ap (parse (lead_want (lead_sum l o at) s k)) (append_assoc (product_tokens p) (star_sign b ∷ item_tokens x) ts)
    ∙ lead-product-run p l o at s k (star_sign b ∷ (item_tokens x ++ ts)) ∙ lead-item-run x (lead_both l o at p b) s k ts

first-run : (f : First) (s : Scope) (k : List Frame) (ts : List Tok) → parse (want s k) (first_tokens f ++ ts) ≡ parse (led_state (of_first f) s k) ts
first-run (first_plain x) s k ts = plain-run x s k ts
first-run (first_times f at x) s k ts =
    ap (parse (want s k)) (append_assoc (first_tokens f) (star_sign at ∷ item_tokens x) ts)
    ∙ first-run f s k (star_sign at ∷ (item_tokens x ++ ts)) ∙ star-led (of_first f) at s k (item_tokens x ++ ts) ∙ lead-item-run x (lead_times f at) s k ts

lead-run : (l : Lead) (s : Scope) (k : List Frame) (ts : List Tok) → parse (want s k) (lead_tokens l ++ ts) ≡ parse (led_state l s k) ts
lead-run (of_first f) s k ts = first-run f s k ts
lead-run (lead_adds l o at p) s k ts =
    ap (parse (want s k)) (append_assoc (lead_tokens l) (add_token o at ∷ product_tokens p) ts)
    ∙ lead-run l s k (add_token o at ∷ (product_tokens p ++ ts)) ∙ add-led l o at s k (product_tokens p ++ ts) ∙ lead-product-run p l o at s k ts

-- whole-number goals
valued-run : (x : Plain) (at : Place) (e : Expr) (s : Scope) (k : List Frame) (ts : List Tok)
    → parse (want s k) (plain_token x ∷ is_sign at ∷ (expr_tokens e ++ ts)) ≡ parse (whole (valued x at e) s k) ts
valued-run x at e s k ts =
    plain-run x s k (is_sign at ∷ (expr_tokens e ++ ts)) ∙ is-led x at s k (expr_tokens e ++ ts) ∙ expr-run e (on_right (value_of x at)) s k ts

tested-run : (l : Lead) (c : TestOp) (at : Place) (e : Expr) (s : Scope) (k : List Frame) (ts : List Tok)
    → parse (want s k) ((lead_tokens l ++ test_token c at ∷ expr_tokens e) ++ ts) ≡ parse (whole (tested l c at e) s k) ts
tested-run l c at e s k ts =
    ap (parse (want s k)) (append_assoc (lead_tokens l) (test_token c at ∷ expr_tokens e) ts)
    ∙ lead-run l s k (test_token c at ∷ (expr_tokens e ++ ts)) ∙ test-led l c at s k (expr_tokens e ++ ts) ∙ expr-run e (on_right (test_of l c at)) s k ts

-- ---- what closes a formula

pub data Closes : List Tok → Type 0 where
  at_end : Closes []
  at_right : (end : Place) (ts : List Tok) → Closes (paren_right end ∷ ts)
  at_brace_right : (end : Place) (ts : List Tok) → Closes (brace_right end ∷ ts)

abbrev pub shut_step : Shut → Tok → Option State
shut_step h (paren_right end) = shut_right h end
shut_step h (brace_right end) = shut_brace h end
shut_step h _ = None

abbrev pub resume : Shut → List Tok → Option Closed
resume h [] = shut_end h
resume h (t ∷ ts) = option_and_then (λ next. parse next ts) (shut_step h t)

pub whole-closes : (p : Primary false) (s : Scope) (k : List Frame) (ts : List Tok) → Closes ts → parse (whole p s k) ts ≡ resume (shut_whole p s k) ts
whole-closes p s k [] at_end = refl
whole-closes p s k (t ∷ us) (at_right end ts) = refl
whole-closes p s k (t ∷ us) (at_brace_right end ts) = refl

-- ---- what reading a form with nothing open at its end leaves

pub record TensorEnds (t : Tensor false) (b : Before) (ls : List Left) (ws : List Part) (qs : List Share) (ps : List Factor) (k : List Frame) : Type 0 where
  pub last : Primary false
  pub factors : List Factor
  pub folded : fold_factors factors (of_primary last) ≡ fold_factors ps t
  pub runs : (ts : List Tok) → parse (want (scope b ls ws qs ps) k) (tensor_tokens t ++ ts) ≡ parse (whole last (scope b ls ws qs factors) k) ts

pub record WithEnds (w : With false) (b : Before) (ls : List Left) (ws : List Part) (qs : List Share) (k : List Frame) : Type 0 where
  pub last : Primary false
  pub factors : List Factor
  pub shares : List Share
  pub folded : up_to_with shares factors last ≡ fold_shares qs w
  pub runs : (ts : List Tok) → parse (want (scope b ls ws qs []) k) (with_tokens w ++ ts) ≡ parse (whole last (scope b ls ws shares factors) k) ts

pub record SumEnds (s : Sum false) (b : Before) (ls : List Left) (ws : List Part) (k : List Frame) : Type 0 where
  pub last : Primary false
  pub factors : List Factor
  pub shares : List Share
  pub parts : List Part
  pub folded : up_to_sum parts shares factors last ≡ fold_parts ws s
  pub runs : (ts : List Tok) → parse (want (scope b ls ws [] []) k) (sum_tokens s ++ ts) ≡ parse (whole last (scope b ls parts shares factors) k) ts

pub record ArrowEnds (a : Arrow false) (b : Before) (ls : List Left) (k : List Frame) : Type 0 where
  pub last : Primary false
  pub factors : List Factor
  pub shares : List Share
  pub parts : List Part
  pub lefts : List Left
  pub folded : fold_lefts lefts (of_sum (up_to_sum parts shares factors last)) ≡ fold_lefts ls a
  pub runs : (ts : List Tok) → parse (want (scope b ls [] [] []) k) (arrow_tokens a ++ ts) ≡ parse (whole last (scope b lefts parts shares factors) k) ts

pub record FormulaEnds (f : Formula false) (k : List Frame) : Type 0 where
  pub last : Primary false
  pub before : Before
  pub factors : List Factor
  pub shares : List Share
  pub parts : List Part
  pub lefts : List Left
  pub folded : up_to_formula (scope before lefts parts shares factors) last ≡ f
  pub runs : (ts : List Tok) → parse (want fresh k) (formula_tokens f ++ ts) ≡ parse (whole last (scope before lefts parts shares factors) k) ts

clause-step : (p : Primary false) (s : Scope) (c : ClauseOp) (at : Place) (k : List Frame) (ts : List Tok)
    → parse (whole p s k) (clause_token c at ∷ ts) ≡ parse (want (scope (after_clause (up_to_formula s p) c at) [] [] [] []) k) ts
clause-step p s by_colon at k ts = refl
clause-step p s by_left at k ts = refl

load-run : (n : Identifier) (ss : Simples) (at : Place) (xs : List Tok) (b : Before) (ls : List Left) (k : List Frame) (ts : List Tok)
    → parse (want (scope b ls [] [] []) k) ((name n ∷ (simples_tokens ss ++ load_arrow at ∷ xs)) ++ ts)
    ≡ parse (want (scope b (loading n ss at ∷ ls) [] [] []) k) (xs ++ ts)
load-run n ss at xs b ls k ts =
    ap (parse (whole (atom (lower n) no_more) (scope b ls [] [] []) k)) (append_assoc (simples_tokens ss) (load_arrow at ∷ xs) ts)
    ∙ arguments-run ss (lower n) (scope b ls [] [] []) k (load_arrow at ∷ (xs ++ ts))

mutual
  primary-run : (p : Primary false) (s : Scope) (k : List Frame) (ts : List Tok) → parse (want s k) (primary_tokens p ++ ts) ≡ parse (whole p s k) ts
  primary-run (truly at) s k ts = refl
  primary-run (erased at) s k ts = refl
  primary-run (bracket at f end) s k ts =
      ap (parse (want fresh (in_bracket at s ∷ k))) (append_assoc (formula_tokens f) (paren_right end ∷ []) ts)
      ∙ formula-closes f (in_bracket at s ∷ k) (paren_right end ∷ ts) (at_right end ts)
  primary-run (brace at f end) s k ts =
      ap (parse (want fresh (in_brace at s ∷ k))) (append_assoc (formula_tokens f) (brace_right end ∷ []) ts)
      ∙ formula-closes f (in_brace at s ∷ k) (brace_right end ∷ ts) (at_brace_right end ts)
  primary-run (atom w ss) s k ts = atom-run w ss s k ts
  primary-run (valued x at e) s k ts = valued-run x at e s k ts
  primary-run (tested l c at e) s k ts = tested-run l c at e s k ts

  tensor-ends : (t : Tensor false) (b : Before) (ls : List Left) (ws : List Part) (qs : List Share) (ps : List Factor) (k : List Frame)
      → TensorEnds t b ls ws qs ps k
  tensor-ends (of_primary p) b ls ws qs ps k = record { last = p; factors = ps; folded = refl; runs = λ ts. primary-run p (scope b ls ws qs ps) k ts }
  tensor-ends (times p at t) b ls ws qs ps k =
      let e = tensor-ends t b ls ws qs (factor p at ∷ ps) k in
      record {
        last = e.last;
        factors = e.factors;
        folded = e.folded;
        runs = λ ts. ap (parse (want (scope b ls ws qs ps) k)) (append_assoc (primary_tokens p) (comma at ∷ tensor_tokens t) ts)
            ∙ primary-run p (scope b ls ws qs ps) k (comma at ∷ (tensor_tokens t ++ ts)) ∙ e.runs ts;
      }

  with-ends : (w : With false) (b : Before) (ls : List Left) (ws : List Part) (qs : List Share) (k : List Frame) → WithEnds w b ls ws qs k
  with-ends (of_tensor t) b ls ws qs k =
      let e = tensor-ends t b ls ws qs [] k in
      record { last = e.last; factors = e.factors; shares = qs; folded = ap (λ x. fold_shares qs (of_tensor x)) e.folded; runs = e.runs }
  with-ends (with t at w) b ls ws qs k =
      let e = tensor-ends t b ls ws qs [] k in
      let g = with-ends w b ls ws (share t at ∷ qs) k in
      record {
        last = g.last;
        factors = g.factors;
        shares = g.shares;
        folded = g.folded;
        runs = λ ts. ap (parse (want (scope b ls ws qs []) k)) (append_assoc (tensor_tokens t) (ampersand at ∷ with_tokens w) ts)
            ∙ e.runs (ampersand at ∷ (with_tokens w ++ ts)) ∙ ap (λ x. parse (want (scope b ls ws (share x at ∷ qs) []) k) (with_tokens w ++ ts)) e.folded
            ∙ g.runs ts;
      }

  sum-ends : (s : Sum false) (b : Before) (ls : List Left) (ws : List Part) (k : List Frame) → SumEnds s b ls ws k
  sum-ends (of_with w) b ls ws k =
      let e = with-ends w b ls ws [] k in
      record { last = e.last; factors = e.factors; shares = e.shares; parts = ws; folded = ap (λ x. fold_parts ws (of_with x)) e.folded; runs = e.runs }
  sum-ends (plus w at s) b ls ws k =
      let e = with-ends w b ls ws [] k in
      let g = sum-ends s b ls (part w at ∷ ws) k in
      record {
        last = g.last;
        factors = g.factors;
        shares = g.shares;
        parts = g.parts;
        folded = g.folded;
        runs = λ ts. ap (parse (want (scope b ls ws [] []) k)) (append_assoc (with_tokens w) (semicolon at ∷ sum_tokens s) ts)
            ∙ e.runs (semicolon at ∷ (sum_tokens s ++ ts)) ∙ ap (λ x. parse (want (scope b ls (part x at ∷ ws) [] []) k) (sum_tokens s ++ ts)) e.folded
            ∙ g.runs ts;
      }

  arrow-ends : (a : Arrow false) (b : Before) (ls : List Left) (k : List Frame) → ArrowEnds a b ls k
  arrow-ends (of_sum s) b ls k =
      let e = sum-ends s b ls [] k in
      record {
        last = e.last;
        factors = e.factors;
        shares = e.shares;
        parts = e.parts;
        lefts = ls;
        folded = ap (λ x. fold_lefts ls (of_sum x)) e.folded;
        runs =
            e.runs;
      }
  arrow-ends (implies s by_lolli at a) b ls k =
      let e = sum-ends s b ls [] k in
      let g = arrow-ends a b (implying s by_lolli at ∷ ls) k in
      record {
        last = g.last;
        factors = g.factors;
        shares = g.shares;
        parts = g.parts;
        lefts = g.lefts;
        folded = g.folded;
        runs = λ ts. ap (parse (want (scope b ls [] [] []) k)) (append_assoc (sum_tokens s) (lolli at ∷ arrow_tokens a) ts)
            ∙ e.runs (lolli at ∷ (arrow_tokens a ++ ts)) ∙ ap (λ x. parse (want (scope b (implying x by_lolli at ∷ ls) [] [] []) k) (arrow_tokens a ++ ts))
            e.folded ∙ g.runs ts;
      }
  arrow-ends (implies s by_right at a) b ls k =
      let e = sum-ends s b ls [] k in
      let g = arrow-ends a b (implying s by_right at ∷ ls) k in
      record {
        last = g.last;
        factors = g.factors;
        shares = g.shares;
        parts = g.parts;
        lefts = g.lefts;
        folded = g.folded;
        runs = λ ts. ap (parse (want (scope b ls [] [] []) k)) (append_assoc (sum_tokens s) (right_arrow at ∷ arrow_tokens a) ts)
            ∙ e.runs (right_arrow at ∷ (arrow_tokens a ++ ts))
            ∙ ap (λ x. parse (want (scope b (implying x by_right at ∷ ls) [] [] []) k) (arrow_tokens a ++ ts)) e.folded ∙ g.runs ts;
      }
  arrow-ends (loads n ss at a) b ls k =
      let g = arrow-ends a b (loading n ss at ∷ ls) k in
      record {
        last = g.last;
        factors = g.factors;
        shares = g.shares;
        parts = g.parts;
        lefts = g.lefts;
        folded = g.folded;
        runs =
            λ ts. load-run n ss at (arrow_tokens a) b ls k ts ∙ g.runs ts;
      }

  formula-ends : (f : Formula false) (k : List Frame) → FormulaEnds f k
  formula-ends (of_arrow a) k =
      let g = arrow-ends a nothing [] k in
      record {
        last = g.last;
        before = nothing;
        factors = g.factors;
        shares = g.shares;
        parts = g.parts;
        lefts = g.lefts;
        folded = ap of_arrow g.folded;
        runs =
            g.runs;
      }
  formula-ends (clause f c at a) k =
      let e = formula-ends f k in
      let g = arrow-ends a (after_clause f c at) [] k in
      record {
        last = g.last;
        before = after_clause f c at;
        factors = g.factors;
        shares = g.shares;
        parts = g.parts;
        lefts = g.lefts;
        folded = ap (clause f c at) g.folded;
        runs = λ ts. ap (parse (want fresh k)) (append_assoc (formula_tokens f) (clause_token c at ∷ arrow_tokens a) ts)
            ∙ e.runs (clause_token c at ∷ (arrow_tokens a ++ ts))
            ∙ clause-step e.last (scope e.before e.lefts e.parts e.shares e.factors) c at k (arrow_tokens a ++ ts)
            ∙ ap (λ x. parse (want (scope (after_clause x c at) [] [] [] []) k) (arrow_tokens a ++ ts)) e.folded ∙ g.runs ts;
      }

  primary-closes : {o : Bool} (p : Primary o) (s : Scope) (k : List Frame) (ts : List Tok) → Closes ts
      → parse (want s k) (primary_tokens p ++ ts) ≡ resume (shut k (up_to_formula s p)) ts
  primary-closes (truly at) s k ts c = whole-closes (truly at) s k ts c
  primary-closes (erased at) s k ts c = whole-closes (erased at) s k ts c
  primary-closes (bracket at f end) s k ts c =
      ap (parse (want fresh (in_bracket at s ∷ k))) (append_assoc (formula_tokens f) (paren_right end ∷ []) ts)
      ∙ formula-closes f (in_bracket at s ∷ k) (paren_right end ∷ ts) (at_right end ts) ∙ whole-closes (bracket at f end) s k ts c
  primary-closes (brace at f end) s k ts c =
      ap (parse (want fresh (in_brace at s ∷ k))) (append_assoc (formula_tokens f) (brace_right end ∷ []) ts)
      ∙ formula-closes f (in_brace at s ∷ k) (brace_right end ∷ ts) (at_brace_right end ts) ∙ whole-closes (brace at f end) s k ts c
  primary-closes (quantified quantifier.Forall at (lower n) sl f) s k ts c = formula-closes f (in_quantifier quantifier.Forall at (lower n) sl s ∷ k) ts c
  primary-closes (quantified quantifier.Forall at (upper n) sl f) s k ts c = formula-closes f (in_quantifier quantifier.Forall at (upper n) sl s ∷ k) ts c
  primary-closes (quantified quantifier.Exists at (lower n) sl f) s k ts c = formula-closes f (in_quantifier quantifier.Exists at (lower n) sl s ∷ k) ts c
  primary-closes (quantified quantifier.Exists at (upper n) sl f) s k ts c = formula-closes f (in_quantifier quantifier.Exists at (upper n) sl s ∷ k) ts c
  primary-closes (atom w ss) s k ts c = atom-run w ss s k ts ∙ whole-closes (atom w ss) s k ts c
  primary-closes (valued x at e) s k ts c = valued-run x at e s k ts ∙ whole-closes (valued x at e) s k ts c
  primary-closes (tested l b at e) s k ts c = tested-run l b at e s k ts ∙ whole-closes (tested l b at e) s k ts c

  tensor-closes : {o : Bool} (t : Tensor o) (b : Before) (ls : List Left) (ws : List Part) (qs : List Share) (ps : List Factor) (k : List Frame) (ts : List Tok)
      → Closes ts → parse (want (scope b ls ws qs ps) k) (tensor_tokens t ++ ts)
      ≡ resume (shut k (fold_before b (fold_lefts ls (of_sum (fold_parts ws (of_with (fold_shares qs (of_tensor (fold_factors ps t))))))))) ts
  tensor-closes (of_primary p) b ls ws qs ps k ts c = primary-closes p (scope b ls ws qs ps) k ts c
  tensor-closes (times p at t) b ls ws qs ps k ts c =
      ap (parse (want (scope b ls ws qs ps) k)) (append_assoc (primary_tokens p) (comma at ∷ tensor_tokens t) ts)
      ∙ primary-run p (scope b ls ws qs ps) k (comma at ∷ (tensor_tokens t ++ ts)) ∙ tensor-closes t b ls ws qs (factor p at ∷ ps) k ts c

  with-closes : {o : Bool} (w : With o) (b : Before) (ls : List Left) (ws : List Part) (qs : List Share) (k : List Frame) (ts : List Tok) → Closes ts
      → parse (want (scope b ls ws qs []) k) (with_tokens w ++ ts)
      ≡ resume (shut k (fold_before b (fold_lefts ls (of_sum (fold_parts ws (of_with (fold_shares qs w))))))) ts
  with-closes (of_tensor t) b ls ws qs k ts c = tensor-closes t b ls ws qs [] k ts c
  with-closes (with t at w) b ls ws qs k ts c =
      let e = tensor-ends t b ls ws qs [] k in
      ap (parse (want (scope b ls ws qs []) k)) (append_assoc (tensor_tokens t) (ampersand at ∷ with_tokens w) ts)
      ∙ e.runs (ampersand at ∷ (with_tokens w ++ ts)) ∙ ap (λ x. parse (want (scope b ls ws (share x at ∷ qs) []) k) (with_tokens w ++ ts)) e.folded
      ∙ with-closes w b ls ws (share t at ∷ qs) k ts c

  sum-closes : {o : Bool} (s : Sum o) (b : Before) (ls : List Left) (ws : List Part) (k : List Frame) (ts : List Tok) → Closes ts
      → parse (want (scope b ls ws [] []) k) (sum_tokens s ++ ts) ≡ resume (shut k (fold_before b (fold_lefts ls (of_sum (fold_parts ws s))))) ts
  sum-closes (of_with w) b ls ws k ts c = with-closes w b ls ws [] k ts c
  sum-closes (plus w at s) b ls ws k ts c =
      let e = with-ends w b ls ws [] k in
      ap (parse (want (scope b ls ws [] []) k)) (append_assoc (with_tokens w) (semicolon at ∷ sum_tokens s) ts) ∙ e.runs (semicolon at ∷ (sum_tokens s ++ ts))
      ∙ ap (λ x. parse (want (scope b ls (part x at ∷ ws) [] []) k) (sum_tokens s ++ ts)) e.folded ∙ sum-closes s b ls (part w at ∷ ws) k ts c

  arrow-closes : {o : Bool} (a : Arrow o) (b : Before) (ls : List Left) (k : List Frame) (ts : List Tok) → Closes ts
      → parse (want (scope b ls [] [] []) k) (arrow_tokens a ++ ts) ≡ resume (shut k (fold_before b (fold_lefts ls a))) ts
  arrow-closes (of_sum s) b ls k ts c = sum-closes s b ls [] k ts c
  arrow-closes (implies s by_lolli at a) b ls k ts c =
      let e = sum-ends s b ls [] k in
      ap (parse (want (scope b ls [] [] []) k)) (append_assoc (sum_tokens s) (lolli at ∷ arrow_tokens a) ts) ∙ e.runs (lolli at ∷ (arrow_tokens a ++ ts))
      ∙ ap (λ x. parse (want (scope b (implying x by_lolli at ∷ ls) [] [] []) k) (arrow_tokens a ++ ts)) e.folded
      ∙ arrow-closes a b (implying s by_lolli at ∷ ls) k ts c
  arrow-closes (implies s by_right at a) b ls k ts c =
      let e = sum-ends s b ls [] k in
      ap (parse (want (scope b ls [] [] []) k)) (append_assoc (sum_tokens s) (right_arrow at ∷ arrow_tokens a) ts)
      ∙ e.runs (right_arrow at ∷ (arrow_tokens a ++ ts))
      ∙ ap (λ x. parse (want (scope b (implying x by_right at ∷ ls) [] [] []) k) (arrow_tokens a ++ ts)) e.folded
      ∙ arrow-closes a b (implying s by_right at ∷ ls) k ts c
  arrow-closes (loads n ss at a) b ls k ts c = load-run n ss at (arrow_tokens a) b ls k ts ∙ arrow-closes a b (loading n ss at ∷ ls) k ts c

  formula-closes : {o : Bool} (f : Formula o) (k : List Frame) (ts : List Tok) → Closes ts
      → parse (want fresh k) (formula_tokens f ++ ts) ≡ resume (shut k f) ts
  formula-closes (of_arrow a) k ts c = arrow-closes a nothing [] k ts c
  formula-closes (clause f x at a) k ts c =
      let e = formula-ends f k in
      ap (parse (want fresh k)) (append_assoc (formula_tokens f) (clause_token x at ∷ arrow_tokens a) ts) ∙ e.runs (clause_token x at ∷ (arrow_tokens a ++ ts))
      ∙ clause-step e.last (scope e.before e.lefts e.parts e.shares e.factors) x at k (arrow_tokens a ++ ts)
      ∙ ap (λ z. parse (want (scope (after_clause z x at) [] [] [] []) k) (arrow_tokens a ++ ts)) e.folded ∙ arrow-closes a (after_clause f x at) [] k ts c

-- each formula is found again from its tokens
pub found : {o : Bool} (f : Formula o) → parse start (formula_tokens f) ≡ Some (closed f)
found f = ap (parse start) (sym (append-nil (formula_tokens f))) ∙ formula-closes f [] [] at_end
