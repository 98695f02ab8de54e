-- The tokens of what is printed can stand in a text.
use Rattle.std.proofs.Common.{◌≡◌, ℕ, Bool, true, false, not, ◌||◌, ◌==◌, List, [], ◌∷◌, codes, inl, inr, refl, sym, subst, arith, ◌++◌}
use Rattle.std.specs.List.{list_all}
use Rattle.std.proofs.lemmas.Bool.Decides.{nat_tests}
use Rattle.ll_list_laws.proofs.CallerLemmas.{and_true_both as both, false_from_not}
use Rattle.ll_lexer.specs.declared.TokenKind.{TokenKind}
use Rattle.ll_lexer.specs.declared.TokenKind.TheVariants as kind
use Rattle.ll_lexer.specs.Spelling.{is_lower, is_upper, is_word_byte, is_name, is_variable, fixed_spellings, Spells}
use Rattle.ll_lexer.proofs.CallerLemmas.{kind-passes}
use Rattle.ll_parser.specs.declared.Op.TheVariants as op
use Rattle.ll_parser.specs.Tokens.{Identifier, Tok, comma, ampersand, semicolon, paren_right, brace_right, cons_sign, load_arrow, colon_dash, left_arrow}
use Rattle.ll_parser.specs.Tokens.{right_arrow, lolli, IsSpelled, is_sign, less_sign, most_sign, star_sign}
use Rattle.ll_parser.specs.Raw.{Raw, truth, erasure, braces, universal, existential, load, binary, head, anything, int, RawList, none, more, is_goal}
use Rattle.ll_parser.specs.Raw.{less_goal, most_goal}
use Rattle.ll_parser.specs.Grammar.{lower, upper, Term, of_app, cons, applied, app_any, app_number, app_bracket, Simples, no_more, and_then, word_token}
use Rattle.ll_parser.specs.Grammar.{term_tokens, app_tokens, simple_tokens, simples_tokens, formula_tokens, arrow_tokens, sum_tokens, with_tokens}
use Rattle.ll_parser.specs.Grammar.{tensor_tokens, primary_tokens, Plain, plain_word, plain_any, plain_number, Expr, of_product, adds, Product, of_item}
use Rattle.ll_parser.specs.Grammar.{multiplies, Item, item_plain, item_bracket, First, first_plain, first_times, Lead, of_first, lead_adds, by_plus, by_minus}
use Rattle.ll_parser.specs.Grammar.{plain_token, add_token, expr_tokens, product_tokens, item_tokens, first_tokens, lead_tokens, plain_raw, expr_raw}
use Rattle.ll_parser.specs.Grammar.{product_raw, item_raw, first_raw, lead_raw}
use Rattle.ll_parser.specs.Printed.{is_cons}
use Rattle.ll_parser.proofs.printing.PrintedTree.{somewhere, word_of, to_app, to_simple, pick, term_of, terms_of, simples_of, arguments_of, Any, at_formula}
use Rattle.ll_parser.proofs.printing.PrintedTree.{at_arrow, at_sum, at_with, at_tensor, at_primary, Last, last, to_formula, in_parens, to_arrow, to_sum}
use Rattle.ll_parser.proofs.printing.PrintedTree.{to_with, to_tensor, to_primary, last_formula, last_arrow, last_sum, last_with, last_tensor, followed, ending}
use Rattle.ll_parser.proofs.printing.PrintedTree.{plain_of, to_product, to_item, expr_of, to_first, lead_of}
use Rattle.ll_parser.proofs.printing.Printable.{IsLower, IsUpper, IsWord, HasShape, IsTerm, AreTerms, IsFormula, word-no-cons, Spelled, spelled-split}
use Rattle.ll_parser.proofs.printing.Printable.{spelled-join, IsPlainTerm, IsExpr, IsLead}
use Rattle.ll_lexer.specs.declared.Place.{Place}

-- ---- names and variables

-- a Name's spelling is that of a name, and a Variable's is not
abbrev name_test : List ℕ → TokenKind → Bool
name_test w kind.Name = is_name w
name_test w _ = true

name-shape : (w : List ℕ) → Spells kind.Name w → is_name w ≡ true
unfolding fixed_spellings
name-shape w s = kind-passes name_test w kind.Name refl record { names = λ v e. e; variables = λ v e. refl; numbers = λ v e. refl } s

abbrev variable_test : List ℕ → TokenKind → Bool
variable_test w kind.Variable = not (is_name w)
variable_test w _ = true

upper-no-lower : (b : ℕ) → is_upper b ≡ true → is_lower b ≡ false
unfolding is_lower is_upper
upper-no-lower b h = grind (arith, nat_tests)

bar-no-lower : (b : ℕ) → (is_upper b || b == 95) ≡ true → is_lower b ≡ false
unfolding is_lower is_upper
bar-no-lower b h = grind (arith, nat_tests)

variable-no-name : (w : List ℕ) → is_variable w ≡ true → not (is_name w) ≡ true
variable-no-name [] e = absurd cc
variable-no-name (b ∷ []) e = rw (upper-no-lower b e) refl
variable-no-name (b ∷ c ∷ bs) e = rw (bar-no-lower b (both (is_upper b || b == 95) (list_all is_word_byte (c ∷ bs)) e).0) refl

variable-shape : (w : List ℕ) → Spells kind.Variable w → is_name w ≡ false
unfolding fixed_spellings
variable-shape w s = false_from_not (is_name w) (kind-passes variable_test w kind.Variable refl record {
  names = λ v e. refl;
  variables = variable-no-name;
  numbers = λ v e. refl;
} s)

-- a Name is printed as a Name
pub lower-printed : (n : Identifier) → IsLower n → word_of n ≡ lower n
lower-printed n h = rw (name-shape n.text h.0) refl

pub upper-printed : (n : Identifier) → IsUpper n → word_of n ≡ upper n
upper-printed n h = rw (variable-shape n.text h.0) refl

word-spelled : (n : Identifier) → IsWord n → IsSpelled (word_token (word_of n))
word-spelled n (inl h) = rw (lower-printed n h) h
word-spelled n (inr h) = rw (upper-printed n h) h

-- ---- terms

app-spelled : (t : Term) → Spelled (term_tokens t) → Spelled (app_tokens (to_app t))
app-spelled (of_app a) h = h
app-spelled (cons a at t) h = (tt, spelled-join (term_tokens (cons a at t)) (paren_right somewhere ∷ []) h (tt, tt))

simple-spelled : (t : Term) → Spelled (term_tokens t) → Spelled (simple_tokens (to_simple t))
simple-spelled (of_app (applied w no_more)) h = h
simple-spelled (of_app (applied w (and_then ss s))) h = (
  tt,
  spelled-join (term_tokens (of_app (applied w (and_then ss s)))) (paren_right somewhere ∷ []) h (tt, tt),
)
simple-spelled (of_app (app_any at)) h = h
simple-spelled (of_app (app_number z at)) h = h
simple-spelled (of_app (app_bracket at t end)) h = h
simple-spelled (cons a at t) h = (tt, spelled-join (term_tokens (cons a at t)) (paren_right somewhere ∷ []) h (tt, tt))

pick-spelled : (n : Identifier) (v : Bool) (ts : List Term) (ss : Simples) → v ≡ false → IsSpelled (word_token (word_of n)) → Spelled (simples_tokens ss)
    → Spelled (term_tokens (pick v n ts ss))
pick-spelled n true ts ss e h k = absurd cc
pick-spelled n false ts ss e h k = (h, k)

cons-spelled : (n : Identifier) (x y : Raw) (ss : Simples) → n.text ≡ codes "::" → Spelled (term_tokens (term_of x)) → Spelled (term_tokens (term_of y))
    → Spelled (term_tokens (pick (is_cons n.text) n (term_of x ∷ term_of y ∷ []) ss))
cons-spelled n x y ss e h k = subst (λ w. Spelled (term_tokens (pick (is_cons w) n (term_of x ∷ term_of y ∷ []) ss))) (sym e)
    (spelled-join (app_tokens (to_app (term_of x))) (cons_sign n.at ∷ term_tokens (term_of y)) (app-spelled (term_of x) h) (tt, k))

-- what holds of two arguments
abbrev AllTerms : List Term → Type 0
AllTerms [] = Unit {0}
AllTerms (t ∷ ts) = Spelled (term_tokens t) × AllTerms ts

head-spelled : (n : Identifier) (rs : RawList) → HasShape n rs → Spelled (simples_tokens (arguments_of rs)) → AllTerms (terms_of rs)
    → Spelled (term_tokens (term_of (head n rs)))
head-spelled n rs (inl w) h k = pick-spelled n (is_cons n.text) (terms_of rs) (arguments_of rs) (word-no-cons n w) (word-spelled n w) h
head-spelled n rs (inr (text, x, y, p)) h k =
    let q : AllTerms (terms_of (more x (more y none))) = subst (λ z. AllTerms (terms_of z)) p k in
    subst (λ z. Spelled (term_tokens (term_of (head n z)))) (sym p) (cons-spelled n x y (arguments_of (more x (more y none))) text q.0 q.1.0)

mutual
  term-spelled : (r : Raw) → IsTerm r → Spelled (term_tokens (term_of r))
  term-spelled (head n rs) h = head-spelled n rs h.0 (simples-spelled rs no_more h.1 tt) (terms-spelled rs h.1)
  term-spelled (anything at) h = (tt, tt)
  term-spelled (int at z) h = (h, tt)
  term-spelled (truth at) h = absurd h
  term-spelled (erasure at) h = absurd h
  term-spelled (braces at g) h = absurd h
  term-spelled (universal at n g) h = absurd h
  term-spelled (existential at n g) h = absurd h
  term-spelled (load at n rs g) h = absurd h
  term-spelled (binary o at l r) h = absurd h
  term-spelled (is_goal at l r) h = absurd h
  term-spelled (less_goal at l r) h = absurd h
  term-spelled (most_goal at l r) h = absurd h

  simples-spelled : (rs : RawList) (acc : Simples) → AreTerms rs → Spelled (simples_tokens acc) → Spelled (simples_tokens (simples_of acc rs))
  simples-spelled none acc h k = k
  simples-spelled (more r rs) acc h k = simples-spelled rs (and_then acc (to_simple (term_of r))) h.1
      (spelled-join (simples_tokens acc) (simple_tokens (to_simple (term_of r))) k (simple-spelled (term_of r) (term-spelled r h.0)))

  terms-spelled : (rs : RawList) → AreTerms rs → AllTerms (terms_of rs)
  terms-spelled none h = tt
  terms-spelled (more r rs) h = (term-spelled r h.0, terms-spelled rs h.1)

arguments-spelled : (rs : RawList) → AreTerms rs → Spelled (simples_tokens (arguments_of rs))
arguments-spelled rs h = simples-spelled rs no_more h tt

-- ---- expressions of whole numbers

plain-spelled : (x : Plain) → Spelled (plain_token x ∷ []) → Spelled (plain_token (plain_of (plain_raw x)) ∷ [])
plain-spelled (plain_word (lower n)) h = rw (lower-printed n h.0) h
plain-spelled (plain_word (upper n)) h = rw (upper-printed n h.0) h
plain-spelled (plain_any at) h = h
plain-spelled (plain_number z at) h = h

unit-spelled : (x : Plain) → Spelled (plain_token x ∷ []) → Spelled (expr_tokens (expr_of (plain_raw x)))
unit-spelled (plain_word w) h = plain-spelled (plain_word w) h
unit-spelled (plain_any at) h = h
unit-spelled (plain_number z at) h = h

in-brackets : (e : Expr) → Spelled (expr_tokens e) → Spelled (item_tokens (item_bracket somewhere e somewhere))
in-brackets e h = (tt, spelled-join (expr_tokens e) (paren_right somewhere ∷ []) h (tt, tt))

to-product : (e : Expr) → Spelled (expr_tokens e) → Spelled (product_tokens (to_product e))
to-product (of_product p) h = h
to-product (adds e o at p) h = in-brackets (adds e o at p) h

to-item : (e : Expr) → Spelled (expr_tokens e) → Spelled (item_tokens (to_item e))
to-item (of_product (of_item x)) h = h
to-item (of_product (multiplies p at x)) h = in-brackets (of_product (multiplies p at x)) h
to-item (adds e o at p) h = in-brackets (adds e o at p) h

mutual
  expr-spelled : (e : Expr) → Spelled (expr_tokens e) → Spelled (expr_tokens (expr_of (expr_raw e)))
  expr-spelled (of_product p) h = product-spelled p h
  expr-spelled (adds e by_plus at p) h =
      let k = spelled-split (expr_tokens e) (add_token by_plus at ∷ product_tokens p) h in
      spelled-join (expr_tokens (expr_of (expr_raw e))) (add_token by_plus at ∷ product_tokens (to_product (expr_of (product_raw p))))
      (expr-spelled e k.0) (tt, to-product (expr_of (product_raw p)) (product-spelled p k.1.1))
  expr-spelled (adds e by_minus at p) h =
      let k = spelled-split (expr_tokens e) (add_token by_minus at ∷ product_tokens p) h in
      spelled-join (expr_tokens (expr_of (expr_raw e))) (add_token by_minus at ∷ product_tokens (to_product (expr_of (product_raw p))))
      (expr-spelled e k.0) (tt, to-product (expr_of (product_raw p)) (product-spelled p k.1.1))

  product-spelled : (p : Product) → Spelled (product_tokens p) → Spelled (expr_tokens (expr_of (product_raw p)))
  product-spelled (of_item x) h = item-spelled x h
  product-spelled (multiplies p at x) h =
      let k = spelled-split (product_tokens p) (star_sign at ∷ item_tokens x) h in
      spelled-join (product_tokens (to_product (expr_of (product_raw p)))) (star_sign at ∷ item_tokens (to_item (expr_of (item_raw x))))
      (to-product (expr_of (product_raw p)) (product-spelled p k.0)) (tt, to-item (expr_of (item_raw x)) (item-spelled x k.1.1))

  item-spelled : (x : Item) → Spelled (item_tokens x) → Spelled (expr_tokens (expr_of (item_raw x)))
  item-spelled (item_plain x) h = unit-spelled x h
  item-spelled (item_bracket at e end) h = expr-spelled e (spelled-split (expr_tokens e) (paren_right end ∷ []) h.1).0

first-tokens : (f : First) → Spelled (lead_tokens (lead_of (first_raw f))) → Spelled (first_tokens (to_first (lead_of (first_raw f))))
first-tokens (first_plain (plain_word w)) h = h
first-tokens (first_plain (plain_any at)) h = h
first-tokens (first_plain (plain_number z at)) h = h
first-tokens (first_times f at x) h = h

lead-unit-spelled : (x : Plain) → Spelled (plain_token x ∷ []) → Spelled (lead_tokens (lead_of (plain_raw x)))
lead-unit-spelled (plain_word w) h = plain-spelled (plain_word w) h
lead-unit-spelled (plain_any at) h = h
lead-unit-spelled (plain_number z at) h = h

first-spelled : (f : First) → Spelled (first_tokens f) → Spelled (lead_tokens (lead_of (first_raw f)))
first-spelled (first_plain x) h = lead-unit-spelled x h
first-spelled (first_times f at x) h =
    let k = spelled-split (first_tokens f) (star_sign at ∷ item_tokens x) h in
    spelled-join (first_tokens (to_first (lead_of (first_raw f)))) (star_sign at ∷ item_tokens (to_item (expr_of (item_raw x))))
    (first-tokens f (first-spelled f k.0)) (tt, to-item (expr_of (item_raw x)) (item-spelled x k.1.1))

lead-spelled : (l : Lead) → Spelled (lead_tokens l) → Spelled (lead_tokens (lead_of (lead_raw l)))
lead-spelled (of_first f) h = first-spelled f h
lead-spelled (lead_adds l by_plus at p) h =
    let k = spelled-split (lead_tokens l) (add_token by_plus at ∷ product_tokens p) h in
    spelled-join (lead_tokens (lead_of (lead_raw l))) (add_token by_plus at ∷ product_tokens (to_product (expr_of (product_raw p))))
    (lead-spelled l k.0) (tt, to-product (expr_of (product_raw p)) (product-spelled p k.1.1))
lead-spelled (lead_adds l by_minus at p) h =
    let k = spelled-split (lead_tokens l) (add_token by_minus at ∷ product_tokens p) h in
    spelled-join (lead_tokens (lead_of (lead_raw l))) (add_token by_minus at ∷ product_tokens (to_product (expr_of (product_raw p))))
    (lead-spelled l k.0) (tt, to-product (expr_of (product_raw p)) (product-spelled p k.1.1))

right-spelled : (r : Raw) → IsExpr r → Spelled (expr_tokens (expr_of r))
right-spelled r (e, s, q) = subst (λ z. Spelled (expr_tokens (expr_of z))) q (expr-spelled e s)

is-spelled : (at : Place) (l r : Raw) → IsPlainTerm l → IsExpr r → Spelled (plain_token (plain_of l) ∷ is_sign at ∷ expr_tokens (expr_of r))
is-spelled at l r (x, s, q) h = ((subst (λ z. Spelled (plain_token (plain_of z) ∷ [])) q (plain-spelled x s)).0, (tt, right-spelled r h))

test-spelled : (t : Tok) (l r : Raw) → IsSpelled t → IsLead l → IsExpr r → Spelled (lead_tokens (lead_of l) ++ t ∷ expr_tokens (expr_of r))
test-spelled t l r f (x, s, q) h =
    spelled-join (lead_tokens (lead_of l)) (t ∷ expr_tokens (expr_of r)) (subst (λ z. Spelled (lead_tokens (lead_of z))) q (lead-spelled x s))
    (f, right-spelled r h)

-- ---- formulas

abbrev any_tokens : {o : Bool} → Any o → List Tok
any_tokens a = formula_tokens (to_formula a)

abbrev last_tokens : Last → List Tok
last_tokens e = formula_tokens (last_formula e)

parens-spelled : (e : Last) → Spelled (last_tokens e) → Spelled (primary_tokens (in_parens e))
parens-spelled (last o a) h = (tt, spelled-join (any_tokens a) (paren_right somewhere ∷ []) h (tt, tt))

arrow-spelled : (a : Any false) (e : Last) → Spelled (any_tokens a) → Spelled (last_tokens e) → Spelled (arrow_tokens (to_arrow a e))
arrow-spelled (at_formula x) e h k = parens-spelled e k
arrow-spelled (at_arrow x) e h k = h
arrow-spelled (at_sum x) e h k = h
arrow-spelled (at_with x) e h k = h
arrow-spelled (at_tensor x) e h k = h
arrow-spelled (at_primary x) e h k = h

sum-spelled : (a : Any false) (e : Last) → Spelled (any_tokens a) → Spelled (last_tokens e) → Spelled (sum_tokens (to_sum a e))
sum-spelled (at_formula x) e h k = parens-spelled e k
sum-spelled (at_arrow x) e h k = parens-spelled e k
sum-spelled (at_sum x) e h k = h
sum-spelled (at_with x) e h k = h
sum-spelled (at_tensor x) e h k = h
sum-spelled (at_primary x) e h k = h

with-spelled : (a : Any false) (e : Last) → Spelled (any_tokens a) → Spelled (last_tokens e) → Spelled (with_tokens (to_with a e))
with-spelled (at_formula x) e h k = parens-spelled e k
with-spelled (at_arrow x) e h k = parens-spelled e k
with-spelled (at_sum x) e h k = parens-spelled e k
with-spelled (at_with x) e h k = h
with-spelled (at_tensor x) e h k = h
with-spelled (at_primary x) e h k = h

tensor-spelled : (a : Any false) (e : Last) → Spelled (any_tokens a) → Spelled (last_tokens e) → Spelled (tensor_tokens (to_tensor a e))
tensor-spelled (at_formula x) e h k = parens-spelled e k
tensor-spelled (at_arrow x) e h k = parens-spelled e k
tensor-spelled (at_sum x) e h k = parens-spelled e k
tensor-spelled (at_with x) e h k = parens-spelled e k
tensor-spelled (at_tensor x) e h k = h
tensor-spelled (at_primary x) e h k = h

primary-spelled : (a : Any false) (e : Last) → Spelled (any_tokens a) → Spelled (last_tokens e) → Spelled (primary_tokens (to_primary a e))
primary-spelled (at_formula x) e h k = parens-spelled e k
primary-spelled (at_arrow x) e h k = parens-spelled e k
primary-spelled (at_sum x) e h k = parens-spelled e k
primary-spelled (at_with x) e h k = parens-spelled e k
primary-spelled (at_tensor x) e h k = parens-spelled e k
primary-spelled (at_primary x) e h k = h

last-arrow-spelled : (e : Last) → Spelled (last_tokens e) → Spelled (arrow_tokens (last_arrow e))
last-arrow-spelled (last o (at_formula x)) h = parens-spelled (last o (at_formula x)) h
last-arrow-spelled (last o (at_arrow x)) h = h
last-arrow-spelled (last o (at_sum x)) h = h
last-arrow-spelled (last o (at_with x)) h = h
last-arrow-spelled (last o (at_tensor x)) h = h
last-arrow-spelled (last o (at_primary x)) h = h

last-sum-spelled : (e : Last) → Spelled (last_tokens e) → Spelled (sum_tokens (last_sum e))
last-sum-spelled (last o (at_formula x)) h = parens-spelled (last o (at_formula x)) h
last-sum-spelled (last o (at_arrow x)) h = parens-spelled (last o (at_arrow x)) h
last-sum-spelled (last o (at_sum x)) h = h
last-sum-spelled (last o (at_with x)) h = h
last-sum-spelled (last o (at_tensor x)) h = h
last-sum-spelled (last o (at_primary x)) h = h

last-with-spelled : (e : Last) → Spelled (last_tokens e) → Spelled (with_tokens (last_with e))
last-with-spelled (last o (at_formula x)) h = parens-spelled (last o (at_formula x)) h
last-with-spelled (last o (at_arrow x)) h = parens-spelled (last o (at_arrow x)) h
last-with-spelled (last o (at_sum x)) h = parens-spelled (last o (at_sum x)) h
last-with-spelled (last o (at_with x)) h = h
last-with-spelled (last o (at_tensor x)) h = h
last-with-spelled (last o (at_primary x)) h = h

last-tensor-spelled : (e : Last) → Spelled (last_tokens e) → Spelled (tensor_tokens (last_tensor e))
last-tensor-spelled (last o (at_formula x)) h = parens-spelled (last o (at_formula x)) h
last-tensor-spelled (last o (at_arrow x)) h = parens-spelled (last o (at_arrow x)) h
last-tensor-spelled (last o (at_sum x)) h = parens-spelled (last o (at_sum x)) h
last-tensor-spelled (last o (at_with x)) h = parens-spelled (last o (at_with x)) h
last-tensor-spelled (last o (at_tensor x)) h = h
last-tensor-spelled (last o (at_primary x)) h = h

mutual
  followed-spelled : (r : Raw) → IsFormula r → Spelled (any_tokens (followed r))
  followed-spelled (truth at) h = (tt, tt)
  followed-spelled (erasure at) h = (tt, tt)
  followed-spelled (braces at g) h = (tt, spelled-join (last_tokens (ending g)) (brace_right somewhere ∷ []) (ending-spelled g h) (tt, tt))
  followed-spelled (universal at n g) h = (
    tt,
    spelled-join (last_tokens (ending (universal at n g))) (paren_right somewhere ∷ []) (
      tt,
      (word-spelled n h.0, (tt, ending-spelled g h.1)),
    ) (tt, tt),
  )
  followed-spelled (existential at n g) h = (
    tt,
    spelled-join (last_tokens (ending (existential at n g))) (paren_right somewhere ∷ []) (
      tt,
      (word-spelled n h.0, (tt, ending-spelled g h.1)),
    ) (tt, tt),
  )
  followed-spelled (load at n rs g) h = (
    h.0,
    spelled-join (simples_tokens (arguments_of rs)) (load_arrow at ∷ arrow_tokens (to_arrow (followed g) (ending g)))
        (arguments-spelled rs h.1) (tt, arrow-spelled (followed g) (ending g) (followed-spelled g h.2) (ending-spelled g h.2)),
  )
  followed-spelled (binary op.ColonDash at l r) h = spelled-join (formula_tokens (to_formula (followed l)))
      (colon_dash at ∷ arrow_tokens (to_arrow (followed r) (ending r))) (followed-spelled l h.0) (
        tt,
        arrow-spelled (followed r) (ending r) (followed-spelled r h.1) (ending-spelled r h.1),
      )
  followed-spelled (binary op.LeftArrow at l r) h = spelled-join (formula_tokens (to_formula (followed l)))
      (left_arrow at ∷ arrow_tokens (to_arrow (followed r) (ending r))) (followed-spelled l h.0) (
        tt,
        arrow-spelled (followed r) (ending r) (followed-spelled r h.1) (ending-spelled r h.1),
      )
  followed-spelled (binary op.Lolli at l r) h = spelled-join (sum_tokens (to_sum (followed l) (ending l)))
      (lolli at ∷ arrow_tokens (to_arrow (followed r) (ending r))) (sum-spelled (followed l) (ending l) (followed-spelled l h.0) (ending-spelled l h.0)) (
        tt,
        arrow-spelled (followed r) (ending r) (followed-spelled r h.1) (ending-spelled r h.1),
      )
  followed-spelled (binary op.RightArrow at l r) h = spelled-join (sum_tokens (to_sum (followed l) (ending l)))
      (right_arrow at ∷ arrow_tokens (to_arrow (followed r) (ending r))) (sum-spelled (followed l) (ending l) (followed-spelled l h.0) (ending-spelled l h.0))
      (tt, arrow-spelled (followed r) (ending r) (followed-spelled r h.1) (ending-spelled r h.1))
  followed-spelled (binary op.Plus at l r) h = spelled-join (with_tokens (to_with (followed l) (ending l)))
      (semicolon at ∷ sum_tokens (to_sum (followed r) (ending r))) (with-spelled (followed l) (ending l) (followed-spelled l h.0) (ending-spelled l h.0)) (
        tt,
        sum-spelled (followed r) (ending r) (followed-spelled r h.1) (ending-spelled r h.1),
      )
  followed-spelled (binary op.With at l r) h = spelled-join (tensor_tokens (to_tensor (followed l) (ending l)))
      (ampersand at ∷ with_tokens (to_with (followed r) (ending r))) (tensor-spelled (followed l) (ending l) (followed-spelled l h.0) (ending-spelled l h.0))
      (tt, with-spelled (followed r) (ending r) (followed-spelled r h.1) (ending-spelled r h.1))
  followed-spelled (binary op.Tensor at l r) h = spelled-join (primary_tokens (to_primary (followed l) (ending l)))
      (comma at ∷ tensor_tokens (to_tensor (followed r) (ending r))) (primary-spelled (followed l) (ending l) (followed-spelled l h.0) (ending-spelled l h.0))
      (tt, tensor-spelled (followed r) (ending r) (followed-spelled r h.1) (ending-spelled r h.1))
  followed-spelled (head n rs) h = (word-spelled n h.0, arguments-spelled rs h.1)
  followed-spelled (anything at) h = absurd h
  followed-spelled (int at z) h = absurd h
  followed-spelled (is_goal at l r) h = is-spelled at l r h.0 h.1
  followed-spelled (less_goal at l r) h = test-spelled (less_sign at) l r tt h.0 h.1
  followed-spelled (most_goal at l r) h = test-spelled (most_sign at) l r tt h.0 h.1

  pub ending-spelled : (r : Raw) → IsFormula r → Spelled (last_tokens (ending r))
  ending-spelled (truth at) h = (tt, tt)
  ending-spelled (erasure at) h = (tt, tt)
  ending-spelled (braces at g) h = (tt, spelled-join (last_tokens (ending g)) (brace_right somewhere ∷ []) (ending-spelled g h) (tt, tt))
  ending-spelled (universal at n g) h = (tt, (word-spelled n h.0, (tt, ending-spelled g h.1)))
  ending-spelled (existential at n g) h = (tt, (word-spelled n h.0, (tt, ending-spelled g h.1)))
  ending-spelled (load at n rs g) h = (
    h.0,
    spelled-join (simples_tokens (arguments_of rs)) (load_arrow at ∷ arrow_tokens (last_arrow (ending g)))
        (arguments-spelled rs h.1) (tt, last-arrow-spelled (ending g) (ending-spelled g h.2)),
  )
  ending-spelled (binary op.ColonDash at l r) h = spelled-join (formula_tokens (to_formula (followed l))) (colon_dash at ∷ arrow_tokens (last_arrow (ending r)))
      (followed-spelled l h.0) (tt, last-arrow-spelled (ending r) (ending-spelled r h.1))
  ending-spelled (binary op.LeftArrow at l r) h = spelled-join (formula_tokens (to_formula (followed l))) (left_arrow at ∷ arrow_tokens (last_arrow (ending r)))
      (followed-spelled l h.0) (tt, last-arrow-spelled (ending r) (ending-spelled r h.1))
  ending-spelled (binary op.Lolli at l r) h = spelled-join (sum_tokens (to_sum (followed l) (ending l))) (lolli at ∷ arrow_tokens (last_arrow (ending r)))
      (sum-spelled (followed l) (ending l) (followed-spelled l h.0) (ending-spelled l h.0)) (tt, last-arrow-spelled (ending r) (ending-spelled r h.1))
  ending-spelled (binary op.RightArrow at l r) h = spelled-join (sum_tokens (to_sum (followed l) (ending l)))
      (right_arrow at ∷ arrow_tokens (last_arrow (ending r))) (sum-spelled (followed l) (ending l) (followed-spelled l h.0) (ending-spelled l h.0)) (
        tt,
        last-arrow-spelled (ending r) (ending-spelled r h.1),
      )
  ending-spelled (binary op.Plus at l r) h = spelled-join (with_tokens (to_with (followed l) (ending l))) (semicolon at ∷ sum_tokens (last_sum (ending r)))
      (with-spelled (followed l) (ending l) (followed-spelled l h.0) (ending-spelled l h.0)) (tt, last-sum-spelled (ending r) (ending-spelled r h.1))
  ending-spelled (binary op.With at l r) h = spelled-join (tensor_tokens (to_tensor (followed l) (ending l)))
      (ampersand at ∷ with_tokens (last_with (ending r))) (tensor-spelled (followed l) (ending l) (followed-spelled l h.0) (ending-spelled l h.0)) (
        tt,
        last-with-spelled (ending r) (ending-spelled r h.1),
      )
  ending-spelled (binary op.Tensor at l r) h = spelled-join (primary_tokens (to_primary (followed l) (ending l)))
      (comma at ∷ tensor_tokens (last_tensor (ending r))) (primary-spelled (followed l) (ending l) (followed-spelled l h.0) (ending-spelled l h.0)) (
        tt,
        last-tensor-spelled (ending r) (ending-spelled r h.1),
      )
  ending-spelled (head n rs) h = (word-spelled n h.0, arguments-spelled rs h.1)
  ending-spelled (anything at) h = absurd h
  ending-spelled (int at z) h = absurd h
  ending-spelled (is_goal at l r) h = is-spelled at l r h.0 h.1
  ending-spelled (less_goal at l r) h = test-spelled (less_sign at) l r tt h.0 h.1
  ending-spelled (most_goal at l r) h = test-spelled (most_sign at) l r tt h.0 h.1
