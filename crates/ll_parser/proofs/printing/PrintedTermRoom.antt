-- The terms that are printed need no more brackets than any terms with their raw trees.
use Rattle.std.proofs.Common.{◌≡◌, ℕ, zero, suc, Bool, true, false, List, [], ◌∷◌, inl, inr}
use Rattle.ll_parser.specs.Tokens.{Identifier, Tok, paren_right, cons_sign}
use Rattle.ll_parser.specs.Raw.{Raw, RawList, none, more, raws_then}
use Rattle.ll_parser.specs.Grammar.{Word, lower, upper, Term, of_app, cons, App, applied, app_any, app_number, app_bracket, Simple, simple_word, simple_any}
use Rattle.ll_parser.specs.Grammar.{simple_number, simple_bracket, Simples, no_more, and_then, word_token, word_identifier, term_tokens, app_tokens}
use Rattle.ll_parser.specs.Grammar.{simple_tokens, simples_tokens, term_raw, app_raw, simple_raw, simples_raws, Plain, plain_word, plain_any, plain_number}
use Rattle.ll_parser.specs.Grammar.{Expr, of_product, adds, Product, of_item, multiplies, Item, item_plain, item_bracket, First, first_plain, first_times}
use Rattle.ll_parser.specs.Grammar.{Lead, of_first, lead_adds, by_plus, by_minus, plain_raw, expr_raw, product_raw, item_raw, first_raw, lead_raw}
use Rattle.ll_parser.specs.Printed.{is_cons}
use Rattle.ll_parser.proofs.printing.PrintedTree.{to_app, to_simple, pick, term_of, terms_of, simples_of, arguments_of, to_product, to_item, expr_of, to_first}
use Rattle.ll_parser.proofs.printing.PrintedTree.{lead_of}
use Rattle.ll_parser.proofs.printing.Printable.{Spelled, spelled-split, word-no-cons}
use Rattle.ll_parser.proofs.machines.Room.{Enough, TermRoom, AppRoom, SimpleRoom, SimplesRoom, ExprRoom, ProductRoom, ItemRoom, FirstRoom, LeadRoom}

-- ---- more room does no harm

pub enough-more : (P : ℕ → Type 0) → ((m : ℕ) → P m → P (suc m)) → (n : ℕ) → Enough n P → Enough (suc n) P
enough-more P f zero h = absurd h
enough-more P f (suc n) h = f n h

mutual
  pub term-more : (t : Term) (n : ℕ) → TermRoom n t → TermRoom (suc n) t
  term-more (of_app a) n h = app-more a n h
  term-more (cons a at t) n h = (app-more a n h.0, term-more t n h.1)

  app-more : (a : App) (n : ℕ) → AppRoom n a → AppRoom (suc n) a
  app-more (applied w ss) n h = simples-more ss n h
  app-more (app_any at) n h = tt
  app-more (app_number z at) n h = tt
  app-more (app_bracket at t end) n h = enough-more (λ m. TermRoom m t) (term-more t) n h

  simple-more : (s : Simple) (n : ℕ) → SimpleRoom n s → SimpleRoom (suc n) s
  simple-more (simple_word w) n h = tt
  simple-more (simple_any at) n h = tt
  simple-more (simple_number z at) n h = tt
  simple-more (simple_bracket at t end) n h = enough-more (λ m. TermRoom m t) (term-more t) n h

  pub simples-more : (ss : Simples) (n : ℕ) → SimplesRoom n ss → SimplesRoom (suc n) ss
  simples-more no_more n h = tt
  simples-more (and_then ss s) n h = (simples-more ss n h.0, simple-more s n h.1)

-- ---- a term in brackets leaves room for it on the left of `::` and as an argument

app-enclosed : (u : Term) (n : ℕ) → TermRoom n u → AppRoom (suc n) (to_app u)
app-enclosed (of_app a) n h = app-more a n h
app-enclosed (cons a at t) n h = h

simple-enclosed : (u : Term) (n : ℕ) → TermRoom n u → SimpleRoom (suc n) (to_simple u)
simple-enclosed (of_app (applied w no_more)) n h = tt
simple-enclosed (of_app (applied w (and_then ss s))) n h = h
simple-enclosed (of_app (app_any at)) n h = tt
simple-enclosed (of_app (app_number z at)) n h = tt
simple-enclosed (of_app (app_bracket at t end)) n h = enough-more (λ m. TermRoom m t) (term-more t) n h
simple-enclosed (cons a at t) n h = h

-- ---- heads

word-cons : (w : Word) (ts : List Tok) → Spelled (word_token w ∷ ts) → is_cons (word_identifier w).text ≡ false
word-cons (lower n) ts h = word-no-cons n (inl h.0)
word-cons (upper n) ts h = word-no-cons n (inr h.0)

pick-room : (x : Identifier) (v : Bool) (ts : List Term) (ss : Simples) (n : ℕ) → v ≡ false → SimplesRoom n ss → TermRoom n (pick v x ts ss)
pick-room x true ts ss n e h = absurd cc
pick-room x false ts ss n e h = h

pick-app-room : (x : Identifier) (v : Bool) (ts : List Term) (ss : Simples) (n : ℕ) → v ≡ false → SimplesRoom n ss → AppRoom n (to_app (pick v x ts ss))
pick-app-room x true ts ss n e h = absurd cc
pick-app-room x false ts ss n e h = h

pick-simple-room : (x : Identifier) (v : Bool) (n : ℕ) → SimpleRoom n (to_simple (pick v x [] no_more))
pick-simple-room x true n = tt
pick-simple-room x false n = tt

-- room for each of some arguments
abbrev RawsRoom : ℕ → RawList → Type 0
RawsRoom n none = Unit {0}
RawsRoom n (more r rs) = SimpleRoom n (to_simple (term_of r)) × RawsRoom n rs

raws-then-room : (rs : RawList) (r : Raw) (n : ℕ) → RawsRoom n rs → SimpleRoom n (to_simple (term_of r)) → RawsRoom n (raws_then rs r)
raws-then-room none r n h k = (k, tt)
raws-then-room (more x rs) r n h k = (h.0, raws-then-room rs r n h.1 k)

simples-of-room : (rs : RawList) (acc : Simples) (n : ℕ) → SimplesRoom n acc → RawsRoom n rs → SimplesRoom n (simples_of acc rs)
simples-of-room none acc n h k = h
simples-of-room (more r rs) acc n h k = simples-of-room rs (and_then acc (to_simple (term_of r))) n (h, k.0) k.1

-- ---- terms

mutual
  term-room : (t : Term) (n : ℕ) → Spelled (term_tokens t) → TermRoom n t → TermRoom n (term_of (term_raw t))
  term-room (of_app a) n s h = app-term-room a n s h
  term-room (cons a at t) n s h =
      let k = spelled-split (app_tokens a) (cons_sign at ∷ term_tokens t) s in (app-room a n k.0 h.0, term-room t n k.1.1 h.1)

  app-term-room : (a : App) (n : ℕ) → Spelled (app_tokens a) → AppRoom n a → TermRoom n (term_of (app_raw a))
  app-term-room (applied w ss) n s h = pick-room (word_identifier w) (is_cons (word_identifier w).text) (terms_of (simples_raws ss))
      (arguments_of (simples_raws ss)) n (word-cons w (simples_tokens ss) s) (simples-of-room (simples_raws ss) no_more n tt (simples-room ss n s.1 h))
  app-term-room (app_any at) n s h = tt
  app-term-room (app_number z at) n s h = tt
  app-term-room (app_bracket at t end) zero s h = absurd h
  app-term-room (app_bracket at t end) (suc n) s h = term-more (term_of (term_raw t)) n
      (term-room t n (spelled-split (term_tokens t) (paren_right end ∷ []) s.1).0 h)

  app-room : (a : App) (n : ℕ) → Spelled (app_tokens a) → AppRoom n a → AppRoom n (to_app (term_of (app_raw a)))
  app-room (applied w ss) n s h = pick-app-room (word_identifier w) (is_cons (word_identifier w).text) (terms_of (simples_raws ss))
      (arguments_of (simples_raws ss)) n (word-cons w (simples_tokens ss) s) (simples-of-room (simples_raws ss) no_more n tt (simples-room ss n s.1 h))
  app-room (app_any at) n s h = tt
  app-room (app_number z at) n s h = tt
  app-room (app_bracket at t end) zero s h = absurd h
  app-room (app_bracket at t end) (suc n) s h = app-enclosed (term_of (term_raw t)) n
      (term-room t n (spelled-split (term_tokens t) (paren_right end ∷ []) s.1).0 h)

  simple-room : (x : Simple) (n : ℕ) → Spelled (simple_tokens x) → SimpleRoom n x → SimpleRoom n (to_simple (term_of (simple_raw x)))
  simple-room (simple_word w) n s h = pick-simple-room (word_identifier w) (is_cons (word_identifier w).text) n
  simple-room (simple_any at) n s h = tt
  simple-room (simple_number z at) n s h = tt
  simple-room (simple_bracket at t end) zero s h = absurd h
  simple-room (simple_bracket at t end) (suc n) s h = simple-enclosed (term_of (term_raw t)) n
      (term-room t n (spelled-split (term_tokens t) (paren_right end ∷ []) s.1).0 h)

  simples-room : (ss : Simples) (n : ℕ) → Spelled (simples_tokens ss) → SimplesRoom n ss → RawsRoom n (simples_raws ss)
  simples-room no_more n s h = tt
  simples-room (and_then ss x) n s h =
      let k = spelled-split (simples_tokens ss) (simple_tokens x) s in
      raws-then-room (simples_raws ss) (simple_raw x) n (simples-room ss n k.0 h.0) (simple-room x n k.1 h.1)

-- the arguments that are printed
pub arguments-room : (ss : Simples) (n : ℕ) → Spelled (simples_tokens ss) → SimplesRoom n ss → SimplesRoom n (arguments_of (simples_raws ss))
arguments-room ss n s h = simples-of-room (simples_raws ss) no_more n tt (simples-room ss n s h)

-- ---- expressions of whole numbers

mutual
  pub expr-more : (e : Expr) (n : ℕ) → ExprRoom n e → ExprRoom (suc n) e
  expr-more (of_product p) n h = product-more p n h
  expr-more (adds e o at p) n h = (expr-more e n h.0, product-more p n h.1)

  product-more : (p : Product) (n : ℕ) → ProductRoom n p → ProductRoom (suc n) p
  product-more (of_item x) n h = item-more x n h
  product-more (multiplies p at x) n h = (product-more p n h.0, item-more x n h.1)

  item-more : (x : Item) (n : ℕ) → ItemRoom n x → ItemRoom (suc n) x
  item-more (item_plain x) n h = tt
  item-more (item_bracket at e end) n h = enough-more (λ m. ExprRoom m e) (expr-more e) n h

first-more : (f : First) (n : ℕ) → FirstRoom n f → FirstRoom (suc n) f
first-more (first_plain x) n h = tt
first-more (first_times f at x) n h = (first-more f n h.0, item-more x n h.1)

pub lead-more : (l : Lead) (n : ℕ) → LeadRoom n l → LeadRoom (suc n) l
lead-more (of_first f) n h = first-more f n h
lead-more (lead_adds l o at p) n h = (lead-more l n h.0, product-more p n h.1)

product-enclosed : (e : Expr) (n : ℕ) → ExprRoom n e → ProductRoom (suc n) (to_product e)
product-enclosed (of_product p) n h = product-more p n h
product-enclosed (adds e o at p) n h = h

item-enclosed : (e : Expr) (n : ℕ) → ExprRoom n e → ItemRoom (suc n) (to_item e)
item-enclosed (of_product (of_item x)) n h = item-more x n h
item-enclosed (of_product (multiplies p at x)) n h = h
item-enclosed (adds e o at p) n h = h

plain-expr : (x : Plain) (n : ℕ) → ExprRoom n (expr_of (plain_raw x))
plain-expr (plain_word w) n = tt
plain-expr (plain_any at) n = tt
plain-expr (plain_number z at) n = tt

plain-product : (x : Plain) (n : ℕ) → ProductRoom n (to_product (expr_of (plain_raw x)))
plain-product (plain_word w) n = tt
plain-product (plain_any at) n = tt
plain-product (plain_number z at) n = tt

plain-item : (x : Plain) (n : ℕ) → ItemRoom n (to_item (expr_of (plain_raw x)))
plain-item (plain_word w) n = tt
plain-item (plain_any at) n = tt
plain-item (plain_number z at) n = tt

-- the expression that is printed, by itself, on the right of `+` and `-` or on the left of `*`, and on the right of `*`
mutual
  pub expr-room : (e : Expr) (n : ℕ) → ExprRoom n e → ExprRoom n (expr_of (expr_raw e))
  expr-room (of_product p) n h = product-expr p n h
  expr-room (adds e by_plus at p) n h = (expr-room e n h.0, product-room p n h.1)
  expr-room (adds e by_minus at p) n h = (expr-room e n h.0, product-room p n h.1)

  product-expr : (p : Product) (n : ℕ) → ProductRoom n p → ExprRoom n (expr_of (product_raw p))
  product-expr (of_item x) n h = item-expr x n h
  product-expr (multiplies p at x) n h = (product-room p n h.0, item-room x n h.1)

  product-room : (p : Product) (n : ℕ) → ProductRoom n p → ProductRoom n (to_product (expr_of (product_raw p)))
  product-room (of_item x) n h = item-product x n h
  product-room (multiplies p at x) n h = (product-room p n h.0, item-room x n h.1)

  item-expr : (x : Item) (n : ℕ) → ItemRoom n x → ExprRoom n (expr_of (item_raw x))
  item-expr (item_plain x) n h = plain-expr x n
  item-expr (item_bracket at e end) zero h = absurd h
  item-expr (item_bracket at e end) (suc n) h = expr-more (expr_of (expr_raw e)) n (expr-room e n h)

  item-product : (x : Item) (n : ℕ) → ItemRoom n x → ProductRoom n (to_product (expr_of (item_raw x)))
  item-product (item_plain x) n h = plain-product x n
  item-product (item_bracket at e end) zero h = absurd h
  item-product (item_bracket at e end) (suc n) h = product-enclosed (expr_of (expr_raw e)) n (expr-room e n h)

  item-room : (x : Item) (n : ℕ) → ItemRoom n x → ItemRoom n (to_item (expr_of (item_raw x)))
  item-room (item_plain x) n h = plain-item x n
  item-room (item_bracket at e end) zero h = absurd h
  item-room (item_bracket at e end) (suc n) h = item-enclosed (expr_of (expr_raw e)) n (expr-room e n h)

first-room : (f : First) (n : ℕ) → FirstRoom n f → FirstRoom n (to_first (lead_of (first_raw f)))
first-room (first_plain (plain_word w)) n h = tt
first-room (first_plain (plain_any at)) n h = tt
first-room (first_plain (plain_number z at)) n h = tt
first-room (first_times f at x) n h = (first-room f n h.0, item-room x n h.1)

first-lead : (f : First) (n : ℕ) → FirstRoom n f → LeadRoom n (lead_of (first_raw f))
first-lead (first_plain (plain_word w)) n h = tt
first-lead (first_plain (plain_any at)) n h = tt
first-lead (first_plain (plain_number z at)) n h = tt
first-lead (first_times f at x) n h = (first-room f n h.0, item-room x n h.1)

pub lead-room : (l : Lead) (n : ℕ) → LeadRoom n l → LeadRoom n (lead_of (lead_raw l))
lead-room (of_first f) n h = first-lead f n h
lead-room (lead_adds l by_plus at p) n h = (lead-room l n h.0, product-room p n h.1)
lead-room (lead_adds l by_minus at p) n h = (lead-room l n h.0, product-room p n h.1)
