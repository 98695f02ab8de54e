-- The grammar makes raw trees whose names stand where they may.
use Rattle.std.proofs.Common.{◌≡◌, ℕ, refl, ap, ◌∙◌, Bool, true, false, List, [], ◌∷◌, ◌++◌, inl, inr}
use Rattle.std.specs.Prelude.{Option, Some, None, nat_eq, ◌||◌, if◌then◌else◌}
use Rattle.ll_lexer.specs.declared.TokenKind.TheVariants as kind
use Rattle.ll_lexer.specs.declared.TokenKind.{TokenKind}
use Rattle.ll_lexer.specs.Spelling.{Spells, kind_of, fixed_spellings, listed_kind, shaped_kind, is_upper, is_name, is_number, is_word_byte}
use Rattle.ll_lexer.specs.Spelling as lexer
use Rattle.std.specs.Option.{option_or}
use Rattle.std.specs.Char.{is_ascii_uppercase}
use Rattle.std.specs.List.{list_all}
use Rattle.ll_list_laws.proofs.CallerLemmas.{and_true_left as and_left, and_true_right as and_right}
use Rattle.std.specs.Str.{bytes_eq}
use Rattle.ll_parser.specs.Tokens.{Tok, IsSpelled}
use Rattle.ll_parser.proofs.CallerLemmas.{Spelled, spelled-split}
use Rattle.ll_parser.specs.Raw.{Raw, RawList, none, more, raws_then}
use Rattle.ll_parser.specs.Grammar.{Word, lower, upper, Term, of_app, cons, App, applied, app_any, app_number, app_bracket, Simple, simple_word, simple_any}
use Rattle.ll_parser.specs.Grammar.{simple_number, simple_bracket, Simples, no_more, and_then, word_token, term_tokens, app_tokens, simple_tokens}
use Rattle.ll_parser.specs.Grammar.{simples_tokens}
use Rattle.ll_parser.specs.Grammar.{word_identifier, term_raw, app_raw, simple_raw, simples_raws}
use Rattle.ll_polarity.specs.Scope.{is_variable}
use Rattle.ll_top.specs.spelled.Spoken.{IsSpokenWord, IsSpokenTerm, AreSpokenTerms, IsSpokenExpression, IsSpoken}
use Rattle.ll_parser.specs.Grammar.{Plain, plain_word, plain_any, plain_number, Expr, of_product, adds, Product, of_item, multiplies, Item, item_plain}
use Rattle.ll_parser.specs.Grammar.{item_bracket}
use Rattle.ll_parser.specs.Grammar.{plain_token, expr_tokens, product_tokens, item_tokens, plain_raw, expr_raw, product_raw, item_raw}
use Rattle.ll_parser.specs.Grammar.{Formula, of_arrow, clause, Arrow, of_sum, implies, loads, Sum, of_with, plus, With, of_tensor, with, Tensor, of_primary}
use Rattle.ll_parser.specs.Grammar.{times}
use Rattle.ll_parser.specs.Grammar.{Primary, truly, erased, bracket, brace, quantified, atom, valued, tested, formula_tokens, arrow_tokens, sum_tokens}
use Rattle.ll_parser.specs.Grammar.{with_tokens}
use Rattle.ll_parser.specs.Grammar.{tensor_tokens, primary_tokens, formula_raw, arrow_raw, sum_raw, with_raw, tensor_raw, primary_raw}
use Rattle.ll_parser.specs.declared.TestOp.TheVariants.{Less as by_less, Most as by_most}
use Rattle.ll_parser.specs.declared.Quantifier.TheVariants as quantifier

left : (xs ys : List Tok) → Spelled (xs ++ ys) → Spelled xs
left xs ys h = (spelled-split xs ys h).0

right : (xs ys : List Tok) → Spelled (xs ++ ys) → Spelled ys
right xs ys h = (spelled-split xs ys h).1

or_introduced : (a b : Bool) → a ≡ true → a || b ≡ true
or_introduced true b h = refl
or_introduced false b h = cc

not-variable : TokenKind → Bool
not-variable kind.Variable = false
not-variable _ = true

none-variable : (es : List (List ℕ × TokenKind)) (w : List ℕ) (k : TokenKind) → list_all (λ (e : List ℕ × TokenKind). not-variable e.1) es ≡ true
    → listed_kind es w ≡ Some k → k ≡ kind.Variable → ⊥
unfolding not-variable
none-variable [] w k a q v = cc
none-variable (e ∷ es) w k a q v = step (bytes_eq e.0 w) (none-variable es w k (and_right (not-variable e.1) _ a)) q
  where
    step : (b : Bool) → (listed_kind es w ≡ Some k → k ≡ kind.Variable → ⊥) → (if b then Some e.1 else listed_kind es w) ≡ Some k → ⊥
    step true go q =
        let x : e.1 ≡ k = cc (q) in
        let y : e.1 ≡ kind.Variable = x ∙ v in
        let z : not-variable e.1 ≡ false = ap not-variable y in
        let u : not-variable e.1 ≡ true = and_left (not-variable e.1) _ a in cc
    step false go q = go q v

-- a variable of the lexer is one of scopes
variable-is : (w : List ℕ) → Spells kind.Variable w → is_variable w ≡ true
unfolding kind_of fixed_spellings is_upper not-variable
variable-is w s = listed (listed_kind fixed_spellings w) refl s
  where
    -- the first byte of a variable
    shape : (w : List ℕ) → lexer.is_variable w ≡ true → is_variable w ≡ true
    shape [] h = cc
    shape (b ∷ []) h = or_introduced (is_ascii_uppercase b) (nat_eq b 95) h
    shape (b ∷ c ∷ bs) h = and_left (is_ascii_uppercase b || nat_eq b 95) (list_all is_word_byte (c ∷ bs)) h

    by_number : (b : Bool) → (if b then Some kind.Number else None) ≡ Some kind.Variable → ⊥
    by_number true e = cc
    by_number false e = cc

    by_variable : (b : Bool) → lexer.is_variable w ≡ b
        → (if b then Some kind.Variable else (if is_number w then Some kind.Number else None)) ≡ Some kind.Variable
        → is_variable w ≡ true
    by_variable true q e = shape w q
    by_variable false q e = absurd (by_number (is_number w) e)

    by_name : (b : Bool)
        → (if b then Some kind.Name else (if lexer.is_variable w then Some kind.Variable else (if is_number w then Some kind.Number else None)))
        ≡ Some kind.Variable → is_variable w ≡ true
    by_name true e = cc
    by_name false e = by_variable (lexer.is_variable w) refl e

    listed : (o : Option TokenKind) → listed_kind fixed_spellings w ≡ o → option_or o (shaped_kind w) ≡ Some kind.Variable → is_variable w ≡ true
    listed None q e = by_name (is_name w) e
    listed (Some k) q e = let v : k ≡ kind.Variable = cc (e) in absurd (none-variable fixed_spellings w k refl q v)

word-spoken : (w : Word) (k : ℕ) → IsSpelled (word_token w) → IsSpokenWord (word_identifier w).text k
word-spoken (lower n) k h = inr (inl (record { spelled = h.0; short = h.1 }))
word-spoken (upper n) k h = inl (variable-is n.text h.0)

raws-spoken : (rs : RawList) (r : Raw) → AreSpokenTerms rs → IsSpokenTerm r → AreSpokenTerms (raws_then rs r)
raws-spoken none r h i = (i, tt)
raws-spoken (more x rs) r h i = (h.0, raws-spoken rs r h.1 i)

mutual
  pub term-spoken : (t : Term) → Spelled (term_tokens t) → IsSpokenTerm (term_raw t)
  term-spoken (of_app a) h = app-spoken a h
  term-spoken (cons a at t) h =
      (inr (inr (refl, refl)), (app-spoken a (left (app_tokens a) _ h), (term-spoken t (right (app_tokens a) _ h).1, tt)))

  app-spoken : (a : App) → Spelled (app_tokens a) → IsSpokenTerm (app_raw a)
  app-spoken (applied w ss) h = (word-spoken w _ h.0, simples-spoken ss h.1)
  app-spoken (app_any at) h = tt
  app-spoken (app_number n at) h = h.0
  app-spoken (app_bracket at t end) h = term-spoken t (left (term_tokens t) _ h.1)

  simple-spoken : (s : Simple) → Spelled (simple_tokens s) → IsSpokenTerm (simple_raw s)
  simple-spoken (simple_word w) h = (word-spoken w _ h.0, tt)
  simple-spoken (simple_any at) h = tt
  simple-spoken (simple_number n at) h = h.0
  simple-spoken (simple_bracket at t end) h = term-spoken t (left (term_tokens t) _ h.1)

  pub simples-spoken : (ss : Simples) → Spelled (simples_tokens ss) → AreSpokenTerms (simples_raws ss)
  simples-spoken no_more h = tt
  simples-spoken (and_then ss s) h =
      raws-spoken (simples_raws ss) (simple_raw s) (simples-spoken ss (left (simples_tokens ss) (simple_tokens s) h))
      (simple-spoken s (right (simples_tokens ss) (simple_tokens s) h))

-- ---- expressions

plain-spoken : (x : Plain) → IsSpelled (plain_token x) → IsSpokenTerm (plain_raw x)
plain-spoken (plain_word w) h = (word-spoken w _ h, tt)
plain-spoken (plain_any at) h = tt
plain-spoken (plain_number n at) h = h

plain-counted : (x : Plain) → IsSpelled (plain_token x) → IsSpokenExpression (plain_raw x)
plain-counted (plain_word w) h = tt
plain-counted (plain_any at) h = tt
plain-counted (plain_number n at) h = h

mutual
  expr-spoken : (e : Expr) → Spelled (expr_tokens e) → IsSpokenExpression (expr_raw e)
  expr-spoken (of_product p) h = product-spoken p h
  expr-spoken (adds e o at p) h =
      (expr-spoken e (left (expr_tokens e) _ h), (product-spoken p (right (expr_tokens e) _ h).1, tt))

  product-spoken : (p : Product) → Spelled (product_tokens p) → IsSpokenExpression (product_raw p)
  product-spoken (of_item x) h = item-spoken x h
  product-spoken (multiplies p at x) h =
      (product-spoken p (left (product_tokens p) _ h), (item-spoken x (right (product_tokens p) _ h).1, tt))

  item-spoken : (x : Item) → Spelled (item_tokens x) → IsSpokenExpression (item_raw x)
  item-spoken (item_plain x) h = plain-counted x h.0
  item-spoken (item_bracket at e end) h = expr-spoken e (left (expr_tokens e) _ h.1)

-- ---- formulas

mutual
  pub formula-spoken : {o : Bool} → (f : Formula o) → Spelled (formula_tokens f) → IsSpoken (formula_raw f)
  formula-spoken (of_arrow a) h = arrow-spoken a h
  formula-spoken (clause f c at a) h = (formula-spoken f (left (formula_tokens f) _ h), arrow-spoken a (right (formula_tokens f) _ h).1)

  arrow-spoken : {o : Bool} → (a : Arrow o) → Spelled (arrow_tokens a) → IsSpoken (arrow_raw a)
  arrow-spoken (of_sum s) h = sum-spoken s h
  arrow-spoken (implies s c at a) h = (sum-spoken s (left (sum_tokens s) _ h), arrow-spoken a (right (sum_tokens s) _ h).1)
  arrow-spoken (loads n ss at a) h = (simples-spoken ss (left (simples_tokens ss) _ h.1), arrow-spoken a (right (simples_tokens ss) _ h.1).1)

  sum-spoken : {o : Bool} → (s : Sum o) → Spelled (sum_tokens s) → IsSpoken (sum_raw s)
  sum-spoken (of_with w) h = with-spoken w h
  sum-spoken (plus w at s) h = (with-spoken w (left (with_tokens w) _ h), sum-spoken s (right (with_tokens w) _ h).1)

  with-spoken : {o : Bool} → (w : With o) → Spelled (with_tokens w) → IsSpoken (with_raw w)
  with-spoken (of_tensor t) h = tensor-spoken t h
  with-spoken (with t at w) h = (tensor-spoken t (left (tensor_tokens t) _ h), with-spoken w (right (tensor_tokens t) _ h).1)

  tensor-spoken : {o : Bool} → (t : Tensor o) → Spelled (tensor_tokens t) → IsSpoken (tensor_raw t)
  tensor-spoken (of_primary p) h = primary-spoken p h
  tensor-spoken (times p at t) h = (primary-spoken p (left (primary_tokens p) _ h), tensor-spoken t (right (primary_tokens p) _ h).1)

  primary-spoken : {o : Bool} → (p : Primary o) → Spelled (primary_tokens p) → IsSpoken (primary_raw p)
  primary-spoken (truly at) h = tt
  primary-spoken (erased at) h = tt
  primary-spoken (bracket at f end) h = formula-spoken f (left (formula_tokens f) _ h.1)
  primary-spoken (brace at f end) h = formula-spoken f (left (formula_tokens f) _ h.1)
  primary-spoken (quantified quantifier.Forall at w slash f) h = formula-spoken f h.1.1.1
  primary-spoken (quantified quantifier.Exists at w slash f) h = formula-spoken f h.1.1.1
  primary-spoken (atom w ss) h = (word-spoken w _ h.0, simples-spoken ss h.1)
  primary-spoken (valued x at e) h = (plain-spoken x h.0, expr-spoken e h.1.1)
  primary-spoken (tested l by_less at e) h = tt
  primary-spoken (tested l by_most at e) h = tt
