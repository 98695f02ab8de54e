-- The written bytes of a parse tree, whose tokens can stand in a text, are lexed as its tokens, places aside.
use Rattle.std.proofs.Common.{◌≡◌, ℕ, ◌+◌, Bool, false, List, [], ◌∷◌, ◌++◌, length, map, codes, refl, sym, ◌∙◌, subst, arith, append_assoc, append-nil}
use Rattle.std.proofs.Math.Seq.{drop-length}
use Rattle.ll_lexer.specs.declared.Place.{Place}
use Rattle.ll_lexer.specs.declared.TokenKind.{TokenKind}
use Rattle.ll_lexer.specs.declared.TokenKind.TheVariants as kind
use Rattle.ll_lexer.specs.Spelling.{is_word_byte, is_digit}
use Rattle.ll_lexer.specs.Reading.{place_at, done, Lexes, at_end, LexedText, IsLexed}
use Rattle.ll_lexer.proofs.CallerLemmas.{goes_on}
use Rattle.ll_parser.specs.declared.Quantifier.TheVariants as quantifier
use Rattle.ll_parser.specs.Tokens.{Identifier, Tok, tok_by, toks_of, any, true_word, erase_word, forall_word, exists_word, module_word, local_word}
use Rattle.ll_parser.specs.Tokens.{linear_word, dot, comma, ampersand, semicolon, paren_left, paren_right, brace_left, brace_right, backslash, cons_sign}
use Rattle.ll_parser.specs.Tokens.{colon_dash, left_arrow, right_arrow, lolli, load_arrow, is_sign, less_sign, most_sign, plus_sign, minus_sign, star_sign}
use Rattle.ll_parser.specs.Grammar.{Word, lower, upper, Term, of_app, cons, App, applied, app_any, app_number, app_bracket, Simple, simple_word, simple_any}
use Rattle.ll_parser.specs.Grammar.{simple_number, simple_bracket, Simples, no_more, and_then, by_colon, by_left, by_lolli, by_right, Formula, of_arrow}
use Rattle.ll_parser.specs.Grammar.{clause, Arrow, of_sum, implies, loads, Sum, of_with, plus, With, of_tensor, with, Tensor, of_primary, times, Primary}
use Rattle.ll_parser.specs.Grammar.{truly, erased, bracket, brace, quantified, atom, word_token, word_identifier, clause_token, arrow_token, term_tokens}
use Rattle.ll_parser.specs.Grammar.{app_tokens, simple_tokens, simples_tokens, formula_tokens, arrow_tokens, sum_tokens, with_tokens, tensor_tokens}
use Rattle.ll_parser.specs.Grammar.{primary_tokens, Plain, plain_word, plain_any, plain_number, Expr, of_product, adds, Product, of_item, multiplies, Item}
use Rattle.ll_parser.specs.Grammar.{item_plain, item_bracket, First, first_plain, first_times, Lead, of_first, lead_adds, valued, tested, by_plus, by_minus}
use Rattle.ll_parser.specs.Grammar.{by_less, by_most, plain_token, expr_tokens, product_tokens, item_tokens, first_tokens, lead_tokens}
use Rattle.ll_parser.specs.Text.{Clause, plain, linear, Local, Heading, Module, Program, clause_tokens, names, variables, local_tokens, heading_tokens}
use Rattle.ll_parser.specs.Text.{clauses_tokens, locals_tokens, module_tokens, modules_tokens, program_tokens}
use Rattle.ll_parser.specs.Bare.{bare_tok}
use Rattle.ll_parser.specs.Printed.{between, line_end, names_text}
use Rattle.ll_parser.proofs.printing.Written.{term_bytes, app_bytes, simple_bytes, simples_bytes, formula_bytes, arrow_bytes, sum_bytes, with_bytes}
use Rattle.ll_parser.proofs.printing.Written.{tensor_bytes, primary_bytes, clause_bytes, clauses_bytes, local_bytes, locals_bytes, heading_bytes, module_bytes}
use Rattle.ll_parser.proofs.printing.Written.{modules_bytes, program_bytes, plain_bytes, expr_bytes, product_bytes, item_bytes, first_bytes, lead_bytes}
use Rattle.ll_parser.proofs.printing.Printable.{Spelled, spelled-split}
use Rattle.ll_parser.proofs.spelling.Lexing.{Piece, Safe, Anything, nothing, joined, spaced, lined, name-piece, variable-piece, number-piece, spelling}
use Rattle.ll_parser.proofs.spelling.Lexing.{IsFixed, keyword, sign, ended}

-- ---- bytes that end a word

safe-space : (bytes : List ℕ) → Safe (32 ∷ bytes)
unfolding is_word_byte
safe-space bytes = refl

safe-right : (bytes : List ℕ) → Safe (41 ∷ bytes)
unfolding is_word_byte
safe-right bytes = refl

safe-brace : (bytes : List ℕ) → Safe (125 ∷ bytes)
unfolding is_word_byte
safe-brace bytes = refl

safe-colon : (bytes : List ℕ) → Safe (58 ∷ bytes)
unfolding is_word_byte
safe-colon bytes = refl

safe-backslash : (bytes : List ℕ) → Safe (92 ∷ bytes)
unfolding is_word_byte
safe-backslash bytes = refl

safe-dot : (bytes : List ℕ) → Safe (46 ∷ bytes)
unfolding is_word_byte
safe-dot bytes = refl

-- ---- terms

word-piece : (w : Word) (ts : List Tok) → Spelled (word_token w ∷ ts) → Piece Safe (word_identifier w).text (word_token w ∷ [])
word-piece (lower n) ts h = name-piece n h.0
word-piece (upper n) ts h = variable-piece n h.0

simples-safe : (ss : Simples) (rest : List ℕ) → Safe rest → Safe (simples_bytes ss ++ rest)
simples-safe no_more rest h = h
simples-safe (and_then ss s) rest h =
    subst Safe (sym (append_assoc (simples_bytes ss) (codes " " ++ simple_bytes s) rest))
    (simples-safe ss ((codes " " ++ simple_bytes s) ++ rest) (safe-space (simple_bytes s ++ rest)))

any-piece : (at : Place) → Piece Safe (codes "_") (any at ∷ [])
any-piece at = keyword kind.Any (any at) tt (λ x. refl) (λ rest h. h)

-- a piece in brackets
in-parens : {xs : List ℕ} {ts : List Tok} (at end : Place) → Piece Safe xs ts
    → Piece Safe (codes "(" ++ (xs ++ codes ")")) (paren_left at ∷ (ts ++ paren_right end ∷ []))
in-parens at end p = joined (sign kind.ParenLeft (paren_left at) tt (λ x. refl) (λ b. refl))
    (joined p (joined (sign kind.ParenRight (paren_right end) tt (λ x. refl) (λ b. refl)) nothing (λ rest h. tt)) (λ rest h. safe-right rest)) (λ rest h. tt)

mutual
  term-piece : (t : Term) → Spelled (term_tokens t) → Piece Safe (term_bytes t) (term_tokens t)
  term-piece (of_app a) s = app-piece a s
  term-piece (cons a at t) s =
      let k = spelled-split (app_tokens a) (cons_sign at ∷ term_tokens t) s in
      joined (app-piece a k.0) (joined (sign kind.Cons (cons_sign at) tt (λ x. refl) (λ b. refl)) (term-piece t k.1.1) (λ rest h. tt))
      (λ rest h. safe-colon (58 ∷ (term_bytes t ++ rest)))

  app-piece : (a : App) → Spelled (app_tokens a) → Piece Safe (app_bytes a) (app_tokens a)
  app-piece (applied w ss) s = joined (word-piece w (simples_tokens ss) s) (simples-piece ss s.1) (simples-safe ss)
  app-piece (app_any at) s = any-piece at
  app-piece (app_number z at) s = number-piece z at s.0
  app-piece (app_bracket at t end) s = in-parens at end (term-piece t (spelled-split (term_tokens t) (paren_right end ∷ []) s.1).0)

  simple-piece : (x : Simple) → Spelled (simple_tokens x) → Piece Safe (simple_bytes x) (simple_tokens x)
  simple-piece (simple_word w) s = word-piece w [] s
  simple-piece (simple_any at) s = any-piece at
  simple-piece (simple_number z at) s = number-piece z at s.0
  simple-piece (simple_bracket at t end) s = in-parens at end (term-piece t (spelled-split (term_tokens t) (paren_right end ∷ []) s.1).0)

  simples-piece : (ss : Simples) → Spelled (simples_tokens ss) → Piece Safe (simples_bytes ss) (simples_tokens ss)
  simples-piece no_more s = nothing
  simples-piece (and_then ss x) s =
      let k = spelled-split (simples_tokens ss) (simple_tokens x) s in
      joined (simples-piece ss k.0) (spaced (simple-piece x k.1)) (λ rest h. safe-space (simple_bytes x ++ rest))

-- ---- formulas

-- an operator with a space on each side, and what stands behind it
operator : {ys : List ℕ} {vs : List Tok} (k : TokenKind) (t : Tok) → IsFixed k → ((at : Place) → bare_tok (tok_by k (spelling k) at) ≡ bare_tok t)
    → ((b : ℕ) → goes_on k b ≡ false) → Piece Safe ys vs → Piece Safe (between (spelling k) ys) (t ∷ vs)
operator k t f b h p = spaced (joined (sign k t f b h) (spaced p) (λ rest s. tt))

-- what stands on its left
left-of : {xs : List ℕ} {us vs : List Tok} (sign_bytes ys : List ℕ) → Piece Safe xs us → Piece Safe (between sign_bytes ys) vs
    → Piece Safe (xs ++ between sign_bytes ys) (us ++ vs)
left-of sign_bytes ys p q = joined p q (λ rest h. safe-space ((sign_bytes ++ (codes " " ++ ys)) ++ rest))

-- a word or a sign with a space on each side, which ends it
apart : {ys : List ℕ} {vs : List Tok} (k : TokenKind) (t : Tok) → IsFixed k → ((at : Place) → bare_tok (tok_by k (spelling k) at) ≡ bare_tok t)
    → goes_on k 32 ≡ false → Piece Safe ys vs → Piece Safe (between (spelling k) ys) (t ∷ vs)
apart k t f b h p = spaced (joined (ended k t f b) (spaced p) (λ rest s. h))

is-ends : goes_on kind.Is 32 ≡ false
unfolding is_word_byte
is-ends = refl

minus-ends : goes_on kind.Minus 32 ≡ false
unfolding is_digit
minus-ends = refl

-- ---- expressions of whole numbers

plain-piece : (x : Plain) → Spelled (plain_token x ∷ []) → Piece Safe (plain_bytes x) (plain_token x ∷ [])
plain-piece (plain_word w) s = word-piece w [] s
plain-piece (plain_any at) s = any-piece at
plain-piece (plain_number z at) s = number-piece z at s.0

mutual
  expr-piece : (e : Expr) → Spelled (expr_tokens e) → Piece Safe (expr_bytes e) (expr_tokens e)
  expr-piece (of_product p) s = product-piece p s
  expr-piece (adds e by_plus at p) s =
      let k = spelled-split (expr_tokens e) (plus_sign at ∷ product_tokens p) s in
      left-of (codes "+") (product_bytes p) (expr-piece e k.0) (apart kind.Plus (plus_sign at) tt (λ x. refl) refl (product-piece p k.1.1))
  expr-piece (adds e by_minus at p) s =
      let k = spelled-split (expr_tokens e) (minus_sign at ∷ product_tokens p) s in
      left-of (codes "-") (product_bytes p) (expr-piece e k.0) (apart kind.Minus (minus_sign at) tt (λ x. refl) minus-ends (product-piece p k.1.1))

  product-piece : (p : Product) → Spelled (product_tokens p) → Piece Safe (product_bytes p) (product_tokens p)
  product-piece (of_item x) s = item-piece x s
  product-piece (multiplies p at x) s =
      let k = spelled-split (product_tokens p) (star_sign at ∷ item_tokens x) s in
      left-of (codes "*") (item_bytes x) (product-piece p k.0) (apart kind.Star (star_sign at) tt (λ x. refl) refl (item-piece x k.1.1))

  item-piece : (x : Item) → Spelled (item_tokens x) → Piece Safe (item_bytes x) (item_tokens x)
  item-piece (item_plain x) s = plain-piece x s
  item-piece (item_bracket at e end) s = in-parens at end (expr-piece e (spelled-split (expr_tokens e) (paren_right end ∷ []) s.1).0)

first-piece : (f : First) → Spelled (first_tokens f) → Piece Safe (first_bytes f) (first_tokens f)
first-piece (first_plain x) s = plain-piece x s
first-piece (first_times f at x) s =
    let k = spelled-split (first_tokens f) (star_sign at ∷ item_tokens x) s in
    left-of (codes "*") (item_bytes x) (first-piece f k.0) (apart kind.Star (star_sign at) tt (λ x. refl) refl (item-piece x k.1.1))

lead-piece : (l : Lead) → Spelled (lead_tokens l) → Piece Safe (lead_bytes l) (lead_tokens l)
lead-piece (of_first f) s = first-piece f s
lead-piece (lead_adds l by_plus at p) s =
    let k = spelled-split (lead_tokens l) (plus_sign at ∷ product_tokens p) s in
    left-of (codes "+") (product_bytes p) (lead-piece l k.0) (apart kind.Plus (plus_sign at) tt (λ x. refl) refl (product-piece p k.1.1))
lead-piece (lead_adds l by_minus at p) s =
    let k = spelled-split (lead_tokens l) (minus_sign at ∷ product_tokens p) s in
    left-of (codes "-") (product_bytes p) (lead-piece l k.0) (apart kind.Minus (minus_sign at) tt (λ x. refl) minus-ends (product-piece p k.1.1))

-- ---- the levels of formulas

mutual
  formula-piece : {o : Bool} (f : Formula o) → Spelled (formula_tokens f) → Piece Safe (formula_bytes f) (formula_tokens f)
  formula-piece (of_arrow a) s = arrow-piece a s
  formula-piece (clause f by_colon at a) s =
      let k = spelled-split (formula_tokens f) (clause_token by_colon at ∷ arrow_tokens a) s in
      left-of (codes ":-") (arrow_bytes a) (formula-piece f k.0) (operator kind.ColonDash (colon_dash at) tt (λ x. refl) (λ b. refl) (arrow-piece a k.1.1))
  formula-piece (clause f by_left at a) s =
      let k = spelled-split (formula_tokens f) (clause_token by_left at ∷ arrow_tokens a) s in
      left-of (codes "<=") (arrow_bytes a) (formula-piece f k.0) (operator kind.LeftArrow (left_arrow at) tt (λ x. refl) (λ b. refl) (arrow-piece a k.1.1))

  arrow-piece : {o : Bool} (a : Arrow o) → Spelled (arrow_tokens a) → Piece Safe (arrow_bytes a) (arrow_tokens a)
  arrow-piece (of_sum x) s = sum-piece x s
  arrow-piece (implies x by_lolli at a) s =
      let k = spelled-split (sum_tokens x) (arrow_token by_lolli at ∷ arrow_tokens a) s in
      left-of (codes "-o") (arrow_bytes a) (sum-piece x k.0) (operator kind.Lolli (lolli at) tt (λ x. refl) (λ b. refl) (arrow-piece a k.1.1))
  arrow-piece (implies x by_right at a) s =
      let k = spelled-split (sum_tokens x) (arrow_token by_right at ∷ arrow_tokens a) s in
      left-of (codes "=>") (arrow_bytes a) (sum-piece x k.0) (operator kind.RightArrow (right_arrow at) tt (λ x. refl) (λ b. refl) (arrow-piece a k.1.1))
  arrow-piece (loads n ss at a) s =
      let k = spelled-split (simples_tokens ss) (load_arrow at ∷ arrow_tokens a) s.1 in
      joined (name-piece n s.0) (left-of (codes "-->") (arrow_bytes a) (simples-piece ss k.0)
      (operator kind.LoadArrow (load_arrow at) tt (λ x. refl) (λ b. refl) (arrow-piece a k.1.1)))
      (λ rest h. subst Safe (sym (append_assoc (simples_bytes ss) (between (codes "-->") (arrow_bytes a)) rest))
      (simples-safe ss (between (codes "-->") (arrow_bytes a) ++ rest) (safe-space ((codes "-->" ++ (codes " " ++ arrow_bytes a)) ++ rest))))

  sum-piece : {o : Bool} (x : Sum o) → Spelled (sum_tokens x) → Piece Safe (sum_bytes x) (sum_tokens x)
  sum-piece (of_with w) s = with-piece w s
  sum-piece (plus w at x) s =
      let k = spelled-split (with_tokens w) (semicolon at ∷ sum_tokens x) s in
      left-of (codes ";") (sum_bytes x) (with-piece w k.0) (operator kind.Semicolon (semicolon at) tt (λ x. refl) (λ b. refl) (sum-piece x k.1.1))

  with-piece : {o : Bool} (w : With o) → Spelled (with_tokens w) → Piece Safe (with_bytes w) (with_tokens w)
  with-piece (of_tensor t) s = tensor-piece t s
  with-piece (with t at w) s =
      let k = spelled-split (tensor_tokens t) (ampersand at ∷ with_tokens w) s in
      left-of (codes "&") (with_bytes w) (tensor-piece t k.0) (operator kind.Ampersand (ampersand at) tt (λ x. refl) (λ b. refl) (with-piece w k.1.1))

  tensor-piece : {o : Bool} (t : Tensor o) → Spelled (tensor_tokens t) → Piece Safe (tensor_bytes t) (tensor_tokens t)
  tensor-piece (of_primary p) s = primary-piece p s
  tensor-piece (times p at t) s =
      let k = spelled-split (primary_tokens p) (comma at ∷ tensor_tokens t) s in
      left-of (codes ",") (tensor_bytes t) (primary-piece p k.0) (operator kind.Comma (comma at) tt (λ x. refl) (λ b. refl) (tensor-piece t k.1.1))

  primary-piece : {o : Bool} (p : Primary o) → Spelled (primary_tokens p) → Piece Safe (primary_bytes p) (primary_tokens p)
  primary-piece (truly at) s = keyword kind.True (true_word at) tt (λ x. refl) (λ rest h. h)
  primary-piece (erased at) s = keyword kind.Erase (erase_word at) tt (λ x. refl) (λ rest h. h)
  primary-piece (bracket at f end) s = in-parens at end (formula-piece f (spelled-split (formula_tokens f) (paren_right end ∷ []) s.1).0)
  primary-piece (brace at f end) s =
      joined (sign kind.BraceLeft (brace_left at) tt (λ x. refl) (λ b. refl))
      (joined (formula-piece f (spelled-split (formula_tokens f) (brace_right end ∷ []) s.1).0)
      (joined (sign kind.BraceRight (brace_right end) tt (λ x. refl) (λ b. refl)) nothing (λ rest h. tt)) (λ rest h. safe-brace rest)) (λ rest h. tt)
  primary-piece (quantified quantifier.Forall at w slash f) s =
      joined (keyword kind.Forall (forall_word at) tt (λ x. refl) (λ rest h. h))
      (spaced (joined (word-piece w (backslash slash ∷ formula_tokens f) s.1)
      (joined (sign kind.Backslash (backslash slash) tt (λ x. refl) (λ b. refl)) (spaced (formula-piece f s.1.1.1)) (λ rest h. tt))
      (λ rest h. safe-backslash ((codes " " ++ formula_bytes f) ++ rest))))
      (λ rest h. safe-space (((word_identifier w).text ++ (92 ∷ (codes " " ++ formula_bytes f))) ++ rest))
  primary-piece (quantified quantifier.Exists at w slash f) s =
      joined (keyword kind.Exists (exists_word at) tt (λ x. refl) (λ rest h. h))
      (spaced (joined (word-piece w (backslash slash ∷ formula_tokens f) s.1)
      (joined (sign kind.Backslash (backslash slash) tt (λ x. refl) (λ b. refl)) (spaced (formula-piece f s.1.1.1)) (λ rest h. tt))
      (λ rest h. safe-backslash ((codes " " ++ formula_bytes f) ++ rest))))
      (λ rest h. safe-space (((word_identifier w).text ++ (92 ∷ (codes " " ++ formula_bytes f))) ++ rest))
  primary-piece (atom w ss) s = joined (word-piece w (simples_tokens ss) s) (simples-piece ss s.1) (simples-safe ss)
  primary-piece (valued x at e) s =
      left-of (codes "is") (expr_bytes e) (plain-piece x (s.0, tt)) (apart kind.Is (is_sign at) tt (λ x. refl) is-ends (expr-piece e s.1.1))
  primary-piece (tested l by_less at e) s =
      let k = spelled-split (lead_tokens l) (less_sign at ∷ expr_tokens e) s in
      left-of (codes "<") (expr_bytes e) (lead-piece l k.0) (apart kind.Less (less_sign at) tt (λ x. refl) refl (expr-piece e k.1.1))
  primary-piece (tested l by_most at e) s =
      let k = spelled-split (lead_tokens l) (most_sign at ∷ expr_tokens e) s in
      left-of (codes "=<") (expr_bytes e) (lead-piece l k.0) (apart kind.Most (most_sign at) tt (λ x. refl) refl (expr-piece e k.1.1))

-- ---- programs: what ends a line may be followed by anything

line-piece : (end : Place) → Piece Anything line_end (dot end ∷ [])
line-piece end = joined (sign kind.Dot (dot end) tt (λ x. refl) (λ b. refl)) (lined nothing) (λ rest h. tt)

names-safe : (ns : List Identifier) (rest : List ℕ) → Safe (names_text ns ++ rest)
names-safe [] rest = safe-dot (10 ∷ rest)
names-safe (n ∷ ns) rest = safe-space ((n.text ++ names_text ns) ++ rest)

names-piece : (ns : List Identifier) (end : Place) → Spelled (names ns) → Piece Anything (names_text ns) (names ns ++ dot end ∷ [])
names-piece [] end s = line-piece end
names-piece (n ∷ ns) end s = spaced (joined (name-piece n s.0) (names-piece ns end s.1) (λ rest h. names-safe ns rest))

variables-piece : (ns : List Identifier) (end : Place) → Spelled (variables ns) → Piece Anything (names_text ns) (variables ns ++ dot end ∷ [])
variables-piece [] end s = line-piece end
variables-piece (n ∷ ns) end s = spaced (joined (variable-piece n s.0) (variables-piece ns end s.1) (λ rest h. names-safe ns rest))

clause-piece : (c : Clause) → Spelled (clause_tokens c) → Piece Anything (clause_bytes c) (clause_tokens c)
clause-piece (plain f end) s = joined (formula-piece f (spelled-split (formula_tokens f) (dot end ∷ []) s).0) (line-piece end) (λ rest h. safe-dot (10 ∷ rest))
clause-piece (linear at f end) s =
    joined (keyword kind.Linear (linear_word at) tt (λ x. refl) (λ rest h. h))
    (spaced (joined (formula-piece f (spelled-split (formula_tokens f) (dot end ∷ []) s.1).0) (line-piece end) (λ rest h. safe-dot (10 ∷ rest))))
    (λ rest h. safe-space ((formula_bytes f ++ line_end) ++ rest))

clauses-piece : (cs : List Clause) → Spelled (clauses_tokens cs) → Piece Anything (clauses_bytes cs) (clauses_tokens cs)
clauses-piece [] s = nothing
clauses-piece (c ∷ cs) s = let k = spelled-split (clause_tokens c) (clauses_tokens cs) s in joined (clause-piece c k.0) (clauses-piece cs k.1) (λ rest h. tt)

local-piece : (l : Local) → Spelled (local_tokens l) → Piece Anything (local_bytes l) (local_tokens l)
local-piece l s =
    joined (keyword kind.Local (local_word l.word) tt (λ x. refl) (λ rest h. h))
    (spaced (joined (name-piece l.first s.1.0) (names-piece l.others l.end (spelled-split (names l.others) (dot l.end ∷ []) s.1.1).0)
    (λ rest h. names-safe l.others rest))) (λ rest h. safe-space ((l.first.text ++ names_text l.others) ++ rest))

locals-piece : (ls : List Local) → Spelled (locals_tokens ls) → Piece Anything (locals_bytes ls) (locals_tokens ls)
locals-piece [] s = nothing
locals-piece (l ∷ ls) s = let k = spelled-split (local_tokens l) (locals_tokens ls) s in joined (local-piece l k.0) (locals-piece ls k.1) (λ rest h. tt)

heading-piece : (h : Heading) → Spelled (heading_tokens h) → Piece Anything (heading_bytes h) (heading_tokens h)
heading-piece h s =
    joined (keyword kind.Module (module_word h.word) tt (λ x. refl) (λ rest p. p))
    (spaced (joined (name-piece h.name s.1.0) (variables-piece h.params h.end (spelled-split (variables h.params) (dot h.end ∷ []) s.1.1).0)
    (λ rest p. names-safe h.params rest))) (λ rest p. safe-space ((h.name.text ++ names_text h.params) ++ rest))

module-piece : (m : Module) → Spelled (module_tokens m) → Piece Anything (module_bytes m) (module_tokens m)
module-piece m s =
    let k = spelled-split (heading_tokens m.heading) (locals_tokens m.locals ++ clauses_tokens m.clauses) s in
    let j = spelled-split (locals_tokens m.locals) (clauses_tokens m.clauses) k.1 in
    joined (heading-piece m.heading k.0) (joined (locals-piece m.locals j.0) (clauses-piece m.clauses j.1) (λ rest h. tt)) (λ rest h. tt)

modules-piece : (ms : List Module) → Spelled (modules_tokens ms) → Piece Anything (modules_bytes ms) (modules_tokens ms)
modules-piece [] s = nothing
modules-piece (m ∷ ms) s = let k = spelled-split (module_tokens m) (modules_tokens ms) s in joined (module-piece m k.0) (modules-piece ms k.1) (λ rest h. tt)

program-piece : (p : Program) → Spelled (program_tokens p) → Piece Anything (program_bytes p) (program_tokens p)
program-piece p s = let k = spelled-split (clauses_tokens p.clauses) (modules_tokens p.modules) s in
    joined (clauses-piece p.clauses k.0) (modules-piece p.modules k.1) (λ rest h. tt)

-- ---- the whole text

-- a text that is lexed as these tokens, places aside
pub record IsText (bytes : List ℕ) (toks : List Tok) : Type 0 where
  pub lexed : LexedText
  pub bytes_are : lexed.text ≡ bytes
  pub is_lexed : IsLexed lexed
  pub same : map bare_tok (toks_of lexed) ≡ map bare_tok toks

text-of : (bytes : List ℕ) (toks : List Tok) → Piece Anything bytes toks → IsText bytes toks
text-of bytes toks p =
    let end : Place = place_at bytes (length bytes) in
    let n : 0 + length bytes ≡ length bytes = omega arith in
    let last : Lexes bytes (0 + length bytes) [] (done end) = subst (λ k. Lexes bytes k [] (done end)) (sym n) (at_end (drop-length bytes)) in
    let r = p.read bytes 0 [] (sym (append-nil bytes)) tt [] (done end) last in
    record {
      lexed = record { text = bytes; tokens = r.tokens; end = end };
      bytes_are = refl;
      is_lexed = r.lexes;
      same = r.same ∙ append-nil (map bare_tok toks);
    }

pub program-lexed : (p : Program) → Spelled (program_tokens p) → IsText (program_bytes p) (program_tokens p)
program-lexed p s = text-of (program_bytes p) (program_tokens p) (program-piece p s)
