-- How many brackets a parse tree needs: its tokens stay within a limit exactly where each form has room for the brackets in it.
use Rattle.std.proofs.Common.{◌≡◌, ℕ, zero, suc, ◌+◌, ◌-◌, ◌≤◌, Bool, List, [], ◌∷◌, ◌++◌, take, refl, sym, ◌∙◌, subst, arith, append_assoc, append-nil}
use Rattle.ll_lexer.specs.declared.Place.{Place}
use Rattle.ll_parser.specs.declared.Quantifier.{Quantifier}
use Rattle.ll_parser.specs.declared.Quantifier.TheVariants as quantifier
use Rattle.ll_parser.specs.Tokens.{Identifier, Tok, name, variable, any, number, true_word, erase_word, module_word, local_word, linear_word, dot, comma}
use Rattle.ll_parser.specs.Tokens.{ampersand, semicolon, paren_left, paren_right, brace_left, brace_right, backslash, cons_sign, load_arrow, is_sign, star_sign}
use Rattle.ll_parser.specs.Grammar.{Word, lower, upper, Term, of_app, cons, App, applied, app_any, app_number, app_bracket, Simple, simple_word, simple_any}
use Rattle.ll_parser.specs.Grammar.{simple_number, simple_bracket, Simples, no_more, and_then, ClauseOp, by_colon, by_left, ArrowOp, by_lolli, by_right}
use Rattle.ll_parser.specs.Grammar.{Formula, of_arrow, clause, Arrow, of_sum, implies, loads, Sum, of_with, plus, With, of_tensor, with, Tensor, of_primary}
use Rattle.ll_parser.specs.Grammar.{times, Primary, truly, erased, bracket, brace, quantified, atom, word_token, clause_token, arrow_token, quantifier_token}
use Rattle.ll_parser.specs.Grammar.{term_tokens, app_tokens, simple_tokens, simples_tokens, formula_tokens, arrow_tokens, sum_tokens, with_tokens}
use Rattle.ll_parser.specs.Grammar.{tensor_tokens, primary_tokens, Plain, plain_word, plain_any, plain_number, Expr, of_product, adds, Product, of_item}
use Rattle.ll_parser.specs.Grammar.{multiplies, Item, item_plain, item_bracket, First, first_plain, first_times, Lead, of_first, lead_adds, valued, tested}
use Rattle.ll_parser.specs.Grammar.{by_plus, by_minus, by_less, by_most, SumOp, TestOp, plain_token, add_token, test_token, expr_tokens, product_tokens}
use Rattle.ll_parser.specs.Grammar.{item_tokens, first_tokens, lead_tokens}
use Rattle.ll_parser.specs.Text.{Clause, plain, linear, Local, Heading, Module, Program, clause_tokens, names, variables, local_tokens, heading_tokens}
use Rattle.ll_parser.specs.Text.{clauses_tokens, locals_tokens, modules_tokens, program_tokens, Query, bare, dotted, query_tokens}
use Rattle.ll_parser.specs.Reads.{open_after, Within}

-- ---- room for brackets

-- there is room for one bracket more, and so much is left in it
abbrev pub Enough : ℕ → (ℕ → Type 0) → Type 0
Enough zero P = ⊥
Enough (suc n) P = P n

abbrev mutual
  pub TermRoom : ℕ → Term → Type 0
  TermRoom n (of_app a) = AppRoom n a
  TermRoom n (cons a at t) = AppRoom n a × TermRoom n t

  pub AppRoom : ℕ → App → Type 0
  AppRoom n (applied w ss) = SimplesRoom n ss
  AppRoom n (app_any at) = Unit {0}
  AppRoom n (app_number z at) = Unit {0}
  AppRoom n (app_bracket at t end) = Enough n (λ m. TermRoom m t)

  pub SimpleRoom : ℕ → Simple → Type 0
  SimpleRoom n (simple_word w) = Unit {0}
  SimpleRoom n (simple_any at) = Unit {0}
  SimpleRoom n (simple_number z at) = Unit {0}
  SimpleRoom n (simple_bracket at t end) = Enough n (λ m. TermRoom m t)

  pub SimplesRoom : ℕ → Simples → Type 0
  SimplesRoom n no_more = Unit {0}
  SimplesRoom n (and_then ss s) = SimplesRoom n ss × SimpleRoom n s

abbrev mutual
  pub ExprRoom : ℕ → Expr → Type 0
  ExprRoom n (of_product p) = ProductRoom n p
  ExprRoom n (adds e o at p) = ExprRoom n e × ProductRoom n p

  pub ProductRoom : ℕ → Product → Type 0
  ProductRoom n (of_item x) = ItemRoom n x
  ProductRoom n (multiplies p at x) = ProductRoom n p × ItemRoom n x

  pub ItemRoom : ℕ → Item → Type 0
  ItemRoom n (item_plain x) = Unit {0}
  ItemRoom n (item_bracket at e end) = Enough n (λ m. ExprRoom m e)

abbrev pub FirstRoom : ℕ → First → Type 0
FirstRoom n (first_plain x) = Unit {0}
FirstRoom n (first_times f at x) = FirstRoom n f × ItemRoom n x

abbrev pub LeadRoom : ℕ → Lead → Type 0
LeadRoom n (of_first f) = FirstRoom n f
LeadRoom n (lead_adds l o at p) = LeadRoom n l × ProductRoom n p

abbrev mutual
  pub FormulaRoom : {o : Bool} → ℕ → Formula o → Type 0
  FormulaRoom n (of_arrow a) = ArrowRoom n a
  FormulaRoom n (clause f c at a) = FormulaRoom n f × ArrowRoom n a

  pub ArrowRoom : {o : Bool} → ℕ → Arrow o → Type 0
  ArrowRoom n (of_sum s) = SumRoom n s
  ArrowRoom n (implies s c at a) = SumRoom n s × ArrowRoom n a
  ArrowRoom n (loads m ss at a) = SimplesRoom n ss × ArrowRoom n a

  pub SumRoom : {o : Bool} → ℕ → Sum o → Type 0
  SumRoom n (of_with w) = WithRoom n w
  SumRoom n (plus w at s) = WithRoom n w × SumRoom n s

  pub WithRoom : {o : Bool} → ℕ → With o → Type 0
  WithRoom n (of_tensor t) = TensorRoom n t
  WithRoom n (with t at w) = TensorRoom n t × WithRoom n w

  pub TensorRoom : {o : Bool} → ℕ → Tensor o → Type 0
  TensorRoom n (of_primary p) = PrimaryRoom n p
  TensorRoom n (times p at t) = PrimaryRoom n p × TensorRoom n t

  pub PrimaryRoom : {o : Bool} → ℕ → Primary o → Type 0
  PrimaryRoom n (truly at) = Unit {0}
  PrimaryRoom n (erased at) = Unit {0}
  PrimaryRoom n (bracket at f end) = Enough n (λ m. FormulaRoom m f)
  PrimaryRoom n (brace at f end) = Enough n (λ m. FormulaRoom m f)
  PrimaryRoom n (quantified q at w slash f) = FormulaRoom n f
  PrimaryRoom n (atom w ss) = SimplesRoom n ss
  PrimaryRoom n (valued x at e) = ExprRoom n e
  PrimaryRoom n (tested l c at e) = LeadRoom n l × ExprRoom n e

abbrev pub ClauseRoom : ℕ → Clause → Type 0
ClauseRoom n (plain f end) = FormulaRoom n f
ClauseRoom n (linear at f end) = FormulaRoom n f

abbrev pub ClausesRoom : ℕ → List Clause → Type 0
ClausesRoom n [] = Unit {0}
ClausesRoom n (c ∷ cs) = ClauseRoom n c × ClausesRoom n cs

abbrev pub ModulesRoom : ℕ → List Module → Type 0
ModulesRoom n [] = Unit {0}
ModulesRoom n (m ∷ ms) = ClausesRoom n m.clauses × ModulesRoom n ms

abbrev pub ProgramRoom : ℕ → Program → Type 0
ProgramRoom n p = ClausesRoom n p.clauses × ModulesRoom n p.modules

abbrev pub QueryRoom : ℕ → Query → Type 0
QueryRoom n (bare f) = FormulaRoom n f
QueryRoom n (dotted f end) = FormulaRoom n f

-- ---- never more than the limit open, from n open ones on

abbrev Below : ℕ → ℕ → List Tok → Type 0
Below limit n [] = n ≤ limit
Below limit n (t ∷ ts) = (n ≤ limit) × Below limit (open_after n (t ∷ [])) ts

below-here : (limit n : ℕ) (ts : List Tok) → Below limit n ts → n ≤ limit
below-here limit n [] h = h
below-here limit n (t ∷ ts) h = h.0

open-one : (t : Tok) (ts : List Tok) (n : ℕ) → open_after n (t ∷ ts) ≡ open_after (open_after n (t ∷ [])) ts
open-one (paren_left at) ts n = refl
open-one (brace_left at) ts n = refl
open-one (paren_right at) ts n = refl
open-one (brace_right at) ts n = refl
open-one _ ts n = refl

below-within : (limit : ℕ) (ts : List Tok) (n : ℕ) → ((k : ℕ) → open_after n (take k ts) ≤ limit) → Below limit n ts
below-within limit [] n h = h 0
below-within limit (t ∷ ts) n h = (h 0, below-within limit ts (open_after n (t ∷ [])) (λ k. subst (λ z. z ≤ limit) (open-one t (take k ts) n) (h (suc k))))

within-below : (limit : ℕ) (ts : List Tok) (n : ℕ) → Below limit n ts → (k : ℕ) → open_after n (take k ts) ≤ limit
within-below limit [] n h zero = h
within-below limit [] n h (suc k) = h
within-below limit (t ∷ ts) n h zero = h.0
within-below limit (t ∷ ts) n h (suc k) = subst (λ z. z ≤ limit) (sym (open-one t (take k ts) n)) (within-below limit ts (open_after n (t ∷ [])) h.1 k)

-- ---- segments of tokens that close the brackets that they open

-- the segment stays within the limit exactly where the room that is left satisfies P
pub record Segment (limit : ℕ) (P : ℕ → Type 0) (xs : List Tok) : Type 0 where
  pub down : (n r : ℕ) → n + r ≡ limit → (rest : List Tok) → Below limit n (xs ++ rest) → P r × Below limit n rest
  pub up : (n r : ℕ) → n + r ≡ limit → (rest : List Tok) → P r → Below limit n rest → Below limit n (xs ++ rest)

-- a token that is no bracket
abbrev IsPlain : Tok → Type 0
IsPlain t = (n : ℕ) → open_after n (t ∷ []) ≡ n

module _ (limit : ℕ) where
  abbrev Free : ℕ → Type 0
  Free n = Unit {0}

  nothing : Segment limit Free []
  nothing = record { down = λ n r e rest h. (tt, h); up = λ n r e rest p h. h }

  plainly : {P : ℕ → Type 0} {xs : List Tok} (t : Tok) → IsPlain t → Segment limit P xs → Segment limit P (t ∷ xs)
  plainly {P} {xs} t e s = record {
    down = λ n r m rest h. s.down n r m rest (subst (λ z. Below limit z (xs ++ rest)) (e n) h.1);
    up = λ n r m rest p h. (below-here limit n rest h, subst (λ z. Below limit z (xs ++ rest)) (sym (e n)) (s.up n r m rest p h));
  }

  both : {P Q : ℕ → Type 0} {xs ys : List Tok} → Segment limit P xs → Segment limit Q ys → Segment limit (λ n. P n × Q n) (xs ++ ys)
  both {P} {Q} {xs} {ys} s t = record {
    down = λ n r m rest h. let a = s.down n r m (ys ++ rest) (subst (Below limit n) (append_assoc xs ys rest) h) in let b = t.down n r m rest a.1 in
        ((a.0, b.0), b.1);
    up = λ n r m rest p h. subst (Below limit n) (sym (append_assoc xs ys rest)) (s.up n r m (ys ++ rest) p.0 (t.up n r m rest p.1 h));
  }

  -- a pair of brackets round a segment
  within : {P : ℕ → Type 0} {xs : List Tok} (left right : Tok) → ((n : ℕ) → open_after n (left ∷ []) ≡ suc n) → ((n : ℕ) → open_after n (right ∷ []) ≡ n - 1)
      → Segment limit P xs → Segment limit (λ n. Enough n P) (left ∷ (xs ++ right ∷ []))
  within {P} {xs} left right l g s = record { down = inwards; up = outwards }
    where
      inwards : (n r : ℕ) → n + r ≡ limit → (rest : List Tok) → Below limit n (left ∷ ((xs ++ right ∷ []) ++ rest)) → Enough r P × Below limit n rest
      inwards n zero m rest h = let k : suc n ≤ limit = subst (λ z. z ≤ limit) (l n)
          (below-here limit (open_after n (left ∷ [])) ((xs ++ right ∷ []) ++ rest) h.1) in absurd (omega arith)
      inwards n (suc r) m rest h =
          let k : Below limit (suc n) (xs ++ right ∷ rest) =
          subst (Below limit (suc n)) (append_assoc xs (right ∷ []) rest) (subst (λ z. Below limit z ((xs ++ right ∷ []) ++ rest)) (l n) h.1) in
          let e : suc n + r ≡ limit = omega arith in
          let a = s.down (suc n) r e (right ∷ rest) k in
          let back : open_after (suc n) (right ∷ []) ≡ n = g (suc n) ∙ omega arith in
          (a.0, subst (λ z. Below limit z rest) back a.1.1)

      outwards : (n r : ℕ) → n + r ≡ limit → (rest : List Tok) → Enough r P → Below limit n rest → Below limit n (left ∷ ((xs ++ right ∷ []) ++ rest))
      outwards n zero m rest p h = absurd p
      outwards n (suc r) m rest p h =
          let e : suc n + r ≡ limit = omega arith in
          let le : suc n ≤ limit = omega arith in
          let back : open_after (suc n) (right ∷ []) ≡ n = g (suc n) ∙ omega arith in
          let k : Below limit (suc n) (xs ++ right ∷ rest) = s.up (suc n) r e (right ∷ rest) p (le, subst (λ z. Below limit z rest) (sym back) h) in (
            below-here limit n rest h,
            subst (λ z. Below limit z ((xs ++ right ∷ []) ++ rest)) (sym (l n))
                (subst (Below limit (suc n)) (sym (append_assoc xs (right ∷ []) rest)) k),
          )

  parens : {P : ℕ → Type 0} {xs : List Tok} (at end : Place) → Segment limit P xs
      → Segment limit (λ n. Enough n P) (paren_left at ∷ (xs ++ paren_right end ∷ []))
  parens at end s = within (paren_left at) (paren_right end) (λ n. refl) (λ n. refl) s

  curly : {P : ℕ → Type 0} {xs : List Tok} (at end : Place) → Segment limit P xs
      → Segment limit (λ n. Enough n P) (brace_left at ∷ (xs ++ brace_right end ∷ []))
  curly at end s = within (brace_left at) (brace_right end) (λ n. refl) (λ n. refl) s

  -- ---- terms

  word-plain : (w : Word) → IsPlain (word_token w)
  word-plain (lower n) k = refl
  word-plain (upper n) k = refl

  mutual
    term-segment : (t : Term) → Segment limit (λ n. TermRoom n t) (term_tokens t)
    term-segment (of_app a) = app-segment a
    term-segment (cons a at t) = both (app-segment a) (plainly (cons_sign at) (λ n. refl) (term-segment t))

    app-segment : (a : App) → Segment limit (λ n. AppRoom n a) (app_tokens a)
    app-segment (applied w ss) = plainly (word_token w) (word-plain w) (simples-segment ss)
    app-segment (app_any at) = plainly (any at) (λ n. refl) nothing
    app-segment (app_number z at) = plainly (number z at) (λ n. refl) nothing
    app-segment (app_bracket at t end) = parens at end (term-segment t)

    simple-segment : (s : Simple) → Segment limit (λ n. SimpleRoom n s) (simple_tokens s)
    simple-segment (simple_word w) = plainly (word_token w) (word-plain w) nothing
    simple-segment (simple_any at) = plainly (any at) (λ n. refl) nothing
    simple-segment (simple_number z at) = plainly (number z at) (λ n. refl) nothing
    simple-segment (simple_bracket at t end) = parens at end (term-segment t)

    simples-segment : (ss : Simples) → Segment limit (λ n. SimplesRoom n ss) (simples_tokens ss)
    simples-segment no_more = nothing
    simples-segment (and_then ss s) = both (simples-segment ss) (simple-segment s)

  -- ---- expressions of whole numbers

  token-plain : (x : Plain) → IsPlain (plain_token x)
  token-plain (plain_word w) n = word-plain w n
  token-plain (plain_any at) n = refl
  token-plain (plain_number z at) n = refl

  add-plain : (o : SumOp) (at : Place) → IsPlain (add_token o at)
  add-plain by_plus at n = refl
  add-plain by_minus at n = refl

  test-plain : (c : TestOp) (at : Place) → IsPlain (test_token c at)
  test-plain by_less at n = refl
  test-plain by_most at n = refl

  mutual
    expr-segment : (e : Expr) → Segment limit (λ n. ExprRoom n e) (expr_tokens e)
    expr-segment (of_product p) = product-segment p
    expr-segment (adds e o at p) = both (expr-segment e) (plainly (add_token o at) (add-plain o at) (product-segment p))

    product-segment : (p : Product) → Segment limit (λ n. ProductRoom n p) (product_tokens p)
    product-segment (of_item x) = item-segment x
    product-segment (multiplies p at x) = both (product-segment p) (plainly (star_sign at) (λ n. refl) (item-segment x))

    item-segment : (x : Item) → Segment limit (λ n. ItemRoom n x) (item_tokens x)
    item-segment (item_plain x) = plainly (plain_token x) (token-plain x) nothing
    item-segment (item_bracket at e end) = parens at end (expr-segment e)

  first-segment : (f : First) → Segment limit (λ n. FirstRoom n f) (first_tokens f)
  first-segment (first_plain x) = plainly (plain_token x) (token-plain x) nothing
  first-segment (first_times f at x) = both (first-segment f) (plainly (star_sign at) (λ n. refl) (item-segment x))

  lead-segment : (l : Lead) → Segment limit (λ n. LeadRoom n l) (lead_tokens l)
  lead-segment (of_first f) = first-segment f
  lead-segment (lead_adds l o at p) = both (lead-segment l) (plainly (add_token o at) (add-plain o at) (product-segment p))

  -- ---- formulas

  clause-plain : (c : ClauseOp) (at : Place) → IsPlain (clause_token c at)
  clause-plain by_colon at n = refl
  clause-plain by_left at n = refl

  arrow-plain : (c : ArrowOp) (at : Place) → IsPlain (arrow_token c at)
  arrow-plain by_lolli at n = refl
  arrow-plain by_right at n = refl

  quantifier-plain : (q : Quantifier) (at : Place) → IsPlain (quantifier_token q at)
  quantifier-plain quantifier.Forall at n = refl
  quantifier-plain quantifier.Exists at n = refl

  mutual
    formula-segment : {o : Bool} (f : Formula o) → Segment limit (λ n. FormulaRoom n f) (formula_tokens f)
    formula-segment (of_arrow a) = arrow-segment a
    formula-segment (clause f c at a) = both (formula-segment f) (plainly (clause_token c at) (clause-plain c at) (arrow-segment a))

    arrow-segment : {o : Bool} (a : Arrow o) → Segment limit (λ n. ArrowRoom n a) (arrow_tokens a)
    arrow-segment (of_sum s) = sum-segment s
    arrow-segment (implies s c at a) = both (sum-segment s) (plainly (arrow_token c at) (arrow-plain c at) (arrow-segment a))
    arrow-segment (loads n ss at a) = plainly (name n) (λ n. refl) (both (simples-segment ss) (plainly (load_arrow at) (λ n. refl) (arrow-segment a)))

    sum-segment : {o : Bool} (s : Sum o) → Segment limit (λ n. SumRoom n s) (sum_tokens s)
    sum-segment (of_with w) = with-segment w
    sum-segment (plus w at s) = both (with-segment w) (plainly (semicolon at) (λ n. refl) (sum-segment s))

    with-segment : {o : Bool} (w : With o) → Segment limit (λ n. WithRoom n w) (with_tokens w)
    with-segment (of_tensor t) = tensor-segment t
    with-segment (with t at w) = both (tensor-segment t) (plainly (ampersand at) (λ n. refl) (with-segment w))

    tensor-segment : {o : Bool} (t : Tensor o) → Segment limit (λ n. TensorRoom n t) (tensor_tokens t)
    tensor-segment (of_primary p) = primary-segment p
    tensor-segment (times p at t) = both (primary-segment p) (plainly (comma at) (λ n. refl) (tensor-segment t))

    primary-segment : {o : Bool} (p : Primary o) → Segment limit (λ n. PrimaryRoom n p) (primary_tokens p)
    primary-segment (truly at) = plainly (true_word at) (λ n. refl) nothing
    primary-segment (erased at) = plainly (erase_word at) (λ n. refl) nothing
    primary-segment (bracket at f end) = parens at end (formula-segment f)
    primary-segment (brace at f end) = curly at end (formula-segment f)
    primary-segment (quantified q at w slash f) = plainly (quantifier_token q at) (quantifier-plain q at)
        (plainly (word_token w) (word-plain w) (plainly (backslash slash) (λ n. refl) (formula-segment f)))
    primary-segment (atom w ss) = plainly (word_token w) (word-plain w) (simples-segment ss)
    primary-segment (valued x at e) = plainly (plain_token x) (token-plain x) (plainly (is_sign at) (λ n. refl) (expr-segment e))
    primary-segment (tested l c at e) = both (lead-segment l) (plainly (test_token c at) (test-plain c at) (expr-segment e))

  -- ---- programs and queries

  -- the same segment with the same room, said otherwise
  rename : {P Q : ℕ → Type 0} {xs : List Tok} → ((n : ℕ) → P n → Q n) → ((n : ℕ) → Q n → P n) → Segment limit P xs → Segment limit Q xs
  rename {P} {Q} {xs} f g s = record {
    down = λ n r e rest h. let a = s.down n r e rest h in (f r a.0, a.1);
    up = λ n r e rest q h. s.up n r e rest (g r q) h;
  }

  -- a plain token at the end, or a plain segment in front
  ended : {P : ℕ → Type 0} {xs : List Tok} (t : Tok) → IsPlain t → Segment limit P xs → Segment limit P (xs ++ t ∷ [])
  ended t e s = rename (λ n p. p.0) (λ n p. (p, tt)) (both s (plainly t e nothing))

  behind : {P : ℕ → Type 0} {xs ys : List Tok} → Segment limit Free xs → Segment limit P ys → Segment limit P (xs ++ ys)
  behind s t = rename (λ n p. p.1) (λ n p. (tt, p)) (both s t)

  names-segment : (ns : List Identifier) → Segment limit Free (names ns)
  names-segment [] = nothing
  names-segment (n ∷ ns) = plainly (name n) (λ k. refl) (names-segment ns)

  variables-segment : (ns : List Identifier) → Segment limit Free (variables ns)
  variables-segment [] = nothing
  variables-segment (n ∷ ns) = plainly (variable n) (λ k. refl) (variables-segment ns)

  clause-segment : (c : Clause) → Segment limit (λ n. ClauseRoom n c) (clause_tokens c)
  clause-segment (plain f end) = ended (dot end) (λ n. refl) (formula-segment f)
  clause-segment (linear at f end) = plainly (linear_word at) (λ n. refl) (ended (dot end) (λ n. refl) (formula-segment f))

  clauses-segment : (cs : List Clause) → Segment limit (λ n. ClausesRoom n cs) (clauses_tokens cs)
  clauses-segment [] = nothing
  clauses-segment (c ∷ cs) = both (clause-segment c) (clauses-segment cs)

  local-segment : (l : Local) → Segment limit Free (local_tokens l)
  local-segment l = plainly (local_word l.word) (λ n. refl) (plainly (name l.first) (λ n. refl) (ended (dot l.end) (λ n. refl) (names-segment l.others)))

  locals-segment : (ls : List Local) → Segment limit Free (locals_tokens ls)
  locals-segment [] = nothing
  locals-segment (l ∷ ls) = behind (local-segment l) (locals-segment ls)

  heading-segment : (h : Heading) → Segment limit Free (heading_tokens h)
  heading-segment h = plainly (module_word h.word) (λ n. refl) (plainly (name h.name) (λ n. refl) (ended (dot h.end) (λ n. refl) (variables-segment h.params)))

  modules-segment : (ms : List Module) → Segment limit (λ n. ModulesRoom n ms) (modules_tokens ms)
  modules-segment [] = nothing
  modules-segment (m ∷ ms) = both (behind (heading-segment m.heading) (behind (locals-segment m.locals) (clauses-segment m.clauses))) (modules-segment ms)

  program-segment : (p : Program) → Segment limit (λ n. ProgramRoom n p) (program_tokens p)
  program-segment p = both (clauses-segment p.clauses) (modules-segment p.modules)

  query-segment : (q : Query) → Segment limit (λ n. QueryRoom n q) (query_tokens q)
  query-segment (bare f) = formula-segment f
  query-segment (dotted f end) = ended (dot end) (λ n. refl) (formula-segment f)

  -- such a segment alone stays within the limit exactly where it has room
  segment-room : (P : ℕ → Type 0) (xs : List Tok) → Segment limit P xs → Within limit xs → P limit
  segment-room P xs s h = (s.down 0 limit (omega arith) [] (subst (Below limit 0) (sym (append-nil xs)) (below-within limit xs 0 h))).0

  room-segment : (P : ℕ → Type 0) (xs : List Tok) → Segment limit P xs → P limit → Within limit xs
  room-segment P xs s p = within-below limit xs 0 (subst (Below limit 0) (append-nil xs) (s.up 0 limit (omega arith) [] p (omega arith)))

  pub program-room : (p : Program) → Within limit (program_tokens p) → ProgramRoom limit p
  program-room p = segment-room (λ n. ProgramRoom n p) (program_tokens p) (program-segment p)

  pub program-within : (p : Program) → ProgramRoom limit p → Within limit (program_tokens p)
  program-within p = room-segment (λ n. ProgramRoom n p) (program_tokens p) (program-segment p)

  pub query-room : (q : Query) → Within limit (query_tokens q) → QueryRoom limit q
  query-room q = segment-room (λ n. QueryRoom n q) (query_tokens q) (query-segment q)

  pub query-within : (q : Query) → QueryRoom limit q → Within limit (query_tokens q)
  query-within q = room-segment (λ n. QueryRoom n q) (query_tokens q) (query-segment q)
