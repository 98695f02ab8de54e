-- The term that is printed has the raw tree that is printed, and its tokens can stand in a text.
use Rattle.std.proofs.Common.{◌≡◌, Bool, true, false, List, [], ◌∷◌, codes, inl, inr, if◌then◌else◌, refl, sym, ◌∙◌, ap, subst, ℕ}
use Rattle.ll_lexer.specs.Spelling.{is_name}
use Rattle.ll_parser.specs.Tokens.{Identifier}
use Rattle.ll_parser.specs.Raw.{Raw, truth, erasure, braces, universal, existential, load, binary, head, anything, int, RawList, none, more, raws_then}
use Rattle.ll_parser.specs.Raw.{is_goal, less_goal, most_goal, sign_raw}
use Rattle.ll_parser.specs.Grammar.{lower, upper, Term, of_app, cons, applied, app_any, app_number, app_bracket, Simples, no_more, and_then, word_identifier}
use Rattle.ll_parser.specs.Grammar.{term_raw, app_raw, simple_raw, simples_raws, Plain, plain_word, plain_any, plain_number, Expr, of_product, adds, Product}
use Rattle.ll_parser.specs.Grammar.{of_item, multiplies, Item, item_plain, item_bracket, First, first_plain, first_times, Lead, of_first, lead_adds, by_plus}
use Rattle.ll_parser.specs.Grammar.{by_minus, plain_raw, expr_raw, product_raw, item_raw, first_raw, lead_raw}
use Rattle.ll_parser.specs.Printed.{is_cons}
use Rattle.ll_parser.proofs.printing.PrintedTree.{word_of, to_app, to_simple, pick, term_of, terms_of, simples_of, arguments_of, plain_of, to_product, to_item}
use Rattle.ll_parser.proofs.printing.PrintedTree.{expr_of, to_first, lead_of}
use Rattle.ll_parser.proofs.printing.Printable.{HasShape, IsTerm, AreTerms, word-no-cons, IsPlainTerm, IsExpr, IsLead}
use Rattle.ll_lexer.specs.declared.Place.{Place}

-- a word has its name back
pub word-kept : (n : Identifier) → word_identifier (word_of n) ≡ n
word-kept n = by_test (is_name n.text)
  where
    by_test : (v : Bool) → word_identifier (if v then lower n else upper n) ≡ n
    by_test true = refl
    by_test false = refl

app-kept : (t : Term) → app_raw (to_app t) ≡ term_raw t
app-kept (of_app a) = refl
app-kept (cons a at t) = refl

simple-kept : (t : Term) → simple_raw (to_simple t) ≡ term_raw t
simple-kept (of_app (applied w no_more)) = refl
simple-kept (of_app (applied w (and_then ss s))) = refl
simple-kept (of_app (app_any at)) = refl
simple-kept (of_app (app_number n at)) = refl
simple-kept (of_app (app_bracket at t end)) = refl
simple-kept (cons a at t) = refl

-- a list of raw trees behind another
abbrev joined : RawList → RawList → RawList
joined none rs = rs
joined (more x xs) rs = more x (joined xs rs)

join-none : (xs : RawList) → joined xs none ≡ xs
join-none none = refl
join-none (more x xs) = ap (more x) (join-none xs)

join-then : (xs : RawList) (r : Raw) (rs : RawList) → joined (raws_then xs r) rs ≡ joined xs (more r rs)
join-then none r rs = refl
join-then (more x xs) r rs = ap (more x) (join-then xs r rs)

pick-head : (n : Identifier) (v : Bool) (ts : List Term) (ss : Simples) → v ≡ false → term_raw (pick v n ts ss) ≡ head n (simples_raws ss)
pick-head n true ts ss e = absurd cc
pick-head n false ts ss e = ap (λ z. head z (simples_raws ss)) (word-kept n)

abbrev raws_list : List Term → RawList
raws_list [] = none
raws_list (t ∷ ts) = more (term_raw t) (raws_list ts)

-- a head of the text `::`
cons-kept : (n : Identifier) (x y : Raw) (ss : Simples) → n.text ≡ codes "::" → term_raw (term_of x) ≡ x → term_raw (term_of y) ≡ y
    → term_raw (pick (is_cons n.text) n (term_of x ∷ term_of y ∷ []) ss) ≡ head n (more x (more y none))
cons-kept n x y ss e f g =
    let same : record { text = codes "::"; at = n.at } ≡ n = ap (λ z. record { text = z; at = n.at }) (sym e) in
    ap (λ z. term_raw (pick (is_cons z) n (term_of x ∷ term_of y ∷ []) ss)) e
    ∙ ap (λ z. head (record { text = codes "::"; at = n.at }) (more z (more (term_raw (term_of y)) none))) (app-kept (term_of x) ∙ f)
    ∙ ap (λ z. head (record { text = codes "::"; at = n.at }) (more x (more z none))) g
    ∙ ap (λ z. head z (more x (more y none))) same

head-kept : (n : Identifier) (rs : RawList) → HasShape n rs → simples_raws (arguments_of rs) ≡ rs → raws_list (terms_of rs) ≡ rs
    → term_raw (term_of (head n rs)) ≡ head n rs
head-kept n rs (inl w) s l = pick-head n (is_cons n.text) (terms_of rs) (arguments_of rs) (word-no-cons n w) ∙ ap (head n) s
head-kept n rs (inr (text, x, y, p)) s l =
    let q : raws_list (terms_of (more x (more y none))) ≡ more x (more y none) = subst (λ z. raws_list (terms_of z) ≡ z) p l in
    subst (λ z. term_raw (term_of (head n z)) ≡ head n z) (sym p) (cons-kept n x y (arguments_of (more x (more y none))) text (first q) (second q))
  where
    first : {a b : Raw} {xs ys : RawList} → more a xs ≡ more b ys → a ≡ b
    first e = cc

    second : {a b c d : Raw} {xs ys : RawList} → more a (more c xs) ≡ more b (more d ys) → c ≡ d
    second e = cc

mutual
  pub term-kept : (r : Raw) → IsTerm r → term_raw (term_of r) ≡ r
  term-kept (head n rs) h = head-kept n rs h.0 (simples-kept rs no_more h.1) (terms-kept rs h.1)
  term-kept (anything at) h = refl
  term-kept (int at n) h = refl
  term-kept (truth at) h = absurd h
  term-kept (erasure at) h = absurd h
  term-kept (braces at g) h = absurd h
  term-kept (universal at n g) h = absurd h
  term-kept (existential at n g) h = absurd h
  term-kept (load at n rs g) h = absurd h
  term-kept (binary o at l r) h = absurd h
  term-kept (is_goal at l r) h = absurd h
  term-kept (less_goal at l r) h = absurd h
  term-kept (most_goal at l r) h = absurd h

  simples-kept : (rs : RawList) (acc : Simples) → AreTerms rs → simples_raws (simples_of acc rs) ≡ joined (simples_raws acc) rs
  simples-kept none acc h = sym (join-none (simples_raws acc))
  simples-kept (more r rs) acc h =
      simples-kept rs (and_then acc (to_simple (term_of r))) h.1
      ∙ ap (λ z. joined (raws_then (simples_raws acc) z) rs) (simple-kept (term_of r) ∙ term-kept r h.0)
      ∙ join-then (simples_raws acc) r rs

  terms-kept : (rs : RawList) → AreTerms rs → raws_list (terms_of rs) ≡ rs
  terms-kept none h = refl
  terms-kept (more r rs) h = ap (λ z. more z (raws_list (terms_of rs))) (term-kept r h.0) ∙ ap (more r) (terms-kept rs h.1)

-- the arguments that are printed are those of the tree
pub arguments-kept : (rs : RawList) → AreTerms rs → simples_raws (arguments_of rs) ≡ rs
arguments-kept rs h = simples-kept rs no_more h

-- ---- expressions of whole numbers

signed : (w : List ℕ) (at : Place) {a b c d : Raw} → a ≡ b → c ≡ d → sign_raw w at a c ≡ sign_raw w at b d
signed w at h k = λ i. sign_raw w at (h i) (k i)

product-raw : (e : Expr) → product_raw (to_product e) ≡ expr_raw e
product-raw (of_product p) = refl
product-raw (adds e o at p) = refl

item-raw : (e : Expr) → item_raw (to_item e) ≡ expr_raw e
item-raw (of_product (of_item x)) = refl
item-raw (of_product (multiplies p at x)) = refl
item-raw (adds e o at p) = refl

plain-kept : (x : Plain) → plain_raw (plain_of (plain_raw x)) ≡ plain_raw x
plain-kept (plain_word w) = ap (λ z. head z none) (word-kept (word_identifier w))
plain-kept (plain_any at) = refl
plain-kept (plain_number z at) = refl

unit-kept : (x : Plain) → expr_raw (expr_of (plain_raw x)) ≡ plain_raw x
unit-kept (plain_word w) = plain-kept (plain_word w)
unit-kept (plain_any at) = refl
unit-kept (plain_number z at) = refl

mutual
  expr-kept : (e : Expr) → expr_raw (expr_of (expr_raw e)) ≡ expr_raw e
  expr-kept (of_product p) = product-kept p
  expr-kept (adds e by_plus at p) = signed (codes "+") at (expr-kept e) (product-raw (expr_of (product_raw p)) ∙ product-kept p)
  expr-kept (adds e by_minus at p) = signed (codes "-") at (expr-kept e) (product-raw (expr_of (product_raw p)) ∙ product-kept p)

  product-kept : (p : Product) → expr_raw (expr_of (product_raw p)) ≡ product_raw p
  product-kept (of_item x) = item-kept x
  product-kept (multiplies p at x) =
      signed (codes "*") at (product-raw (expr_of (product_raw p)) ∙ product-kept p) (item-raw (expr_of (item_raw x)) ∙ item-kept x)

  item-kept : (x : Item) → expr_raw (expr_of (item_raw x)) ≡ item_raw x
  item-kept (item_plain x) = unit-kept x
  item-kept (item_bracket at e end) = expr-kept e

lead-unit-kept : (x : Plain) → lead_raw (lead_of (plain_raw x)) ≡ plain_raw x
lead-unit-kept (plain_word w) = plain-kept (plain_word w)
lead-unit-kept (plain_any at) = refl
lead-unit-kept (plain_number z at) = refl

first-raw : (f : First) → first_raw (to_first (lead_of (first_raw f))) ≡ lead_raw (lead_of (first_raw f))
first-raw (first_plain (plain_word w)) = refl
first-raw (first_plain (plain_any at)) = refl
first-raw (first_plain (plain_number z at)) = refl
first-raw (first_times f at x) = refl

first-kept : (f : First) → lead_raw (lead_of (first_raw f)) ≡ first_raw f
first-kept (first_plain x) = lead-unit-kept x
first-kept (first_times f at x) = signed (codes "*") at (first-raw f ∙ first-kept f) (item-raw (expr_of (item_raw x)) ∙ item-kept x)

lead-kept : (l : Lead) → lead_raw (lead_of (lead_raw l)) ≡ lead_raw l
lead-kept (of_first f) = first-kept f
lead-kept (lead_adds l by_plus at p) = signed (codes "+") at (lead-kept l) (product-raw (expr_of (product_raw p)) ∙ product-kept p)
lead-kept (lead_adds l by_minus at p) = signed (codes "-") at (lead-kept l) (product-raw (expr_of (product_raw p)) ∙ product-kept p)

-- the goals that are printed have the sides of the trees
pub left-kept : (r : Raw) → IsPlainTerm r → plain_raw (plain_of r) ≡ r
left-kept r (x, s, e) = subst (λ z. plain_raw (plain_of z) ≡ z) e (plain-kept x)

pub lead-side-kept : (r : Raw) → IsLead r → lead_raw (lead_of r) ≡ r
lead-side-kept r (l, s, e) = subst (λ z. lead_raw (lead_of z) ≡ z) e (lead-kept l)

pub right-kept : (r : Raw) → IsExpr r → expr_raw (expr_of r) ≡ r
right-kept r (x, s, e) = subst (λ z. expr_raw (expr_of z) ≡ z) e (expr-kept x)
