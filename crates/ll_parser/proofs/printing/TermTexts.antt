-- The text by levels is the text of the parse tree that is printed: terms.
use Rattle.std.proofs.Common.{◌≡◌, Bool, true, false, List, [], ◌∷◌, ◌++◌, codes, inl, inr, refl, sym, ◌∙◌, ap, subst, append_assoc, append-nil, ℕ, ◌||◌}
use Rattle.ll_list_laws.proofs.CallerLemmas.{or_false as or-false}
use Rattle.ll_parser.specs.Tokens.{Identifier}
use Rattle.ll_parser.specs.Raw.{Raw, truth, erasure, braces, universal, existential, load, binary, head, anything, int, RawList, none, more, is_goal}
use Rattle.ll_parser.specs.Raw.{less_goal, most_goal}
use Rattle.ll_parser.specs.Grammar.{Term, Simple, Simples, no_more, and_then, word_identifier, Plain, plain_word, plain_any, plain_number, Expr, of_product}
use Rattle.ll_parser.specs.Grammar.{adds, Product, of_item, multiplies, Item, item_plain, item_bracket, First, first_plain, first_times, Lead, of_first}
use Rattle.ll_parser.specs.Grammar.{lead_adds, by_plus, by_minus, plain_raw, expr_raw, product_raw, item_raw, first_raw, lead_raw}
use Rattle.ll_parser.specs.Printed.{is_cons, bracketed, is_pair, has_arguments, head_text, term_text, arguments_text, pair_text, between, is_sum, is_product}
use Rattle.ll_parser.specs.Printed.{expr_text}
use Rattle.ll_parser.proofs.printing.PrintedTree.{word_of, to_app, to_simple, pick, term_of, terms_of, simples_of, arguments_of, plain_of, to_product, to_item}
use Rattle.ll_parser.proofs.printing.PrintedTree.{expr_of, to_first, lead_of}
use Rattle.ll_parser.proofs.printing.Written.{term_bytes, app_bytes, simple_bytes, simples_bytes, plain_bytes, expr_bytes, product_bytes, item_bytes}
use Rattle.ll_parser.proofs.printing.Written.{first_bytes, lead_bytes}
use Rattle.ll_parser.proofs.printing.Printable.{HasShape, IsTerm, AreTerms, word-no-cons, IsPlainTerm, IsExpr, IsLead}
use Rattle.ll_parser.proofs.printing.PrintedTerms.{word-kept}

-- ---- where brackets stand

-- left of `::`
pick-app : (n : Identifier) (v : Bool) (a b : Term) (ss : Simples)
    → app_bytes (to_app (pick v n (a ∷ b ∷ []) ss)) ≡ bracketed v (term_bytes (pick v n (a ∷ b ∷ []) ss))
pick-app n true a b ss = refl
pick-app n false a b ss = refl

pick-one : (n : Identifier) (v : Bool) (a : Term) (ss : Simples) → app_bytes (to_app (pick v n (a ∷ []) ss)) ≡ term_bytes (pick v n (a ∷ []) ss)
pick-one n true a ss = refl
pick-one n false a ss = refl

pick-none : (n : Identifier) (v : Bool) (ss : Simples) → app_bytes (to_app (pick v n [] ss)) ≡ term_bytes (pick v n [] ss)
pick-none n true ss = refl
pick-none n false ss = refl

pick-many : (n : Identifier) (v : Bool) (a b c : Term) (ts : List Term) (ss : Simples)
    → app_bytes (to_app (pick v n (a ∷ b ∷ c ∷ ts) ss)) ≡ term_bytes (pick v n (a ∷ b ∷ c ∷ ts) ss)
pick-many n true a b c ts ss = refl
pick-many n false a b c ts ss = refl

app-brackets : (x : Raw) → app_bytes (to_app (term_of x)) ≡ bracketed (is_pair x) (term_bytes (term_of x))
app-brackets (head n none) = pick-none n (is_cons n.text) no_more
app-brackets (head n (more x none)) = pick-one n (is_cons n.text) (term_of x) (arguments_of (more x none))
app-brackets (head n (more x (more y none))) = pick-app n (is_cons n.text) (term_of x) (term_of y) (arguments_of (more x (more y none)))
app-brackets (head n (more x (more y (more z rs)))) = pick-many n (is_cons n.text) (term_of x) (term_of y) (term_of z) (terms_of rs)
    (arguments_of (more x (more y (more z rs))))
app-brackets (anything at) = refl
app-brackets (int at z) = refl
app-brackets (truth at) = refl
app-brackets (erasure at) = refl
app-brackets (braces at g) = refl
app-brackets (universal at n g) = refl
app-brackets (existential at n g) = refl
app-brackets (load at n rs g) = refl
app-brackets (binary o at l r) = refl
app-brackets (is_goal at l r) = refl
app-brackets (less_goal at l r) = refl
app-brackets (most_goal at l r) = refl

-- an argument with arguments
enclosed : (n : Identifier) (v : Bool) (ts : List Term) (ss : Simples) (s : Simple)
    → simple_bytes (to_simple (pick v n ts (and_then ss s))) ≡ bracketed true (term_bytes (pick v n ts (and_then ss s)))
enclosed n true [] ss s = refl
enclosed n true (a ∷ []) ss s = refl
enclosed n true (a ∷ b ∷ []) ss s = refl
enclosed n true (a ∷ b ∷ c ∷ ts) ss s = refl
enclosed n false ts ss s = refl

bare : (n : Identifier) (v : Bool) → simple_bytes (to_simple (pick v n [] no_more)) ≡ term_bytes (pick v n [] no_more)
bare n true = sym (append-nil (word_identifier (word_of n)).text)
bare n false = sym (append-nil (word_identifier (word_of n)).text)

-- some arguments end with one
pub record HasLast (ss : Simples) : Type 0 where
  pub front : Simples
  pub back : Simple
  pub is : ss ≡ and_then front back

has-last : (rs : RawList) (ss : Simples) (s : Simple) → HasLast (simples_of (and_then ss s) rs)
has-last none ss s = record { front = ss; back = s; is = refl }
has-last (more r rs) ss s = has-last rs (and_then ss s) (to_simple (term_of r))

simple-brackets : (x : Raw) → simple_bytes (to_simple (term_of x)) ≡ bracketed (has_arguments x) (term_bytes (term_of x))
simple-brackets (head n none) = bare n (is_cons n.text)
simple-brackets (head n (more x rs)) =
    let l = has-last rs no_more (to_simple (term_of x)) in
    subst (λ z. simple_bytes (to_simple (pick (is_cons n.text) n (terms_of (more x rs)) z))
    ≡ bracketed true (term_bytes (pick (is_cons n.text) n (terms_of (more x rs)) z))) (sym l.is)
    (enclosed n (is_cons n.text) (terms_of (more x rs)) l.front l.back)
simple-brackets (anything at) = refl
simple-brackets (int at z) = refl
simple-brackets (truth at) = refl
simple-brackets (erasure at) = refl
simple-brackets (braces at g) = refl
simple-brackets (universal at n g) = refl
simple-brackets (existential at n g) = refl
simple-brackets (load at n rs g) = refl
simple-brackets (binary o at l r) = refl
simple-brackets (is_goal at l r) = refl
simple-brackets (less_goal at l r) = refl
simple-brackets (most_goal at l r) = refl

-- ---- the text

abbrev AllShown : RawList → Type 0
AllShown none = Unit {0}
AllShown (more r rs) = (term_bytes (term_of r) ≡ term_text r) × AllShown rs

arguments-all : (rs : RawList) (acc : Simples) → AllShown rs → simples_bytes (simples_of acc rs) ≡ simples_bytes acc ++ arguments_text rs
arguments-all none acc h = sym (append-nil (simples_bytes acc))
arguments-all (more r rs) acc h =
    let one : simple_bytes (to_simple (term_of r)) ≡ bracketed (has_arguments r) (term_text r) = simple-brackets r ∙ ap (bracketed (has_arguments r)) h.0 in
    arguments-all rs (and_then acc (to_simple (term_of r))) h.1
    ∙ append_assoc (simples_bytes acc) (codes " " ++ simple_bytes (to_simple (term_of r))) (arguments_text rs)
    ∙ ap (λ z. simples_bytes acc ++ (codes " " ++ (z ++ arguments_text rs))) one

not-pair : (n : Identifier) (rs : RawList) → is_cons n.text ≡ false → is_pair (head n rs) ≡ false
not-pair n none h = refl
not-pair n (more x none) h = refl
not-pair n (more x (more y none)) h = h
not-pair n (more x (more y (more z rs))) h = refl

pick-word : (n : Identifier) (v : Bool) (ts : List Term) (ss : Simples) → v ≡ false → term_bytes (pick v n ts ss) ≡ n.text ++ simples_bytes ss
pick-word n true ts ss h = absurd cc
pick-word n false ts ss h = ap (λ z. z.text ++ simples_bytes ss) (word-kept n)

head-word : (n : Identifier) (rs : RawList) → is_cons n.text ≡ false → AllShown rs → term_bytes (term_of (head n rs)) ≡ term_text (head n rs)
head-word n rs h k =
    pick-word n (is_cons n.text) (terms_of rs) (arguments_of rs) h
    ∙ ap (λ z. n.text ++ z) (arguments-all rs no_more k)
    ∙ ap (λ v. head_text v n (pair_text rs) (arguments_text rs)) (sym (not-pair n rs h))

head-pair : (n : Identifier) (x y : Raw) → n.text ≡ codes "::" → AllShown (more x (more y none))
    → term_bytes (term_of (head n (more x (more y none)))) ≡ term_text (head n (more x (more y none)))
head-pair n x y e k =
    ap (λ w. term_bytes (pick (is_cons w) n (term_of x ∷ term_of y ∷ []) (arguments_of (more x (more y none))))) e
    ∙ ap (λ z. z ++ (codes "::" ++ term_bytes (term_of y))) (app-brackets x ∙ ap (bracketed (is_pair x)) k.0)
    ∙ ap (λ z. bracketed (is_pair x) (term_text x) ++ (codes "::" ++ z)) k.1.0
    ∙ ap (λ w. head_text (is_cons w) n (pair_text (more x (more y none))) (arguments_text (more x (more y none)))) (sym e)

head-any : (n : Identifier) (rs : RawList) → HasShape n rs → AllShown rs → term_bytes (term_of (head n rs)) ≡ term_text (head n rs)
head-any n rs (inl w) k = head-word n rs (word-no-cons n w) k
head-any n rs (inr (e, x, y, p)) k = subst (λ z. term_bytes (term_of (head n z)) ≡ term_text (head n z)) (sym p) (head-pair n x y e (subst AllShown p k))

mutual
  term-shown : (r : Raw) → IsTerm r → term_bytes (term_of r) ≡ term_text r
  term-shown (head n rs) h = head-any n rs h.0 (all-shown rs h.1)
  term-shown (anything at) h = refl
  term-shown (int at z) h = refl
  term-shown (truth at) h = absurd h
  term-shown (erasure at) h = absurd h
  term-shown (braces at g) h = absurd h
  term-shown (universal at n g) h = absurd h
  term-shown (existential at n g) h = absurd h
  term-shown (load at n rs g) h = absurd h
  term-shown (binary o at l r) h = absurd h
  term-shown (is_goal at l r) h = absurd h
  term-shown (less_goal at l r) h = absurd h
  term-shown (most_goal at l r) h = absurd h

  all-shown : (rs : RawList) → AreTerms rs → AllShown rs
  all-shown none h = tt
  all-shown (more r rs) h = (term-shown r h.0, all-shown rs h.1)

-- the arguments of a head or a load
pub arguments-shown : (rs : RawList) → AreTerms rs → simples_bytes (arguments_of rs) ≡ arguments_text rs
arguments-shown rs h = arguments-all rs no_more (all-shown rs h)

-- ---- expressions of whole numbers

-- both sides of a sign
pub sides : (w : List ℕ) {a b c d : List ℕ} → a ≡ b → c ≡ d → a ++ between w c ≡ b ++ between w d
sides w {b = b} {c = c} h k = ap (λ z. z ++ between w c) h ∙ ap (λ z. b ++ between w z) k

-- a sum or a difference, or a product
abbrev is_adds : Expr → Bool
is_adds (of_product p) = false
is_adds (adds e o at p) = true

abbrev is_times : Expr → Bool
is_times (of_product (multiplies p at x)) = true
is_times _ = false

plain-shape : (x : Plain) → (is_adds (expr_of (plain_raw x)) ≡ is_sum (plain_raw x)) × (is_times (expr_of (plain_raw x)) ≡ is_product (plain_raw x))
plain-shape (plain_word w) = (refl, refl)
plain-shape (plain_any at) = (refl, refl)
plain-shape (plain_number z at) = (refl, refl)

-- what the expression is that is printed, the tree says
mutual
  expr-shape : (e : Expr) → (is_adds (expr_of (expr_raw e)) ≡ is_sum (expr_raw e)) × (is_times (expr_of (expr_raw e)) ≡ is_product (expr_raw e))
  expr-shape (of_product p) = product-shape p
  expr-shape (adds e by_plus at p) = (refl, refl)
  expr-shape (adds e by_minus at p) = (refl, refl)

  product-shape : (p : Product)
      → (is_adds (expr_of (product_raw p)) ≡ is_sum (product_raw p)) × (is_times (expr_of (product_raw p)) ≡ is_product (product_raw p))
  product-shape (of_item x) = item-shape x
  product-shape (multiplies p at x) = (refl, refl)

  item-shape : (x : Item) → (is_adds (expr_of (item_raw x)) ≡ is_sum (item_raw x)) × (is_times (expr_of (item_raw x)) ≡ is_product (item_raw x))
  item-shape (item_plain x) = plain-shape x
  item-shape (item_bracket at e end) = expr-shape e

product-brackets : (e : Expr) → product_bytes (to_product e) ≡ bracketed (is_adds e) (expr_bytes e)
product-brackets (of_product p) = refl
product-brackets (adds e o at p) = refl

item-brackets : (e : Expr) → item_bytes (to_item e) ≡ bracketed (is_adds e || is_times e) (expr_bytes e)
item-brackets (of_product (of_item x)) = refl
item-brackets (of_product (multiplies p at x)) = refl
item-brackets (adds e o at p) = refl

plain-shown : (x : Plain) → expr_bytes (expr_of (plain_raw x)) ≡ expr_text (plain_raw x)
plain-shown (plain_word w) = ap (λ z. z.text) (word-kept (word_identifier w))
plain-shown (plain_any at) = refl
plain-shown (plain_number z at) = refl

-- what stands on the right of `+` and `-`, on the left of `*`, and on its right, where the text of the expression is known
right-of-sum : (e : Expr) (r : Raw) → is_adds e ≡ is_sum r → expr_bytes e ≡ expr_text r → product_bytes (to_product e)
    ≡ bracketed (is_sum r || false) (expr_text r)
right-of-sum e r s t = product-brackets e ∙ (λ i. bracketed ((s ∙ or-false (is_sum r)) i) (t i))

left-of-star : (e : Expr) (r : Raw) → is_adds e ≡ is_sum r → expr_bytes e ≡ expr_text r → product_bytes (to_product e) ≡ bracketed (is_sum r) (expr_text r)
left-of-star e r s t = product-brackets e ∙ (λ i. bracketed (s i) (t i))

right-of-star : (e : Expr) (r : Raw) → (is_adds e ≡ is_sum r) × (is_times e ≡ is_product r) → expr_bytes e ≡ expr_text r
    → item_bytes (to_item e) ≡ bracketed (is_sum r || is_product r) (expr_text r)
right-of-star e r s t = item-brackets e ∙ (λ i. bracketed (s.0 i || s.1 i) (t i))

mutual
  expr-shown : (e : Expr) → expr_bytes (expr_of (expr_raw e)) ≡ expr_text (expr_raw e)
  expr-shown (of_product p) = product-shown p
  expr-shown (adds e by_plus at p) =
      sides (codes "+") (expr-shown e) (right-of-sum (expr_of (product_raw p)) (product_raw p) (product-shape p).0 (product-shown p))
  expr-shown (adds e by_minus at p) =
      sides (codes "-") (expr-shown e) (right-of-sum (expr_of (product_raw p)) (product_raw p) (product-shape p).0 (product-shown p))

  product-shown : (p : Product) → expr_bytes (expr_of (product_raw p)) ≡ expr_text (product_raw p)
  product-shown (of_item x) = item-shown x
  product-shown (multiplies p at x) =
      sides (codes "*") (left-of-star (expr_of (product_raw p)) (product_raw p) (product-shape p).0 (product-shown p))
      (right-of-star (expr_of (item_raw x)) (item_raw x) (item-shape x) (item-shown x))

  item-shown : (x : Item) → expr_bytes (expr_of (item_raw x)) ≡ expr_text (item_raw x)
  item-shown (item_plain x) = plain-shown x
  item-shown (item_bracket at e end) = expr-shown e

lead-plain-shown : (x : Plain) → lead_bytes (lead_of (plain_raw x)) ≡ expr_text (plain_raw x)
lead-plain-shown (plain_word w) = ap (λ z. z.text) (word-kept (word_identifier w))
lead-plain-shown (plain_any at) = refl
lead-plain-shown (plain_number z at) = refl

-- no sum stands on the left of `*` in a left side
first-no-sum : (f : First) (bytes : List ℕ) → bytes ≡ bracketed (is_sum (first_raw f)) bytes
first-no-sum (first_plain (plain_word w)) bytes = refl
first-no-sum (first_plain (plain_any at)) bytes = refl
first-no-sum (first_plain (plain_number z at)) bytes = refl
first-no-sum (first_times f at x) bytes = refl

first-brackets : (f : First) → first_bytes (to_first (lead_of (first_raw f))) ≡ lead_bytes (lead_of (first_raw f))
first-brackets (first_plain (plain_word w)) = refl
first-brackets (first_plain (plain_any at)) = refl
first-brackets (first_plain (plain_number z at)) = refl
first-brackets (first_times f at x) = refl

first-shown : (f : First) → lead_bytes (lead_of (first_raw f)) ≡ expr_text (first_raw f)
first-shown (first_plain x) = lead-plain-shown x
first-shown (first_times f at x) =
    sides (codes "*") (first-brackets f ∙ first-shown f ∙ first-no-sum f (expr_text (first_raw f)))
    (right-of-star (expr_of (item_raw x)) (item_raw x) (item-shape x) (item-shown x))

lead-shown : (l : Lead) → lead_bytes (lead_of (lead_raw l)) ≡ expr_text (lead_raw l)
lead-shown (of_first f) = first-shown f
lead-shown (lead_adds l by_plus at p) =
    sides (codes "+") (lead-shown l) (right-of-sum (expr_of (product_raw p)) (product_raw p) (product-shape p).0 (product-shown p))
lead-shown (lead_adds l by_minus at p) =
    sides (codes "-") (lead-shown l) (right-of-sum (expr_of (product_raw p)) (product_raw p) (product-shape p).0 (product-shown p))

left-shown : (x : Plain) → plain_bytes (plain_of (plain_raw x)) ≡ expr_text (plain_raw x)
left-shown (plain_word w) = ap (λ z. z.text) (word-kept (word_identifier w))
left-shown (plain_any at) = refl
left-shown (plain_number z at) = refl

right-shown : (r : Raw) → IsExpr r → expr_bytes (expr_of r) ≡ expr_text r
right-shown r (e, s, q) = subst (λ z. expr_bytes (expr_of z) ≡ expr_text z) q (expr-shown e)

-- whole-number goals
pub is-shown : (l r : Raw) → IsPlainTerm l → IsExpr r → plain_bytes (plain_of l) ++ between (codes "is") (expr_bytes (expr_of r))
    ≡ expr_text l ++ between (codes "is") (expr_text r)
is-shown l r (x, s, q) h = sides (codes "is") (subst (λ z. plain_bytes (plain_of z) ≡ expr_text z) q (left-shown x)) (right-shown r h)

pub test-shown : (w : List ℕ) (l r : Raw) → IsLead l → IsExpr r → lead_bytes (lead_of l) ++ between w (expr_bytes (expr_of r))
    ≡ expr_text l ++ between w (expr_text r)
test-shown w l r (x, s, q) h = sides w (subst (λ z. lead_bytes (lead_of z) ≡ expr_text z) q (lead-shown x)) (right-shown r h)
