-- The faults of a text stand in the order of its tokens, so the first of them has the first place.
use Rattle.std.proofs.Common.{◌≡◌, ℕ, suc, Bool, true, false, List, [], ◌∷◌, ◌++◌, Option, Some, None, if◌then◌else◌, inl, inr, refl, sym, subst, ap, ◌∙◌}
use Rattle.std.proofs.Common.{append_assoc}
use Rattle.std.specs.Prelude.{find, nat_eq}
use Rattle.std.proofs.lemmas.List.{append-nil}
use Rattle.ll_lexer.specs.declared.Place.{Place}
use Rattle.ll_lexer.specs.declared.Fault.{Fault}
use Rattle.ll_laws.specs.Valid.{Side}
use Rattle.ll_parser.specs.declared.Op.{Op}
use Rattle.ll_parser.specs.declared.Op.TheVariants as op
use Rattle.ll_parser.specs.declared.SumOp.TheVariants.{Plus as by_plus, Minus as by_minus}
use Rattle.ll_parser.specs.declared.TestOp.TheVariants.{Less as by_less, Most as by_most}
use Rattle.ll_parser.specs.Tokens.{Identifier, Tok, name, tok_place, true_word, cons_sign, paren_left, paren_right, brace_left, brace_right, semicolon}
use Rattle.ll_parser.specs.Tokens.{ampersand, comma, load_arrow, backslash, is_sign, less_sign, most_sign, plus_sign, minus_sign, star_sign}
use Rattle.ll_parser.specs.Raw.{Raw, RawList, none, more, raws_then, sign_raw, binary}
use Rattle.ll_parser.specs.Grammar.{Word, lower, upper, Term, of_app, cons, App, applied, app_any, app_number, app_bracket, Simple, simple_word, simple_any}
use Rattle.ll_parser.specs.Grammar.{simple_number, simple_bracket, Simples, no_more, and_then, ClauseOp, by_colon, by_left, ArrowOp, by_lolli, by_right}
use Rattle.ll_parser.specs.Grammar.{Formula, of_arrow, clause, Arrow, of_sum, implies, loads, Sum, of_with, plus, With, of_tensor, with, Tensor, of_primary}
use Rattle.ll_parser.specs.Grammar.{times, Primary, truly, erased, bracket, brace, quantified, atom, valued, tested, Plain, plain_word, plain_any}
use Rattle.ll_parser.specs.Grammar.{plain_number, Expr, of_product, adds, Product, of_item, multiplies, Item, item_plain, item_bracket, First, first_plain}
use Rattle.ll_parser.specs.Grammar.{first_times, Lead, of_first, lead_adds, plain_token, expr_tokens, product_tokens, item_tokens, first_tokens, lead_tokens}
use Rattle.ll_parser.specs.Grammar.{plain_raw, expr_raw, product_raw, item_raw, first_raw, lead_raw, word_token, clause_token, arrow_token, quantifier_token}
use Rattle.ll_parser.specs.Grammar.{term_tokens, app_tokens, simple_tokens, simples_tokens, formula_tokens, arrow_tokens, sum_tokens, with_tokens}
use Rattle.ll_parser.specs.Grammar.{tensor_tokens, primary_tokens, word_identifier, term_raw, app_raw, simple_raw, simples_raws, clause_op, arrow_op}
use Rattle.ll_parser.specs.Grammar.{formula_raw, arrow_raw, sum_raw, with_raw, tensor_raw, primary_raw}
use Rattle.ll_parser.proofs.CallerLemmas.{Spelled, spelled-split, either_quantifier, quantifier_place}
use Rattle.ll_polarity.specs.Scope.{Scope, binds, Constant, bound_by, unbound, meaning, meaning_from}
use Rattle.ll_polarity.specs.Faults.{unless, may_be_head, count, applied_fault, term_faults, terms_faults, on_goal_side, left_side, right_side, may_join}
use Rattle.ll_polarity.specs.Faults.{Heading, is_named, load_fault, number_faults, form_faults, AreInOrder}
use Rattle.ll_polarity.proofs.reading.Signs.{Sign, cell, plus_head, minus_head, star_head, sign_text, sign_no_variable, IsNoSign, word_no_sign}

-- ---- lists of faults and of tokens

pub later : (fs : List Fault) (t : Tok) (ts : List Tok) → AreInOrder fs ts → AreInOrder fs (t ∷ ts)
later [] t ts h = tt
later (f ∷ fs) t ts h = inr h

much_later : (fs : List Fault) (us ts : List Tok) → AreInOrder fs ts → AreInOrder fs (us ++ ts)
much_later fs [] ts h = h
much_later fs (u ∷ us) ts h = later fs u (us ++ ts) (much_later fs us ts h)

pub both : (fs gs : List Fault) (ts us : List Tok) → AreInOrder fs ts → AreInOrder gs us → AreInOrder (fs ++ gs) (ts ++ us)
both [] gs ts us h k = much_later gs ts us k
both (f ∷ fs) gs [] us h k = absurd h
both (f ∷ fs) gs (t ∷ ts) us h k = elim h [ inl p ↦ inl (p.0, both fs gs ts us p.1 k) | inr q ↦ inr (both (f ∷ fs) gs ts us q k) ]

pub before : (fs : List Fault) (ts us : List Tok) → AreInOrder fs ts → AreInOrder fs (ts ++ us)
before fs ts us h = subst (λ z. AreInOrder z (ts ++ us)) (append-nil fs) (both fs [] ts us h tt)

-- one fault at a place, or none
abbrev pub AtMostOne : Place → List Fault → Type 0
AtMostOne at [] = Unit {0}
AtMostOne at (f ∷ []) = f.at ≡ at
AtMostOne at (f ∷ g ∷ fs) = ⊥

one_unless : (b : Bool) (kind : ℕ) (at : Place) → AtMostOne at (unless b kind at)
one_unless true kind at = tt
one_unless false kind at = refl

pub here : (fs gs : List Fault) (t : Tok) (ts : List Tok) (at : Place) → AtMostOne at fs → tok_place t ≡ at → AreInOrder gs ts → AreInOrder (fs ++ gs) (t ∷ ts)
here [] gs t ts at one e h = later gs t ts h
here (f ∷ []) gs t ts at one e h = inl (one ∙ sym e, h)
here (f ∷ g ∷ fs) gs t ts at one e h = absurd one

before_none : (fs : List Fault) (t : Tok) (at : Place) → AtMostOne at fs → tok_place t ≡ at → AreInOrder fs (t ∷ [])
before_none [] t at one e = tt
before_none (f ∷ []) t at one e = inl (one ∙ sym e, tt)
before_none (f ∷ g ∷ fs) t at one e = absurd one

-- ---- a sign is no variable

-- nothing binds a sign
abbrev pub NoSign : Scope → Type 0
NoSign [] = Unit {0}
NoSign (b ∷ bs) = IsNoSign b.text × NoSign bs

sign_means : (s : Sign) (k : ℕ) (scope : Scope) → NoSign scope → meaning_from k scope (sign_text s) ≡ Constant
sign_means s k [] h = ap unbound (sign_no_variable s)
sign_means s k (b ∷ bs) h = ap (λ v. if v then bound_by b.local k else meaning_from (suc k) bs (sign_text s)) (h.0 s) ∙ sign_means s (suc k) bs h.1

sign_may : (s : Sign) (scope : Scope) → NoSign scope → may_be_head (meaning scope (sign_text s)) ≡ true
sign_may s scope h = ap may_be_head (sign_means s 0 scope h)

-- ---- terms

terms_then : (scope : Scope) (rs : RawList) (r : Raw) → terms_faults scope (raws_then rs r) ≡ terms_faults scope rs ++ term_faults scope r
terms_then scope none r = append-nil (term_faults scope r)
terms_then scope (more x rs) r =
    ap (λ z. term_faults scope x ++ z) (terms_then scope rs r) ∙ sym (append_assoc (term_faults scope x) (terms_faults scope rs) (term_faults scope r))

one_applied : (scope : Scope) (n : Identifier) (rs : RawList) → AtMostOne n.at (applied_fault scope n rs)
one_applied scope n none = tt
one_applied scope n (more r rs) = one_unless (may_be_head (meaning scope n.text)) 9 n.at

word_place : (w : Word) → tok_place (word_token w) ≡ (word_identifier w).at
word_place (lower n) = refl
word_place (upper n) = refl

module _ (scope : Scope) (no_sign : NoSign scope) where
  -- a sign between two terms
  order_sign : (s : Sign) (at : Place) (x y : Raw) (t : Tok) (xs ys : List Tok) → AreInOrder (term_faults scope x) xs → AreInOrder (term_faults scope y) ys
      → AreInOrder (term_faults scope (sign_raw (sign_text s) at x y)) (xs ++ t ∷ ys)
  order_sign s at x y t xs ys h k =
      let l = term_faults scope x in let r = term_faults scope y in
      subst (λ b. AreInOrder (unless b 9 at ++ (l ++ (r ++ []))) (xs ++ t ∷ ys)) (sym (sign_may s scope no_sign))
      (both l (r ++ []) xs (t ∷ ys) h (later (r ++ []) t ys (subst (λ z. AreInOrder z ys) (sym (append-nil r)) k)))

  mutual
    order_term : (t : Term) → AreInOrder (term_faults scope (term_raw t)) (term_tokens t)
    order_term (of_app a) = order_app a
    order_term (cons a at t) = order_sign cell at (app_raw a) (term_raw t) (cons_sign at) (app_tokens a) (term_tokens t) (order_app a) (order_term t)

    order_app : (a : App) → AreInOrder (term_faults scope (app_raw a)) (app_tokens a)
    order_app (applied w ss) =
        let n = word_identifier w in
        here (applied_fault scope n (simples_raws ss)) (terms_faults scope (simples_raws ss)) (word_token w) (simples_tokens ss) n.at
        (one_applied scope n (simples_raws ss)) (word_place w)
        (order_simples ss)
    order_app (app_any at) = tt
    order_app (app_number n at) = tt
    order_app (app_bracket at t end) =
        let f = term_faults scope (term_raw t) in later f (paren_left at) (term_tokens t ++ paren_right end ∷ [])
        (before f (term_tokens t) (paren_right end ∷ []) (order_term t))

    order_simple : (s : Simple) → AreInOrder (term_faults scope (simple_raw s)) (simple_tokens s)
    order_simple (simple_word w) = tt
    order_simple (simple_any at) = tt
    order_simple (simple_number n at) = tt
    order_simple (simple_bracket at t end) =
        let f = term_faults scope (term_raw t) in later f (paren_left at) (term_tokens t ++ paren_right end ∷ [])
        (before f (term_tokens t) (paren_right end ∷ []) (order_term t))

    order_simples : (ss : Simples) → AreInOrder (terms_faults scope (simples_raws ss)) (simples_tokens ss)
    order_simples no_more = tt
    order_simples (and_then ss s) =
        subst (λ z. AreInOrder z (simples_tokens ss ++ simple_tokens s)) (sym (terms_then scope (simples_raws ss) (simple_raw s)))
        (both (terms_faults scope (simples_raws ss)) (term_faults scope (simple_raw s)) (simples_tokens ss) (simple_tokens s) (order_simples ss)
        (order_simple s))

  -- ---- expressions

  order_plain : (x : Plain) → AreInOrder (term_faults scope (plain_raw x)) (plain_token x ∷ [])
  order_plain (plain_word w) = tt
  order_plain (plain_any at) = tt
  order_plain (plain_number z at) = tt

  mutual
    order_expr : (e : Expr) → AreInOrder (term_faults scope (expr_raw e)) (expr_tokens e)
    order_expr (of_product p) = order_product p
    order_expr (adds e by_plus at p) = order_sign plus_head at (expr_raw e) (product_raw p) (plus_sign at) (expr_tokens e) (product_tokens p) (order_expr e)
        (order_product p)
    order_expr (adds e by_minus at p) = order_sign minus_head at (expr_raw e) (product_raw p) (minus_sign at) (expr_tokens e) (product_tokens p) (order_expr e)
        (order_product p)

    order_product : (p : Product) → AreInOrder (term_faults scope (product_raw p)) (product_tokens p)
    order_product (of_item x) = order_item x
    order_product (multiplies p at x) = order_sign star_head at (product_raw p) (item_raw x) (star_sign at) (product_tokens p) (item_tokens x) (order_product p)
        (order_item x)

    order_item : (x : Item) → AreInOrder (term_faults scope (item_raw x)) (item_tokens x)
    order_item (item_plain x) = order_plain x
    order_item (item_bracket at e end) =
        let f = term_faults scope (expr_raw e) in later f (paren_left at) (expr_tokens e ++ paren_right end ∷ [])
        (before f (expr_tokens e) (paren_right end ∷ []) (order_expr e))

  order_first : (f : First) → AreInOrder (term_faults scope (first_raw f)) (first_tokens f)
  order_first (first_plain x) = order_plain x
  order_first (first_times f at x) = order_sign star_head at (first_raw f) (item_raw x) (star_sign at) (first_tokens f) (item_tokens x) (order_first f)
      (order_item x)

  order_lead : (l : Lead) → AreInOrder (term_faults scope (lead_raw l)) (lead_tokens l)
  order_lead (of_first f) = order_first f
  order_lead (lead_adds l by_plus at p) = order_sign plus_head at (lead_raw l) (product_raw p) (plus_sign at) (lead_tokens l) (product_tokens p) (order_lead l)
      (order_product p)
  order_lead (lead_adds l by_minus at p) = order_sign minus_head at (lead_raw l) (product_raw p) (minus_sign at) (lead_tokens l) (product_tokens p)
      (order_lead l) (order_product p)

  -- the sides of a whole-number goal, and its own fault between them
  order_number : (side : Side) (at : Place) (l r : Raw) (t : Tok) (ls rs : List Tok) → tok_place t ≡ at → AreInOrder (term_faults scope l) ls
      → AreInOrder (term_faults scope r) rs
      → AreInOrder (number_faults side scope at l r) (ls ++ t ∷ rs)
  order_number side at l r t ls rs e h k =
      let a = term_faults scope l in let b = unless (on_goal_side side) 7 at in let c = term_faults scope r in
      subst (λ z. AreInOrder z (ls ++ t ∷ rs)) (sym (append_assoc a b c))
      (both a (b ++ c) ls (t ∷ rs) h (here b c t rs at (one_unless (on_goal_side side) 7 at) e k))

-- ---- formulas

clause_place : (c : ClauseOp) (at : Place) → tok_place (clause_token c at) ≡ at
clause_place by_colon at = refl
clause_place by_left at = refl

arrow_place : (c : ArrowOp) (at : Place) → tok_place (arrow_token c at) ≡ at
arrow_place by_lolli at = refl
arrow_place by_right at = refl

one_load : (o : Option Heading) (m : Identifier) (n : ℕ) → AtMostOne m.at (load_fault o m n)
one_load None m n = refl
one_load (Some h) m n = one_unless (nat_eq n h.params) 11 m.at

-- a quantifier's name is no sign
name_no_sign : (scope : Scope) (w : Word) (ts : List Tok) → Spelled (word_token w ∷ ts) → NoSign scope → NoSign (binds (word_identifier w).text ∷ scope)
name_no_sign scope (lower n) ts h k = (word_no_sign n (inl h.0), k)
name_no_sign scope (upper n) ts h k = (word_no_sign n (inr h.0), k)

module _ (heads : List Heading) where
  -- the operands of an operator, and its own fault between them
  order_binary : (side : Side) (scope : Scope) (o : Op) (at : Place) (l r : Raw) (t : Tok) (ls rs : List Tok) → tok_place t ≡ at
      → AreInOrder (form_faults heads (left_side o side) scope l) ls → AreInOrder (form_faults heads (right_side o side) scope r) rs
      → AreInOrder (form_faults heads side scope (binary o at l r)) (ls ++ t ∷ rs)
  order_binary side scope o at l r t ls rs e h k =
      let a = form_faults heads (left_side o side) scope l in let b = unless (may_join o side) 7 at in let c = form_faults heads (right_side o side) scope r in
      subst (λ z. AreInOrder z (ls ++ t ∷ rs)) (sym (append_assoc a b c))
      (both a (b ++ c) ls (t ∷ rs) h (here b c t rs at (one_unless (may_join o side) 7 at) e k))

  mutual
    pub order_formula : {o : Bool} (side : Side) (scope : Scope) → NoSign scope → (f : Formula o) → Spelled (formula_tokens f)
        → AreInOrder (form_faults heads side scope (formula_raw f)) (formula_tokens f)
    order_formula side scope n (of_arrow a) h = order_arrow side scope n a h
    order_formula side scope n (clause f c at a) h =
        let k = spelled-split (formula_tokens f) (clause_token c at ∷ arrow_tokens a) h in
        order_binary side scope (clause_op c) at (formula_raw f) (arrow_raw a) (clause_token c at) (formula_tokens f) (arrow_tokens a) (clause_place c at)
        (order_formula (left_side (clause_op c) side) scope n f k.0) (order_arrow (right_side (clause_op c) side) scope n a k.1.1)

    order_arrow : {o : Bool} (side : Side) (scope : Scope) → NoSign scope → (a : Arrow o) → Spelled (arrow_tokens a)
        → AreInOrder (form_faults heads side scope (arrow_raw a)) (arrow_tokens a)
    order_arrow side scope n (of_sum s) h = order_sum side scope n s h
    order_arrow side scope n (implies s c at a) h =
        let k = spelled-split (sum_tokens s) (arrow_token c at ∷ arrow_tokens a) h in
        order_binary side scope (arrow_op c) at (sum_raw s) (arrow_raw a) (arrow_token c at) (sum_tokens s) (arrow_tokens a) (arrow_place c at)
        (order_sum (left_side (arrow_op c) side) scope n s k.0) (order_arrow (right_side (arrow_op c) side) scope n a k.1.1)
    order_arrow side scope n (loads m ss at a) h =
        let k = spelled-split (simples_tokens ss) (load_arrow at ∷ arrow_tokens a) h.1 in
        let rs = simples_raws ss in
        let p = load_fault (find (is_named m.text) heads) m (count rs) in let q = terms_faults scope rs in let u = unless (on_goal_side side) 8 at in
        let g = form_faults heads side scope (arrow_raw a) in
        let e : p ++ (q ++ (u ++ g)) ≡ p ++ q ++ u ++ g = sym (append_assoc p q (u ++ g)) ∙ sym (append_assoc (p ++ q) u g) in
        subst (λ z. AreInOrder z (name m ∷ (simples_tokens ss ++ load_arrow at ∷ arrow_tokens a))) e
        (here p (q ++ (u ++ g)) (name m) (simples_tokens ss ++ load_arrow at ∷ arrow_tokens a) m.at (one_load (find (is_named m.text) heads) m (count rs)) refl
        (both q (u ++ g) (simples_tokens ss) (load_arrow at ∷ arrow_tokens a) (order_simples scope n ss)
        (here u g (load_arrow at) (arrow_tokens a) at (one_unless (on_goal_side side) 8 at) refl (order_arrow side scope n a k.1.1))))

    order_sum : {o : Bool} (side : Side) (scope : Scope) → NoSign scope → (s : Sum o) → Spelled (sum_tokens s)
        → AreInOrder (form_faults heads side scope (sum_raw s)) (sum_tokens s)
    order_sum side scope n (of_with w) h = order_with side scope n w h
    order_sum side scope n (plus w at s) h =
        let k = spelled-split (with_tokens w) (semicolon at ∷ sum_tokens s) h in
        order_binary side scope op.Plus at (with_raw w) (sum_raw s) (semicolon at) (with_tokens w) (sum_tokens s) refl (order_with side scope n w k.0)
        (order_sum side scope n s k.1.1)

    order_with : {o : Bool} (side : Side) (scope : Scope) → NoSign scope → (w : With o) → Spelled (with_tokens w)
        → AreInOrder (form_faults heads side scope (with_raw w)) (with_tokens w)
    order_with side scope n (of_tensor t) h = order_tensor side scope n t h
    order_with side scope n (with t at w) h =
        let k = spelled-split (tensor_tokens t) (ampersand at ∷ with_tokens w) h in
        order_binary side scope op.With at (tensor_raw t) (with_raw w) (ampersand at) (tensor_tokens t) (with_tokens w) refl (order_tensor side scope n t k.0)
        (order_with side scope n w k.1.1)

    order_tensor : {o : Bool} (side : Side) (scope : Scope) → NoSign scope → (t : Tensor o) → Spelled (tensor_tokens t)
        → AreInOrder (form_faults heads side scope (tensor_raw t)) (tensor_tokens t)
    order_tensor side scope n (of_primary p) h = order_primary side scope n p h
    order_tensor side scope n (times p at t) h =
        let k = spelled-split (primary_tokens p) (comma at ∷ tensor_tokens t) h in
        order_binary side scope op.Tensor at (primary_raw p) (tensor_raw t) (comma at) (primary_tokens p) (tensor_tokens t) refl
        (order_primary side scope n p k.0) (order_tensor side scope n t k.1.1)

    order_primary : {o : Bool} (side : Side) (scope : Scope) → NoSign scope → (p : Primary o) → Spelled (primary_tokens p)
        → AreInOrder (form_faults heads side scope (primary_raw p)) (primary_tokens p)
    order_primary side scope n (truly at) h = before_none (unless (on_goal_side side) 7 at) (true_word at) at (one_unless (on_goal_side side) 7 at) refl
    order_primary side scope n (erased at) h = tt
    order_primary side scope n (bracket at f end) h =
        let v = form_faults heads side scope (formula_raw f) in
        later v (paren_left at) (formula_tokens f ++ paren_right end ∷ [])
        (before v (formula_tokens f) (paren_right end ∷ []) (order_formula side scope n f (spelled-split (formula_tokens f) (paren_right end ∷ []) h.1).0))
    order_primary side scope n (brace at f end) h =
        let v = form_faults heads side scope (formula_raw f) in
        here (unless (on_goal_side side) 7 at) v (brace_left at) (formula_tokens f ++ brace_right end ∷ []) at (one_unless (on_goal_side side) 7 at) refl
        (before v (formula_tokens f) (brace_right end ∷ []) (order_formula side scope n f (spelled-split (formula_tokens f) (brace_right end ∷ []) h.1).0))
    order_primary side scope n (quantified q at w slash f) h =
        let inner = binds (word_identifier w).text ∷ scope in
        let v = form_faults heads side inner (formula_raw f) in
        let k = later v (word_token w) (backslash slash ∷ formula_tokens f)
        (later v (backslash slash) (formula_tokens f) (order_formula side inner (name_no_sign scope w (backslash slash ∷ formula_tokens f) h.1 n) f h.1.1.1)) in
        let ts = word_token w ∷ backslash slash ∷ formula_tokens f in
        either_quantifier (λ r. AreInOrder (form_faults heads side scope r) (quantifier_token q at ∷ ts)) q at (word_identifier w) (formula_raw f)
        (later v (quantifier_token q at) ts k)
        (here (unless (on_goal_side side) 7 at) v (quantifier_token q at) ts at (one_unless (on_goal_side side) 7 at) (quantifier_place q at) k)
    order_primary side scope n (atom w ss) h =
        let i = word_identifier w in let b = may_be_head (meaning scope i.text) in
        here (unless b 9 i.at) (terms_faults scope (simples_raws ss)) (word_token w) (simples_tokens ss) i.at (one_unless b 9 i.at) (word_place w)
        (order_simples scope n ss)
    order_primary side scope n (valued x at e) h =
        order_number scope n side at (plain_raw x) (expr_raw e) (is_sign at) (plain_token x ∷ []) (expr_tokens e) refl (order_plain scope n x)
        (order_expr scope n e)
    order_primary side scope n (tested l by_less at e) h =
        order_number scope n side at (lead_raw l) (expr_raw e) (less_sign at) (lead_tokens l) (expr_tokens e) refl (order_lead scope n l) (order_expr scope n e)
    order_primary side scope n (tested l by_most at e) h =
        order_number scope n side at (lead_raw l) (expr_raw e) (most_sign at) (lead_tokens l) (expr_tokens e) refl (order_lead scope n l) (order_expr scope n e)
