-- Terms chosen for the variables of a state, as a list, and what they make of a state that mentions no other variables.
use Rattle.std.proofs.Common.{◌≡◌, ◌≤◌, ◌<◌, ℕ, zero, suc, ◌+◌, refl, ap, sym, ◌∙◌, true, false, List, [], ◌∷◌, ◌++◌, map, length, replicate, arith}
use Rattle.std.proofs.Common.{append_assoc, length-append}
use Rattle.std.specs.Prelude.{◌&&◌, slice_index, slice_index_or}
use Rattle.std.specs.List.{list_all}
use Rattle.std.proofs.lemmas.Bool.{ltb-true}
use Rattle.ll_list_laws.proofs.CallerLemmas.{and_true_left as and_left, and_true_right as and_right}
use Rattle.ll_bank.specs.Term.{Term, Var, Int, Con, Ap, sub, is_closed, eigens_below}
use Rattle.ll_bank.specs.Form.{Form, Top, One, Atom, With, Tensor, Plus, Bang, Lolli, Imp, Forall, Exists, Use, sub_form, Num}
use Rattle.ll_laws.specs.Settle.{Entry, Item, Goal, LolliEnd, ImpEnd, WithMiddle, WithEnd, BangEnd}
use Rattle.ll_laws.specs.State.{State, sub_item, sub_entry}
use Rattle.ll_laws.specs.Attempt.{vars_from}
use Rattle.ll_laws.specs.Unify.{vars_below}
use Rattle.ll_laws.specs.Valid.{Allowed, Side, GoalSide, ClauseSide, Scope}
use Rattle.ll_laws.specs.Consistent.{AreGoals, AreResources, is_made}
use Rattle.ll_laws.specs.Run.{MayChoose}
use Rattle.ll_laws.specs.Dealt.{value}
use Rattle.ll_laws.proofs.unification.SubLaws.{IsClosing}
use Rattle.ll_laws.proofs.consistency.ConsistentTerms.{Fit, AllFit}
use Rattle.ll_laws.proofs.consistency.ConsistentForms.{FormFits, fits_of_formula, other, opens_on}

-- ---- two substitutions that agree on the variables that there are

abbrev pub AgreeBelow : ℕ → (ℕ → Term) → (ℕ → Term) → Type 0
AgreeBelow n f g = (x : ℕ) → x < n → f x ≡ g x

module _ (may : Allowed) (f g : ℕ → Term) (h : AgreeBelow may.variables f g) where
  pub fit-agree : (scope : Scope) (t : Term) → Fit may scope t → sub f t ≡ sub g t
  fit-agree scope (Var x) w = h x (ltb-true x may.variables w)
  fit-agree scope (Int z) w = refl
  fit-agree scope (Con k) w = refl
  fit-agree scope (Ap t u) w = let a = fit-agree scope t w.1 in let b = fit-agree scope u w.2 in cc

  all-agree : (scope : Scope) (ts : List Term) → AllFit may scope ts → map (sub f) ts ≡ map (sub g) ts
  all-agree scope [] w = refl
  all-agree scope (t ∷ ts) w = let a = fit-agree scope t w.0 in let b = all-agree scope ts w.1 in cc

  pub form-agree : (side : Side) (scope : Scope) (r : Form) → FormFits may side scope r → sub_form f r ≡ sub_form g r
  form-agree side scope Top w = refl
  form-agree side scope One w = refl
  form-agree side scope (Atom a) w = ap Atom (fit-agree scope a w.1)
  form-agree side scope (With q r) w = let a = form-agree side scope q w.0 in let b = form-agree side scope r w.1 in cc
  form-agree side scope (Tensor q r) w = let a = form-agree side scope q w.1 in let b = form-agree side scope r w.2 in cc
  form-agree side scope (Plus q r) w = let a = form-agree side scope q w.1 in let b = form-agree side scope r w.2 in cc
  form-agree side scope (Bang r) w = ap Bang (form-agree side scope r w.1)
  form-agree side scope (Lolli q r) w = let a = form-agree (other side) scope q w.0 in let b = form-agree side scope r w.1 in cc
  form-agree side scope (Imp q r) w = let a = form-agree (other side) scope q w.0 in let b = form-agree side scope r w.1 in cc
  form-agree side scope (Forall r) w = ap Forall (form-agree side (opens_on may.opens side ∷ scope) r w)
  form-agree side scope (Exists r) w = ap Exists (form-agree side (false ∷ scope) r w.1)
  form-agree side scope (Use m ts r) w = let a = all-agree scope ts w.2 in let b = form-agree side scope r w.3 in cc
  form-agree side scope (Num r t u) w = let a = fit-agree scope t w.1 in let b = fit-agree scope u w.2 in cc

  pub goals-agree : (a : List (Item Form)) → AreGoals may a → map (sub_item f) a ≡ map (sub_item g) a
  goals-agree [] w = refl
  goals-agree (Goal r ∷ a) w = let p = form-agree GoalSide [] r (fits_of_formula may GoalSide [] r w.0) in let q = goals-agree a w.1 in cc
  goals-agree (LolliEnd b ∷ a) w = let q = goals-agree a w in cc
  goals-agree (ImpEnd ∷ a) w = let q = goals-agree a w in cc
  goals-agree (WithMiddle s ∷ a) w = let q = goals-agree a w in cc
  goals-agree (WithEnd s k ∷ a) w = let q = goals-agree a w in cc
  goals-agree (BangEnd s ∷ a) w = let q = goals-agree a w in cc

  pub resources-agree : (es : List (Entry Form)) → AreResources may es → map (sub_entry f) es ≡ map (sub_entry g) es
  resources-agree [] w = refl
  resources-agree (e ∷ es) w =
      let p = form-agree ClauseSide [] e.clause (fits_of_formula may ClauseSide [] e.clause w.0) in
      let q = resources-agree es w.1 in
      let r : sub_entry f e ≡ sub_entry g e = ap (λ c. record { label = e.label; kind = e.kind; live = e.live; clause = c }) p in cc

below-agree : (n : ℕ) (f g : ℕ → Term) → AgreeBelow n f g → (t : Term) → vars_below n t ≡ true → sub f t ≡ sub g t
below-agree n f g h (Var x) w = h x (ltb-true x n w)
below-agree n f g h (Int z) w = refl
below-agree n f g h (Con k) w = refl
below-agree n f g h (Ap t u) w =
    let a = below-agree n f g h t (and_left (vars_below n t) (vars_below n u) w) in
    let b = below-agree n f g h u (and_right (vars_below n t) (vars_below n u) w) in cc

pub made-agree : (n e : ℕ) (f g : ℕ → Term) → AgreeBelow n f g → (ts : List Term) → list_all (is_made n e) ts ≡ true → map (sub f) ts ≡ map (sub g) ts
made-agree n e f g h [] w = refl
made-agree n e f g h (t ∷ ts) w =
    let m = and_left (is_made n e t) (list_all (is_made n e) ts) w in
    let p = below-agree n f g h t (and_right (is_closed t) (vars_below n t) (and_left (is_closed t && vars_below n t) (eigens_below e t) m)) in
    let q = made-agree n e f g h ts (and_right (is_made n e t) (list_all (is_made n e) ts) w) in cc

-- ---- chosen terms as a list

-- closed terms whose eigenvariables are below the levels
abbrev pub FitsAll : List ℕ → List Term → Type 0
FitsAll [] [] = Unit {0}
FitsAll (l ∷ ls) (t ∷ ts) = (is_closed t ≡ true) × (eigens_below l t ≡ true) × FitsAll ls ts
FitsAll _ _ = ⊥

pub fits-count : (ls : List ℕ) (ts : List Term) → FitsAll ls ts → length ts ≡ length ls
fits-count [] [] h = refl
fits-count (l ∷ ls) (t ∷ ts) h = ap (λ n. suc n) (fits-count ls ts h.2)
fits-count [] (t ∷ ts) h = absurd h
fits-count (l ∷ ls) [] h = absurd h

fits-below : (ls : List ℕ) (ts : List Term) → FitsAll ls ts → (x y : ℕ) → eigens_below (slice_index ls x) (slice_index_or ts x (Var y)) ≡ true
fits-below [] [] h x y = refl
fits-below (l ∷ ls) (t ∷ ts) h zero y = h.1
fits-below (l ∷ ls) (t ∷ ts) h (suc x) y = fits-below ls ts h.2 x y
fits-below [] (t ∷ ts) h x y = absurd h
fits-below (l ∷ ls) [] h x y = absurd h

pub value-below : (ls : List ℕ) (ts : List Term) → FitsAll ls ts → (x : ℕ) → eigens_below (slice_index ls x) (value ts x) ≡ true
value-below ls ts h x = fits-below ls ts h x x

fits-closed : (ls : List ℕ) (ts : List Term) → FitsAll ls ts → (x y : ℕ) → is_closed (slice_index_or ts x (Var y)) ≡ true
fits-closed [] [] h x y = refl
fits-closed (l ∷ ls) (t ∷ ts) h zero y = h.0
fits-closed (l ∷ ls) (t ∷ ts) h (suc x) y = fits-closed ls ts h.2 x y
fits-closed [] (t ∷ ts) h x y = absurd h
fits-closed (l ∷ ls) [] h x y = absurd h

pub value-closing : (ls : List ℕ) (ts : List Term) → FitsAll ls ts → IsClosing (value ts)
value-closing ls ts h x = fits-closed ls ts h x x

chosen-new : (n : ℕ) (us : List Term) → MayChoose n us → FitsAll (replicate (length us) n) us
chosen-new n [] h = tt
chosen-new n (u ∷ us) h = (h.0, h.1, chosen-new n us h.2)

pub chosen-more : (ls : List ℕ) (ts : List Term) (n : ℕ) (us : List Term) → FitsAll ls ts → MayChoose n us → FitsAll (ls ++ replicate (length us) n) (ts ++ us)
chosen-more [] [] n us h m = chosen-new n us m
chosen-more (l ∷ ls) (t ∷ ts) n us h m = (h.0, h.1, chosen-more ls ts n us h.2 m)
chosen-more [] (t ∷ ts) n us h m = absurd h
chosen-more (l ∷ ls) [] n us h m = absurd h

any-default : (l : ℕ) (ts : List Term) (x a b : ℕ) → eigens_below l (slice_index_or ts x (Var a)) ≡ true → eigens_below l (slice_index_or ts x (Var b)) ≡ true
any-default l [] x a b h = refl
any-default l (t ∷ ts) zero a b h = h
any-default l (t ∷ ts) (suc x) a b h = any-default l ts x a b h

fits-relevel : (ls new : List ℕ) (ts : List Term) → FitsAll ls ts → length new ≡ length ls
    → ((x y : ℕ) → eigens_below (slice_index new x) (slice_index_or ts x (Var y)) ≡ true) → FitsAll new ts
fits-relevel [] [] [] h e b = tt
fits-relevel [] (l ∷ new) ts h e b = absurd (omega arith)
fits-relevel (l ∷ ls) [] ts h e b = absurd (omega arith)
fits-relevel (l ∷ ls) (m ∷ new) (t ∷ ts) h e b = (h.0, b 0 0, fits-relevel ls new ts h.2 (omega arith) (λ x y. b (suc x) y))
fits-relevel [] [] (t ∷ ts) h e b = absurd h
fits-relevel (l ∷ ls) (m ∷ new) [] h e b = absurd h

-- the same terms under other levels that they fit
pub fits-change : (ls new : List ℕ) (ts : List Term) → FitsAll ls ts → length new ≡ length ls → ((x : ℕ) → eigens_below (slice_index new x) (value ts x) ≡ true)
    → FitsAll new ts
fits-change ls new ts h e b = fits-relevel ls new ts h e (λ x y. any-default (slice_index new x) ts x x y (b x))

value-past : (ts : List Term) (x y : ℕ) → length ts ≤ x → slice_index_or ts x (Var y) ≡ Var y
value-past [] x y h = refl
value-past (t ∷ ts) zero y h = absurd (omega arith)
value-past (t ∷ ts) (suc x) y h = value-past ts x y (omega arith)

pub value-over : (ts : List Term) (x : ℕ) → length ts ≤ x → value ts x ≡ Var x
value-over ts x h = value-past ts x x h

value-old : (ts us : List Term) (x y : ℕ) → x < length ts → slice_index_or ts x (Var y) ≡ slice_index_or (ts ++ us) x (Var y)
value-old [] us x y h = absurd (omega arith)
value-old (t ∷ ts) us zero y h = refl
value-old (t ∷ ts) us (suc x) y h = value-old ts us x y (omega arith)

-- chosen terms agree with themselves and more
pub more-agree : (n : ℕ) (ts us : List Term) → length ts ≡ n → AgreeBelow n (value ts) (value (ts ++ us))
more-agree n ts us e x h = value-old ts us x x (omega arith)

value-at : (ts us : List Term) (u : Term) (x y : ℕ) → length ts ≡ x → slice_index_or (ts ++ u ∷ us) x (Var y) ≡ u
value-at [] us u zero y e = refl
value-at [] us u (suc x) y e = absurd (omega arith)
value-at (t ∷ ts) us u zero y e = absurd (omega arith)
value-at (t ∷ ts) us u (suc x) y e = value-at ts us u x y (omega arith)

-- the terms of the new variables
pub new-values : (ts us : List Term) (n : ℕ) → length ts ≡ n → map (sub (value (ts ++ us))) (vars_from n (length us)) ≡ us
new-values ts [] n e = refl
new-values ts (u ∷ us) n e =
    let a : value (ts ++ u ∷ us) n ≡ u = value-at ts us u n n e in
    let w : ts ++ u ∷ us ≡ (ts ++ u ∷ []) ++ us = sym (append_assoc ts (u ∷ []) us) in
    let b = ap (λ z. map (sub (value z)) (vars_from (suc n) (length us))) w
    ∙ new-values (ts ++ u ∷ []) us (suc n) (let l = length-append ts (u ∷ []) in omega arith) in cc

-- the terms of variables in a row
pub listed : (f : ℕ → Term) (n k x : ℕ) (d : Term) → x < k → slice_index_or (map (sub f) (vars_from n k)) x d ≡ f (n + x)
listed f n zero x d h = absurd (omega (arith, h))
listed f n (suc k) zero d h = ap f (omega arith)
listed f n (suc k) (suc x) d h = listed f (suc n) k x d (omega (arith, h)) ∙ ap f (omega arith)

-- a term of a list of closed ones is closed
pub closed_at : (ts : List Term) (x y : ℕ) → list_all is_closed ts ≡ true → is_closed (slice_index_or ts x (Var y)) ≡ true
closed_at [] x y h = refl
closed_at (t ∷ ts) zero y h = and_left (is_closed t) (list_all is_closed ts) h
closed_at (t ∷ ts) (suc x) y h = closed_at ts x y (and_right (is_closed t) (list_all is_closed ts) h)

-- the same parts make the same state
pub same_parts : (s : State) {a b : List (Item Form)} {c d : List (Entry Form)} {x y : List Term} → a ≡ b → c ≡ d → x ≡ y
    → record s { agenda = a; context = c; terms = x } ≡ record s { agenda = b; context = d; terms = y }
same_parts s p q r = cc
