-- Closing one place after another: an environment that begins with a closed term is that term's opening, and then the rest.
use Rattle.std.proofs.Common.{◌≡◌, ℕ, zero, suc, ◌+◌, Bool, true, ◌&&◌, List, [], ◌∷◌, map, refl, ap, sym, ◌∙◌, arith, Some, None}
use Rattle.std.specs.List.{list_all}
use Rattle.std.proofs.lemmas.Bool.{and_from, and_parts, ltb-true}
use Rattle.ll_bank.specs.declared.Head.TheVariants.{Name, Eigen, Bound}
use Rattle.ll_bank.specs.Term.{Term, Var, Int, Con, Ap, Env, place, close, is_spine, applies_heads}
use Rattle.ll_bank.specs.Form.{Form, Top, One, Atom, With, Tensor, Plus, Bang, Lolli, Imp, Forall, Exists, Use, Num, close_form, instantiate}
use Rattle.ll_bank.specs.Form.{form_applies_heads}
use Rattle.ll_laws.specs.Valid.{places_below}

-- an environment under so many quantifiers that stay
abbrev pub under : ℕ → Env → Env
under zero e = e
under (suc n) e = None ∷ under n e

-- a closed term stays
pub close_closed : (e : Env) (t : Term) → places_below 0 t ≡ true → close e t ≡ t
close_closed e (Var x) h = refl
close_closed e (Int z) h = refl
close_closed e (Con (Name k)) h = refl
close_closed e (Con (Eigen k)) h = refl
close_closed e (Con (Bound k)) h = absurd (let p = ltb-true k 0 h in omega arith)
close_closed e (Ap f a) h = let p = and_parts (places_below 0 f) (places_below 0 a) h in λ i. Ap (close_closed e f p.0 i) (close_closed e a p.1 i)

-- a quantifier that stays may be passed last
slide : (n : ℕ) (e : Env) → under n (None ∷ e) ≡ None ∷ under n e
slide zero e = refl
slide (suc n) e = ap (λ (x : Env). None ∷ x) (slide n e)

-- past the quantifiers that stay
place_under : (n k j : ℕ) (e : Env) → place (under n e) (n + k) j ≡ place e k (j + n)
place_under zero k j e = let p : 0 + k ≡ k = omega arith in let q : j ≡ j + 0 = omega arith in λ i. place e (p i) (q i)
place_under (suc n) k j e =
    let p : suc n + k ≡ suc (n + k) = omega arith in
    let q : suc j + n ≡ j + suc n = omega arith in
    ap (λ m. place (under (suc n) e) m j) p ∙ (place_under n k (suc j) e ∙ ap (place e k) q)

-- at a bound place
pub place_split : (t : Term) (e : Env) → places_below 0 t ≡ true → (n k m : ℕ)
    → place (under n (Some t ∷ e)) k m ≡ close (under m (under n e)) (place (under n (Some t ∷ [])) k m)
place_split t e h zero zero m = sym (close_closed (under m e) t h)
place_split t e h zero (suc k) m = let p : 0 + m ≡ m = omega arith in ap (place e k) (sym p) ∙ sym (place_under m k 0 e)
place_split t e h (suc n) zero m =
    let p : 0 + m ≡ m = omega arith in
    let q : m + 0 ≡ m = omega arith in
    ap (λ x. Con (Bound x)) (sym p) ∙ (sym (place_under m 0 0 (None ∷ under n e)) ∙ ap (λ x. place (under m (None ∷ under n e)) x 0) q)
place_split t e h (suc n) (suc k) m =
    place_split t e h n k (suc m) ∙ ap (λ x. close x (place (under n (Some t ∷ [])) k (suc m))) (sym (slide m (under n e)))

module _ (t : Term) (e : Env) (closed : places_below 0 t ≡ true) where
  pub close_split : (n : ℕ) (u : Term) → close (under n (Some t ∷ e)) u ≡ close (under n e) (close (under n (Some t ∷ [])) u)
  close_split n (Var x) = refl
  close_split n (Int z) = refl
  close_split n (Con (Name k)) = refl
  close_split n (Con (Eigen k)) = refl
  close_split n (Con (Bound k)) = place_split t e closed n k 0
  close_split n (Ap f a) = λ i. Ap (close_split n f i) (close_split n a i)

  each_split : (n : ℕ) (us : List Term) → map (close (under n (Some t ∷ e))) us ≡ map (close (under n e)) (map (close (under n (Some t ∷ []))) us)
  each_split n [] = refl
  each_split n (u ∷ us) = λ i. close_split n u i ∷ each_split n us i

  pub form_split : (n : ℕ) (f : Form) → close_form (under n (Some t ∷ e)) f ≡ close_form (under n e) (close_form (under n (Some t ∷ [])) f)
  form_split n Top = refl
  form_split n One = refl
  form_split n (Atom a) = ap Atom (close_split n a)
  form_split n (With f g) = λ i. With (form_split n f i) (form_split n g i)
  form_split n (Tensor f g) = λ i. Tensor (form_split n f i) (form_split n g i)
  form_split n (Plus f g) = λ i. Plus (form_split n f i) (form_split n g i)
  form_split n (Bang f) = ap Bang (form_split n f)
  form_split n (Lolli f g) = λ i. Lolli (form_split n f i) (form_split n g i)
  form_split n (Imp f g) = λ i. Imp (form_split n f i) (form_split n g i)
  form_split n (Forall f) = ap Forall (form_split (suc n) f)
  form_split n (Exists f) = ap Exists (form_split (suc n) f)
  form_split n (Use m ts f) = λ i. Use m (each_split n ts i) (form_split n f i)
  form_split n (Num r u v) = λ i. Num r (close_split n u i) (close_split n v i)

  -- so the innermost place may be opened first
  pub opens_first : (f : Form) → close_form (Some t ∷ e) f ≡ close_form e (instantiate f t)
  opens_first f = form_split 0 f

-- with nothing in place of a bound place
place_nothing : (n k m : ℕ) → place (under n []) k m ≡ Con (Bound (m + k))
place_nothing zero k m = refl
place_nothing (suc n) zero m = let p : m ≡ m + 0 = omega arith in ap (λ x. Con (Bound x)) p
place_nothing (suc n) (suc k) m = let p : suc m + k ≡ m + suc k = omega arith in place_nothing n k (suc m) ∙ ap (λ x. Con (Bound x)) p

close_nothing : (n : ℕ) (u : Term) → close (under n []) u ≡ u
close_nothing n (Var x) = refl
close_nothing n (Int z) = refl
close_nothing n (Con (Name k)) = refl
close_nothing n (Con (Eigen k)) = refl
close_nothing n (Con (Bound k)) = let p : 0 + k ≡ k = omega arith in place_nothing n k 0 ∙ ap (λ x. Con (Bound x)) p
close_nothing n (Ap f a) = λ i. Ap (close_nothing n f i) (close_nothing n a i)

each_nothing : (n : ℕ) (us : List Term) → map (close (under n [])) us ≡ us
each_nothing n [] = refl
each_nothing n (u ∷ us) = λ i. close_nothing n u i ∷ each_nothing n us i

form_nothing : (n : ℕ) (f : Form) → close_form (under n []) f ≡ f
form_nothing n Top = refl
form_nothing n One = refl
form_nothing n (Atom a) = ap Atom (close_nothing n a)
form_nothing n (With f g) = λ i. With (form_nothing n f i) (form_nothing n g i)
form_nothing n (Tensor f g) = λ i. Tensor (form_nothing n f i) (form_nothing n g i)
form_nothing n (Plus f g) = λ i. Plus (form_nothing n f i) (form_nothing n g i)
form_nothing n (Bang f) = ap Bang (form_nothing n f)
form_nothing n (Lolli f g) = λ i. Lolli (form_nothing n f i) (form_nothing n g i)
form_nothing n (Imp f g) = λ i. Imp (form_nothing n f i) (form_nothing n g i)
form_nothing n (Forall f) = ap Forall (form_nothing (suc n) f)
form_nothing n (Exists f) = ap Exists (form_nothing (suc n) f)
form_nothing n (Use m ts f) = λ i. Use m (each_nothing n ts i) (form_nothing n f i)
form_nothing n (Num r u v) = λ i. Num r (close_nothing n u i) (close_nothing n v i)

-- with nothing in place of its places a formula stays
pub closes_nothing : (f : Form) → close_form [] f ≡ f
closes_nothing f = form_nothing 0 f

-- ---- what stands for a place is no reason that arguments lose their head

spine_before : (e : Env) (u : Term) → is_spine (close e u) ≡ true → is_spine u ≡ true
spine_before e (Var x) h = h
spine_before e (Int z) h = h
spine_before e (Con k) h = refl
spine_before e (Ap f a) h = spine_before e f h

heads_before : (e : Env) (u : Term) → applies_heads (close e u) ≡ true → applies_heads u ≡ true
heads_before e (Var x) h = refl
heads_before e (Int z) h = refl
heads_before e (Con k) h = refl
heads_before e (Ap f a) h =
    let p = and_parts (is_spine (close e f) && applies_heads (close e f)) (applies_heads (close e a)) h in
    let q = and_parts (is_spine (close e f)) (applies_heads (close e f)) p.0 in
    and_from (is_spine f && applies_heads f) (applies_heads a) (and_from (is_spine f) (applies_heads f) (spine_before e f q.0) (heads_before e f q.1))
    (heads_before e a p.1)

each_before : (e : Env) (us : List Term) → list_all applies_heads (map (close e) us) ≡ true → list_all applies_heads us ≡ true
each_before e [] h = refl
each_before e (u ∷ us) h =
    let p = and_parts (applies_heads (close e u)) (list_all applies_heads (map (close e) us)) h in
    and_from (applies_heads u) (list_all applies_heads us) (heads_before e u p.0) (each_before e us p.1)

two_before : (a b c d : Bool) → (a ≡ true → c ≡ true) → (b ≡ true → d ≡ true) → a && b ≡ true → c && d ≡ true
two_before a b c d f g h = let p = and_parts a b h in and_from c d (f p.0) (g p.1)

-- only heads have arguments in a formula, if that is so once terms stand for its places
pub form_before : (e : Env) (f : Form) → form_applies_heads (close_form e f) ≡ true → form_applies_heads f ≡ true
form_before e Top h = refl
form_before e One h = refl
form_before e (Atom a) h = heads_before e a h
form_before e (With f g) h = two_before _ _ _ _ (form_before e f) (form_before e g) h
form_before e (Tensor f g) h = two_before _ _ _ _ (form_before e f) (form_before e g) h
form_before e (Plus f g) h = two_before _ _ _ _ (form_before e f) (form_before e g) h
form_before e (Bang f) h = form_before e f h
form_before e (Lolli f g) h = two_before _ _ _ _ (form_before e f) (form_before e g) h
form_before e (Imp f g) h = two_before _ _ _ _ (form_before e f) (form_before e g) h
form_before e (Forall f) h = form_before (None ∷ e) f h
form_before e (Exists f) h = form_before (None ∷ e) f h
form_before e (Use m ts f) h = two_before _ _ _ _ (each_before e ts) (form_before e f) h
form_before e (Num r u v) h = two_before _ _ _ _ (heads_before e u) (heads_before e v) h
