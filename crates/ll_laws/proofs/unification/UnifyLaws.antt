-- Unification answers a unifier that respects the levels, and a most general one.
use Rattle.std.proofs.Common.{◌≡◌, ◌≢◌, ◌<◌, ◌≤◌, ℕ, zero, suc, ◌+◌, refl, ap, sym, subst, ◌∙◌, Bool, true, false, List, [], ◌∷◌, map, length, arith, nat_eq}
use Rattle.std.proofs.Common.{inl, inr}
use Rattle.std.specs.Prelude.{◌&&◌, ◌||◌, not, Option, Some, None, option_map, option_and_then, if◌then◌else◌, nat_lt, cond, slice_index, slice_set, min}
use Rattle.std.specs.Ordering.{int_eq}
use Rattle.std.proofs.lemmas.Bool.{eqb-true, eqb-false, ne_eqb, eq-eqb, ltb-true, ltb-false, lt-ltb, or_right as or_true_right, and_from as and_both}
use Rattle.std.proofs.lemmas.Bool.{or_left as or_true_left, false_from_ne_true as not_occurs}
use Rattle.std.proofs.Math.Dec.{eqb-suc-zero, eqb-zero-suc, eqb-suc-suc}
use Rattle.std.proofs.lemmas.Bool.Decides.{Decides-int_eq}
use Rattle.std.proofs.lemmas.Bool.{cases_lt, both_ways}
use Rattle.std.specs.List.{list_any}
use Rattle.ll_list_laws.proofs.CallerLemmas.{or_false_left, or_false_right, or_elim as or_cases}
use Rattle.ll_list_laws.proofs.CallerLemmas.{and_true_left as and_left, and_true_right as and_right, map_same}
use Rattle.ll_list_laws.proofs.CallerLemmas.{map_map}
use Rattle.ll_bank.specs.declared.Head.{Head}
use Rattle.ll_bank.specs.declared.Head.TheVariants.{Name, Eigen, Bound}
use Rattle.ll_bank.specs.Term.{Term, Var, Int, Con, Ap, sub, occurs, eigens_below, eigen_below, head_eq}
use Rattle.ll_laws.specs.Unify.{vars_below, Diff, Same, Clash, Meet, and_then, when, diff_var, diff, diff_lists, bound_to, lower, Solved, Binding, is_older}
use Rattle.ll_laws.specs.Unify.{bind, bind_term, after, resolve, solve, FitsLevel, Respects, Unifies}
use Rattle.ll_laws.proofs.unification.SubLaws.{sub_comp, sub_same}

pub head_eq-true : (h k : Head) → head_eq h k ≡ true → h ≡ k
head_eq-true (Name m) (Name n) e = ap Name (eqb-true m n e)
head_eq-true (Eigen m) (Eigen n) e = ap Eigen (eqb-true m n e)
head_eq-true (Bound m) (Bound n) e = ap Bound (eqb-true m n e)
head_eq-true _ _ e = cc

pub head_eq-refl : (h : Head) → head_eq h h ≡ true
head_eq-refl (Name m) = eq-eqb m m refl
head_eq-refl (Eigen m) = eq-eqb m m refl
head_eq-refl (Bound m) = eq-eqb m m refl

when-same : (b : Bool) → when b ≡ Same → b ≡ true
when-same true e = refl
when-same false e = cc

pub when-meet : (b : Bool) (x : ℕ) (t : Term) → when b ≡ Meet x t → ⊥
when-meet true x t e = cc
when-meet false x t e = cc

-- what stands for a variable of a term has variables below a number where the whole has
pub vars_below-part : (n x : ℕ) (s : ℕ → Term) (t : Term) → vars_below n (sub s t) ≡ true → occurs x t ≡ true → vars_below n (s x) ≡ true
vars_below-part n x s (Var y) b o = subst (λ z. vars_below n (s z) ≡ true) (sym (eqb-true x y o)) b
vars_below-part n x s (Int z) b o = cc
vars_below-part n x s (Con h) b o = cc
vars_below-part n x s (Ap f a) b o =
    or_cases (occurs x f) (occurs x a) o
    (vars_below-part n x s f (and_left (vars_below n (sub s f)) (vars_below n (sub s a)) b))
    (vars_below-part n x s a (and_right (vars_below n (sub s f)) (vars_below n (sub s a)) b))

-- two that agree where they first differ nowhere
and-same-left : (d e : Diff) → and_then d e ≡ Same → d ≡ Same
and-same-left Same e h = refl
and-same-left Clash e h = h
and-same-left (Meet x t) e h = h

and-same-right : (d e : Diff) → and_then d e ≡ Same → e ≡ Same
and-same-right Same e h = h
and-same-right Clash e h = cc
and-same-right (Meet x t) e h = cc

diff_var-same : (x : ℕ) (t : Term) → diff_var x t ≡ Same → Var x ≡ t
diff_var-same x (Var y) h = step (nat_eq x y) refl h
  where
    step : (b : Bool) → nat_eq x y ≡ b → (if b then Same else Meet x (Var y)) ≡ Same → Var x ≡ Var y
    step true e h = ap Var (eqb-true x y e)
    step false e h = cc
diff_var-same x (Int z) h = cc
diff_var-same x (Con k) h = cc
diff_var-same x (Ap f a) h = cc

pub diff-same : (t u : Term) → diff t u ≡ Same → t ≡ u
diff-same (Var x) t h = diff_var-same x t h
diff-same (Int y) (Var x) h = cc
diff-same (Int y) (Int z) h = ap Int ((Decides-int_eq y z).0 (when-same _ h))
diff-same (Con k) (Var x) h = cc
diff-same (Con k) (Con l) h = ap Con (head_eq-true k l (when-same _ h))
diff-same (Ap f a) (Var x) h = cc
diff-same (Ap f a) (Ap g b) h =
    let e1 = diff-same f g (and-same-left (diff f g) (diff a b) h) in let e2 = diff-same a b (and-same-right (diff f g) (diff a b) h) in cc
diff-same _ _ h = cc

-- what any substitution that makes the terms equal does where they first differ
abbrev pub Forced : (ℕ → Term) → Diff → Type 0
Forced s Same = Unit {0}
Forced s Clash = ⊥
Forced s (Meet x t) = s x ≡ sub s t

forced-var : (s : ℕ → Term) (x : ℕ) (t : Term) → s x ≡ sub s t → Forced s (diff_var x t)
forced-var s x (Var y) e = step (nat_eq x y)
  where
    step : (b : Bool) → Forced s (if b then Same else Meet x (Var y))
    step true = tt
    step false = e
forced-var s x (Int z) e = e
forced-var s x (Con k) e = e
forced-var s x (Ap f a) e = e

forced-and : (s : ℕ → Term) (d e : Diff) → Forced s d → Forced s e → Forced s (and_then d e)
forced-and s Same e p q = q
forced-and s Clash e p q = p
forced-and s (Meet x t) e p q = p

forced-when : (s : ℕ → Term) (b : Bool) → b ≡ true → Forced s (when b)
forced-when s true e = tt
forced-when s false e = cc

pub forced : (s : ℕ → Term) (t u : Term) → sub s t ≡ sub s u → Forced s (diff t u)
forced s (Var x) t e = forced-var s x t e
forced s (Int y) (Var x) e = sym e
forced s (Int y) (Int z) e = forced-when s (int_eq y z) ((Decides-int_eq y z).1 (cc))
forced s (Int y) (Con k) e = cc
forced s (Int y) (Ap f a) e = cc
forced s (Con k) (Var x) e = sym e
forced s (Con k) (Int z) e = cc
forced s (Con k) (Con l) e = let f : l ≡ k = cc in forced-when s (head_eq k l) (subst (λ x. head_eq k x ≡ true) (sym f) (head_eq-refl k))
forced s (Con k) (Ap f a) e = cc
forced s (Ap f a) (Var x) e = sym e
forced s (Ap f a) (Int z) e = cc
forced s (Ap f a) (Con k) e = cc
forced s (Ap f a) (Ap g b) e =
    let e1 : sub s f ≡ sub s g = cc in let e2 : sub s a ≡ sub s b = cc in
    forced-and s (diff f g) (diff a b) (forced s f g e1) (forced s a b e2)

pub same-lists : (ls rs : List Term) → diff_lists ls rs ≡ Same → ls ≡ rs
same-lists [] [] h = refl
same-lists [] (r ∷ rs) h = cc
same-lists (l ∷ ls) [] h = cc
same-lists (l ∷ ls) (r ∷ rs) h =
    let e1 = diff-same l r (and-same-left (diff l r) (diff_lists ls rs) h) in let e2 = same-lists ls rs (and-same-right (diff l r) (diff_lists ls rs) h) in cc

pub forced-lists : (s : ℕ → Term) (ls rs : List Term) → Unifies s ls rs → Forced s (diff_lists ls rs)
forced-lists s [] [] e = tt
forced-lists s [] (r ∷ rs) e = cc
forced-lists s (l ∷ ls) [] e = cc
forced-lists s (l ∷ ls) (r ∷ rs) e =
    let e1 : sub s l ≡ sub s r = cc in let e2 : map (sub s) ls ≡ map (sub s) rs = cc in
    forced-and s (diff l r) (diff_lists ls rs) (forced s l r e1) (forced-lists s ls rs e2)

abbrev pub bound_list : Binding → List Term → List Term
bound_list b ts = map (sub (bound_to b.var b.value)) ts

-- a solution begins with a binding, and goes on with what solves the rest
pub record Begins (levels : List ℕ) (x : ℕ) (t : Term) (go : Binding → Option Solved) (s : Solved) : Type 0 where
  pub binding : Binding
  pub bound : bind levels x t ≡ Some binding
  pub inner : Solved
  pub goes : go binding ≡ Some inner
  pub is : after binding inner ≡ s

pub begins : (levels : List ℕ) (x : ℕ) (t : Term) (go : Binding → Option Solved) (s : Solved) → resolve (Meet x t) levels go ≡ Some s → Begins levels x t go s
begins levels x t go s h = step (bind levels x t) refl h
  where
    step_b : (b : Binding) → bind levels x t ≡ Some b → (o : Option Solved) → go b ≡ o → option_map (after b) o ≡ Some s → Begins levels x t go s
    step_b b e None f h = cc
    step_b b e (Some i) f h = record { binding = b; bound = e; inner = i; goes = f; is = cc }

    step : (o : Option Binding) → bind levels x t ≡ o → option_and_then (λ b. option_map (after b) (go b)) o ≡ Some s → Begins levels x t go s
    step None e h = cc
    step (Some b) e h = step_b b e (go b) refl h

after-list : (b : Binding) (i : Solved) (ts : List Term) → map (sub (after b i).subst) ts ≡ map (sub i.subst) (bound_list b ts)
after-list b i ts = sym (map_map (sub i.subst) (sub (bound_to b.var b.value)) ts ∙ map_same _ _ (sub_comp i.subst (bound_to b.var b.value)) ts)

-- the answer makes the lists equal
pub solve-unifies : (n : ℕ) (ls rs : List Term) (levels : List ℕ) (s : Solved) → solve n ls rs levels ≡ Some s → Unifies s.subst ls rs
solve-unifies zero ls rs levels s h = go (diff_lists ls rs) refl h
  where
    go : (d : Diff) → diff_lists ls rs ≡ d → resolve d levels (λ b. None) ≡ Some s → Unifies s.subst ls rs
    go Same e h = ap (map (sub s.subst)) (same-lists ls rs e)
    go Clash e h = cc
    go (Meet x t) e h = let b = begins levels x t (λ b. None) s h in cc (b.goes)
solve-unifies (suc n) ls rs levels s h = go (solve-unifies n) (diff_lists ls rs) refl h
  where
    next : Binding → Option Solved
    next b = solve n (bound_list b ls) (bound_list b rs) b.levels

    go : ((ls rs : List Term) (levels : List ℕ) (s : Solved) → solve n ls rs levels ≡ Some s → Unifies s.subst ls rs)
        → (d : Diff) → diff_lists ls rs ≡ d → resolve d levels next ≡ Some s → Unifies s.subst ls rs
    go ih Same e h = ap (map (sub s.subst)) (same-lists ls rs e)
    go ih Clash e h = cc
    go ih (Meet x t) e h =
        let b = begins levels x t next s h in
        let u = ih (bound_list b.binding ls) (bound_list b.binding rs) b.binding.levels b.inner b.goes in
        subst (λ z. Unifies z.subst ls rs) b.is (after-list b.binding b.inner ls ∙ (u ∙ sym (after-list b.binding b.inner rs)))

level-set : (xs : List ℕ) (x y l : ℕ) → slice_index (slice_set xs x (min (slice_index xs x) l)) y
    ≡ cond (nat_eq y x) (min (slice_index xs y) l) (slice_index xs y)
level-set [] x y l = step (nat_eq y x)
  where
    step : (b : Bool) → 0 ≡ cond b (min 0 l) 0
    step true = omega arith
    step false = refl
level-set (a ∷ xs) zero zero l = refl
level-set (a ∷ xs) zero (suc y) l = rw eqb-suc-zero
level-set (a ∷ xs) (suc x) zero l = rw eqb-zero-suc
level-set (a ∷ xs) (suc x) (suc y) l = rw eqb-suc-suc (level-set xs x y l)

twice_lower : (a b : Bool) (v l : ℕ) → cond b (min (cond a (min v l) v) l) (cond a (min v l) v) ≡ cond (a || b) (min v l) v
twice_lower true true v l = omega arith
twice_lower true false v l = refl
twice_lower false true v l = refl
twice_lower false false v l = refl

-- a variable of the term falls to the level
pub level-lower : (l : ℕ) (t : Term) (xs : List ℕ) (y : ℕ) → slice_index (lower l t xs) y ≡ cond (occurs y t) (min (slice_index xs y) l) (slice_index xs y)
level-lower l (Var x) xs y = level-set xs x y l
level-lower l (Int z) xs y = refl
level-lower l (Con h) xs y = refl
level-lower l (Ap f a) xs y =
    level-lower l a (lower l f xs) y ∙ (ap (λ v. cond (occurs y a) (min v l) v) (level-lower l f xs y)
    ∙ twice_lower (occurs y f) (occurs y a) (slice_index xs y) l)

pub lower-le : (l : ℕ) (t : Term) (xs : List ℕ) (y : ℕ) → slice_index (lower l t xs) y ≤ slice_index xs y
lower-le l t xs y = subst (λ v. v ≤ slice_index xs y) (sym (level-lower l t xs y)) (step (occurs y t))
  where
    step : (b : Bool) → cond b (min (slice_index xs y) l) (slice_index xs y) ≤ slice_index xs y
    step true = omega arith
    step false = omega arith

pub lower-at : (l : ℕ) (t : Term) (xs : List ℕ) (y : ℕ) → occurs y t ≡ true → slice_index (lower l t xs) y ≤ l
lower-at l t xs y h = subst (λ v. v ≤ l) (sym (level-lower l t xs y ∙ ap (λ b. cond b (min (slice_index xs y) l) (slice_index xs y)) h)) (omega arith)

eigen-mono : (m l : ℕ) (h : Head) → m ≤ l → eigen_below m h ≡ true → eigen_below l h ≡ true
eigen-mono m l (Name n) le e = refl
eigen-mono m l (Bound n) le e = refl
eigen-mono m l (Eigen n) le e = let h = ltb-true n m e in lt-ltb n l (omega arith)

pub eigens-mono : (m l : ℕ) (t : Term) → m ≤ l → eigens_below m t ≡ true → eigens_below l t ≡ true
eigens-mono m l (Var x) le e = refl
eigens-mono m l (Int z) le e = refl
eigens-mono m l (Con h) le e = eigen-mono m l h le e
eigens-mono m l (Ap f a) le e =
    and_both (eigens_below l f) (eigens_below l a) (eigens-mono m l f le (and_left (eigens_below m f) (eigens_below m a) e))
    (eigens-mono m l a le (and_right (eigens_below m f) (eigens_below m a) e))

fits-mono : (m l : ℕ) (t : Term) (new : List ℕ) → m ≤ l → FitsLevel m t new → FitsLevel l t new
fits-mono m l t new le f = record { eigens = eigens-mono m l t le f.eigens; vars = λ y o. let h = f.vars y o in omega arith }

pub fits-left : (l : ℕ) (t u : Term) (new : List ℕ) → FitsLevel l (Ap t u) new → FitsLevel l t new
fits-left l t u new f = record {
  eigens = and_left (eigens_below l t) (eigens_below l u) f.eigens;
  vars =
      λ y o. f.vars y (or_true_left (occurs y t) (occurs y u) o);
}

pub fits-right : (l : ℕ) (t u : Term) (new : List ℕ) → FitsLevel l (Ap t u) new → FitsLevel l u new
fits-right l t u new f = record {
  eigens = and_right (eigens_below l t) (eigens_below l u) f.eigens;
  vars =
      λ y o. f.vars y (or_true_right (occurs y t) (occurs y u) o);
}

fits-ap : (l : ℕ) (t u : Term) (new : List ℕ) → FitsLevel l t new → FitsLevel l u new → FitsLevel l (Ap t u) new
fits-ap l t u new f g = record {
  eigens = and_both (eigens_below l t) (eigens_below l u) f.eigens g.eigens;
  vars = λ y o. or_cases (occurs y t) (occurs y u) o (f.vars y) (g.vars y);
}

-- a term that fits a level does so after a substitution that respects the levels
pub fits-sub : (l : ℕ) (t : Term) (mid new : List ℕ) (g : ℕ → Term) → Respects mid g new → FitsLevel l t mid → FitsLevel l (sub g t) new
fits-sub l (Var y) mid new g r f = fits-mono (slice_index mid y) l (g y) new (f.vars y (eq-eqb y y refl)) (r y)
fits-sub l (Int z) mid new g r f = record { eigens = refl; vars = λ y o. cc }
fits-sub l (Con h) mid new g r f = record { eigens = f.eigens; vars = λ y o. cc }
fits-sub l (Ap t u) mid new g r f =
    fits-ap l (sub g t) (sub g u) new (fits-sub l t mid new g r (fits-left l t u mid f)) (fits-sub l u mid new g r (fits-right l t u mid f))

pub respects-bound : (old new : List ℕ) (v : ℕ) (t : Term) → ((y : ℕ) → slice_index new y ≤ slice_index old y) → FitsLevel (slice_index old v) t new
    → Respects old (bound_to v t) new
respects-bound old new v t le f z = step (nat_eq z v) refl
  where
    step : (b : Bool) → nat_eq z v ≡ b → FitsLevel (slice_index old z) (if b then t else Var z) new
    step true e = subst (λ w. FitsLevel (slice_index old w) t new) (sym (eqb-true z v e)) f
    step false e = record { eigens = refl; vars = λ y o. subst (λ w. slice_index new w ≤ slice_index old z) (sym (eqb-true y z o)) (le z) }

bind_term-respects : (levels : List ℕ) (x : ℕ) (t : Term) (b : Binding) → bind_term levels x t ≡ Some b → Respects levels (bound_to b.var b.value) b.levels
bind_term-respects levels x t b h = step (occurs x t) (eigens_below (slice_index levels x) t) refl h
  where
    l : ℕ
    l = slice_index levels x

    step : (o e : Bool) → eigens_below l t ≡ e
        → (if o || not e then None else Some (record { var = x; value = t; levels = lower l t levels })) ≡ Some b
        → Respects levels (bound_to b.var b.value) b.levels
    step true e q h = cc
    step false false q h = cc
    step false true q h =
        let c : Binding = record { var = x; value = t; levels = lower l t levels } in
        let i : c ≡ b = cc in
        subst (λ d. Respects levels (bound_to d.var d.value) d.levels) i
        (respects-bound levels (lower l t levels) x t (lower-le l t levels) (record { eigens = q; vars = lower-at l t levels }))

-- which of two variables is bound
older-le : (levels : List ℕ) (x y : ℕ) → is_older levels x y ≡ true → slice_index levels x ≤ slice_index levels y
older-le levels x y h =
    or_cases (nat_lt (slice_index levels x) (slice_index levels y)) _ h (λ e. let l = ltb-true _ _ e in omega arith)
    (λ e. let l = eqb-true _ _ (and_left (nat_eq (slice_index levels x) (slice_index levels y)) (nat_lt x y) e) in omega arith)

not_older-le : (levels : List ℕ) (x y : ℕ) → is_older levels x y ≡ false → slice_index levels y ≤ slice_index levels x
not_older-le levels x y h = step (nat_lt (slice_index levels x) (slice_index levels y)) refl h
  where
    step : (b : Bool) → nat_lt (slice_index levels x) (slice_index levels y) ≡ b
        → (b || (nat_eq (slice_index levels x) (slice_index levels y) && nat_lt x y)) ≡ false → slice_index levels y ≤ slice_index levels x
    step true e h = cc
    step false e h = omega (arith, ltb-false _ _ e)

pub fits-var : (levels : List ℕ) (l x : ℕ) → slice_index levels x ≤ l → FitsLevel l (Var x) levels
fits-var levels l x h = record { eigens = refl; vars = λ y o. subst (λ w. slice_index levels w ≤ l) (sym (eqb-true y x o)) h }

bind_var-respects : (levels : List ℕ) (x y : ℕ) (b : Binding) → bind levels x (Var y) ≡ Some b → Respects levels (bound_to b.var b.value) b.levels
bind_var-respects levels x y b h = step (is_older levels x y) refl h
  where
    step : (o : Bool) → is_older levels x y ≡ o
        → (if o then Some (record { var = y; value = Var x; levels = levels }) else Some (record { var = x; value = Var y; levels = levels })) ≡ Some b
        → Respects levels (bound_to b.var b.value) b.levels
    step true e h =
        let c : Binding = record { var = y; value = Var x; levels = levels } in let i : c ≡ b = cc in
        subst (λ d. Respects levels (bound_to d.var d.value) d.levels) i
        (respects-bound levels levels y (Var x) (λ z. omega arith) (fits-var levels (slice_index levels y) x (older-le levels x y e)))
    step false e h =
        let c : Binding = record { var = x; value = Var y; levels = levels } in let i : c ≡ b = cc in
        subst (λ d. Respects levels (bound_to d.var d.value) d.levels) i
        (respects-bound levels levels x (Var y) (λ z. omega arith) (fits-var levels (slice_index levels x) y (not_older-le levels x y e)))

pub bind-respects : (levels : List ℕ) (x : ℕ) (t : Term) (b : Binding) → bind levels x t ≡ Some b → Respects levels (bound_to b.var b.value) b.levels
bind-respects levels x (Var y) b h = bind_var-respects levels x y b h
bind-respects levels x (Int z) b h = bind_term-respects levels x (Int z) b h
bind-respects levels x (Con k) b h = bind_term-respects levels x (Con k) b h
bind-respects levels x (Ap t u) b h = bind_term-respects levels x (Ap t u) b h

var-respects : (levels : List ℕ) → Respects levels Var levels
var-respects levels x = fits-var levels (slice_index levels x) x (omega arith)

same-respects : (levels : List ℕ) (s : Solved) (n : Solved) → n ≡ s → Respects levels n.subst n.levels → Respects levels s.subst s.levels
same-respects levels s n e r = subst (λ d. Respects levels d.subst d.levels) e r

-- the answer respects the levels
pub solve-respects : (n : ℕ) (ls rs : List Term) (levels : List ℕ) (s : Solved) → solve n ls rs levels ≡ Some s → Respects levels s.subst s.levels
solve-respects zero ls rs levels s h = go (diff_lists ls rs) h
  where
    go : (d : Diff) → resolve d levels (λ b. None) ≡ Some s → Respects levels s.subst s.levels
    go Same h = let c : Solved = record { subst = Var; levels = levels } in same-respects levels s c (cc) (var-respects levels)
    go Clash h = cc
    go (Meet x t) h = let b = begins levels x t (λ b. None) s h in cc (b.goes)
solve-respects (suc n) ls rs levels s h = go (solve-respects n) (diff_lists ls rs) h
  where
    next : Binding → Option Solved
    next b = solve n (bound_list b ls) (bound_list b rs) b.levels

    go : ((ls rs : List Term) (levels : List ℕ) (s : Solved) → solve n ls rs levels ≡ Some s → Respects levels s.subst s.levels)
        → (d : Diff) → resolve d levels next ≡ Some s → Respects levels s.subst s.levels
    go ih Same h = let c : Solved = record { subst = Var; levels = levels } in same-respects levels s c (cc) (var-respects levels)
    go ih Clash h = cc
    go ih (Meet x t) h =
        let b = begins levels x t next s h in
        let r = ih (bound_list b.binding ls) (bound_list b.binding rs) b.binding.levels b.inner b.goes in
        let q = bind-respects levels x t b.binding b.bound in
        same-respects levels s (after b.binding b.inner) b.is
        (λ y. fits-sub (slice_index levels y) (bound_to b.binding.var b.binding.value y) b.binding.levels b.inner.levels b.inner.subst r (q y))

-- ---- no solution is missed

-- every variable of the term is among vs
abbrev pub AllAmong : List ℕ → Term → Type 0
AllAmong vs t = (y : ℕ) → occurs y t ≡ true → list_any (nat_eq y) vs ≡ true

abbrev pub AllAmongLists : List ℕ → List Term → Type 0
AllAmongLists vs [] = Unit {0}
AllAmongLists vs (t ∷ ts) = AllAmong vs t × AllAmongLists vs ts

-- what is known of the place where two terms first differ
abbrev pub MeetIn : List ℕ → Diff → Type 0
MeetIn vs Same = Unit {0}
MeetIn vs Clash = Unit {0}
MeetIn vs (Meet x t) = (list_any (nat_eq x) vs ≡ true) × AllAmong vs t × (t ≢ Var x)

meet-var : (vs : List ℕ) (x : ℕ) (t : Term) → list_any (nat_eq x) vs ≡ true → AllAmong vs t → MeetIn vs (diff_var x t)
meet-var vs x (Var y) h a = step (nat_eq x y) refl
  where
    step : (b : Bool) → nat_eq x y ≡ b → MeetIn vs (if b then Same else Meet x (Var y))
    step true e = tt
    step false e = (h, a, λ q. let r : y ≡ x = cc in eqb-false x y e (sym r))
meet-var vs x (Int z) h a = (h, a, λ q. cc)
meet-var vs x (Con k) h a = (h, a, λ q. cc)
meet-var vs x (Ap t u) h a = (h, a, λ q. cc)

meet-and : (vs : List ℕ) (d e : Diff) → MeetIn vs d → MeetIn vs e → MeetIn vs (and_then d e)
meet-and vs Same e p q = q
meet-and vs Clash e p q = p
meet-and vs (Meet x t) e p q = p

meet-when : (vs : List ℕ) (b : Bool) → MeetIn vs (when b)
meet-when vs true = tt
meet-when vs false = tt

among-left : (vs : List ℕ) (t u : Term) → AllAmong vs (Ap t u) → AllAmong vs t
among-left vs t u a y o = a y (or_true_left (occurs y t) (occurs y u) o)

among-right : (vs : List ℕ) (t u : Term) → AllAmong vs (Ap t u) → AllAmong vs u
among-right vs t u a y o = a y (or_true_right (occurs y t) (occurs y u) o)

meet : (vs : List ℕ) (t u : Term) → AllAmong vs t → AllAmong vs u → MeetIn vs (diff t u)
meet vs (Var x) u a b = meet-var vs x u (a x (eq-eqb x x refl)) b
meet vs (Int y) (Var x) a b = (b x (eq-eqb x x refl), a, λ q. cc)
meet vs (Int y) (Int z) a b = meet-when vs (int_eq y z)
meet vs (Con k) (Var x) a b = (b x (eq-eqb x x refl), a, λ q. cc)
meet vs (Con k) (Con l) a b = meet-when vs (head_eq k l)
meet vs (Ap f t) (Var x) a b = (b x (eq-eqb x x refl), a, λ q. cc)
meet vs (Ap f t) (Ap g u) a b =
    meet-and vs (diff f g) (diff t u) (meet vs f g (among-left vs f t a) (among-left vs g u b)) (meet vs t u (among-right vs f t a) (among-right vs g u b))
meet vs _ _ a b = tt

pub meet-lists : (vs : List ℕ) (ls rs : List Term) → AllAmongLists vs ls → AllAmongLists vs rs → MeetIn vs (diff_lists ls rs)
meet-lists vs [] [] a b = tt
meet-lists vs [] (r ∷ rs) a b = tt
meet-lists vs (l ∷ ls) [] a b = tt
meet-lists vs (l ∷ ls) (r ∷ rs) a b = meet-and vs (diff l r) (diff_lists ls rs) (meet vs l r a.0 b.0) (meet-lists vs ls rs a.1 b.1)

size : Term → ℕ
size (Var x) = 0
size (Int z) = 0
size (Con h) = 0
size (Ap f a) = suc (size f + size a)

size-occurs : (s : ℕ → Term) (x : ℕ) (t : Term) → occurs x t ≡ true → size (s x) ≤ size (sub s t)
unfolding size
size-occurs s x (Var y) h = subst (λ z. size (s x) ≤ size (s z)) (eqb-true x y h) (omega arith)
size-occurs s x (Int z) h = cc
size-occurs s x (Con k) h = cc
size-occurs s x (Ap f a) h =
    or_cases (occurs x f) (occurs x a) h (λ o. let i = size-occurs s x f o in omega arith) (λ o. let i = size-occurs s x a o in omega arith)

-- a variable is no proper part of what it stands for
no_cycle : (s : ℕ → Term) (x : ℕ) (f a : Term) → s x ≡ sub s (Ap f a) → occurs x (Ap f a) ≡ true → ⊥
unfolding size
no_cycle s x f a e h =
    let q : size (s x) ≡ suc (size (sub s f) + size (sub s a)) = ap size e in
    or_cases (occurs x f) (occurs x a) h (λ o. let i = size-occurs s x f o in omega arith) (λ o. let i = size-occurs s x a o in omega arith)

eigens-sub : (s : ℕ → Term) (l : ℕ) (t : Term) → eigens_below l (sub s t) ≡ true → eigens_below l t ≡ true
eigens-sub s l (Var y) h = refl
eigens-sub s l (Int z) h = refl
eigens-sub s l (Con k) h = h
eigens-sub s l (Ap f a) h =
    and_both (eigens_below l f) (eigens_below l a) (eigens-sub s l f (and_left (eigens_below l (sub s f)) (eigens_below l (sub s a)) h))
    (eigens-sub s l a (and_right (eigens_below l (sub s f)) (eigens_below l (sub s a)) h))

fits-part : (s : ℕ → Term) (new : List ℕ) (l z : ℕ) (t : Term) → occurs z t ≡ true → FitsLevel l (sub s t) new → FitsLevel l (s z) new
fits-part s new l z (Var y) o f = subst (λ w. FitsLevel l (s w) new) (sym (eqb-true z y o)) f
fits-part s new l z (Int y) o f = cc
fits-part s new l z (Con k) o f = cc
fits-part s new l z (Ap t u) o f =
    or_cases (occurs z t) (occurs z u) o (λ p. fits-part s new l z t p (fits-left l (sub s t) (sub s u) new f))
    (λ p. fits-part s new l z u p (fits-right l (sub s t) (sub s u) new f))

fits-min : (a b : ℕ) (t : Term) (new : List ℕ) → FitsLevel a t new → FitsLevel b t new → FitsLevel (min a b) t new
fits-min a b t new f g =
    elim (cases_lt a b) [
      | inl h ↦ subst (λ m. FitsLevel m t new) (let e : a ≡ min a b = omega arith in
          e) f
      | inr h ↦ subst (λ m. FitsLevel m t new) (let e : b ≡ min a b = omega arith in e) g
    ]

-- a substitution that makes a variable what a term is respects the lowered levels
lower-respects : (s : ℕ → Term) (new levels : List ℕ) (x : ℕ) (t : Term) → s x ≡ sub s t → Respects levels s new
    → Respects (lower (slice_index levels x) t levels) s new
lower-respects s new levels x t e r z =
    subst (λ m. FitsLevel m (s z) new) (sym (level-lower (slice_index levels x) t levels z)) (step (occurs z t) refl)
  where
    step : (b : Bool) → occurs z t ≡ b → FitsLevel (cond b (min (slice_index levels z) (slice_index levels x)) (slice_index levels z)) (s z) new
    step true o =
        fits-min (slice_index levels z) (slice_index levels x) (s z) new (r z)
        (fits-part s new (slice_index levels x) z t o (subst (λ u. FitsLevel (slice_index levels x) u new) e (r x)))
    step false o = r z

-- a binding that a substitution agrees with
pub record Agreed (levels : List ℕ) (x : ℕ) (t : Term) (s : ℕ → Term) (new : List ℕ) (vs : List ℕ) : Type 0 where
  pub binding : Binding
  pub bound : bind levels x t ≡ Some binding
  pub agrees : s binding.var ≡ sub s binding.value
  pub respects : Respects binding.levels s new
  pub among : list_any (nat_eq binding.var) vs ≡ true
  pub value : AllAmong vs binding.value
  pub free : occurs binding.var binding.value ≡ false

term_binding : List ℕ → ℕ → Term → Binding
term_binding levels x t = record { var = x; value = t; levels = lower (slice_index levels x) t levels }

binds_term : (levels : List ℕ) (x : ℕ) (t : Term) → occurs x t ≡ false → eigens_below (slice_index levels x) t ≡ true
    → bind_term levels x t ≡ Some (term_binding levels x t)
unfolding term_binding
binds_term levels x t free fine = step (occurs x t) (eigens_below (slice_index levels x) t) free fine
  where
    c : Binding
    c = term_binding levels x t

    step : (o q : Bool) → o ≡ false → q ≡ true → (if o || not q then None else Some c) ≡ Some c
    step true q f g = cc
    step false true f g = refl
    step false false f g = cc

agreed_term : (levels : List ℕ) (x : ℕ) (t : Term) (s : ℕ → Term) (new vs : List ℕ) → (bind levels x t ≡ bind_term levels x t) → s x ≡ sub s t
    → Respects levels s new
    → list_any (nat_eq x) vs ≡ true → AllAmong vs t → occurs x t ≡ false → Agreed levels x t s new vs
unfolding term_binding
agreed_term levels x t s new vs is e r h a free =
    record {
      binding = term_binding levels x t;
      bound = is ∙ binds_term levels x t free (eigens-sub s (slice_index levels x) t
          (subst (λ u. eigens_below (slice_index levels x) u ≡ true) e (r x).eigens));
      agrees = e;
      respects = lower-respects s new levels x t e r;
      among = h;
      value = a;
      free = free;
    }

agreed_var : (levels : List ℕ) (x y : ℕ) (s : ℕ → Term) (new vs : List ℕ) → s x ≡ s y → Respects levels s new
    → list_any (nat_eq x) vs ≡ true → AllAmong vs (Var y) → (Var y ≢ Var x) → Agreed levels x (Var y) s new vs
agreed_var levels x y s new vs e r h a ne = step (is_older levels x y) refl
  where
    step : (o : Bool) → is_older levels x y ≡ o → Agreed levels x (Var y) s new vs
    step true o =
        record {
          binding = record { var = y; value = Var x; levels = levels };
          bound = ap (λ b. if b then Some (record { var = y; value = Var x; levels = levels }) else Some (record { var = x; value = Var y; levels = levels }))
              o;
          agrees = sym e;
          respects = r;
          among = a y (eq-eqb y y refl);
          value = λ z p. subst (λ w. list_any (nat_eq w) vs ≡ true) (sym (eqb-true z x p)) h;
          free = ne_eqb y x (λ q. ne (ap Var q));
        }
    step false o =
        record {
          binding = record { var = x; value = Var y; levels = levels };
          bound = ap (λ b. if b then Some (record { var = y; value = Var x; levels = levels }) else Some (record { var = x; value = Var y; levels = levels }))
              o;
          agrees = e;
          respects = r;
          among = h;
          value = a;
          free = ne_eqb x y (λ q. ne (ap Var (sym q)));
        }

pub agreed : (levels : List ℕ) (x : ℕ) (t : Term) (s : ℕ → Term) (new vs : List ℕ) → s x ≡ sub s t → Respects levels s new → MeetIn vs (Meet x t)
    → Agreed levels x t s new vs
agreed levels x (Var y) s new vs e r m = agreed_var levels x y s new vs e r m.0 m.1 m.2
agreed levels x (Int z) s new vs e r m = agreed_term levels x (Int z) s new vs refl e r m.0 m.1 refl
agreed levels x (Con k) s new vs e r m = agreed_term levels x (Con k) s new vs refl e r m.0 m.1 refl
agreed levels x (Ap t u) s new vs e r m = agreed_term levels x (Ap t u) s new vs refl e r m.0 m.1 (not_occurs (occurs x (Ap t u)) (no_cycle s x t u e))

-- the list without one number
unfoldable pub without : ℕ → List ℕ → List ℕ
without v [] = []
without v (y ∷ ys) = if nat_eq v y then without v ys else y ∷ without v ys

without-le : (v : ℕ) (ys : List ℕ) → length (without v ys) ≤ length ys
unfolding without
without-le v [] = omega arith
without-le v (y ∷ ys) = step (nat_eq v y) (without-le v ys)
  where
    step : (b : Bool) → length (without v ys) ≤ length ys → length (if b then without v ys else y ∷ without v ys) ≤ suc (length ys)
    step true h = omega arith
    step false h = omega arith

without-lt : (v : ℕ) (ys : List ℕ) → list_any (nat_eq v) ys ≡ true → length (without v ys) < length ys
unfolding without
without-lt v [] h = cc
without-lt v (y ∷ ys) h = step (nat_eq v y) (without-lt v ys) h
  where
    step : (b : Bool) → (list_any (nat_eq v) ys ≡ true → length (without v ys) < length ys) → (b || list_any (nat_eq v) ys) ≡ true
        → length (if b then without v ys else y ∷ without v ys) < suc (length ys)
    step true ih h = let i = without-le v ys in omega arith
    step false ih h = let i = ih h in omega arith

stays : (v y : ℕ) (ys : List ℕ) → (y ≡ v → ⊥) → list_any (nat_eq y) ys ≡ true → list_any (nat_eq y) (without v ys) ≡ true
unfolding without
stays v y [] ne h = h
stays v y (z ∷ zs) ne h = step (nat_eq v z) refl (nat_eq y z) refl (stays v y zs ne) h
  where
    step : (b : Bool) → nat_eq v z ≡ b → (c : Bool) → nat_eq y z ≡ c → (list_any (nat_eq y) zs ≡ true → list_any (nat_eq y) (without v zs) ≡ true)
        → (c || list_any (nat_eq y) zs) ≡ true → list_any (nat_eq y) (if b then without v zs else z ∷ without v zs) ≡ true
    step true e true f ih h = absurd (ne (eqb-true y z f ∙ sym (eqb-true v z e)))
    step true e false f ih h = ih h
    step false e true f ih h = or_true_left (nat_eq y z) (list_any (nat_eq y) (without v zs)) f
    step false e false f ih h = or_true_right (nat_eq y z) (list_any (nat_eq y) (without v zs)) (ih h)

bound-among : (v : ℕ) (w : Term) (vs : List ℕ) (t : Term) → AllAmong vs w → occurs v w ≡ false → AllAmong vs t → AllAmong (without v vs) (sub (bound_to v w) t)
bound-among v w vs (Var x) aw free a y o = step (nat_eq x v) refl o
  where
    step : (b : Bool) → nat_eq x v ≡ b → occurs y (if b then w else Var x) ≡ true → list_any (nat_eq y) (without v vs) ≡ true
    step true e o = stays v y vs (λ q. both_ways (occurs v w) free (subst (λ z. occurs z w ≡ true) q o)) (aw y o)
    step false e o = stays v y vs (λ q. eqb-false x v e (sym (eqb-true y x o) ∙ q)) (a y o)
bound-among v w vs (Int z) aw free a y o = cc
bound-among v w vs (Con k) aw free a y o = cc
bound-among v w vs (Ap f t) aw free a y o =
    or_cases (occurs y (sub (bound_to v w) f)) (occurs y (sub (bound_to v w) t)) o (bound-among v w vs f aw free (among-left vs f t a) y)
    (bound-among v w vs t aw free (among-right vs f t a) y)

pub bound-among-lists : (v : ℕ) (w : Term) (vs : List ℕ) (ts : List Term) → AllAmong vs w → occurs v w ≡ false → AllAmongLists vs ts
    → AllAmongLists (without v vs) (map (sub (bound_to v w)) ts)
bound-among-lists v w vs [] aw free a = tt
bound-among-lists v w vs (t ∷ ts) aw free a = (bound-among v w vs t aw free a.0, bound-among-lists v w vs ts aw free a.1)

-- a substitution that agrees with a binding does not see it
same_bound : (s : ℕ → Term) (v : ℕ) (w : Term) → s v ≡ sub s w → (x : ℕ) → sub s (bound_to v w x) ≡ s x
same_bound s v w e x = step (nat_eq x v) refl
  where
    step : (b : Bool) → nat_eq x v ≡ b → sub s (if b then w else Var x) ≡ s x
    step true q = sym e ∙ ap s (sym (eqb-true x v q))
    step false q = refl

same_bound-list : (s : ℕ → Term) (v : ℕ) (w : Term) → s v ≡ sub s w → (ts : List Term) → map (sub s) (map (sub (bound_to v w)) ts) ≡ map (sub s) ts
same_bound-list s v w e ts = map_map (sub s) (sub (bound_to v w)) ts ∙ map_same _ _ (λ t. sub_comp s (bound_to v w) t ∙ sub_same _ s (same_bound s v w e) t) ts

-- the answer, through which each unifier that respects the levels goes
pub record General (ls rs : List Term) (levels : List ℕ) (n : ℕ) (s : ℕ → Term) (new : List ℕ) : Type 0 where
  pub solved : Solved
  pub is : solve n ls rs levels ≡ Some solved
  pub through : (x : ℕ) → sub s (solved.subst x) ≡ s x
  pub respects : Respects solved.levels s new

pub most_general : (n : ℕ) (ls rs : List Term) (levels vs : List ℕ) (s : ℕ → Term) (new : List ℕ) → Unifies s ls rs → Respects levels s new
    → AllAmongLists vs ls → AllAmongLists vs rs → length vs ≤ n → General ls rs levels n s new
most_general zero ls rs levels vs s new u r a b le = go (diff_lists ls rs) refl (forced-lists s ls rs u) (meet-lists vs ls rs a b)
  where
    go : (d : Diff) → diff_lists ls rs ≡ d → Forced s d → MeetIn vs d → General ls rs levels zero s new
    go Same e f m = record {
      solved = record { subst = Var; levels = levels };
      is = ap (λ d. resolve d levels (λ b. None)) e;
      through = λ x. refl;
      respects = r;
    }
    go Clash e f m = absurd f
    go (Meet x t) e f m = let h = without-lt x vs m.0 in absurd (omega arith)
most_general (suc n) ls rs levels vs s new u r a b le = go (most_general n) (diff_lists ls rs) refl (forced-lists s ls rs u) (meet-lists vs ls rs a b)
  where
    next : Binding → Option Solved
    next b = solve n (bound_list b ls) (bound_list b rs) b.levels

    go : ((ls rs : List Term) (levels vs : List ℕ) (s : ℕ → Term) (new : List ℕ) → Unifies s ls rs → Respects levels s new
        → AllAmongLists vs ls → AllAmongLists vs rs → length vs ≤ n → General ls rs levels n s new)
        → (d : Diff) → diff_lists ls rs ≡ d → Forced s d → MeetIn vs d → General ls rs levels (suc n) s new
    go ih Same e f m = record {
      solved = record { subst = Var; levels = levels };
      is = ap (λ d. resolve d levels next) e;
      through = λ x. refl;
      respects = r;
    }
    go ih Clash e f m = absurd f
    go ih (Meet x t) e f m =
        let g = agreed levels x t s new vs f r m in
        let k = g.binding in
        let l = without-lt k.var vs g.among in
        let i = ih (bound_list k ls) (bound_list k rs) k.levels (without k.var vs) s new
        (same_bound-list s k.var k.value g.agrees ls ∙ (u ∙ sym (same_bound-list s k.var k.value g.agrees rs))) g.respects
        (bound-among-lists k.var k.value vs ls g.value g.free a) (bound-among-lists k.var k.value vs rs g.value g.free b) (omega arith) in
        record {
          solved = after k i.solved;
          is = ap (λ d. resolve d levels next) e ∙ (ap (λ o. option_and_then (λ b. option_map (after b) (next b)) o) g.bound ∙ ap (option_map (after k)) i.is);
          through = λ y. sub_comp s i.solved.subst (bound_to k.var k.value y)
              ∙ (sub_same _ s i.through (bound_to k.var k.value y) ∙ same_bound s k.var k.value g.agrees y);
          respects = i.respects;
        }
