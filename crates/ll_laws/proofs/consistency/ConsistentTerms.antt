-- Terms of consistent states, by a type that goes down the term, and how weakening, substitution and closing keep it.
use Rattle.std.proofs.Common.{◌≡◌, ℕ, zero, suc, ◌+◌, ◌≤◌, refl, subst, Bool, true, false, List, [], ◌∷◌, map, length, arith}
use Rattle.std.proofs.lemmas.Bool.{ltb-true, lt-ltb, and_from as and_intro}
use Rattle.std.specs.Prelude.{◌&&◌, Option, Some, None, nat_lt, slice_index_or}
use Rattle.std.specs.List.{list_all}
use Rattle.ll_list_laws.proofs.CallerLemmas.{lt_more, lt_zero as none_below, and_true_left as and_left, and_true_right as and_right}
use Rattle.ll_bank.specs.declared.Head.{Head}
use Rattle.ll_bank.specs.declared.Head.TheVariants.{Name, Eigen, Bound}
use Rattle.ll_bank.specs.Term.{Term, Var, Int, Con, Ap, sub, Env, place, close, head_of, is_closed, is_spine, applies_heads, eigens_below}
use Rattle.ll_laws.specs.Unify.{vars_below}
use Rattle.ll_laws.specs.Valid.{Allowed, Scope, places_below, may_head, is_headed}
use Rattle.ll_laws.specs.Consistent.{is_made}

-- the term has a head, and one that may be a predicate or have arguments
abbrev pub IsHead : Scope → Term → Type 0
IsHead scope t = (is_spine t ≡ true) × (may_head scope (head_of t) ≡ true)

-- the head is one that there is
abbrev pub HeadFits : Allowed → Scope → Head → Type 0
HeadFits may scope (Name n) = Unit {0}
HeadFits may scope (Eigen k) = nat_lt k may.eigens ≡ true
HeadFits may scope (Bound k) = nat_lt k (length scope) ≡ true

-- the term mentions what it may, and what stands in front of arguments is a head
abbrev pub Fit : Allowed → Scope → Term → Type 0
Fit may scope (Var x) = nat_lt x may.variables ≡ true
Fit may scope (Int z) = Unit {0}
Fit may scope (Con h) = HeadFits may scope h
Fit may scope (Ap f a) = IsHead scope f × Fit may scope f × Fit may scope a

abbrev pub AllFit : Allowed → Scope → List Term → Type 0
AllFit may scope [] = Unit {0}
AllFit may scope (t ∷ ts) = Fit may scope t × AllFit may scope ts

-- ---- the type and the tests

pub fit : (may : Allowed) (scope : Scope) (t : Term) → places_below (length scope) t ≡ true → is_headed scope t ≡ true
    → vars_below may.variables t ≡ true → eigens_below may.eigens t ≡ true → Fit may scope t
fit may scope (Var x) p h v e = v
fit may scope (Int z) p h v e = tt
fit may scope (Con (Name n)) p h v e = tt
fit may scope (Con (Eigen k)) p h v e = e
fit may scope (Con (Bound k)) p h v e = p
fit may scope (Ap f a) p h v e =
    let s : Bool = is_spine f in let m : Bool = may_head scope (head_of f) in
    let i = and_left (s && m && is_headed scope f) (is_headed scope a) h in
    let j = and_left (s && m) (is_headed scope f) i in (
      (and_left s m j, and_right s m j),
      fit may scope f (and_left _ (places_below (length scope) a) p) (and_right (s && m) (is_headed scope f) i) (and_left _ (vars_below may.variables a) v)
          (and_left _ (eigens_below may.eigens a) e),
      fit may scope a (and_right (places_below (length scope) f) _ p) (and_right (s && m && is_headed scope f) _ h) (and_right (vars_below may.variables f) _ v)
          (and_right (eigens_below may.eigens f) _ e),
    )

pub fit-places : (may : Allowed) (scope : Scope) (t : Term) → Fit may scope t → places_below (length scope) t ≡ true
fit-places may scope (Var x) h = refl
fit-places may scope (Int z) h = refl
fit-places may scope (Con (Name n)) h = refl
fit-places may scope (Con (Eigen k)) h = refl
fit-places may scope (Con (Bound k)) h = h
fit-places may scope (Ap f a) h = and_intro _ _ (fit-places may scope f h.1) (fit-places may scope a h.2)

pub fit-headed : (may : Allowed) (scope : Scope) (t : Term) → Fit may scope t → is_headed scope t ≡ true
fit-headed may scope (Var x) h = refl
fit-headed may scope (Int z) h = refl
fit-headed may scope (Con k) h = refl
fit-headed may scope (Ap f a) h =
    and_intro _ _ (and_intro _ _ (and_intro _ _ (h.0).0 (h.0).1) (fit-headed may scope f h.1)) (fit-headed may scope a h.2)

pub fit-vars : (may : Allowed) (scope : Scope) (t : Term) → Fit may scope t → vars_below may.variables t ≡ true
fit-vars may scope (Var x) h = h
fit-vars may scope (Int z) h = refl
fit-vars may scope (Con k) h = refl
fit-vars may scope (Ap f a) h = and_intro _ _ (fit-vars may scope f h.1) (fit-vars may scope a h.2)

pub fit-eigens : (may : Allowed) (scope : Scope) (t : Term) → Fit may scope t → eigens_below may.eigens t ≡ true
fit-eigens may scope (Var x) h = refl
fit-eigens may scope (Int z) h = refl
fit-eigens may scope (Con (Name n)) h = refl
fit-eigens may scope (Con (Eigen k)) h = h
fit-eigens may scope (Con (Bound k)) h = refl
fit-eigens may scope (Ap f a) h = and_intro _ _ (fit-eigens may scope f h.1) (fit-eigens may scope a h.2)

-- the head of a closed term may stand in front of arguments
pub head_of_closed : (scope : Scope) (t : Term) → is_closed t ≡ true → may_head scope (head_of t) ≡ true
head_of_closed scope (Var x) c = refl
head_of_closed scope (Int z) c = refl
head_of_closed scope (Con (Name n)) c = refl
head_of_closed scope (Con (Eigen k)) c = refl
head_of_closed scope (Con (Bound k)) c = cc
head_of_closed scope (Ap f a) c = head_of_closed scope f (and_right (is_spine f) (is_closed f) (and_left (is_spine f && is_closed f) (is_closed a) c))

-- where what stands in front of arguments is a head that may have them, it is a head
pub headed_applies : (scope : Scope) (t : Term) → is_headed scope t ≡ true → applies_heads t ≡ true
headed_applies scope (Var x) h = refl
headed_applies scope (Int z) h = refl
headed_applies scope (Con k) h = refl
headed_applies scope (Ap f a) h =
    let s : Bool = is_spine f in let m : Bool = may_head scope (head_of f) in
    let p = and_left (s && m && is_headed scope f) (is_headed scope a) h in
    and_intro _ _ (and_intro _ _ (and_left s m (and_left (s && m) (is_headed scope f) p)) (headed_applies scope f (and_right (s && m) (is_headed scope f) p)))
    (headed_applies scope a (and_right (s && m && is_headed scope f) (is_headed scope a) h))

pub all_headed : (scope : Scope) (ts : List Term) → list_all (is_headed scope) ts ≡ true → list_all applies_heads ts ≡ true
all_headed scope [] h = refl
all_headed scope (t ∷ ts) h =
    and_intro _ _ (headed_applies scope t (and_left (is_headed scope t) (list_all (is_headed scope) ts) h))
    (all_headed scope ts (and_right (is_headed scope t) (list_all (is_headed scope) ts) h))

-- a closed term fits the empty scope
fit_of_closed : (may : Allowed) (t : Term) → is_closed t ≡ true → vars_below may.variables t ≡ true → eigens_below may.eigens t ≡ true → Fit may [] t
fit_of_closed may (Var x) c v e = v
fit_of_closed may (Int z) c v e = tt
fit_of_closed may (Con (Name n)) c v e = tt
fit_of_closed may (Con (Eigen k)) c v e = e
fit_of_closed may (Con (Bound k)) c v e = cc
fit_of_closed may (Ap f a) c v e =
    let i = and_left (is_spine f && is_closed f) (is_closed a) c in
    let g = and_right (is_spine f) (is_closed f) i in (
      (and_left (is_spine f) (is_closed f) i, head_of_closed [] f g),
      fit_of_closed may f g (and_left _ (vars_below may.variables a) v) (and_left _ (eigens_below may.eigens a) e),
      fit_of_closed may a (and_right (is_spine f && is_closed f) _ c) (and_right (vars_below may.variables f) _ v) (and_right (eigens_below may.eigens f) _ e),
    )

fit-closed : (may : Allowed) (t : Term) → Fit may [] t → is_closed t ≡ true
fit-closed may (Var x) h = refl
fit-closed may (Int z) h = refl
fit-closed may (Con (Name n)) h = refl
fit-closed may (Con (Eigen k)) h = refl
fit-closed may (Con (Bound k)) h = none_below k h
fit-closed may (Ap f a) h = and_intro _ _ (and_intro _ _ (h.0).0 (fit-closed may f h.1)) (fit-closed may a h.2)

pub fit_of_made : (may : Allowed) (t : Term) → is_made may.variables may.eigens t ≡ true → Fit may [] t
fit_of_made may t h =
    let i = and_left (is_closed t && vars_below may.variables t) (eigens_below may.eigens t) h in
    fit_of_closed may t (and_left (is_closed t) (vars_below may.variables t) i) (and_right (is_closed t) (vars_below may.variables t) i)
    (and_right (is_closed t && vars_below may.variables t) (eigens_below may.eigens t) h)

pub fit-made : (may : Allowed) (t : Term) → Fit may [] t → is_made may.variables may.eigens t ≡ true
fit-made may t h = and_intro _ _ (and_intro _ _ (fit-closed may t h) (fit-vars may [] t h)) (fit-eigens may [] t h)

-- ---- more may be mentioned

-- the scope has the places of the other and perhaps more, and each that may be a predicate still may
abbrev pub Widens : Scope → Scope → Type 0
Widens [] wide = Unit {0}
Widens (b ∷ bs) [] = ⊥
Widens (b ∷ bs) (c ∷ cs) = (b ≡ true → c ≡ true) × Widens bs cs

pub record Grows (may more : Allowed) : Type 0 where
  pub modules : may.modules ≡ more.modules
  pub variables : may.variables ≤ more.variables
  pub eigens : may.eigens ≤ more.eigens
  pub opens : may.opens ≡ true → more.opens ≡ true

pub grows-refl : (may : Allowed) → Grows may may
grows-refl may = record { modules = refl; variables = omega arith; eigens = omega arith; opens = λ h. h }

pub widens-refl : (scope : Scope) → Widens scope scope
widens-refl [] = tt
widens-refl (b ∷ bs) = (λ h. h, widens-refl bs)

pub widens-length : (scope wide : Scope) → Widens scope wide → length scope ≤ length wide
widens-length [] wide w = omega arith
widens-length (b ∷ bs) [] w = absurd w
widens-length (b ∷ bs) (c ∷ cs) w = let i = widens-length bs cs w.1 in omega arith

pub widens-may : (scope wide : Scope) (k : ℕ) → Widens scope wide → slice_index_or scope k false ≡ true → slice_index_or wide k false ≡ true
widens-may [] wide k w h = cc
widens-may (b ∷ bs) [] k w h = absurd w
widens-may (b ∷ bs) (c ∷ cs) zero w h = w.0 h
widens-may (b ∷ bs) (c ∷ cs) (suc k) w h = widens-may bs cs k w.1 h

widens-head : (scope wide : Scope) (o : Option Head) → Widens scope wide → may_head scope o ≡ true → may_head wide o ≡ true
widens-head scope wide None w h = refl
widens-head scope wide (Some (Name n)) w h = refl
widens-head scope wide (Some (Eigen k)) w h = refl
widens-head scope wide (Some (Bound k)) w h = widens-may scope wide k w h

pub is_head-more : (scope wide : Scope) (t : Term) → Widens scope wide → IsHead scope t → IsHead wide t
is_head-more scope wide t w h = (h.0, widens-head scope wide (head_of t) w h.1)

pub fit-more : (may more : Allowed) (scope wide : Scope) (t : Term) → Grows may more → Widens scope wide → Fit may scope t → Fit more wide t
fit-more may more scope wide (Var x) g w h = lt_more x may.variables more.variables g.variables h
fit-more may more scope wide (Int z) g w h = tt
fit-more may more scope wide (Con (Name n)) g w h = tt
fit-more may more scope wide (Con (Eigen k)) g w h = lt_more k may.eigens more.eigens g.eigens h
fit-more may more scope wide (Con (Bound k)) g w h = lt_more k (length scope) (length wide) (widens-length scope wide w) h
fit-more may more scope wide (Ap f a) g w h =
    (is_head-more scope wide f w h.0, fit-more may more scope wide f g w h.1, fit-more may more scope wide a g w h.2)

pub all_fit-more : (may more : Allowed) (scope wide : Scope) (ts : List Term) → Grows may more → Widens scope wide → AllFit may scope ts → AllFit more wide ts
all_fit-more may more scope wide [] g w h = tt
all_fit-more may more scope wide (t ∷ ts) g w h = (fit-more may more scope wide t g w h.0, all_fit-more may more scope wide ts g w h.1)

-- a closed term fits every scope
pub fit-anywhere : (may : Allowed) (scope : Scope) (t : Term) → Fit may [] t → Fit may scope t
fit-anywhere may scope t h = fit-more may may [] scope t (grows-refl may) tt h

-- ---- substitution

-- each variable that there is goes to a closed term
abbrev pub GoesToFitting : Allowed → (ℕ → Term) → Type 0
GoesToFitting may s = (x : ℕ) → nat_lt x may.variables ≡ true → Fit may [] (s x)

pub is_head-sub : (s : ℕ → Term) (scope : Scope) (t : Term) → IsHead scope t → IsHead scope (sub s t)
is_head-sub s scope (Var x) h = absurd (cc (h.0))
is_head-sub s scope (Int z) h = absurd (cc (h.0))
is_head-sub s scope (Con k) h = h
is_head-sub s scope (Ap f a) h = is_head-sub s scope f h

pub fit-sub : (may : Allowed) (s : ℕ → Term) (scope : Scope) (t : Term) → GoesToFitting may s → Fit may scope t → Fit may scope (sub s t)
fit-sub may s scope (Var x) g h = fit-anywhere may scope (s x) (g x h)
fit-sub may s scope (Int z) g h = tt
fit-sub may s scope (Con k) g h = h
fit-sub may s scope (Ap f a) g h = (is_head-sub s scope f h.0, fit-sub may s scope f g h.1, fit-sub may s scope a g h.2)

pub all_fit-sub : (may : Allowed) (s : ℕ → Term) (scope : Scope) (ts : List Term) → GoesToFitting may s
    → AllFit may scope ts → AllFit may scope (map (sub s) ts)
all_fit-sub may s scope [] g h = tt
all_fit-sub may s scope (t ∷ ts) g h = (fit-sub may s scope t g h.0, all_fit-sub may s scope ts g h.1)

-- ---- closing

-- the environment takes terms of the inner scope to the outer one: places that stay are places there too, and the others go
-- to closed terms, with a head where a predicate may stand
abbrev pub Closes : Allowed → Env → Scope → Scope → Type 0
Closes may [] inner outer = Widens inner outer
Closes may (None ∷ e) (b ∷ inner) (c ∷ outer) = (b ≡ true → c ≡ true) × Closes may e inner outer
Closes may (Some t ∷ e) (b ∷ inner) outer = Fit may [] t × (b ≡ true → is_spine t ≡ true) × Closes may e inner outer
Closes may _ _ _ = ⊥

place-fits : (may : Allowed) (e : Env) (inner outer full : Scope) (k n : ℕ) → Closes may e inner outer → n + length outer ≤ length full
    → nat_lt k (length inner) ≡ true
    → Fit may full (place e k n)
place-fits may [] inner outer full k n c le h =
    let l = ltb-true k (length inner) h in let w = widens-length inner outer c in lt-ltb (n + k) (length full) (omega arith)
place-fits may (None ∷ e) [] outer full k n c le h = absurd c
place-fits may (None ∷ e) (b ∷ inner) [] full k n c le h = absurd c
place-fits may (None ∷ e) (b ∷ inner) (d ∷ outer) full zero n c le h = lt-ltb n (length full) (omega arith)
place-fits may (None ∷ e) (b ∷ inner) (d ∷ outer) full (suc k) n c le h =
    let l = ltb-true (suc k) (suc (length inner)) h in place-fits may e inner outer full k (suc n) c.1 (omega arith) (lt-ltb k (length inner) (omega arith))
place-fits may (Some t ∷ e) [] outer full k n c le h = absurd c
place-fits may (Some t ∷ e) (b ∷ inner) outer full zero n c le h = fit-anywhere may full t c.0
place-fits may (Some t ∷ e) (b ∷ inner) outer full (suc k) n c le h =
    let l = ltb-true (suc k) (suc (length inner)) h in place-fits may e inner outer full k n c.2 le (lt-ltb k (length inner) (omega arith))

head-anywhere : (may : Allowed) (scope : Scope) (t : Term) → Fit may [] t → may_head scope (head_of t) ≡ true
head-anywhere may scope (Var x) h = refl
head-anywhere may scope (Int z) h = refl
head-anywhere may scope (Con (Name n)) h = refl
head-anywhere may scope (Con (Eigen k)) h = refl
head-anywhere may scope (Con (Bound k)) h = none_below k h
head-anywhere may scope (Ap f a) h = head-anywhere may scope f h.1

-- each place of the outer scope is the one n further out of the full one
abbrev pub Deep : ℕ → Scope → Scope → Type 0
Deep n outer full = (j : ℕ) → slice_index_or outer j false ≡ true → slice_index_or full (n + j) false ≡ true

place-head : (may : Allowed) (e : Env) (inner outer full : Scope) (k n : ℕ) → Closes may e inner outer → Deep n outer full → slice_index_or inner k false ≡ true
    → IsHead full (place e k n)
place-head may [] inner outer full k n c d h = (refl, d k (widens-may inner outer k c h))
place-head may (None ∷ e) [] outer full k n c d h = absurd c
place-head may (None ∷ e) (b ∷ inner) [] full k n c d h = absurd c
place-head may (None ∷ e) (b ∷ inner) (o ∷ outer) full zero n c d h =
    (refl, subst (λ j. slice_index_or full j false ≡ true) (let q : n + 0 ≡ n = omega arith in q) (d 0 (c.0 h)))
place-head may (None ∷ e) (b ∷ inner) (o ∷ outer) full (suc k) n c d h =
    place-head may e inner outer full k (suc n) c.1 (λ j p. subst (λ i. slice_index_or full i false ≡ true) (let q : n + suc j ≡ suc n + j = omega arith in
    q) (d (suc j) p)) h
place-head may (Some t ∷ e) [] outer full k n c d h = absurd c
place-head may (Some t ∷ e) (b ∷ inner) outer full zero n c d h = (c.1 h, head-anywhere may full t c.0)
place-head may (Some t ∷ e) (b ∷ inner) outer full (suc k) n c d h = place-head may e inner outer full k n c.2 d h

pub deep-none : (scope : Scope) → Deep 0 scope scope
deep-none scope j h = subst (λ i. slice_index_or scope i false ≡ true) (let q : j ≡ 0 + j = omega arith in q) h

pub is_head-close : (may : Allowed) (e : Env) (inner outer : Scope) (t : Term) → Closes may e inner outer → IsHead inner t → IsHead outer (close e t)
is_head-close may e inner outer (Var x) c h = absurd (cc (h.0))
is_head-close may e inner outer (Int z) c h = absurd (cc (h.0))
is_head-close may e inner outer (Con (Name n)) c h = (refl, refl)
is_head-close may e inner outer (Con (Eigen k)) c h = (refl, refl)
is_head-close may e inner outer (Con (Bound k)) c h = place-head may e inner outer outer k 0 c (deep-none outer) h.1
is_head-close may e inner outer (Ap f a) c h = is_head-close may e inner outer f c h

pub fit-close : (may : Allowed) (e : Env) (inner outer : Scope) (t : Term) → Closes may e inner outer → Fit may inner t → Fit may outer (close e t)
fit-close may e inner outer (Var x) c h = h
fit-close may e inner outer (Int z) c h = tt
fit-close may e inner outer (Con (Name n)) c h = tt
fit-close may e inner outer (Con (Eigen k)) c h = h
fit-close may e inner outer (Con (Bound k)) c h = place-fits may e inner outer outer k 0 c (omega arith) h
fit-close may e inner outer (Ap f a) c h = (is_head-close may e inner outer f c h.0, fit-close may e inner outer f c h.1, fit-close may e inner outer a c h.2)

pub all_fit-close : (may : Allowed) (e : Env) (inner outer : Scope) (ts : List Term) → Closes may e inner outer → AllFit may inner ts
    → AllFit may outer (map (close e) ts)
all_fit-close may e inner outer [] c h = tt
all_fit-close may e inner outer (t ∷ ts) c h = (fit-close may e inner outer t c h.0, all_fit-close may e inner outer ts c h.1)
