-- The answer of unification leaves alone what has no level, keeps one level for each variable, and raises none.
use Rattle.std.proofs.Common.{◌≡◌, ◌≤◌, ◌<◌, ℕ, zero, suc, refl, ap, sym, subst, ◌∙◌, Bool, true, false, List, [], ◌∷◌, length, nat_eq, arith}
use Rattle.std.proofs.lemmas.List.{length-set}
use Rattle.std.specs.Prelude.{◌||◌, not, Option, Some, None, slice_index, min, if◌then◌else◌}
use Rattle.std.specs.List.{list_any}
use Rattle.std.proofs.lemmas.Bool.{ne_eqb}
use Rattle.ll_bank.specs.Term.{Term, Var, Int, Con, Ap, sub, occurs, eigens_below}
use Rattle.ll_laws.specs.Unify.{Diff, Same, Clash, Meet, diff_lists, bound_to, lower, Solved, Binding, is_older, bind, bind_term, after, resolve, solve, IsOver}
use Rattle.ll_laws.proofs.unification.UnifyLaws.{begins, bound_list, lower-le, solve-unifies, solve-respects, AllAmongLists, agreed, MeetIn, meet-lists}
use Rattle.ll_laws.proofs.unification.UnifyLaws.{without, bound-among-lists, forced-lists, Forced}

pub length-lower : (l : ℕ) (t : Term) (levels : List ℕ) → length (lower l t levels) ≡ length levels
length-lower l (Var x) levels = length-set levels x (min (slice_index levels x) l)
length-lower l (Int z) levels = refl
length-lower l (Con h) levels = refl
length-lower l (Ap f a) levels = length-lower l a (lower l f levels) ∙ length-lower l f levels

-- the later levels are as many, and none is above the earlier one
pub record Falls (old new : List ℕ) : Type 0 where
  pub count : length new ≡ length old
  pub each : (x : ℕ) → slice_index new x ≤ slice_index old x

falls-refl : (levels : List ℕ) → Falls levels levels
falls-refl levels = record { count = refl; each = λ x. omega arith }

falls-trans : (a b c : List ℕ) → Falls a b → Falls b c → Falls a c
falls-trans a b c p q = record { count = q.count ∙ p.count; each = λ x. let h = p.each x in let k = q.each x in omega arith }

term-falls : (levels : List ℕ) (x : ℕ) (t : Term) (b : Binding) → bind_term levels x t ≡ Some b → Falls levels b.levels
term-falls levels x t b h = step (occurs x t || not (eigens_below (slice_index levels x) t)) h
  where
    step : (o : Bool) → (if o then None else Some (record { var = x; value = t; levels = lower (slice_index levels x) t levels })) ≡ Some b
        → Falls levels b.levels
    step true h = cc
    step false h =
        let c : Binding = record { var = x; value = t; levels = lower (slice_index levels x) t levels } in
        let e : c ≡ b = cc in
        subst (λ d. Falls levels d.levels) e (record { count = length-lower (slice_index levels x) t levels; each = lower-le (slice_index levels x) t levels })

bind-falls : (levels : List ℕ) (x : ℕ) (t : Term) (b : Binding) → bind levels x t ≡ Some b → Falls levels b.levels
bind-falls levels x (Var y) b h = step (is_older levels x y) h
  where
    same : (c : Binding) → Some c ≡ Some b → c.levels ≡ levels → Falls levels b.levels
    same c h e = let i : c ≡ b = cc in subst (λ d. Falls levels d.levels) i (subst (λ l. Falls levels l) (sym e) (falls-refl levels))

    step : (o : Bool) → (if o then Some (record { var = y; value = Var x; levels = levels }) else Some (record { var = x; value = Var y; levels = levels }))
        ≡ Some b → Falls levels b.levels
    step true h = same (record { var = y; value = Var x; levels = levels }) h refl
    step false h = same (record { var = x; value = Var y; levels = levels }) h refl
bind-falls levels x (Int z) b h = term-falls levels x (Int z) b h
bind-falls levels x (Con k) b h = term-falls levels x (Con k) b h
bind-falls levels x (Ap t u) b h = term-falls levels x (Ap t u) b h

pub solve-falls : (n : ℕ) (ls rs : List Term) (levels : List ℕ) (v : Solved) → solve n ls rs levels ≡ Some v → Falls levels v.levels
solve-falls zero ls rs levels v h = go (diff_lists ls rs) h
  where
    go : (d : Diff) → resolve d levels (λ b. None) ≡ Some v → Falls levels v.levels
    go Same h = let c : Solved = record { subst = Var; levels = levels } in let e : c ≡ v = cc in subst (λ z. Falls levels z.levels) e (falls-refl levels)
    go Clash h = cc
    go (Meet x t) h = let b = begins levels x t (λ b. None) v h in cc (b.goes)
solve-falls (suc n) ls rs levels v h = go (solve-falls n) (diff_lists ls rs) h
  where
    next : Binding → Option Solved
    next b = solve n (bound_list b ls) (bound_list b rs) b.levels

    go : ((ls rs : List Term) (levels : List ℕ) (v : Solved) → solve n ls rs levels ≡ Some v → Falls levels v.levels)
        → (d : Diff) → resolve d levels next ≡ Some v → Falls levels v.levels
    go ih Same h = let c : Solved = record { subst = Var; levels = levels } in let e : c ≡ v = cc in subst (λ z. Falls levels z.levels) e (falls-refl levels)
    go ih Clash h = cc
    go ih (Meet x t) h =
        let b = begins levels x t next v h in
        let i = ih (bound_list b.binding ls) (bound_list b.binding rs) b.binding.levels b.inner b.goes in
        subst (λ z. Falls levels z.levels) b.is (falls-trans levels b.binding.levels b.inner.levels (bind-falls levels x t b.binding b.bound) i)

-- a number among some is below n where all of them are
abbrev pub AllBelow : ℕ → List ℕ → Type 0
AllBelow n vs = (y : ℕ) → list_any (nat_eq y) vs ≡ true → y < n

stays_in : (v y : ℕ) (vs : List ℕ) → list_any (nat_eq y) (without v vs) ≡ true → list_any (nat_eq y) vs ≡ true
unfolding without
stays_in v y [] h = cc
stays_in v y (z ∷ vs) h = step (nat_eq v z) (stays_in v y vs) h
  where
    first : (b : Bool) → (list_any (nat_eq y) (without v vs) ≡ true → list_any (nat_eq y) vs ≡ true) → (b || list_any (nat_eq y) (without v vs)) ≡ true
        → (b || list_any (nat_eq y) vs) ≡ true
    first true ih h = refl
    first false ih h = ih h

    skipped : (b : Bool) → list_any (nat_eq y) vs ≡ true → (b || list_any (nat_eq y) vs) ≡ true
    skipped true h = refl
    skipped false h = h

    step : (b : Bool) → (list_any (nat_eq y) (without v vs) ≡ true → list_any (nat_eq y) vs ≡ true)
        → list_any (nat_eq y) (if b then without v vs else z ∷ without v vs) ≡ true → (nat_eq y z || list_any (nat_eq y) vs) ≡ true
    step true ih h = skipped (nat_eq y z) (ih h)
    step false ih h = first (nat_eq y z) ih h

without-below : (n v : ℕ) (vs : List ℕ) → AllBelow n vs → AllBelow n (without v vs)
without-below n v vs h y o = h y (stays_in v y vs o)

bound_to-past : (n x : ℕ) (t : Term) (y : ℕ) → x < n → n ≤ y → bound_to x t y ≡ Var y
bound_to-past n x t y h k = ap (λ b. if b then t else Var y) (ne_eqb y x (λ e. absurd (omega arith)))

pub solve-over : (k n : ℕ) (ls rs : List Term) (levels vs : List ℕ) (v : Solved) → AllBelow n vs → AllAmongLists vs ls → AllAmongLists vs rs
    → solve k ls rs levels ≡ Some v → IsOver n v.subst
solve-over zero n ls rs levels vs v w a b h = go (diff_lists ls rs) h
  where
    go : (d : Diff) → resolve d levels (λ b. None) ≡ Some v → IsOver n v.subst
    go Same h = let c : Solved = record { subst = Var; levels = levels } in let e : c ≡ v = cc in subst (λ z. IsOver n z.subst) e (λ x l. refl)
    go Clash h = cc
    go (Meet x t) h = let b = begins levels x t (λ b. None) v h in cc (b.goes)
solve-over (suc k) n ls rs levels vs v w la ra found =
    go (solve-over k) (diff_lists ls rs) (forced-lists v.subst ls rs (solve-unifies (suc k) ls rs levels v found)) (meet-lists vs ls rs la ra) found
  where
    next : Binding → Option Solved
    next b = solve k (bound_list b ls) (bound_list b rs) b.levels

    go : ((n : ℕ) (ls rs : List Term) (levels vs : List ℕ) (v : Solved) → AllBelow n vs → AllAmongLists vs ls → AllAmongLists vs rs
        → solve k ls rs levels ≡ Some v → IsOver n v.subst)
        → (d : Diff) → Forced v.subst d → MeetIn vs d → resolve d levels next ≡ Some v → IsOver n v.subst
    go ih Same f m h = let c : Solved = record { subst = Var; levels = levels } in let e : c ≡ v = cc in subst (λ z. IsOver n z.subst) e (λ x l. refl)
    go ih Clash f m h = absurd f
    go ih (Meet x t) f m h =
        let b = begins levels x t next v h in
        let g = agreed levels x t v.subst v.levels vs f (solve-respects (suc k) ls rs levels v found) m in
        let j : Some g.binding ≡ Some b.binding = sym g.bound ∙ b.bound in
        let e : g.binding ≡ b.binding = cc in
        let i = subst (λ z. solve k (bound_list z ls) (bound_list z rs) z.levels ≡ Some b.inner) (sym e) b.goes in
        let o = ih n (bound_list g.binding ls) (bound_list g.binding rs) g.binding.levels (without g.binding.var vs) b.inner
        (without-below n g.binding.var vs w)
        (bound-among-lists g.binding.var g.binding.value vs ls g.value g.free la) (bound-among-lists g.binding.var g.binding.value vs rs g.value g.free ra) i in
        let q : after g.binding b.inner ≡ v = ap (λ z. after z b.inner) e ∙ b.is in
        subst (λ z. IsOver n z.subst) q (λ y l. ap (sub b.inner.subst) (bound_to-past n g.binding.var g.binding.value y (w g.binding.var g.among) l) ∙ o y l)
