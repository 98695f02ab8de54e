-- Unification of terms that fit gives terms that fit.
use Rattle.std.proofs.Common.{◌≡◌, ℕ, zero, suc, subst, Bool, true, false, List, [], ◌∷◌, length, nat_eq}
use Rattle.std.specs.Prelude.{◌||◌, not, Option, Some, None, if◌then◌else◌, nat_lt, slice_index}
use Rattle.std.specs.Ordering.{int_eq}
use Rattle.ll_bank.specs.Term.{Term, Var, Int, Con, Ap, occurs, eigens_below, head_eq}
use Rattle.ll_laws.specs.Unify.{Diff, Same, Clash, Meet, and_then, when, diff_var, diff, diff_lists, bound_to, lower, Solved, Binding, is_older, bind}
use Rattle.ll_laws.specs.Unify.{bind_term, resolve, solve, mgu}
use Rattle.ll_laws.specs.Valid.{Allowed}
use Rattle.ll_laws.proofs.unification.UnifyLaws.{begins, bound_list}
use Rattle.ll_laws.proofs.consistency.ConsistentTerms.{Fit, AllFit, GoesToFitting, fit-sub, all_fit-sub}

-- the place where two terms first differ fits
abbrev MeetFits : Allowed → Diff → Type 0
MeetFits may Same = Unit {0}
MeetFits may Clash = Unit {0}
MeetFits may (Meet x t) = (nat_lt x may.variables ≡ true) × Fit may [] t

var-fits : (may : Allowed) (x : ℕ) (t : Term) → nat_lt x may.variables ≡ true → Fit may [] t → MeetFits may (diff_var x t)
var-fits may x (Var y) h f = step (nat_eq x y)
  where
    step : (b : Bool) → MeetFits may (if b then Same else Meet x (Var y))
    step true = tt
    step false = (h, f)
var-fits may x (Int z) h f = (h, f)
var-fits may x (Con k) h f = (h, f)
var-fits may x (Ap t u) h f = (h, f)

then-fits : (may : Allowed) (d e : Diff) → MeetFits may d → MeetFits may e → MeetFits may (and_then d e)
then-fits may Same e p q = q
then-fits may Clash e p q = tt
then-fits may (Meet x t) e p q = p

when-fits : (may : Allowed) (b : Bool) → MeetFits may (when b)
when-fits may true = tt
when-fits may false = tt

diff-fits : (may : Allowed) (t u : Term) → Fit may [] t → Fit may [] u → MeetFits may (diff t u)
diff-fits may (Var x) u a b = var-fits may x u a b
diff-fits may (Int y) (Var x) a b = (b, a)
diff-fits may (Int y) (Int z) a b = when-fits may (int_eq y z)
diff-fits may (Con k) (Var x) a b = (b, a)
diff-fits may (Con k) (Con l) a b = when-fits may (head_eq k l)
diff-fits may (Ap f t) (Var x) a b = (b, a)
diff-fits may (Ap f t) (Ap g u) a b = then-fits may (diff f g) (diff t u) (diff-fits may f g a.1 b.1) (diff-fits may t u a.2 b.2)
diff-fits may _ _ a b = tt

lists-fit : (may : Allowed) (ls rs : List Term) → AllFit may [] ls → AllFit may [] rs → MeetFits may (diff_lists ls rs)
lists-fit may [] [] a b = tt
lists-fit may [] (r ∷ rs) a b = tt
lists-fit may (l ∷ ls) [] a b = tt
lists-fit may (l ∷ ls) (r ∷ rs) a b = then-fits may (diff l r) (diff_lists ls rs) (diff-fits may l r a.0 b.0) (lists-fit may ls rs a.1 b.1)

term-value : (may : Allowed) (levels : List ℕ) (x : ℕ) (t : Term) (b : Binding) → bind_term levels x t ≡ Some b → Fit may [] t → Fit may [] b.value
term-value may levels x t b h f = step (occurs x t || not (eigens_below (slice_index levels x) t)) h
  where
    step : (o : Bool) → (if o then None else Some (record { var = x; value = t; levels = lower (slice_index levels x) t levels })) ≡ Some b → Fit may [] b.value
    step true h = cc
    step false h =
        let c : Binding = record { var = x; value = t; levels = lower (slice_index levels x) t levels } in
        let e : c ≡ b = cc in
        subst (λ d. Fit may [] d.value) e f

value-fits : (may : Allowed) (levels : List ℕ) (x : ℕ) (t : Term) (b : Binding) → bind levels x t ≡ Some b → nat_lt x may.variables ≡ true → Fit may [] t
    → Fit may [] b.value
value-fits may levels x (Var y) b h l f = step (is_older levels x y) h
  where
    step : (o : Bool) → (if o then Some (record { var = y; value = Var x; levels = levels }) else Some (record { var = x; value = Var y; levels = levels }))
        ≡ Some b → Fit may [] b.value
    step true h = let c : Binding = record { var = y; value = Var x; levels = levels } in let e : c ≡ b = cc in subst (λ d. Fit may [] d.value) e l
    step false h = let c : Binding = record { var = x; value = Var y; levels = levels } in let e : c ≡ b = cc in subst (λ d. Fit may [] d.value) e f
value-fits may levels x (Int z) b h l f = term-value may levels x (Int z) b h f
value-fits may levels x (Con k) b h l f = term-value may levels x (Con k) b h f
value-fits may levels x (Ap t u) b h l f = term-value may levels x (Ap t u) b h f

bound_to-goes : (may : Allowed) (v : ℕ) (w : Term) → Fit may [] w → GoesToFitting may (bound_to v w)
bound_to-goes may v w f y l = step (nat_eq y v)
  where
    step : (b : Bool) → Fit may [] (if b then w else Var y)
    step true = f
    step false = l

same-goes : (may : Allowed) (levels : List ℕ) (v : Solved) → Some (record { subst = Var; levels = levels }) ≡ Some v → GoesToFitting may v.subst
same-goes may levels v h =
    let c : Solved = record { subst = Var; levels = levels } in let e : c ≡ v = cc in subst (λ z. GoesToFitting may z.subst) e (λ x l. l)

solve-goes : (may : Allowed) (n : ℕ) (ls rs : List Term) (levels : List ℕ) (v : Solved) → AllFit may [] ls → AllFit may [] rs → solve n ls rs levels ≡ Some v
    → GoesToFitting may v.subst
solve-goes may zero ls rs levels v a b h = go (diff_lists ls rs) h
  where
    go : (d : Diff) → resolve d levels (λ b. None) ≡ Some v → GoesToFitting may v.subst
    go Same h = same-goes may levels v h
    go Clash h = cc
    go (Meet x t) h = let b = begins levels x t (λ b. None) v h in cc (b.goes)
solve-goes may (suc n) ls rs levels v a c h = go (solve-goes may n) (diff_lists ls rs) (lists-fit may ls rs a c) h
  where
    next : Binding → Option Solved
    next b = solve n (bound_list b ls) (bound_list b rs) b.levels

    go : ((ls rs : List Term) (levels : List ℕ) (v : Solved) → AllFit may [] ls → AllFit may [] rs → solve n ls rs levels ≡ Some v → GoesToFitting may v.subst)
        → (d : Diff) → MeetFits may d → resolve d levels next ≡ Some v → GoesToFitting may v.subst
    go ih Same m h = same-goes may levels v h
    go ih Clash m h = cc
    go ih (Meet x t) m h =
        let b = begins levels x t next v h in
        let k = b.binding in
        let g = bound_to-goes may k.var k.value (value-fits may levels x t k b.bound m.0 m.1) in
        let i = ih (bound_list k ls) (bound_list k rs) k.levels b.inner (all_fit-sub may (bound_to k.var k.value) [] ls g a)
        (all_fit-sub may (bound_to k.var k.value) [] rs g c) b.goes in
        subst (λ z. GoesToFitting may z.subst) b.is (λ y l. fit-sub may b.inner.subst [] (bound_to k.var k.value y) i (g y l))

-- each variable that there is goes to a term that fits
pub mgu-goes : (may : Allowed) (ls rs : List Term) (levels : List ℕ) (v : Solved) → AllFit may [] ls → AllFit may [] rs → mgu ls rs levels ≡ Some v
    → GoesToFitting may v.subst
unfolding mgu
mgu-goes may ls rs levels v a b h = solve-goes may (length levels) ls rs levels v a b h
