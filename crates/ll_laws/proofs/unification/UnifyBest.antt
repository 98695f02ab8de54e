-- The laws of unification, for lists whose variables all have levels.
use Rattle.std.proofs.Common.{◌≡◌, ◌≤◌, ◌<◌, ℕ, zero, suc, refl, ap, sym, subst, ◌∙◌, Bool, true, false, List, [], ◌∷◌, length, arith, inl, inr}
use Rattle.std.specs.Prelude.{Some, None, slice_index, nat_eq, ◌||◌}
use Rattle.std.specs.List.{list_all, list_any}
use Rattle.std.proofs.lemmas.Bool.{ltb-true, eqb-true, eqb-false, cases_lt}
use Rattle.ll_list_laws.proofs.CallerLemmas.{and_true_left as and_left, and_true_right as and_right, or_elim as or_cases}
use Rattle.ll_bank.specs.Term.{Term, Var, Int, Con, Ap, sub, occurs}
use Rattle.ll_laws.specs.Unify.{Solved, mgu, vars_below, Respects, RespectsThose, FitsLevel, IsOver, IsUnifier, IsMostGeneral}
use Rattle.ll_laws.proofs.unification.UnifyOver.{AllBelow, solve-falls, solve-over}
use Rattle.ll_laws.proofs.unification.UnifyLaws.{solve-unifies, solve-respects, most_general, General, AllAmong, AllAmongLists, fits-var}

-- the numbers below n
pub upto : ℕ → List ℕ
upto zero = []
upto (suc n) = n ∷ upto n

pub length-upto : (n : ℕ) → length (upto n) ≡ n
unfolding upto
length-upto zero = refl
length-upto (suc n) = ap (λ x. suc x) (length-upto n)

pub in_upto : (x n : ℕ) → x < n → list_any (nat_eq x) (upto n) ≡ true
unfolding upto
in_upto x zero h = absurd (omega arith)
in_upto x (suc n) h = step (nat_eq x n) refl (in_upto x n)
  where
    step : (b : Bool) → nat_eq x n ≡ b → (x < n → list_any (nat_eq x) (upto n) ≡ true) → (b || list_any (nat_eq x) (upto n)) ≡ true
    step true e ih = refl
    step false e ih = ih (let ne : x ≡ n → ⊥ = eqb-false x n e in omega arith)

up_to_below : (n y : ℕ) → list_any (nat_eq y) (upto n) ≡ true → y < n
unfolding upto
up_to_below zero y h = cc
up_to_below (suc n) y h = step (nat_eq y n) refl (up_to_below n y) h
  where
    step : (b : Bool) → nat_eq y n ≡ b → (list_any (nat_eq y) (upto n) ≡ true → y < n) → (b || list_any (nat_eq y) (upto n)) ≡ true → y < suc n
    step true e ih h = let q = eqb-true y n e in omega arith
    step false e ih h = let q = ih h in omega arith

below_upto : (n : ℕ) → AllBelow n (upto n)
below_upto n y h = up_to_below n y h

past_end : (xs : List ℕ) (x : ℕ) → length xs ≤ x → slice_index xs x ≡ 0
past_end [] x h = refl
past_end (y ∷ ys) zero h = absurd (omega arith)
past_end (y ∷ ys) (suc x) h = past_end ys x (omega arith)

among : (m : ℕ) (t : Term) → vars_below m t ≡ true → AllAmong (upto m) t
among m (Var x) h y o = in_upto y m (subst (λ z. z < m) (sym (eqb-true y x o)) (ltb-true x m h))
among m (Int z) h y o = cc
among m (Con k) h y o = cc
among m (Ap t u) h y o =
    or_cases (occurs y t) (occurs y u) o (among m t (and_left (vars_below m t) (vars_below m u) h) y)
    (among m u (and_right (vars_below m t) (vars_below m u) h) y)

among_lists : (m : ℕ) (ts : List Term) → list_all (vars_below m) ts ≡ true → AllAmongLists (upto m) ts
among_lists m [] h = tt
among_lists m (t ∷ ts) h = (
  among m t (and_left (vars_below m t) (list_all (vars_below m) ts) h),
  among_lists m ts (and_right (vars_below m t) (list_all (vars_below m) ts) h),
)

respects_all : (levels new : List ℕ) (s : ℕ → Term) → length new ≡ length levels → IsOver (length levels) s → RespectsThose levels s new → Respects levels s new
respects_all levels new s c o r x =
    elim (cases_lt x (length levels)) [
      | inl l ↦ r x l
      | inr l ↦
          subst (λ t. FitsLevel (slice_index levels x) t new) (sym (o x l))
          (fits-var new (slice_index levels x) x (let e : slice_index new x ≡ 0 = past_end new x (omega arith) in omega arith))
    ]

pub best : (ls rs : List Term) (levels : List ℕ) (s : ℕ → Term) (new : List ℕ) → list_all (vars_below (length levels)) ls ≡ true
    → list_all (vars_below (length levels)) rs ≡ true
    → IsUnifier ls rs levels s new → General ls rs levels (length levels) s new
best ls rs levels s new a b u =
    most_general (length levels) ls rs levels (upto (length levels)) s new u.unifies (respects_all levels new s u.count u.over u.respects)
    (among_lists (length levels) ls a) (among_lists (length levels) rs b) (let e = length-upto (length levels) in omega arith)

-- the lists are over the variables that have levels
over_levels : (ls : List Term) (levels : List ℕ) → list_all (vars_below (length levels)) ls ≡ true → AllAmongLists (upto (length levels)) ls
over_levels ls levels h = among_lists (length levels) ls h

pub found-falls : (ls rs : List Term) (levels : List ℕ) (v : Solved) → mgu ls rs levels ≡ Some v → (x : ℕ) → slice_index v.levels x ≤ slice_index levels x
unfolding mgu
found-falls ls rs levels v h x = (solve-falls (length levels) ls rs levels v h).each x

pub found-unifier : (ls rs : List Term) (levels : List ℕ) (v : Solved) → list_all (vars_below (length levels)) ls ≡ true
    → list_all (vars_below (length levels)) rs ≡ true → mgu ls rs levels ≡ Some v
    → IsUnifier ls rs levels v.subst v.levels
unfolding mgu
found-unifier ls rs levels v a b h = record {
  unifies = solve-unifies (length levels) ls rs levels v h;
  over = solve-over (length levels) (length levels) ls rs levels (upto (length levels)) v (below_upto (length levels)) (over_levels ls levels a)
      (over_levels rs levels b) h;
  count = (solve-falls (length levels) ls rs levels v h).count;
  respects = λ x l. solve-respects (length levels) ls rs levels v h x;
}

pub found-best : (ls rs : List Term) (levels : List ℕ) (v : Solved) → list_all (vars_below (length levels)) ls ≡ true
    → list_all (vars_below (length levels)) rs ≡ true → mgu ls rs levels ≡ Some v
    → IsMostGeneral ls rs levels v
unfolding mgu
found-best ls rs levels v a b h s new u =
    let g = best ls rs levels s new a b u in let w : Some g.solved ≡ Some v = sym g.is ∙ h in let e : g.solved ≡ v = cc in
    (subst (λ z. (x : ℕ) → sub s (z.subst x) ≡ s x) e g.through, subst (λ z. Respects z.levels s new) e g.respects)

pub none-unifier : (ls rs : List Term) (levels : List ℕ) (s : ℕ → Term) (new : List ℕ) → list_all (vars_below (length levels)) ls ≡ true
    → list_all (vars_below (length levels)) rs ≡ true
    → mgu ls rs levels ≡ None → IsUnifier ls rs levels s new → ⊥
unfolding mgu
none-unifier ls rs levels s new a b h u = let g = best ls rs levels s new a b u in let w : Some g.solved ≡ None = sym g.is ∙ h in cc
