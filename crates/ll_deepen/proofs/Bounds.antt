-- A series has one deciding bound, and what counts say of it.
use Rattle.std.proofs.Common.{◌≡◌, ◌⊎◌, ℕ, zero, suc, ◌+◌, ◌*◌, ◌<◌, ◌≤◌, Bool, true, false, not, ◌||◌, List, [], ◌∷◌, refl, sym, ap, ◌∙◌, subst, ⊎_elim, inl}
use Rattle.std.proofs.Common.{inr, arith}
use Rattle.std.specs.Prelude.{count_by, cond, nat_eq}
use Rattle.std.specs.List.{list_any}
use Rattle.std.proofs.Math.Nat.{mul-le-mul_right, suc-mul}
use Rattle.std.proofs.lemmas.Bool.{false≢true, cases_lt, ne_eqb}
use Rattle.std.proofs.lemmas.List.Sums.{sum_by-cons}
use Rattle.ll_laws.specs.declared.Event.{Event}
use Rattle.ll_laws.specs.declared.Counts.{Counts}
use Rattle.ll_laws.specs.Problem.{ProblemTree}
use Rattle.ll_laws.specs.Search.{is_answer, is_reached, cut_count}
use Rattle.ll_deepen.specs.declared.series.Series.{Series}
use Rattle.ll_deepen.specs.Deciding.{CountsOf, IsUndecidedTo, IsDeciding, decides, is_decisive}

module _ {X : Type 0} (p : X → Bool) where
  counted_at : (x : X) (xs : List X) (b : Bool) → p x ≡ b → count_by p (x ∷ xs) ≡ cond b 1 0 + count_by p xs
  counted_at x xs b e = sum_by-cons (λ y. cond (p y) 1 0) x xs ∙ ap (λ c. cond c 1 0 + count_by p xs) e

  any_at : (x : X) (xs : List X) (b : Bool) → p x ≡ b → list_any p (x ∷ xs) ≡ b || list_any p xs
  any_at x xs b e = ap (λ c. c || list_any p xs) e

  -- what no element passes counts none
  none_step : (x : X) (xs : List X) (b : Bool) → p x ≡ b → list_any p (x ∷ xs) ≡ false → (list_any p xs ≡ false → count_by p xs ≡ 0) → count_by p (x ∷ xs) ≡ 0
  none_step x xs true e h rest = absurd (false≢true (sym h ∙ any_at x xs true e))
  none_step x xs false e h rest = let c = counted_at x xs false e in let r = rest (sym (any_at x xs false e) ∙ h) in omega arith

  pub none_counted : (xs : List X) → list_any p xs ≡ false → count_by p xs ≡ 0
  none_counted [] h = refl
  none_counted (x ∷ xs) h = none_step x xs (p x) refl h (none_counted xs)

  -- what some element passes is counted
  some_step : (x : X) (xs : List X) (b : Bool) → p x ≡ b → list_any p (x ∷ xs) ≡ true → (list_any p xs ≡ true → 0 < count_by p xs) → 0 < count_by p (x ∷ xs)
  some_step x xs true e h rest = let c = counted_at x xs true e in omega arith
  some_step x xs false e h rest = let c = counted_at x xs false e in let r = rest (sym (any_at x xs false e) ∙ h) in omega arith

  pub some_counted : (xs : List X) → list_any p xs ≡ true → 0 < count_by p xs
  some_counted [] h = absurd (false≢true h)
  some_counted (x ∷ xs) h = some_step x xs (p x) refl h (some_counted xs)

-- counts tell whether the search decides
pub counts_decide : (counts : Counts) (es : List Event) (cost : ℕ) → CountsOf counts es cost
    → ((0 < counts.answers) ⊎ (counts.reached ≡ 0) → is_decisive es ≡ true) × ((counts.answers ≡ 0) → (0 < counts.reached) → is_decisive es ≡ false)
counts_decide counts es cost c = (
  λ h. yes (list_any is_answer es) refl (list_any is_reached es) refl h,
  λ h g. no_ (list_any is_answer es) refl (list_any is_reached es) refl h g,
)
  where
    yes : (a : Bool) → list_any is_answer es ≡ a → (r : Bool) → list_any is_reached es ≡ r → (0 < counts.answers) ⊎ (counts.reached ≡ 0) → is_decisive es ≡ true
    yes true e r f h = ap (λ x. x || not (list_any is_reached es)) e
    yes false e false f h = (λ i. e i || not (f i))
    yes false e true f h =
        let n : count_by is_answer es ≡ 0 = none_counted is_answer es e in let m = some_counted is_reached es f in
        let a = c.0 in let r = c.1 in
        ⊎_elim (λ (k : 0 < counts.answers). absurd (omega arith)) (λ (k : counts.reached ≡ 0). absurd (omega arith)) h

    no_ : (a : Bool) → list_any is_answer es ≡ a → (r : Bool) → list_any is_reached es ≡ r → counts.answers ≡ 0 → 0 < counts.reached → is_decisive es ≡ false
    no_ true e r f h g = let n = some_counted is_answer es e in let a = c.0 in absurd (omega arith)
    no_ false e true f h g = (λ i. e i || not (f i))
    no_ false e false f h g = let n : count_by is_reached es ≡ 0 = none_counted is_reached es f in let r = c.1 in absurd (omega arith)

pub answers_decide : (counts : Counts) (es : List Event) (cost : ℕ) → CountsOf counts es cost → 0 < counts.answers → true ≡ is_decisive es
answers_decide counts es cost c h = sym ((counts_decide counts es cost c).0 (inl h))

pub reached_decides : (counts : Counts) (es : List Event) (cost : ℕ) → CountsOf counts es cost → counts.answers ≤ 0 → nat_eq counts.reached 0 ≡ is_decisive es
reached_decides counts es cost c h = at counts.reached refl
  where
    at : (r : ℕ) → counts.reached ≡ r → nat_eq counts.reached 0 ≡ is_decisive es
    at zero e = ap (λ n. nat_eq n 0) e ∙ sym ((counts_decide counts es cost c).0 (inr e))
    at (suc r) e = ne_eqb counts.reached 0 (λ i. omega arith) ∙ sym ((counts_decide counts es cost c).1 (omega arith) (omega arith))

module _ (p : ProblemTree) (series : Series) where
  -- no bound of the series that decides stands in front of a deciding one
  behind : (n m : ℕ) (d : IsDeciding p series n) (e : IsDeciding p series m) → d.first.place < e.first.place → ⊥
  behind n m d e low = ⊎_elim
      (λ (t : decides p n ≡ true). false≢true (sym (e.first.earlier d.first.place low) ∙ (ap (decides p) (sym d.first.is) ∙ t)))
      (λ (t : series.to < n + series.by).
      let i = d.first.is in let j = e.first.is in let w = e.first.within in
      let k : d.first.place * series.by + series.by ≤ e.first.place * series.by =
      subst (λ x. x ≤ e.first.place * series.by) (suc-mul d.first.place series.by) (mul-le-mul_right series.by low) in omega arith)
      d.last

  pub one_bound : (n m : ℕ) → IsDeciding p series n → IsDeciding p series m → n ≡ m
  one_bound n m d e = ⊎_elim
      (λ (h : d.first.place < e.first.place). absurd (behind n m d e h))
      (λ (h : e.first.place ≤ d.first.place). ⊎_elim
      (λ (g : e.first.place < d.first.place). absurd (behind m n e d g))
      (λ (g : d.first.place ≤ e.first.place). let same : d.first.place ≡ e.first.place = omega arith in
      d.first.is ∙ (ap (λ k. series.from + k * series.by) same ∙ sym e.first.is))
      (cases_lt e.first.place d.first.place))
      (cases_lt d.first.place e.first.place)

  -- the next bound of the series
  pub next_bound : (n : ℕ) → IsUndecidedTo p series n → decides p n ≡ false → n + series.by ≤ series.to → IsUndecidedTo p series (n + series.by)
  next_bound n u d h = record {
    place = suc u.place;
    is = let i = u.is in let k = suc-mul u.place series.by in omega arith;
    within = h;
    earlier = λ i low. ⊎_elim
        (λ (g : i < u.place). u.earlier i g)
        (λ (g : u.place ≤ i). let same : i ≡ u.place = omega arith in ap (λ k. decides p (series.from + k * series.by)) same ∙ (ap (decides p) (sym u.is) ∙ d))
        (cases_lt i u.place);
  }

  pub first_bound : series.from ≤ series.to → IsUndecidedTo p series series.from
  first_bound h = record { place = 0; is = omega arith; within = h; earlier = λ i low. absurd (omega arith) }
