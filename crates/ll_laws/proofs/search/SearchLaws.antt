-- How the search and its cost unfold, and that a search that reached no bound is the same at every greater one.
use Rattle.std.proofs.Common.{◌≡◌, ℕ, zero, suc, ◌≤◌, refl, ap, sym, ◌∙◌, Bool, true, false, List, [], ◌∷◌, arith}
use Rattle.std.proofs.lemmas.List.Folds.{list_any-append}
use Rattle.std.proofs.lemmas.List.Sums.{sum_by-cons}
use Rattle.std.specs.Prelude.{Option, Some, None, flat_map, sum_by, ◌||◌}
use Rattle.ll_list_laws.proofs.CallerLemmas.{or_false_left as or_left, or_false_right as or_right}
use Rattle.ll_laws.specs.Module.{Setting}
use Rattle.ll_laws.specs.declared.Event.{Event}
use Rattle.ll_laws.specs.declared.Event.TheVariants.{Reached}
use Rattle.ll_bank.specs.Form.{Form}
use Rattle.ll_laws.specs.Settle.{Item}
use Rattle.ll_laws.specs.State.{State, settle}
use Rattle.ll_laws.specs.Attempt.{successors}
use Rattle.ll_laws.specs.Search.{answer_of, events, events_settled, events_of, cost, cost_settled, cost_of, is_reached, any_reached, cut_count}

-- a count that is cut before it goes one higher is cut to the same
pub cut_count-suc : (n : ℕ) → cut_count (suc (cut_count n)) ≡ cut_count (suc n)
cut_count-suc n = omega arith

with_goal : (more : State → List Event) (t : State) (a : List (Item Form)) (i : Item Form) (rest : List (Item Form)) → a ≡ i ∷ rest
    → events_of more t a ≡ more t
with_goal more t [] i rest e = cc
with_goal more t (j ∷ r) i rest e = refl

cost_with_goal : (more : State → ℕ) (t : State) (a : List (Item Form)) (i : Item Form) (rest : List (Item Form)) → a ≡ i ∷ rest → cost_of more t a ≡ more t
cost_with_goal more t [] i rest e = cc
cost_with_goal more t (j ∷ r) i rest e = refl

pub events_none : (ms : Setting) (n : ℕ) (s : State) → settle s ≡ None → events ms n s ≡ []
unfolding events
events_none ms zero s h = rw (h, events_settled)
events_none ms (suc n) s h = rw (h, events_settled)

pub cost_none : (ms : Setting) (n : ℕ) (s : State) → settle s ≡ None → cost ms n s ≡ 0
unfolding cost
cost_none ms zero s h = refl
cost_none ms (suc n) s h = rw (h, cost_settled)

pub events_answer : (ms : Setting) (n : ℕ) (s t : State) → settle s ≡ Some t → t.agenda ≡ [] → events ms n s ≡ answer_of t
unfolding events
events_answer ms zero s t h e = rw (h, events_settled) (rw (e, events_of))
events_answer ms (suc n) s t h e = rw (h, events_settled) (rw (e, events_of))

pub cost_answer : (ms : Setting) (n : ℕ) (s t : State) → settle s ≡ Some t → t.agenda ≡ [] → cost ms n s ≡ 0
unfolding cost
cost_answer ms zero s t h e = refl
cost_answer ms (suc n) s t h e = rw (h, cost_settled) (rw (e, cost_of))

pub events_reached : (ms : Setting) (s t : State) (i : Item Form) (rest : List (Item Form)) → settle s ≡ Some t → t.agenda ≡ i ∷ rest
    → events ms 0 s ≡ Reached ∷ []
unfolding events
events_reached ms s t i rest h e = rw (h, events_settled) (rw (e, events_of))

pub events_step : (ms : Setting) (n : ℕ) (s t : State) (i : Item Form) (rest : List (Item Form)) → settle s ≡ Some t → t.agenda ≡ i ∷ rest
    → events ms (suc n) s ≡ flat_map (events ms n) (successors ms t)
unfolding events
events_step ms n s t i rest h e = rw (h, events_settled) (with_goal (λ x. flat_map (events ms n) (successors ms x)) t t.agenda i rest e)

pub cost_zero : (ms : Setting) (s : State) → cost ms 0 s ≡ 0
unfolding cost
cost_zero ms s = refl

pub cost_step : (ms : Setting) (n : ℕ) (s t : State) (i : Item Form) (rest : List (Item Form)) → settle s ≡ Some t → t.agenda ≡ i ∷ rest
    → cost ms (suc n) s ≡ suc (sum_by (cost ms n) (successors ms t))
unfolding cost
cost_step ms n s t i rest h e = rw (h, cost_settled) (cost_with_goal (λ x. suc (sum_by (cost ms n) (successors ms x))) t t.agenda i rest e)

-- two searches of each element agree where the first reaches no bound
same_flat : (f g : State → List Event) (us : List State) → ((u : State) → any_reached (f u) ≡ false → g u ≡ f u)
    → any_reached (flat_map f us) ≡ false → flat_map g us ≡ flat_map f us
same_flat f g [] same h = refl
same_flat f g (u ∷ us) same h =
    let h' = sym (list_any-append is_reached (f u) (flat_map f us)) ∙ h in
    let e1 = same u (or_left _ _ h') in let e2 = same_flat f g us same (or_right (any_reached (f u)) (any_reached (flat_map f us)) h') in cc

same_sum : (f : State → List Event) (c k : State → ℕ) (us : List State) → ((u : State) → any_reached (f u) ≡ false → k u ≡ c u)
    → any_reached (flat_map f us) ≡ false → sum_by k us ≡ sum_by c us
same_sum f c k [] same h = refl
same_sum f c k (u ∷ us) same h =
    let h' = sym (list_any-append is_reached (f u) (flat_map f us)) ∙ h in
    let e1 = same u (or_left _ _ h') in let e2 = same_sum f c k us same (or_right (any_reached (f u)) (any_reached (flat_map f us)) h') in
    sum_by-cons k u us ∙ ((cc) ∙ sym (sum_by-cons c u us))

-- no bound was reached at n: then more of it changes nothing
pub events_steady : (ms : Setting) (n m : ℕ) (s : State) → n ≤ m → any_reached (events ms n s) ≡ false → events ms m s ≡ events ms n s
unfolding events
events_steady ms zero zero s le h = refl
events_steady ms zero (suc m) s le h = go (settle s) h
  where
    go_a : (t : State) (a : List (Item Form)) → any_reached (events_of (λ t. Reached ∷ []) t a) ≡ false
        → events_of (λ t. flat_map (events ms m) (successors ms t)) t a ≡ events_of (λ t. Reached ∷ []) t a
    go_a t [] h = refl
    go_a t (i ∷ a) h = cc

    go : (o : Option State) → any_reached (events_settled (λ t. Reached ∷ []) o) ≡ false
        → events_settled (λ t. flat_map (events ms m) (successors ms t)) o ≡ events_settled (λ t. Reached ∷ []) o
    go None h = refl
    go (Some t) h = go_a t t.agenda h
events_steady ms (suc n) zero s le h = absurd (omega arith)
events_steady ms (suc n) (suc m) s le h = go (λ u q. events_steady ms n m u (omega arith) q) (settle s) h
  where
    go_a : ((u : State) → any_reached (events ms n u) ≡ false → events ms m u ≡ events ms n u)
        → (t : State) (a : List (Item Form)) → any_reached (events_of (λ t. flat_map (events ms n) (successors ms t)) t a) ≡ false
        → events_of (λ t. flat_map (events ms m) (successors ms t)) t a ≡ events_of (λ t. flat_map (events ms n) (successors ms t)) t a
    go_a ih t [] h = refl
    go_a ih t (i ∷ a) h = same_flat (events ms n) (events ms m) (successors ms t) ih h

    go : ((u : State) → any_reached (events ms n u) ≡ false → events ms m u ≡ events ms n u)
        → (o : Option State) → any_reached (events_settled (λ t. flat_map (events ms n) (successors ms t)) o) ≡ false
        → events_settled (λ t. flat_map (events ms m) (successors ms t)) o ≡ events_settled (λ t. flat_map (events ms n) (successors ms t)) o
    go ih None h = refl
    go ih (Some t) h = go_a ih t t.agenda h

pub cost_steady : (ms : Setting) (n m : ℕ) (s : State) → n ≤ m → any_reached (events ms n s) ≡ false → cost ms m s ≡ cost ms n s
unfolding events cost
cost_steady ms zero zero s le h = refl
cost_steady ms zero (suc m) s le h = go (settle s) h
  where
    go_a : (t : State) (a : List (Item Form)) → any_reached (events_of (λ t. Reached ∷ []) t a) ≡ false
        → cost_of (λ t. suc (sum_by (cost ms m) (successors ms t))) t a ≡ 0
    go_a t [] h = refl
    go_a t (i ∷ a) h = cc

    go : (o : Option State) → any_reached (events_settled (λ t. Reached ∷ []) o) ≡ false
        → cost_settled (λ t. suc (sum_by (cost ms m) (successors ms t))) o ≡ 0
    go None h = refl
    go (Some t) h = go_a t t.agenda h
cost_steady ms (suc n) zero s le h = absurd (omega arith)
cost_steady ms (suc n) (suc m) s le h = go (λ u q. cost_steady ms n m u (omega arith) q) (settle s) h
  where
    go_a : ((u : State) → any_reached (events ms n u) ≡ false → cost ms m u ≡ cost ms n u)
        → (t : State) (a : List (Item Form)) → any_reached (events_of (λ t. flat_map (events ms n) (successors ms t)) t a) ≡ false
        → cost_of (λ t. suc (sum_by (cost ms m) (successors ms t))) t a ≡ cost_of (λ t. suc (sum_by (cost ms n) (successors ms t))) t a
    go_a ih t [] h = refl
    go_a ih t (i ∷ a) h = ap (λ x. suc x) (same_sum (events ms n) (cost ms n) (cost ms m) (successors ms t) ih h)

    go : ((u : State) → any_reached (events ms n u) ≡ false → cost ms m u ≡ cost ms n u)
        → (o : Option State) → any_reached (events_settled (λ t. flat_map (events ms n) (successors ms t)) o) ≡ false
        → cost_settled (λ t. suc (sum_by (cost ms m) (successors ms t))) o ≡ cost_settled (λ t. suc (sum_by (cost ms n) (successors ms t))) o
    go ih None h = refl
    go ih (Some t) h = go_a ih t t.agenda h
