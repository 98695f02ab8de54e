-- What is owed, left and still to be worked, over lists of candidates and of choice points.
use Rattle.std.proofs.Common.{◌≡◌, ℕ, ◌+◌, ◌≤◌, refl, ap, sym, ◌∙◌, Bool, true, false, List, [], ◌∷◌, ◌++◌, arith}
use Rattle.std.specs.List.{list_any}
use Rattle.std.proofs.lemmas.List.Sums.{sum_by-cons}
use Rattle.std.specs.Prelude.{Option, Some, None, flat_map, sum_by, is_some, ◌||◌}
use Rattle.ll_laws.specs.declared.Candidate.{Candidate}
use Rattle.ll_laws.specs.declared.Event.{Event}
use Rattle.ll_laws.specs.Module.{Setting}
use Rattle.ll_laws.specs.State.{State}
use Rattle.ll_laws.specs.Attempt.{attempt, option_to_states}
use Rattle.ll_laws.specs.Search.{events, cost, gives_some}
use Rattle.ll_engine.specs.Seen.{Point}
use Rattle.ll_laws.specs.Tried.{events_from, number_from, tried_events, tried_cost}
use Rattle.ll_engine.specs.Owed.{owed, cost_left, one_if_some, open_points, work_by, work, work_left, Thins, thin_end, thin_keep, thin_skip, put_point}

-- what the successors owe is what the tries owe

from_states : (f : State → List Event) (o : Option State) (us : List State) → flat_map f (option_to_states o ++ us) ≡ events_from f o ++ flat_map f us
from_states f None us = refl
from_states f (Some u) us = refl

pub tried_events_flat : (beside : Setting) (n : ℕ) (t : State) (cs : List Candidate)
    → flat_map (events beside n) (flat_map (λ c. option_to_states (attempt beside t c)) cs) ≡ tried_events beside n t cs
tried_events_flat beside n t [] = refl
tried_events_flat beside n t (c ∷ cs) =
    let e1 = from_states (events beside n) (attempt beside t c) (flat_map (λ c. option_to_states (attempt beside t c)) cs) in
    let e2 = ap (λ x. events_from (events beside n) (attempt beside t c) ++ x) (tried_events_flat beside n t cs) in e1 ∙ e2

cost_states : (f : State → ℕ) (o : Option State) (us : List State) → sum_by f (option_to_states o ++ us) ≡ number_from f o + sum_by f us
cost_states f None us = omega arith
cost_states f (Some u) us = sum_by-cons f u us

pub tried_cost_flat : (beside : Setting) (n : ℕ) (t : State) (cs : List Candidate)
    → sum_by (cost beside n) (flat_map (λ c. option_to_states (attempt beside t c)) cs) ≡ tried_cost beside n t cs
tried_cost_flat beside n t [] = refl
tried_cost_flat beside n t (c ∷ cs) =
    let e1 = cost_states (cost beside n) (attempt beside t c) (flat_map (λ c. option_to_states (attempt beside t c)) cs) in
    let e2 = ap (λ x. number_from (cost beside n) (attempt beside t c) + x) (tried_cost_flat beside n t cs) in e1 ∙ e2

-- candidates that give nothing may be left out

from_none : (f : State → List Event) (o : Option State) (xs : List Event) → o ≡ None → xs ≡ events_from f o ++ xs
from_none f None xs e = refl
from_none f (Some u) xs e = cc

number_none : (f : State → ℕ) (o : Option State) → o ≡ None → number_from f o ≡ 0
number_none f None e = refl
number_none f (Some u) e = cc

pub tried_events_thins : (beside : Setting) (t : State) (n : ℕ) (cs ds : List Candidate) → Thins beside t cs ds
    → tried_events beside n t cs ≡ tried_events beside n t ds
tried_events_thins beside t n [] [] thin_end = refl
tried_events_thins beside t n (c ∷ cs) [] h = elim h [ ]
tried_events_thins beside t n (c ∷ cs) (d ∷ ds) (thin_keep h) =
    ap (λ x. events_from (events beside n) (attempt beside t c) ++ x) (tried_events_thins beside t n cs ds h)
tried_events_thins beside t n cs (d ∷ ds) (thin_skip e h) = tried_events_thins beside t n cs ds h
    ∙ from_none (events beside n) (attempt beside t d) (tried_events beside n t ds) e

pub tried_cost_thins : (beside : Setting) (t : State) (n : ℕ) (cs ds : List Candidate) → Thins beside t cs ds
    → tried_cost beside n t cs ≡ tried_cost beside n t ds
tried_cost_thins beside t n [] [] thin_end = refl
tried_cost_thins beside t n (c ∷ cs) [] h = elim h [ ]
tried_cost_thins beside t n (c ∷ cs) (d ∷ ds) (thin_keep h) =
    ap (λ x. number_from (cost beside n) (attempt beside t c) + x) (tried_cost_thins beside t n cs ds h)
tried_cost_thins beside t n cs (d ∷ ds) (thin_skip e h) =
    let e1 = tried_cost_thins beside t n cs ds h in let e2 = number_none (cost beside n) (attempt beside t d) e in omega arith

pub work_by_thins : (beside : Setting) (t : State) (f : State → ℕ) (cs ds : List Candidate) → Thins beside t cs ds
    → work_by f beside t cs ≤ work_by f beside t ds
work_by_thins beside t f [] [] thin_end = omega arith
work_by_thins beside t f (c ∷ cs) [] h = elim h [ ]
work_by_thins beside t f (c ∷ cs) (d ∷ ds) (thin_keep h) = let e1 = work_by_thins beside t f cs ds h in omega arith
work_by_thins beside t f cs (d ∷ ds) (thin_skip e h) = let e1 = work_by_thins beside t f cs ds h in omega arith

pub list_any_cons : {A : Type 0} (p : A → Bool) (x : A) (xs : List A) → list_any p (x ∷ xs) ≡ (p x || list_any p xs)
list_any_cons p x xs = refl

some_none : (o : Option State) → o ≡ None → is_some o ≡ false
some_none None e = refl
some_none (Some u) e = cc

or_false : (a b : Bool) → a ≡ false → (a || b) ≡ b
or_false false b e = refl
or_false true b e = cc

pub gives_thins : (beside : Setting) (t : State) (cs ds : List Candidate) → Thins beside t cs ds → gives_some beside t ds ≡ gives_some beside t cs
gives_thins beside t [] [] thin_end = refl
gives_thins beside t (c ∷ cs) [] h = elim h [ ]
gives_thins beside t (c ∷ cs) (d ∷ ds) (thin_keep h) =
    list_any_cons (λ c. is_some (attempt beside t c)) c ds ∙
    (ap (λ x. is_some (attempt beside t c) || x) (gives_thins beside t cs ds h) ∙ sym (list_any_cons (λ c. is_some (attempt beside t c)) c cs))
gives_thins beside t cs (d ∷ ds) (thin_skip e h) =
    list_any_cons (λ c. is_some (attempt beside t c)) d ds
    ∙ (or_false (is_some (attempt beside t d)) (gives_some beside t ds) (some_none (attempt beside t d) e) ∙ gives_thins beside t cs ds h)

-- one point more

pub owed_put : (beside : Setting) (t : State) (n : ℕ) (cs : List Candidate) (ps : List Point)
    → owed beside (put_point t n cs ps) ≡ tried_events beside n t cs ++ owed beside ps
owed_put beside t n [] ps = refl
owed_put beside t n (c ∷ cs) ps = refl

pub cost_put : (beside : Setting) (t : State) (n : ℕ) (cs : List Candidate) (ps : List Point)
    → cost_left beside (put_point t n cs ps) ≡ tried_cost beside n t cs + cost_left beside ps
cost_put beside t n [] ps = omega arith
cost_put beside t n (c ∷ cs) ps = refl

pub work_put : (beside : Setting) (t : State) (n : ℕ) (cs : List Candidate) (ps : List Point)
    → work_left beside (put_point t n cs ps) ≤ work_by (work beside n) beside t cs + work_left beside ps
work_put beside t n [] ps = omega arith
work_put beside t n (c ∷ cs) ps = omega arith

pub open_put : (t : State) (n : ℕ) (cs : List Candidate) (ps : List Point) → open_points (put_point t n cs ps) ≡ one_if_some cs + open_points ps
open_put t n [] ps = omega arith
open_put t n (c ∷ cs) ps = refl
