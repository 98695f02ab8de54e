-- Where the labels of a context are distinct, no candidate stands twice among the tries.
use Rattle.std.proofs.Common.{◌≡◌, ℕ, suc, ◌<◌, refl, sym, ◌∙◌, subst, Bool, true, false, List, [], ◌∷◌, ◌++◌, arith}
use Rattle.std.proofs.lemmas.Bool.{eqb-true, or_from as or_both, and_left as no_first, and_right as no_second}
use Rattle.std.proofs.lemmas.List.Folds.{list_any-append}
use Rattle.std.specs.Prelude.{nat_eq, flat_map, cond, not}
use Rattle.std.specs.List.{list_any}
use Rattle.ll_list_laws.proofs.CallerLemmas.{false_from_not as not_true, or_false_left as or_left, or_false_right as or_right, and_true_left as and_left}
use Rattle.ll_list_laws.proofs.CallerLemmas.{and_true_right as and_right}
use Rattle.ll_laws.specs.declared.Candidate.{Candidate}
use Rattle.ll_bank.specs.Term.{Term}
use Rattle.ll_bank.specs.Form.{Form, Atom, Plus}
use Rattle.ll_laws.specs.Leaf.{ways}
use Rattle.ll_laws.specs.Settle.{Entry, Item, Goal}
use Rattle.ll_laws.specs.State.{State}
use Rattle.ll_laws.specs.Attempt.{tries, agenda_tries, goal_tries, entry_tries, leaf_tries, fits_head, leaf_head, is_open}
use Rattle.ll_laws.specs.Search.{same_candidate}
use Rattle.ll_laws.specs.Consistent.{labels_differ}
use Rattle.ll_engine.specs.Healthy.{Distinct}

less_differs : (j k : ℕ) → j < k → nat_eq j k ≡ false
less_differs j k l = go (nat_eq j k) (λ e. eqb-true j k e)
  where
    go : (b : Bool) → (b ≡ true → j ≡ k) → b ≡ false
    go false h = refl
    go true h = let e = h refl in absurd (omega arith)

other_label : (a : Term) (e : Entry Form) (c : Candidate) (k : ℕ) (ns : List ℕ) → nat_eq c.label e.label ≡ false
    → list_any (same_candidate c) (leaf_tries a e k ns) ≡ false
other_label a e c k [] h = refl
other_label a e c k (n ∷ ns) h = go (fits_head a (leaf_head e.clause k n)) (other_label a e c (suc k) ns h)
  where
    go : (b : Bool) → list_any (same_candidate c) (leaf_tries a e (suc k) ns) ≡ false
        → list_any (same_candidate c) (cond b (record { label = e.label; leaf = k } ∷ leaf_tries a e (suc k) ns) (leaf_tries a e (suc k) ns)) ≡ false
    go true ih = or_both _ _ (no_first (nat_eq c.label e.label) (nat_eq c.leaf k) h) ih
    go false ih = ih

other_leaf : (a : Term) (e : Entry Form) (c : Candidate) (k : ℕ) (ns : List ℕ) → c.leaf < k → list_any (same_candidate c) (leaf_tries a e k ns) ≡ false
other_leaf a e c k [] h = refl
other_leaf a e c k (n ∷ ns) h = go (fits_head a (leaf_head e.clause k n)) (other_leaf a e c (suc k) ns (omega arith))
  where
    go : (b : Bool) → list_any (same_candidate c) (leaf_tries a e (suc k) ns) ≡ false
        → list_any (same_candidate c) (cond b (record { label = e.label; leaf = k } ∷ leaf_tries a e (suc k) ns) (leaf_tries a e (suc k) ns)) ≡ false
    go true ih = or_both _ _ (no_second (nat_eq c.label e.label) (nat_eq c.leaf k) (less_differs c.leaf k h)) ih
    go false ih = ih

other_entry : (a : Term) (c : Candidate) (e : Entry Form) → nat_eq c.label e.label ≡ false → list_any (same_candidate c) (entry_tries a e) ≡ false
other_entry a c e h = go (is_open e)
  where
    go : (b : Bool) → list_any (same_candidate c) (cond b (leaf_tries a e 0 (ways e.clause)) []) ≡ false
    go true = other_label a e c 0 (ways e.clause) h
    go false = refl

other_entries : (a : Term) (c : Candidate) (es : List (Entry Form)) → list_any (λ x. nat_eq c.label x.label) es ≡ false
    → list_any (same_candidate c) (flat_map (entry_tries a) es) ≡ false
other_entries a c [] h = refl
other_entries a c (e ∷ es) h =
    list_any-append (same_candidate c) (entry_tries a e) (flat_map (entry_tries a) es)
    ∙ or_both _ _ (other_entry a c e (or_left (nat_eq c.label e.label) (list_any (λ x. nat_eq c.label x.label) es) h))
    (other_entries a c es (or_right (nat_eq c.label e.label) (list_any (λ x. nat_eq c.label x.label) es) h))

leaves_distinct : (a : Term) (e : Entry Form) (k : ℕ) (ns : List ℕ) (ys : List Candidate)
    → ((c : Candidate) → c.label ≡ e.label → list_any (same_candidate c) ys ≡ false)
    → Distinct ys → Distinct (leaf_tries a e k ns ++ ys)
leaves_distinct a e k [] ys h d = d
leaves_distinct a e k (n ∷ ns) ys h d = go (fits_head a (leaf_head e.clause k n)) (leaves_distinct a e (suc k) ns ys h d)
  where
    go : (b : Bool) → Distinct (leaf_tries a e (suc k) ns ++ ys)
        → Distinct (cond b (record { label = e.label; leaf = k } ∷ leaf_tries a e (suc k) ns) (leaf_tries a e (suc k) ns) ++ ys)
    go true ih =
        let c : Candidate = record { label = e.label; leaf = k } in
        (list_any-append (same_candidate c) (leaf_tries a e (suc k) ns) ys ∙ or_both _ _ (other_leaf a e c (suc k) ns (omega arith)) (h c refl), ih)
    go false ih = ih

entries_distinct : (a : Term) (es : List (Entry Form)) → labels_differ es ≡ true → Distinct (flat_map (entry_tries a) es)
entries_distinct a [] d = tt
entries_distinct a (e ∷ es) d =
    go (is_open e) (entries_distinct a es (and_right (not (list_any (λ x. nat_eq e.label x.label) es)) (labels_differ es) d))
  where
    apart : (c : Candidate) → c.label ≡ e.label → list_any (same_candidate c) (flat_map (entry_tries a) es) ≡ false
    apart c q = other_entries a c es (subst (λ (l : ℕ). list_any (λ x. nat_eq l x.label) es ≡ false) (sym q)
        (not_true (list_any (λ x. nat_eq e.label x.label) es) (and_left (not (list_any (λ x. nat_eq e.label x.label) es)) (labels_differ es) d)))

    go : (b : Bool) → Distinct (flat_map (entry_tries a) es) → Distinct (cond b (leaf_tries a e 0 (ways e.clause)) [] ++ flat_map (entry_tries a) es)
    go true ih = leaves_distinct a e 0 (ways e.clause) (flat_map (entry_tries a) es) apart ih
    go false ih = ih

goal_distinct : (es : List (Entry Form)) (g : Form) → labels_differ es ≡ true → Distinct (goal_tries es g)
goal_distinct es (Atom a) d = entries_distinct a es d
goal_distinct es (Plus f g) d = (refl, (refl, tt))
goal_distinct es _ d = (refl, tt)

of_agenda : (as' : List (Item Form)) (es : List (Entry Form)) → labels_differ es ≡ true → Distinct (agenda_tries as' es)
of_agenda (Goal g ∷ rest) es d = goal_distinct es g d
of_agenda _ es d = tt

pub tries_distinct : (t : State) → labels_differ t.context ≡ true → Distinct (tries t)
unfolding tries
tries_distinct t d = of_agenda t.agenda t.context d
