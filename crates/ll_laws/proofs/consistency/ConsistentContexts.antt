-- Contexts of consistent states: what stays where only live marks or clauses change.
use Rattle.std.proofs.Common.{◌≡◌, ℕ, refl, ap, subst, ◌∙◌, Bool, true, false, List, [], ◌∷◌, map, nat_eq}
use Rattle.std.specs.Prelude.{◌&&◌, ◌||◌, not, if◌then◌else◌, nat_lt}
use Rattle.std.specs.List.{list_all, list_any}
use Rattle.std.proofs.lemmas.Bool.{and_from as and_intro}
use Rattle.ll_list_laws.proofs.CallerLemmas.{and_true_left as and_left, and_true_right as and_right}
use Rattle.ll_bank.specs.Term.{Term}
use Rattle.ll_bank.specs.Form.{Form, sub_form}
use Rattle.ll_laws.specs.declared.Kind.{Kind}
use Rattle.ll_laws.specs.declared.Kind.TheVariants.{Linear, Unbounded}
use Rattle.ll_laws.specs.Settle.{Entry, Item, Goal, LolliEnd, ImpEnd, WithMiddle, WithEnd, BangEnd, marks, remark, unlive, both_live}
use Rattle.ll_laws.specs.State.{sub_item, sub_entry}
use Rattle.ll_laws.specs.Attempt.{picked}
use Rattle.ll_laws.specs.Valid.{Side, GoalSide, ClauseSide, Allowed, IsFormula}
use Rattle.ll_laws.specs.Consistent.{may_live, marks_fit, is_of_kind, newest_is, begins_second_side, ends_fit, AreGoals, AreResources, labels_differ}
use Rattle.ll_laws.proofs.consistency.ConsistentTerms.{Grows, GoesToFitting}
use Rattle.ll_laws.proofs.consistency.ConsistentForms.{fits-more, fits-sub, fits_of_formula, formula_of_fits}

-- ---- labels and kinds

-- the entries have the labels and the kinds of the others, in order
abbrev pub Alike : List (Entry Form) → List (Entry Form) → Type 0
Alike [] [] = Unit {0}
Alike (e ∷ es) (d ∷ ds) = (e.label ≡ d.label) × (e.kind ≡ d.kind) × Alike es ds
Alike _ _ = ⊥

pub alike-refl : (es : List (Entry Form)) → Alike es es
alike-refl [] = tt
alike-refl (e ∷ es) = (refl, refl, alike-refl es)

pub alike-remark : (es : List (Entry Form)) (bs : List Bool) → Alike es (remark es bs)
alike-remark [] bs = tt
alike-remark (e ∷ es) [] = alike-refl (e ∷ es)
alike-remark (e ∷ es) (b ∷ bs) = (refl, refl, alike-remark es bs)

pub alike-unlive : (es : List (Entry Form)) → Alike es (map unlive es)
alike-unlive [] = tt
alike-unlive (e ∷ es) = (refl, refl, alike-unlive es)

pub alike-picked : (label : ℕ) (es : List (Entry Form)) → Alike es (picked label es)
alike-picked label [] = tt
alike-picked label (e ∷ es) = step (nat_eq e.label label) (alike-picked label es)
  where
    step : (b : Bool) → Alike es (picked label es) → Alike (e ∷ es) (if b then unlive e ∷ es else e ∷ picked label es)
    step true i = (refl, refl, alike-refl es)
    step false i = (refl, refl, i)

pub alike-sub : (f : ℕ → Term) (es : List (Entry Form)) → Alike es (map (sub_entry f) es)
alike-sub f [] = tt
alike-sub f (e ∷ es) = (refl, refl, alike-sub f es)

pub alike-marks : (bs : List Bool) (es ds : List (Entry Form)) → Alike es ds → marks_fit bs es ≡ true → marks_fit bs ds ≡ true
alike-marks [] [] [] a h = refl
alike-marks [] [] (d ∷ ds) a h = absurd a
alike-marks [] (e ∷ es) ds a h = cc
alike-marks (b ∷ bs) [] ds a h = cc
alike-marks (b ∷ bs) (e ∷ es) [] a h = absurd a
alike-marks (b ∷ bs) (e ∷ es) (d ∷ ds) a h =
    and_intro _ _ (subst (λ k. may_live k b ≡ true) a.1 (and_left (may_live e.kind b) (marks_fit bs es) h))
    (alike-marks bs es ds a.2 (and_right (may_live e.kind b) (marks_fit bs es) h))

newest-alike : (linear : Bool) (p q : List (Entry Form) → Bool) (es ds : List (Entry Form))
    → ((es ds : List (Entry Form)) → Alike es ds → p es ≡ true → q ds ≡ true) → Alike es ds
    → newest_is linear p es ≡ true → newest_is linear q ds ≡ true
newest-alike linear p q [] ds f a h = cc
newest-alike linear p q (e ∷ es) [] f a h = absurd a
newest-alike linear p q (e ∷ es) (d ∷ ds) f a h =
    and_intro _ _ (subst (λ k. is_of_kind linear k ≡ true) a.1 (and_left (is_of_kind linear e.kind) (p es) h))
    (f es ds a.2 (and_right (is_of_kind linear e.kind) (p es) h))

-- ends look at labels and kinds alone
pub alike-ends : (a : List (Item Form)) (es ds : List (Entry Form)) → Alike es ds → ends_fit a es ≡ true → ends_fit a ds ≡ true
alike-ends [] es ds k h = refl
alike-ends (Goal g ∷ rest) es ds k h = alike-ends rest es ds k h
alike-ends (LolliEnd saved ∷ rest) es ds k h = newest-alike true (ends_fit rest) (ends_fit rest) es ds (alike-ends rest) k h
alike-ends (ImpEnd ∷ rest) es ds k h = newest-alike false (ends_fit rest) (ends_fit rest) es ds (alike-ends rest) k h
alike-ends (WithMiddle saved ∷ rest) es ds k h =
    let i = and_left (begins_second_side rest && marks_fit saved.live es) (ends_fit rest es) h in
    and_intro _ _ (and_intro _ _ (and_left (begins_second_side rest) (marks_fit saved.live es) i)
    (alike-marks saved.live es ds k (and_right (begins_second_side rest) (marks_fit saved.live es) i)))
    (alike-ends rest es ds k (and_right (begins_second_side rest && marks_fit saved.live es) (ends_fit rest es) h))
alike-ends (WithEnd saved half ∷ rest) es ds k h =
    let i = and_left (marks_fit saved.live es && marks_fit half.live es) (ends_fit rest es) h in
    and_intro _ _
    (and_intro _ _ (alike-marks saved.live es ds k (and_left (marks_fit saved.live es) (marks_fit half.live es) i))
    (alike-marks half.live es ds k (and_right (marks_fit saved.live es) (marks_fit half.live es) i)))
    (alike-ends rest es ds k (and_right (marks_fit saved.live es && marks_fit half.live es) (ends_fit rest es) h))
alike-ends (BangEnd saved ∷ rest) es ds k h =
    and_intro _ _ (alike-marks saved.live es ds k (and_left (marks_fit saved.live es) (ends_fit rest es) h))
    (alike-ends rest es ds k (and_right (marks_fit saved.live es) (ends_fit rest es) h))

pub alike-below : (n : ℕ) (es ds : List (Entry Form)) → Alike es ds → list_all (λ e. nat_lt e.label n) es ≡ true → list_all (λ e. nat_lt e.label n) ds ≡ true
alike-below n [] [] a h = refl
alike-below n [] (d ∷ ds) a h = absurd a
alike-below n (e ∷ es) [] a h = absurd a
alike-below n (e ∷ es) (d ∷ ds) a h =
    and_intro _ _ (subst (λ l. nat_lt l n ≡ true) a.0 (and_left (nat_lt e.label n) (list_all (λ e. nat_lt e.label n) es) h))
    (alike-below n es ds a.2 (and_right (nat_lt e.label n) _ h))

alike-any : (l : ℕ) (es ds : List (Entry Form)) → Alike es ds → list_any (λ d. nat_eq l d.label) es ≡ list_any (λ d. nat_eq l d.label) ds
alike-any l [] [] a = refl
alike-any l [] (d ∷ ds) a = absurd a
alike-any l (e ∷ es) [] a = absurd a
alike-any l (e ∷ es) (d ∷ ds) a =
    ap (λ b. b || list_any (λ d. nat_eq l d.label) es) (ap (λ k. nat_eq l k) a.0) ∙ ap (λ b. nat_eq l d.label || b) (alike-any l es ds a.2)

pub alike-differ : (es ds : List (Entry Form)) → Alike es ds → labels_differ es ≡ true → labels_differ ds ≡ true
alike-differ [] [] a h = refl
alike-differ [] (d ∷ ds) a h = absurd a
alike-differ (e ∷ es) [] a h = absurd a
alike-differ (e ∷ es) (d ∷ ds) a h =
    let i = and_left (not (list_any (λ d. nat_eq e.label d.label) es)) (labels_differ es) h in
    let j = subst (λ b. not b ≡ true) (alike-any e.label es ds a.2) i in
    and_intro _ _ (subst (λ l. not (list_any (λ d. nat_eq l d.label) ds) ≡ true) a.0 j)
    (alike-differ es ds a.2 (and_right (not (list_any (λ d. nat_eq e.label d.label) es)) (labels_differ es) h))

-- ---- live marks

-- only linear entries are live
abbrev pub all_may : List (Entry Form) → Bool
all_may es = list_all (λ e. may_live e.kind e.live) es

pub marks-fit : (es : List (Entry Form)) → all_may es ≡ true → marks_fit (marks es) es ≡ true
marks-fit [] h = refl
marks-fit (e ∷ es) h = and_intro _ _ (and_left (may_live e.kind e.live) (all_may es) h) (marks-fit es (and_right (may_live e.kind e.live) (all_may es) h))

pub may-remark : (es : List (Entry Form)) (bs : List Bool) → marks_fit bs es ≡ true → all_may (remark es bs) ≡ true
may-remark [] bs h = refl
may-remark (e ∷ es) [] h = cc
may-remark (e ∷ es) (b ∷ bs) h = and_intro _ _ (and_left (may_live e.kind b) (marks_fit bs es) h)
    (may-remark es bs (and_right (may_live e.kind b) (marks_fit bs es) h))

dead : (k : Kind) → may_live k false ≡ true
dead Linear = refl
dead Unbounded = refl

pub may-unlive : (es : List (Entry Form)) → all_may (map unlive es) ≡ true
may-unlive [] = refl
may-unlive (e ∷ es) = and_intro _ _ (dead e.kind) (may-unlive es)

pub may-picked : (label : ℕ) (es : List (Entry Form)) → all_may es ≡ true → all_may (picked label es) ≡ true
may-picked label [] h = refl
may-picked label (e ∷ es) h = step (nat_eq e.label label) (may-picked label es (and_right (may_live e.kind e.live) (all_may es) h))
  where
    step : (b : Bool) → all_may (picked label es) ≡ true → all_may (if b then unlive e ∷ es else e ∷ picked label es) ≡ true
    step true i = and_intro _ _ (dead e.kind) (and_right (may_live e.kind e.live) (all_may es) h)
    step false i = and_intro _ _ (and_left (may_live e.kind e.live) (all_may es) h) i

pub may-sub : (f : ℕ → Term) (es : List (Entry Form)) → all_may es ≡ true → all_may (map (sub_entry f) es) ≡ true
may-sub f [] h = refl
may-sub f (e ∷ es) h = and_intro _ _ (and_left (may_live e.kind e.live) (all_may es) h) (may-sub f es (and_right (may_live e.kind e.live) (all_may es) h))

fewer_live : (k : Kind) (a b : Bool) → may_live k a ≡ true → may_live k (a && b) ≡ true
fewer_live Linear a b h = refl
fewer_live Unbounded true b h = cc
fewer_live Unbounded false b h = refl

pub marks-both : (as' bs : List Bool) (es : List (Entry Form)) → marks_fit as' es ≡ true → marks_fit bs es ≡ true → marks_fit (both_live as' bs) es ≡ true
marks-both [] bs es h i = h
marks-both (a ∷ as') [] [] h i = cc
marks-both (a ∷ as') [] (e ∷ es) h i = cc
marks-both (a ∷ as') (b ∷ bs) [] h i = cc
marks-both (a ∷ as') (b ∷ bs) (e ∷ es) h i =
    and_intro _ _ (fewer_live e.kind a b (and_left (may_live e.kind a) (marks_fit as' es) h))
    (marks-both as' bs es (and_right (may_live e.kind a) (marks_fit as' es) h) (and_right (may_live e.kind b) (marks_fit bs es) i))

-- ---- clauses

pub resources-remark : (may : Allowed) (es : List (Entry Form)) (bs : List Bool) → AreResources may es → AreResources may (remark es bs)
resources-remark may [] bs h = tt
resources-remark may (e ∷ es) [] h = h
resources-remark may (e ∷ es) (b ∷ bs) h = (h.0, resources-remark may es bs h.1)

pub resources-unlive : (may : Allowed) (es : List (Entry Form)) → AreResources may es → AreResources may (map unlive es)
resources-unlive may [] h = tt
resources-unlive may (e ∷ es) h = (h.0, resources-unlive may es h.1)

pub resources-picked : (may : Allowed) (label : ℕ) (es : List (Entry Form)) → AreResources may es → AreResources may (picked label es)
resources-picked may label [] h = tt
resources-picked may label (e ∷ es) h = step (nat_eq e.label label) (resources-picked may label es h.1)
  where
    step : (b : Bool) → AreResources may (picked label es) → AreResources may (if b then unlive e ∷ es else e ∷ picked label es)
    step true i = h
    step false i = (h.0, i)

pub formula-more : (may more : Allowed) (side : Side) (f : Form) → Grows may more → IsFormula may side [] f → IsFormula more side [] f
formula-more may more side f g h = formula_of_fits more side [] f (fits-more may more side [] [] f g tt (fits_of_formula may side [] f h))

pub formula-sub : (may : Allowed) (s : ℕ → Term) (side : Side) (f : Form) → GoesToFitting may s → IsFormula may side [] f → IsFormula may side [] (sub_form s f)
formula-sub may s side f g h = formula_of_fits may side [] (sub_form s f) (fits-sub may s side [] f g (fits_of_formula may side [] f h))

pub resources-more : (may more : Allowed) (es : List (Entry Form)) → Grows may more → AreResources may es → AreResources more es
resources-more may more [] g h = tt
resources-more may more (e ∷ es) g h = (formula-more may more ClauseSide e.clause g h.0, resources-more may more es g h.1)

pub resources-sub : (may : Allowed) (s : ℕ → Term) (es : List (Entry Form)) → GoesToFitting may s → AreResources may es
    → AreResources may (map (sub_entry s) es)
resources-sub may s [] g h = tt
resources-sub may s (e ∷ es) g h = (formula-sub may s ClauseSide e.clause g h.0, resources-sub may s es g h.1)

-- ---- goals

pub goals-more : (may more : Allowed) (a : List (Item Form)) → Grows may more → AreGoals may a → AreGoals more a
goals-more may more [] g h = tt
goals-more may more (Goal f ∷ rest) g h = (formula-more may more GoalSide f g h.0, goals-more may more rest g h.1)
goals-more may more (LolliEnd saved ∷ rest) g h = goals-more may more rest g h
goals-more may more (ImpEnd ∷ rest) g h = goals-more may more rest g h
goals-more may more (WithMiddle saved ∷ rest) g h = goals-more may more rest g h
goals-more may more (WithEnd saved half ∷ rest) g h = goals-more may more rest g h
goals-more may more (BangEnd saved ∷ rest) g h = goals-more may more rest g h

pub goals-sub : (may : Allowed) (s : ℕ → Term) (a : List (Item Form)) → GoesToFitting may s → AreGoals may a → AreGoals may (map (sub_item s) a)
goals-sub may s [] g h = tt
goals-sub may s (Goal f ∷ rest) g h = (formula-sub may s GoalSide f g h.0, goals-sub may s rest g h.1)
goals-sub may s (LolliEnd saved ∷ rest) g h = goals-sub may s rest g h
goals-sub may s (ImpEnd ∷ rest) g h = goals-sub may s rest g h
goals-sub may s (WithMiddle saved ∷ rest) g h = goals-sub may s rest g h
goals-sub may s (WithEnd saved half ∷ rest) g h = goals-sub may s rest g h
goals-sub may s (BangEnd saved ∷ rest) g h = goals-sub may s rest g h

second-sub : (s : ℕ → Term) (a : List (Item Form)) → begins_second_side a ≡ true → begins_second_side (map (sub_item s) a) ≡ true
second-sub s (Goal g ∷ WithEnd saved half ∷ rest) h = refl
second-sub s _ h = cc

newest-same : (linear : Bool) (p q : List (Entry Form) → Bool) (es : List (Entry Form)) → ((es : List (Entry Form)) → p es ≡ true → q es ≡ true)
    → newest_is linear p es ≡ true → newest_is linear q es ≡ true
newest-same linear p q [] f h = h
newest-same linear p q (e ∷ es) f h = and_intro _ _ (and_left (is_of_kind linear e.kind) (p es) h) (f es (and_right (is_of_kind linear e.kind) (p es) h))

-- ends look at no goal
pub ends-sub : (s : ℕ → Term) (a : List (Item Form)) (es : List (Entry Form)) → ends_fit a es ≡ true → ends_fit (map (sub_item s) a) es ≡ true
ends-sub s [] es h = refl
ends-sub s (Goal g ∷ rest) es h = ends-sub s rest es h
ends-sub s (LolliEnd saved ∷ rest) es h = newest-same true (ends_fit rest) (ends_fit (map (sub_item s) rest)) es (ends-sub s rest) h
ends-sub s (ImpEnd ∷ rest) es h = newest-same false (ends_fit rest) (ends_fit (map (sub_item s) rest)) es (ends-sub s rest) h
ends-sub s (WithMiddle saved ∷ rest) es h =
    let i = and_left (begins_second_side rest && marks_fit saved.live es) (ends_fit rest es) h in
    and_intro _ _ (and_intro _ _ (second-sub s rest (and_left (begins_second_side rest) (marks_fit saved.live es) i))
    (and_right (begins_second_side rest) (marks_fit saved.live es) i))
    (ends-sub s rest es (and_right (begins_second_side rest && marks_fit saved.live es) (ends_fit rest es) h))
ends-sub s (WithEnd saved half ∷ rest) es h =
    and_intro _ _ (and_left (marks_fit saved.live es && marks_fit half.live es) (ends_fit rest es) h)
    (ends-sub s rest es (and_right (marks_fit saved.live es && marks_fit half.live es) (ends_fit rest es) h))
ends-sub s (BangEnd saved ∷ rest) es h =
    and_intro _ _ (and_left (marks_fit saved.live es) (ends_fit rest es) h) (ends-sub s rest es (and_right (marks_fit saved.live es) (ends_fit rest es) h))
