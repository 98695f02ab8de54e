-- A tree with leftovers, dealt out, shows its goal.
use Rattle.std.proofs.Common.{◌≡◌, ℕ, refl, ap, sym, subst, ◌∙◌, Bool, true, false, List, [], ◌∷◌, ◌++◌, map, nat_eq, cond}
use Rattle.std.specs.Prelude.{filter, ◌&&◌, ◌||◌, not, if◌then◌else◌}
use Rattle.std.specs.List.{list_all, list_any}
use Rattle.std.proofs.lemmas.Bool.{eqb-true, eq-eqb, ne_eqb, both_ways, or_right as or_two, and_from as both, or_left as or_one}
use Rattle.std.proofs.lemmas.List.{map-append}
use Rattle.std.proofs.lemmas.List.Folds.{list_any-append}
use Rattle.std.proofs.Math.Bool.{or-false}
use Rattle.ll_list_laws.proofs.CallerLemmas.{false_from_not as not_of_true, or_false_left as or_off_left, or_false_right as or_off_right, and_true_left}
use Rattle.ll_list_laws.proofs.CallerLemmas.{and_true_left as and_one, and_true_right as and_two, or_elim as or_split, or_exchange}
use Rattle.ll_bank.specs.Term.{Term, Con}
use Rattle.ll_bank.specs.Form.{Form, Top, One, Atom, With, Tensor, Plus, Bang, Lolli, Imp, Forall, Exists, Use, instantiate, form_has_eigen, Num}
use Rattle.ll_laws.specs.Leaf.{Premise, Needs, NeedsFree}
use Rattle.ll_laws.specs.Module.{Setting, unfold_load}
use Rattle.ll_laws.specs.Shows.{Tree, OneNode, EraseNode, TensorNode, WithNode, LeftNode, RightNode, BangNode, LolliNode, ImpNode, ForallNode, ExistsNode}
use Rattle.ll_laws.specs.Shows.{UseNode, ClauseNode, Parts, NoParts, BoundedPart, UnboundedPart, Labelled, clauses, has, has_label, part, rest, splits, all_in}
use Rattle.ll_laws.specs.Shows.{one_of, Found, Missing, Took, behind, take_label, pick_of, Shows, ShowsParts, NumNode}
use Rattle.ll_laws.specs.Dealing.{uses, uses_part, erases, erases_part, deal, deal_parts, goes_to, without}
use Rattle.ll_laws.specs.Lazy.{Lazy, LazyParts, unused}

abbrev pub labels : List Labelled → List ℕ
labels d = map (λ l. l.label) d

-- the part whose labels pass the test
abbrev pub sel : (ℕ → Bool) → List Labelled → List Labelled
sel p d = filter (λ l. p l.label) d

pub has_here : (l : Labelled) (ls : List Labelled) → has_label (l ∷ ls) l.label ≡ true
has_here l ls = rw (eq-eqb l.label l.label refl)

pub has_there : (l : Labelled) (ls : List Labelled) (n : ℕ) → has_label ls n ≡ true → has_label (l ∷ ls) n ≡ true
has_there l ls n h = step (nat_eq n l.label)
  where
    step : (b : Bool) → (b || has_label ls n) ≡ true
    step true = refl
    step false = h

filter_by : (f g : Labelled → Bool) (d : List Labelled) → ((l : Labelled) → has_label d l.label ≡ true → f l ≡ g l) → filter f d ≡ filter g d
filter_by f g [] h = refl
filter_by f g (l ∷ ls) h =
    let e1 = h l (has_here l ls) in let e2 = filter_by f g ls (λ m k. h m (has_there l ls m.label k)) in
    rw e1 (ap (λ xs. cond (g l) (l ∷ xs) xs) e2)

all_by : (f : Labelled → Bool) (d : List Labelled) → ((l : Labelled) → has_label d l.label ≡ true → f l ≡ true) → list_all f d ≡ true
all_by f [] h = refl
all_by f (l ∷ ls) h = rw (h l (has_here l ls)) (all_by f ls (λ m k. h m (has_there l ls m.label k)))

filter_filter : {A : Type 0} (p q : A → Bool) (xs : List A) → filter q (filter p xs) ≡ filter (λ x. p x && q x) xs
filter_filter p q [] = refl
filter_filter p q (x ∷ xs) = step (p x) (filter_filter p q xs)
  where
    step : (b : Bool) → filter q (filter p xs) ≡ filter (λ x. p x && q x) xs
        → filter q (cond b (x ∷ filter p xs) (filter p xs)) ≡ cond (b && q x) (x ∷ filter (λ x. p x && q x) xs) (filter (λ x. p x && q x) xs)
    step true e = ap (λ ys. cond (q x) (x ∷ ys) ys) e
    step false e = e

filter_labels : (q : ℕ → Bool) (d : List Labelled) → filter q (labels d) ≡ labels (sel q d)
filter_labels q [] = refl
filter_labels q (l ∷ ls) = step (q l.label) (filter_labels q ls)
  where
    step : (b : Bool) → filter q (labels ls) ≡ labels (sel q ls)
        → cond b (l.label ∷ filter q (labels ls)) (filter q (labels ls)) ≡ labels (cond b (l ∷ sel q ls) (sel q ls))
    step true e = ap (λ xs. l.label ∷ xs) e
    step false e = e

-- a label of the selected part
has_sel : (q : ℕ → Bool) (d : List Labelled) (n : ℕ) → has_label (sel q d) n ≡ (has_label d n && q n)
has_sel q [] n = refl
has_sel q (l ∷ ls) n = step (q l.label) refl (nat_eq n l.label) refl (has_sel q ls n)
  where
    step : (b : Bool) → q l.label ≡ b → (c : Bool) → nat_eq n l.label ≡ c → has_label (sel q ls) n ≡ (has_label ls n && q n)
        → has_label (cond b (l ∷ sel q ls) (sel q ls)) n ≡ ((c || has_label ls n) && q n)
    step true e true f h = rw f (sym (ap q (eqb-true n l.label f) ∙ e))
    step true e false f h = rw f h
    step false e true f h = h ∙ off (has_label ls n) (q n) (ap q (eqb-true n l.label f) ∙ e)
      where
        off : (a b : Bool) → b ≡ false → (a && b) ≡ b
        off true b h = refl
        off false b h = sym h
    step false e false f h = h

pub has_labels : (d : List Labelled) (n : ℕ) → has (labels d) n ≡ has_label d n
has_labels [] n = refl
has_labels (l ∷ ls) n = ap (λ b. nat_eq n l.label || b) (has_labels ls n)

-- the labels of the selected part, at a label of the whole
has_selected : (q : ℕ → Bool) (d : List Labelled) (n : ℕ) → has_label d n ≡ true → has (labels (sel q d)) n ≡ q n
has_selected q d n h = has_labels (sel q d) n ∙ (has_sel q d n ∙ ap (λ b. b && q n) h)

part_selected : (q : ℕ → Bool) (d : List Labelled) → part (labels (sel q d)) d ≡ sel q d
part_selected q d = filter_by (λ l. has (labels (sel q d)) l.label) (λ l. q l.label) d (λ l h. has_selected q d l.label h)

rest_selected : (q : ℕ → Bool) (d : List Labelled) → rest (labels (sel q d)) d ≡ sel (λ n. not (q n)) d
rest_selected q d = filter_by (λ l. not (has (labels (sel q d)) l.label)) (λ l. not (q l.label)) d (λ l h. ap not (has_selected q d l.label h))

all_in_labels : (d e : List Labelled) → ((l : Labelled) → has_label e l.label ≡ true → has_label d l.label ≡ true) → all_in (labels e) d ≡ true
all_in_labels d [] h = refl
all_in_labels d (l ∷ ls) h = rw (h l (has_here l ls)) (all_in_labels d ls (λ m k. h m (has_there l ls m.label k)))

all_in_selected : (q : ℕ → Bool) (d : List Labelled) → all_in (labels (sel q d)) d ≡ true
all_in_selected q d = all_in_labels d (sel q d) (λ l h. and_true_left (has_label d l.label) (q l.label) (sym (has_sel q d l.label) ∙ h))

one_of_not : (b : Bool) → one_of b (not b) ≡ true
one_of_not true = refl
one_of_not false = refl

splits_selected : (q : ℕ → Bool) (d : List Labelled) → splits (labels (sel q d)) (labels (sel (λ n. not (q n)) d)) d ≡ true
splits_selected q d =
    rw (all_in_selected q d) (rw (all_in_selected (λ n. not (q n)) d)
    (all_by (λ l. one_of (has (labels (sel q d)) l.label) (has (labels (sel (λ n. not (q n)) d)) l.label)) d
    (λ l h. rw (has_selected q d l.label h) (rw (has_selected (λ n. not (q n)) d l.label h) (one_of_not (q l.label))))))

sel_sel : (p q : ℕ → Bool) (d : List Labelled) → sel q (sel p d) ≡ sel (λ n. p n && q n) d
sel_sel p q d = filter_filter (λ l. p l.label) (λ l. q l.label) d

pub sel_none : (p : ℕ → Bool) (d : List Labelled) → ((n : ℕ) → has_label d n ≡ true → p n ≡ false) → sel p d ≡ []
sel_none p [] h = refl
sel_none p (l ∷ ls) h = rw (h l.label (has_here l ls)) (sel_none p ls (λ n k. h n (has_there l ls n k)))

pub sel_same : (p q : ℕ → Bool) (d : List Labelled) → ((n : ℕ) → has_label d n ≡ true → p n ≡ q n) → sel p d ≡ sel q d
sel_same p q d h = filter_by (λ l. p l.label) (λ l. q l.label) d (λ l k. h l.label k)

-- the tree takes what the test selects: all that it uses, and no more than it uses or can erase
pub record Covers (p : ℕ → Bool) (x : Tree) (i : List Labelled) : Type 0 where
  pub needs : (n : ℕ) → has_label i n ≡ true → uses n x ≡ true → p n ≡ true
  pub takes : (n : ℕ) → has_label i n ≡ true → p n ≡ true → (uses n x || erases x) ≡ true

pub record CoversParts (p : ℕ → Bool) (ps : Parts) (i : List Labelled) : Type 0 where
  pub needs : (n : ℕ) → has_label i n ≡ true → uses_part n ps ≡ true → p n ≡ true
  pub takes : (n : ℕ) → has_label i n ≡ true → p n ≡ true → (uses_part n ps || erases_part ps) ≡ true

abbrev pub Apart : List Labelled → List Labelled → Type 0
Apart c i = (n : ℕ) → has_label c n ≡ true → has_label i n ≡ false

abbrev pub Distinct : List Labelled → Type 0
Distinct [] = Unit {0}
Distinct (l ∷ ls) = (has_label ls l.label ≡ false) × Distinct ls

moved : (beside : Setting) (x : Tree) (c : List Labelled) (g : Form) (s : List ℕ) (e f : List Labelled) → s ≡ labels f → e ≡ f
    → Shows beside (deal (labels f) x) c f g → Shows beside (deal s x) c e g
moved beside x c g s e f a b h = subst (λ z. Shows beside (deal z x) c e g) (sym a) (subst (λ z. Shows beside (deal (labels f) x) c z g) (sym b) h)

moved_parts : (beside : Setting) (ps : Parts) (c : List Labelled) (gs : List Premise) (s : List ℕ) (e f : List Labelled) → s ≡ labels f → e ≡ f
    → ShowsParts beside (deal_parts (labels f) ps) c f gs → ShowsParts beside (deal_parts s ps) c e gs
moved_parts beside ps c gs s e f a b h = subst (λ z. ShowsParts beside (deal_parts z ps) c e gs) (sym a)
    (subst (λ z. ShowsParts beside (deal_parts (labels f) ps) c z gs) (sym b) h)

-- the selected labels of a selection, and the part of it
module _ (p q : ℕ → Bool) (i : List Labelled) where
  twice_labels : filter q (labels (sel p i)) ≡ labels (sel (λ n. p n && q n) i)
  twice_labels = filter_labels q (sel p i) ∙ ap labels (sel_sel p q i)

  twice_part : part (filter q (labels (sel p i))) (sel p i) ≡ sel (λ n. p n && q n) i
  twice_part = ap (λ s. part s (sel p i)) (filter_labels q (sel p i)) ∙ (part_selected q (sel p i) ∙ sel_sel p q i)

  twice_rest : rest (filter q (labels (sel p i))) (sel p i) ≡ sel (λ n. p n && not (q n)) i
  twice_rest = ap (λ s. rest s (sel p i)) (filter_labels q (sel p i)) ∙ (rest_selected q (sel p i) ∙ sel_sel p (λ n. not (q n)) i)

  twice_splits : splits (filter q (labels (sel p i))) (filter (λ n. not (q n)) (labels (sel p i))) (sel p i) ≡ true
  twice_splits = rw (filter_labels q (sel p i)) (rw (filter_labels (λ n. not (q n)) (sel p i)) (splits_selected q (sel p i)))

-- what one tree leaves, of a selection that goes on without what it uses
left_over : (p : ℕ → Bool) (x : Tree) (i : List Labelled) → ((n : ℕ) → has_label i n ≡ true → p n ≡ true → uses n x ≡ false) → sel p i ≡ sel p (unused x i)
left_over p x i h = sel_same p (λ n. not (uses n x) && p n) i (λ n k. step (p n) (uses n x) (h n k)) ∙ sym (sel_sel (λ n. not (uses n x)) p i)
  where
    step : (a b : Bool) → (a ≡ true → b ≡ false) → a ≡ (not b && a)
    step true true f = f refl
    step true false f = refl
    step false true f = refl
    step false false f = refl

-- Bool facts on where a label goes; m, l, e: the first uses it, a later one does, the first can erase
goes_mine : (m l e : Bool) → m ≡ true → goes_to m l e ≡ true
goes_mine true l e h = refl
goes_mine false l e h = cc

goes_ok : (m l e : Bool) → goes_to m l e ≡ true → (m || e) ≡ true
goes_ok true l e h = refl
goes_ok false true e h = cc
goes_ok false false e h = h

stays_unused : (m l e : Bool) → not (goes_to m l e) ≡ true → m ≡ false
stays_unused true l e h = cc
stays_unused false l e h = refl

stays_ok : (m l e f : Bool) → not (goes_to m l e) ≡ true → ((m || l) || (e || f)) ≡ true → (l || f) ≡ true
stays_ok true l e f h k = cc
stays_ok false true e f h k = refl
stays_ok false false true f h k = cc
stays_ok false false false f h k = k

stays_later : (m l e : Bool) → m ≡ false → l ≡ true → not (goes_to m l e) ≡ true
stays_later true l e h k = cc
stays_later false true e h k = refl
stays_later false false e h k = cc

or_none : (a b : Bool) → a ≡ false → (a || b) ≡ true → b ≡ true
or_none true b h k = cc
or_none false b h k = k

-- one tree and what comes after it: q tells which labels go to the tree
module _ (p : ℕ → Bool) (x : Tree) (i : List Labelled) (later : ℕ → Bool) (wipes : Bool) (need : (n : ℕ) → has_label i n ≡ true → (uses n x || later n) ≡ true
    → p n ≡ true)
    (take : (n : ℕ) → has_label i n ≡ true → p n ≡ true → ((uses n x || later n) || (erases x || wipes)) ≡ true) where
  abbrev to_first : ℕ → Bool
  to_first n = goes_to (uses n x) (later n) (erases x)

  first_covers : Covers (λ n. p n && to_first n) x i
  first_covers = record {
    needs = λ n h u. both (p n) (to_first n) (need n h (or_one (uses n x) (later n) u)) (goes_mine (uses n x) (later n) (erases x) u);
    takes = λ n h t. goes_ok (uses n x) (later n) (erases x) (and_two (p n) (to_first n) t);
  }

  later_unused : (n : ℕ) → has_label i n ≡ true → (p n && not (to_first n)) ≡ true → uses n x ≡ false
  later_unused n h t = stays_unused (uses n x) (later n) (erases x) (and_two (p n) (not (to_first n)) t)

  in_unused : (n : ℕ) → has_label (unused x i) n ≡ true → (has_label i n ≡ true) × (uses n x ≡ false)
  in_unused n h =
      let e : (has_label i n && not (uses n x)) ≡ true = sym (has_sel (λ m. not (uses m x)) i n) ∙ h in
      (and_one (has_label i n) (not (uses n x)) e, not_of_true (uses n x) (and_two (has_label i n) (not (uses n x)) e))

  later_needs : (n : ℕ) → has_label (unused x i) n ≡ true → later n ≡ true → (p n && not (to_first n)) ≡ true
  later_needs n h u =
      both (p n) (not (to_first n)) (need n (in_unused n h).0 (or_two (uses n x) (later n) u)) (stays_later (uses n x) (later n) (erases x) (in_unused n h).1 u)

  later_takes : (n : ℕ) → has_label (unused x i) n ≡ true → (p n && not (to_first n)) ≡ true → (later n || wipes) ≡ true
  later_takes n h t =
      stays_ok (uses n x) (later n) (erases x) wipes (and_two (p n) (not (to_first n)) t) (take n (in_unused n h).0 (and_one (p n) (not (to_first n)) t))

pub has_append : (d e : List Labelled) (n : ℕ) → has_label (d ++ e) n ≡ (has_label d n || has_label e n)
has_append [] e n = refl
has_append (l ∷ ls) e n = step (nat_eq n l.label) (has_append ls e n)
  where
    step : (b : Bool) → has_label (ls ++ e) n ≡ (has_label ls n || has_label e n) → (b || has_label (ls ++ e) n) ≡ ((b || has_label ls n) || has_label e n)
    step true h = refl
    step false h = h

no_sel : (q : ℕ → Bool) (d : List Labelled) (n : ℕ) → has_label d n ≡ false → has_label (sel q d) n ≡ false
no_sel q d n h = has_sel q d n ∙ ap (λ b. b && q n) h

pub distinct_sel : (q : ℕ → Bool) (d : List Labelled) → Distinct d → Distinct (sel q d)
distinct_sel q [] h = tt
distinct_sel q (l ∷ ls) h = step (q l.label) (distinct_sel q ls h.1)
  where
    step : (b : Bool) → Distinct (sel q ls) → Distinct (cond b (l ∷ sel q ls) (sel q ls))
    step true r = (no_sel q ls l.label h.0, r)
    step false r = r

new_one : (n m : ℕ) (r : Form) → (n ≡ m → ⊥) → has_label (record { label = n; clause = r } ∷ []) m ≡ false
new_one n m r h = rw (ne_eqb m n (λ e. h (sym e)))

pub distinct_add : (d : List Labelled) (n : ℕ) (r : Form) → Distinct d → has_label d n ≡ false → Distinct (d ++ record { label = n; clause = r } ∷ [])
distinct_add [] n r h k = (refl, tt)
distinct_add (l ∷ ls) n r h k = step (nat_eq n l.label) refl (distinct_add ls n r h.1) k
  where
    step : (b : Bool) → nat_eq n l.label ≡ b → (has_label ls n ≡ false → Distinct (ls ++ record { label = n; clause = r } ∷ [])) → (b || has_label ls n) ≡ false
        → Distinct (l ∷ (ls ++ record { label = n; clause = r } ∷ []))
    step true e go k = cc
    step false e go k = (
      has_append ls (record { label = n; clause = r } ∷ []) l.label
          ∙ (ap (λ b. b || has_label (record { label = n; clause = r } ∷ []) l.label) h.0
          ∙ new_one n l.label r (λ q. both_ways (nat_eq n l.label) e (eq-eqb n l.label q))),
      go k,
    )

apart_sel : (c d : List Labelled) (q : ℕ → Bool) → Apart c d → Apart c (sel q d)
apart_sel c d q h n k = no_sel q d n (h n k)

apart_add : (c d : List Labelled) (n : ℕ) (r : Form) → Apart c d → has_label c n ≡ false → Apart c (d ++ record { label = n; clause = r } ∷ [])
apart_add c d n r h k m e =
    has_append d (record { label = n; clause = r } ∷ []) m
    ∙ (ap (λ b. b || has_label (record { label = n; clause = r } ∷ []) m) (h m e)
    ∙ new_one n m r (λ q. both_ways (has_label c m) (subst (λ z. has_label c z ≡ false) q k) e))

apart_free : (c d : List Labelled) (n : ℕ) (r : Form) → Apart c d → has_label d n ≡ false → Apart (record { label = n; clause = r } ∷ c) d
apart_free c d n r h k m e = step (nat_eq m n) refl e
  where
    step : (b : Bool) → nat_eq m n ≡ b → (b || has_label c m) ≡ true → has_label d m ≡ false
    step true q e = subst (λ z. has_label d z ≡ false) (sym (eqb-true m n q)) k
    step false q e = h m e

-- a clause that was with_leaf out of what is live
taken_sel : (p : ℕ → Bool) (n : ℕ) (i : List Labelled) (r : Form) (e : List Labelled) → p n ≡ true → take_label n i ≡ Took r e
    → take_label n (sel p i) ≡ Took r (sel p e)
taken_sel p n [] r e h k = cc
taken_sel p n (l ∷ ls) r e h k = step (nat_eq n l.label) refl (p l.label) refl (take_label n ls) refl (taken_sel p n ls) k
  where
    step : (b : Bool) → nat_eq n l.label ≡ b → (c : Bool) → p l.label ≡ c → (o : Found) → take_label n ls ≡ o
        → ((r : Form) (e : List Labelled) → p n ≡ true → take_label n ls ≡ Took r e → take_label n (sel p ls) ≡ Took r (sel p e))
        → (if b then Took l.clause ls else behind l o) ≡ Took r e → take_label n (cond c (l ∷ sel p ls) (sel p ls)) ≡ Took r (sel p e)
    step true f true g o q ih k = let i : l.clause ≡ r = cc in let j : ls ≡ e = cc in rw f (rw i (rw j))
    step true f false g o q ih k = let w : p n ≡ false = ap p (eqb-true n l.label f) ∙ g in cc
    step false f c g Missing q ih k = cc
    step false f true g (Took s t) q ih k =
        let i : s ≡ r = cc in let j : e ≡ l ∷ t = cc in
        rw f (ap (behind l) (ih s t h q) ∙ (ap (λ x. Took x (l ∷ sel p t)) i
        ∙ ap (λ x. Took r x) (sym (ap (sel p) j ∙ ap (λ b. cond b (l ∷ sel p t) (sel p t)) g))))
    step false f false g (Took s t) q ih k =
        let i : s ≡ r = cc in let j : e ≡ l ∷ t = cc in
        ih s t h q ∙ (ap (λ x. Took x (sel p t)) i ∙ ap (λ x. Took r x) (sym (ap (sel p) j ∙ ap (λ b. cond b (l ∷ sel p t) (sel p t)) g)))

pub taken_has : (n : ℕ) (i : List Labelled) (r : Form) (e : List Labelled) → take_label n i ≡ Took r e → (m : ℕ) → has_label i m ≡ (nat_eq m n || has_label e m)
taken_has n [] r e k m = cc
taken_has n (l ∷ ls) r e k m = step (nat_eq n l.label) refl (take_label n ls) refl (taken_has n ls) k
  where
    step : (b : Bool) → nat_eq n l.label ≡ b → (o : Found) → take_label n ls ≡ o
        → ((r : Form) (e : List Labelled) → take_label n ls ≡ Took r e → (m : ℕ) → has_label ls m ≡ (nat_eq m n || has_label e m))
        → (if b then Took l.clause ls else behind l o) ≡ Took r e → has_label (l ∷ ls) m ≡ (nat_eq m n || has_label e m)
    step true f o q ih k = let j : ls ≡ e = cc in ap (λ x. nat_eq m x || has_label ls m) (sym (eqb-true n l.label f)) ∙ ap (λ x. nat_eq m n || has_label x m) j
    step false f Missing q ih k = cc
    step false f (Took s t) q ih k =
        let j : l ∷ t ≡ e = cc in
        ap (λ b. nat_eq m l.label || b) (ih s t q m) ∙ (or_exchange (nat_eq m l.label) (nat_eq m n) (has_label t m) ∙ ap (λ x. nat_eq m n || has_label x m) j)

without_none : (n : ℕ) (d : List Labelled) → has_label d n ≡ false → without n (labels d) ≡ labels d
without_none n [] h = refl
without_none n (l ∷ ls) h =
    rw (or_off_left (nat_eq n l.label) (has_label ls n) h) (ap (λ xs. l.label ∷ xs) (without_none n ls (or_off_right (nat_eq n l.label) (has_label ls n) h)))

pub record Left (n : ℕ) (i e : List Labelled) : Type 0 where
  pub distinct : Distinct e
  pub gone : has_label e n ≡ false
  pub labels_left : without n (labels i) ≡ labels e

pub taken_distinct : (n : ℕ) (i : List Labelled) (r : Form) (e : List Labelled) → take_label n i ≡ Took r e → Distinct i → Left n i e
taken_distinct n [] r e k d = cc
taken_distinct n (l ∷ ls) r e k d = step (nat_eq n l.label) refl (take_label n ls) refl (λ r e q. taken_distinct n ls r e q d.1) k
  where
    step : (b : Bool) → nat_eq n l.label ≡ b → (o : Found) → take_label n ls ≡ o → ((r : Form) (e : List Labelled) → take_label n ls ≡ Took r e → Left n ls e)
        → (if b then Took l.clause ls else behind l o) ≡ Took r e → Left n (l ∷ ls) e
    step true f o q ih k =
        let j : ls ≡ e = cc in let g : has_label ls n ≡ false = subst (λ z. has_label ls z ≡ false) (sym (eqb-true n l.label f)) d.0 in
        subst (λ z. Left n (l ∷ ls) z) j (record { distinct = d.1; gone = g; labels_left = rw f (without_none n ls g) })
    step false f Missing q ih k = cc
    step false f (Took s t) q ih k =
        let j : l ∷ t ≡ e = cc in let h = ih s t q in
        subst (λ z. Left n (l ∷ ls) z) j (record {
          distinct = (or_off_right (nat_eq l.label n) (has_label t l.label) (sym (taken_has n ls s t q l.label) ∙ d.0), h.distinct);
          gone = rw f h.gone;
          labels_left = rw f (ap (λ xs. l.label ∷ xs) h.labels_left);
        })

with_takes : (m l e f : Bool) → ((m || l) || (e && f)) ≡ true → (l ≡ true → (m || e) ≡ true) → (m || e) ≡ true
with_takes true l e f h k = refl
with_takes false true e f h k = k refl
with_takes false false true f h k = refl
with_takes false false false f h k = h

with_takes_right : (m l e f : Bool) → ((m || l) || (e && f)) ≡ true → (m ≡ true → (l || f) ≡ true) → (l || f) ≡ true
with_takes_right m true e f h k = refl
with_takes_right true false e f h k = k refl
with_takes_right false false true f h k = h
with_takes_right false false false f h k = cc

off : (b : Bool) → (b ≡ true → false ≡ true) → b ≡ false
off true f = sym (f refl)
off false f = refl

sel_append : (q : ℕ → Bool) (d e : List Labelled) → sel q (d ++ e) ≡ sel q d ++ sel q e
sel_append q [] e = refl
sel_append q (l ∷ ls) e = step (q l.label) (sel_append q ls e)
  where
    step : (b : Bool) → sel q (ls ++ e) ≡ sel q ls ++ sel q e → cond b (l ∷ sel q (ls ++ e)) (sel q (ls ++ e)) ≡ cond b (l ∷ sel q ls) (sel q ls) ++ sel q e
    step true h = ap (λ xs. l ∷ xs) h
    step false h = h

-- a new label is selected too
module _ (p : ℕ → Bool) (n : ℕ) (r : Form) (i : List Labelled) (fresh : has_label i n ≡ false) where
  abbrev with_new : ℕ → Bool
  with_new m = p m || nat_eq m n

  other_than : (m : ℕ) → has_label i m ≡ true → nat_eq m n ≡ false
  other_than m h = ne_eqb m n (λ q. both_ways (has_label i m) (subst (λ z. has_label i z ≡ false) (sym q) fresh) h)

  sel_new : sel with_new (i ++ record { label = n; clause = r } ∷ []) ≡ sel p i ++ record { label = n; clause = r } ∷ []
  sel_new =
      sel_append with_new i (record { label = n; clause = r } ∷ [])
      ∙ joined (sel with_new i) (sel p i) (sel with_new (record { label = n; clause = r } ∷ [])) (record { label = n; clause = r } ∷ [])
      (sel_same with_new p i (λ m h. rw (other_than m h) (or-false (p m))))
      (rw (or_two (p n) (nat_eq n n) (eq-eqb n n refl)))
    where
      joined : (a b c d : List Labelled) → a ≡ b → c ≡ d → a ++ c ≡ b ++ d
      joined a b c d e f = cc

list_any_sel : (f : Form → Bool) (p : ℕ → Bool) (d : List Labelled) → list_any f (clauses d) ≡ false → list_any f (clauses (sel p d)) ≡ false
list_any_sel f p [] h = refl
list_any_sel f p (l ∷ ls) h = step (p l.label) (list_any_sel f p ls (or_off_right (f l.clause) (list_any f (clauses ls)) h))
  where
    step : (b : Bool) → list_any f (clauses (sel p ls)) ≡ false → list_any f (clauses (cond b (l ∷ sel p ls) (sel p ls))) ≡ false
    step true r = rw (or_off_left (f l.clause) (list_any f (clauses ls)) h) r
    step false r = r

new_sel : (k : ℕ) (g : Form) (c i : List Labelled) (p : ℕ → Bool) → list_any (form_has_eigen k) (g ∷ (clauses c ++ clauses i)) ≡ false
    → list_any (form_has_eigen k) (g ∷ (clauses c ++ clauses (sel p i))) ≡ false
new_sel k g c i p h =
    let f = form_has_eigen k in
    let h1 = or_off_left (f g) (list_any f (clauses c ++ clauses i)) h in
    let h2 = sym (list_any-append f (clauses c) (clauses i)) ∙ or_off_right (f g) (list_any f (clauses c ++ clauses i)) h in
    rw h1 (list_any-append f (clauses c) (clauses (sel p i))
    ∙ (ap (λ b. b || list_any f (clauses (sel p i))) (or_off_left (list_any f (clauses c)) (list_any f (clauses i)) h2)
    ∙ list_any_sel f p i (or_off_right (list_any f (clauses c)) (list_any f (clauses i)) h2)))

drop_first : (a u e : Bool) → a ≡ false → ((a || u) || e) ≡ true → (u || e) ≡ true
drop_first true u e h k = cc
drop_first false u e h k = k

-- the case of a loaded clause
module _ (p : ℕ → Bool) (n : ℕ) (r : Form) (x : Tree) (i : List Labelled) (ni : has_label i n ≡ false) (v : Covers p (LolliNode n x) i)
    (own : (uses n x || erases x) ≡ true) where
  lolli_covers : Covers (with_new p n r i ni) x (i ++ record { label = n; clause = r } ∷ [])
  lolli_covers = record {
    needs = λ m h u.
        or_split (has_label i m) (nat_eq m n || false) (sym (has_append i (record { label = n; clause = r } ∷ []) m) ∙ h)
        (λ k. or_one (p m) (nat_eq m n) (v.needs m k u)) (λ k. or_two (p m) (nat_eq m n) (sym (or-false (nat_eq m n)) ∙ k));
    takes = λ m h t.
        or_split (has_label i m) (nat_eq m n || false) (sym (has_append i (record { label = n; clause = r } ∷ []) m) ∙ h)
        (λ k. v.takes m k (sym (or-false (p m)) ∙ (ap (λ b. p m || b) (sym (other_than p n r i ni m k)) ∙ t)))
        (λ k. subst (λ z. (uses z x || erases x) ≡ true) (sym (eqb-true m n (sym (or-false (nat_eq m n)) ∙ k))) own);
  }

-- the case of a clause step
module _ (beside : Setting) (n k : ℕ) (ts : List Term) (ps : Parts) (c i : List Labelled) (b : Term) (a : Apart c i) (d : Distinct i) (p : ℕ
    → Bool) (v : Covers p (ClauseNode n k ts ps) i)
    (ih : (e : List Labelled) (gs : List Premise) → Apart c e → Distinct e → LazyParts beside ps c e gs → CoversParts p ps e
    → ShowsParts beside (deal_parts (labels (sel p e)) ps) c (sel p e) gs) where
  clause_dealt : Lazy beside (ClauseNode n k ts ps) c i (Atom b) → Shows beside (deal (labels (sel p i)) (ClauseNode n k ts ps)) c (sel p i) (Atom b)
  clause_dealt z = step (take_label n c) refl (take_label n i) refl z.3
    where
      step : (o : Found) → take_label n c ≡ o → (q : Found) → take_label n i ≡ q → pick_of i o q ≡ Took z.0 z.1
          → Shows beside (deal (labels (sel p i)) (ClauseNode n k ts ps)) c (sel p i) (Atom b)
      step (Took s f) x q y h =
          let e1 : s ≡ z.0 = cc in let e2 : z.1 ≡ i = cc in
          let nc : has_label c n ≡ true = taken_has n c s f x n ∙ or_one (nat_eq n n) (has_label f n) (eq-eqb n n refl) in
          let ni = a n nc in
          let parts = ih i z.2 a d (subst (λ w. LazyParts beside ps c w z.2) e2 z.6) (record {
            needs = λ m j u. v.needs m j (or_two (nat_eq m n) (uses_part m ps) u);
            takes = λ m j t. drop_first (nat_eq m n) (uses_part m ps) (erases_part ps) (other_than p n z.0 i ni m j) (v.takes m j t);
          }) in (
            z.0,
            sel p i,
            z.2,
            ap (λ o. pick_of (sel p i) o (take_label n (sel p i))) x ∙ ap (λ w. Took w (sel p i)) e1,
            z.4,
            z.5,
            subst (λ w. ShowsParts beside (deal_parts w ps) c (sel p i) z.2) (sym (without_none n (sel p i) (no_sel p i n ni))) parts,
          )
      step Missing x q y h =
          let t = y ∙ h in
          let has_m = taken_has n i z.0 z.1 t in
          let l = taken_distinct n i z.0 z.1 t d in
          let pn = v.needs n (has_m n ∙ or_one (nat_eq n n) (has_label z.1 n) (eq-eqb n n refl)) (or_one (nat_eq n n) (uses_part n ps) (eq-eqb n n refl)) in
          let u = taken_sel p n i z.0 z.1 pn t in
          let parts = ih z.1 z.2 (λ m j. or_off_right (nat_eq m n) (has_label z.1 m) (sym (has_m m) ∙ a m j)) l.distinct z.6 (record {
            needs = λ m j w. v.needs m (has_m m ∙ or_two (nat_eq m n) (has_label z.1 m) j) (or_two (nat_eq m n) (uses_part m ps) w);
            takes = λ m j w.
                drop_first (nat_eq m n) (uses_part m ps) (erases_part ps)
                (ne_eqb m n (λ o. both_ways (has_label z.1 m) (subst (λ g. has_label z.1 g ≡ false) (sym o) l.gone) j))
                (v.takes m (has_m m ∙ or_two (nat_eq m n) (has_label z.1 m) j) w);
          }) in (
            z.0,
            sel p z.1,
            z.2,
            ap (λ o. pick_of (sel p i) o (take_label n (sel p i))) x ∙ u,
            z.4,
            z.5,
            subst (λ w. ShowsParts beside (deal_parts w ps) c (sel p z.1) z.2)
                (sym (taken_distinct n (sel p i) z.0 (sel p z.1) u (distinct_sel p i d)).labels_left) parts,
          )

mutual
  pub dealt_shows : (beside : Setting) (x : Tree) (c i : List Labelled) (g : Form) → Apart c i → Distinct i → Lazy beside x c i g → (p : ℕ → Bool)
      → Covers p x i
      → Shows beside (deal (labels (sel p i)) x) c (sel p i) g
  dealt_shows beside OneNode c i One a s z p v = sel_none p i (λ n h. off (p n) (v.takes n h))
  dealt_shows beside EraseNode c i Top a s z p v = tt
  dealt_shows beside NumNode c i (Num r t u) a s z p v = (sel_none p i (λ n h. off (p n) (v.takes n h)), z)
  dealt_shows beside (TensorNode s t x y) c i (Tensor g k) a d z p v =
      let q : ℕ → Bool = λ n. goes_to (uses n x) (uses n y) (erases x) in
      let w = left_over (λ n. p n && not (q n)) x i (later_unused p x i (λ n. uses n y) (erases y) v.needs v.takes) in (
        twice_splits p q i,
        moved beside x c g (filter q (labels (sel p i))) (part (filter q (labels (sel p i))) (sel p i)) (sel (λ n. p n && q n) i) (twice_labels p q i)
            (twice_part p q i)
            (dealt_shows beside x c i g a d z.0 (λ n. p n && q n) (first_covers p x i (λ n. uses n y) (erases y) v.needs v.takes)),
        moved beside y c k (filter (λ n. not (q n)) (labels (sel p i))) (part (filter (λ n. not (q n)) (labels (sel p i))) (sel p i))
            (sel (λ n. p n && not (q n)) (unused x i))
            (twice_labels p (λ n. not (q n)) i ∙ ap labels w) (twice_part p (λ n. not (q n)) i ∙ w)
            (dealt_shows beside y c (unused x i) k (apart_sel c i (λ n. not (uses n x)) a) (distinct_sel (λ n. not (uses n x)) i d) z.1 (λ n. p n && not (q n))
            (record {
              needs = later_needs p x i (λ n. uses n y) (erases y) v.needs v.takes;
              takes =
                  later_takes p x i (λ n. uses n y) (erases y) v.needs v.takes;
            })),
      )
  dealt_shows beside (WithNode x y) c i (With g k) a d z p v = (
    dealt_shows beside x c i g a d z.0 p (record {
      needs = λ n h u. v.needs n h (or_one (uses n x) (uses n y) u);
      takes = λ n h t. with_takes (uses n x) (uses n y) (erases x) (erases y) (v.takes n h t) (z.2 n h).1;
    }),
    dealt_shows beside y c i k a d z.1 p (record {
      needs = λ n h u. v.needs n h (or_two (uses n x) (uses n y) u);
      takes = λ n h t. with_takes_right (uses n x) (uses n y) (erases x) (erases y) (v.takes n h t) (z.2 n h).0;
    }),
  )
  dealt_shows beside (LeftNode x) c i (Plus g k) a d z p v = dealt_shows beside x c i g a d z p (record { needs = v.needs; takes = v.takes })
  dealt_shows beside (RightNode x) c i (Plus g k) a d z p v = dealt_shows beside x c i k a d z p (record { needs = v.needs; takes = v.takes })
  dealt_shows beside (BangNode x) c i (Bang g) a d z p v =
      let e = sel_none p i (λ n h. off (p n) (v.takes n h)) in (
        e,
        subst (λ w. Shows beside (deal [] x) c w g) (sym e)
            (dealt_shows beside x c [] g (λ n k. refl) tt z p (record { needs = λ n h u. cc; takes = λ n h t. cc })),
      )
  dealt_shows beside (LolliNode n x) c i (Lolli r g) a d z p v =
      let nc = or_off_left (has_label c n) (has_label i n) z.0 in let ni = or_off_right (has_label c n) (has_label i n) z.0 in
      let new : List Labelled = i ++ record { label = n; clause = r } ∷ [] in
      let e = sel_new p n r i ni in (
        rw nc (no_sel p i n ni),
        moved beside x c g (labels (sel p i) ++ n ∷ []) (sel p i ++ record { label = n; clause = r } ∷ []) (sel (with_new p n r i ni) new)
            (sym (ap labels e ∙ map-append (λ l. l.label) (sel p i) (record { label = n; clause = r } ∷ []))) (sym e)
            (dealt_shows beside x c new g (apart_add c i n r a nc) (distinct_add i n r d ni) z.2 (with_new p n r i ni) (lolli_covers p n r x i ni v z.1)),
      )
  dealt_shows beside (ImpNode n x) c i (Imp r g) a d z p v =
      let nc = or_off_left (has_label c n) (has_label i n) z.0 in let ni = or_off_right (has_label c n) (has_label i n) z.0 in (
        rw nc (no_sel p i n ni),
        dealt_shows beside x (record { label = n; clause = r } ∷ c) i g (apart_free c i n r a ni) d z.1 p
            (record { needs = v.needs; takes = v.takes }),
      )
  dealt_shows beside (ForallNode k x) c i (Forall g) a d z p v =
      (new_sel k g c i p z.0, dealt_shows beside x c i (instantiate g (Con _)) a d z.1 p (record { needs = v.needs; takes = v.takes }))
  dealt_shows beside (ExistsNode t x) c i (Exists g) a d z p v =
      (z.0, dealt_shows beside x c i (instantiate g t) a d z.1 p (record { needs = v.needs; takes = v.takes }))
  dealt_shows beside (UseNode x) c i (Use k ts g) a d z p v =
      (z.0, z.1, dealt_shows beside x c i (unfold_load z.0 ts g) a d z.2 p (record { needs = v.needs; takes = v.takes }))
  dealt_shows beside (ClauseNode n k ts ps) c i (Atom b) a d z p v =
      clause_dealt beside n k ts ps c i b a d p v (λ e gs a' d' z' v'. dealt_parts beside ps c e gs a' d' z' p v') z
  dealt_shows beside _ c i _ a d z p v = absurd z

  pub dealt_parts : (beside : Setting) (ps : Parts) (c i : List Labelled) (gs : List Premise) → Apart c i → Distinct i → LazyParts beside ps c i gs
      → (p : ℕ → Bool) → CoversParts p ps i
      → ShowsParts beside (deal_parts (labels (sel p i)) ps) c (sel p i) gs
  dealt_parts beside NoParts c i [] a d z p v = sel_none p i (λ n h. off (p n) (v.takes n h))
  dealt_parts beside (BoundedPart s x ps) c i (Needs g ∷ gs) a d z p v =
      let q : ℕ → Bool = λ n. goes_to (uses n x) (uses_part n ps) (erases x) in
      let w = left_over (λ n. p n && not (q n)) x i (later_unused p x i (λ n. uses_part n ps) (erases_part ps) v.needs v.takes) in (
        rw (filter_labels q (sel p i)) (all_in_selected q (sel p i)),
        moved beside x c g (filter q (labels (sel p i))) (part (filter q (labels (sel p i))) (sel p i)) (sel (λ n. p n && q n) i) (twice_labels p q i)
            (twice_part p q i)
            (dealt_shows beside x c i g a d z.0 (λ n. p n && q n) (first_covers p x i (λ n. uses_part n ps) (erases_part ps) v.needs v.takes)),
        moved_parts beside ps c gs (filter (λ n. not (q n)) (labels (sel p i))) (rest (filter q (labels (sel p i))) (sel p i))
            (sel (λ n. p n && not (q n)) (unused x i))
            (twice_labels p (λ n. not (q n)) i ∙ ap labels w) (twice_rest p q i ∙ w)
            (dealt_parts beside ps c (unused x i) gs (apart_sel c i (λ n. not (uses n x)) a) (distinct_sel (λ n. not (uses n x)) i d) z.1
            (λ n. p n && not (q n))
            (record {
              needs = later_needs p x i (λ n. uses_part n ps) (erases_part ps) v.needs v.takes;
              takes =
                  later_takes p x i (λ n. uses_part n ps) (erases_part ps) v.needs v.takes;
            })),
      )
  dealt_parts beside (UnboundedPart x ps) c i (NeedsFree g ∷ gs) a d z p v = (
    dealt_shows beside x c [] (Bang g) (λ n k. refl) tt z.0 p (record { needs = λ n h u. cc; takes = λ n h t. cc }),
    dealt_parts beside ps c i gs a d z.1 p (record { needs = v.needs; takes = v.takes }),
  )
  dealt_parts beside _ c i _ a d z p v = absurd z
