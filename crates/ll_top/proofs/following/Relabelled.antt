-- Labelled maps whose labels rise: what is dealt out of their clauses is dealt out of their labels.
use Rattle.std.proofs.Common.{◌≡◌, ◌≤◌, ◌<◌, inl, inr, ℕ, suc, refl, ap, sym, subst, ◌∙◌, Bool, true, false, List, [], ◌∷◌, ◌++◌, map, arith}
use Rattle.std.specs.Prelude.{◌||◌, not, cond, nat_eq, if◌then◌else◌}
use Rattle.std.specs.List.{list_all}
use Rattle.std.proofs.lemmas.Bool.{eqb-true, ne_eqb, lt-ltb, and_from as and_intro}
use Rattle.std.proofs.Math.Bool.{or-true}
use Rattle.ll_list_laws.proofs.CallerLemmas.{eq-refl}
use Rattle.ll_bank.specs.Form.{Form}
use Rattle.ll_laws.specs.Derive.{Dealt, dealt_none, dealt_left, dealt_right}
use Rattle.ll_laws.specs.Shows.{Labelled, clauses, has, has_label, part, rest, one_of, all_in, splits, Missing, Took, behind, take_label}
use Rattle.ll_laws.specs.Line.{rises}
use Rattle.ll_laws.proofs.CallerLemmas.{Among, has_labels}

-- the labels of the map
abbrev pub labels : List Labelled → List ℕ
labels d = map (λ l. l.label) d

-- the labels rise strictly, from low on, and stay below high
abbrev pub Rises : ℕ → List Labelled → ℕ → Type 0
Rises low [] high = low ≤ high
Rises low (l ∷ ls) high = (low ≤ l.label) × Rises (suc l.label) ls high

-- no label comes twice
abbrev pub Apart : List Labelled → Type 0
Apart [] = Unit {0}
Apart (l ∷ ls) = (has_label ls l.label ≡ false) × Apart ls

pub rises_within : (low : ℕ) (ls : List Labelled) (high : ℕ) → Rises low ls high → low ≤ high
rises_within low [] high r = r
rises_within low (l ∷ ls) high r = let p = r.0 in let q = rises_within (suc l.label) ls high (r.1) in omega (arith, p, q)

pub rises_more : (low least : ℕ) (ls : List Labelled) (high : ℕ) → least ≤ low → Rises low ls high → Rises least ls high
rises_more low least [] high p r = omega (arith, p, r)
rises_more low least (l ∷ ls) high p r = (let q = r.0 in omega (arith, p, q), r.1)

pub rises_end : (low : ℕ) (ls : List Labelled) (high : ℕ) (r : Form) → Rises low ls high
    → Rises low (ls ++ record { label = high; clause = r } ∷ []) (suc high)
rises_end low [] high r h = (h, omega arith)
rises_end low (l ∷ ls) high r h = (h.0, rises_end (suc l.label) ls high r h.1)

-- labels below the first are none of the map's
pub not_below : (low : ℕ) (ls : List Labelled) (high n : ℕ) → Rises low ls high → n < low → has_label ls n ≡ false
not_below low [] high n r p = refl
not_below low (l ∷ ls) high n r p =
    let q = r.0 in
    ap (λ b. b || has_label ls n) (ne_eqb n l.label (λ e. omega (arith, e, p, q))) ∙ not_below (suc l.label) ls high n (r.1) (omega (arith, p, q))

pub below_high : (low : ℕ) (ls : List Labelled) (high n : ℕ) → Rises low ls high → has_label ls n ≡ true → n < high
below_high low [] high n r h = cc
below_high low (l ∷ ls) high n r h = step (nat_eq n l.label) refl h (below_high (suc l.label) ls high n (r.1))
  where
    step : (b : Bool) → nat_eq n l.label ≡ b → b || has_label ls n ≡ true → (has_label ls n ≡ true → n < high) → n < high
    step true e h go = let p = eqb-true n l.label e in let q = rises_within (suc l.label) ls high (r.1) in omega (arith, p, q)
    step false e h go = go h

pub rises_apart : (low : ℕ) (ls : List Labelled) (high : ℕ) → Rises low ls high → Apart ls
rises_apart low [] high r = tt
rises_apart low (l ∷ ls) high r = (not_below (suc l.label) ls high l.label (r.1) (omega arith), rises_apart (suc l.label) ls high (r.1))

pub labels_rise : (low : ℕ) (ls : List Labelled) (high : ℕ) → Rises low ls high → rises (labels ls) ≡ true
labels_rise low [] high r = refl
labels_rise low (l ∷ []) high r = refl
labels_rise low (l ∷ k ∷ ls) high r =
    let p = (r.1).0 in and_intro _ _ (lt-ltb l.label k.label (omega (arith, p))) (labels_rise (suc l.label) (k ∷ ls) high (r.1))

-- ---- dealing

pub dealt_swap : {A : Type 0} {xs ys zs : List A} → Dealt xs ys zs → Dealt ys xs zs
dealt_swap dealt_none = dealt_none
dealt_swap (dealt_left h) = dealt_right (dealt_swap h)
dealt_swap (dealt_right h) = dealt_left (dealt_swap h)

-- what is dealt to the first alone
dealt_whole : {A : Type 0} {xs ys zs : List A} → Dealt xs ys zs → xs ≡ [] → ys ≡ zs
dealt_whole dealt_none e = refl
dealt_whole (dealt_left h) e = cc
dealt_whole (dealt_right {x = y} h) e = ap (λ l. y ∷ l) (dealt_whole h e)

-- clauses of a map that are dealt out are dealt out with their labels
pub record Lifted (d : List Labelled) (xs ys : List Form) : Type 0 where
  pub first : List Labelled
  pub second : List Labelled
  pub dealt : Dealt first second d
  pub left : clauses first ≡ xs
  pub right : clauses second ≡ ys

pub lifted : (d : List Labelled) {xs ys zs : List Form} → Dealt xs ys zs → clauses d ≡ zs → Lifted d xs ys
lifted [] dealt_none e = record { first = []; second = []; dealt = dealt_none; left = refl; right = refl }
lifted [] (dealt_left h) e = cc
lifted [] (dealt_right h) e = cc
lifted (l ∷ ls) dealt_none e = cc
lifted (l ∷ ls) (dealt_left {x = x} {xs = xs} {zs = zs} h) e =
    let p : l.clause ≡ x = cc in let q : clauses ls ≡ zs = cc in
    let r = lifted ls h q in
    record {
      first = l ∷ r.first;
      second = r.second;
      dealt = dealt_left r.dealt;
      left = ap (λ y. y ∷ clauses r.first) p ∙ ap (λ ys. x ∷ ys) r.left;
      right = r.right;
    }
lifted (l ∷ ls) (dealt_right {x = x} {xs = xs} {zs = zs} h) e =
    let p : l.clause ≡ x = cc in let q : clauses ls ≡ zs = cc in
    let r = lifted ls h q in
    record {
      first = r.first;
      second = l ∷ r.second;
      dealt = dealt_right r.dealt;
      left = r.left;
      right = ap (λ y. y ∷ clauses r.second) p ∙ ap (λ ys. x ∷ ys) r.right;
    }

pub dealt_rises : (low high : ℕ) {xs ys zs : List Labelled} → Dealt xs ys zs → Rises low zs high → Rises low xs high
dealt_rises low high dealt_none r = r
dealt_rises low high (dealt_left {x = x} h) r = (r.0, dealt_rises (suc x.label) high h (r.1))
dealt_rises low high (dealt_right {x = x} {xs = xs} h) r =
    let p = r.0 in rises_more (suc x.label) low xs high (omega (arith, p)) (dealt_rises (suc x.label) high h (r.1))

-- each label of what is dealt is one of the map's
pub dealt_has : {xs ys zs : List Labelled} (n : ℕ) → Dealt xs ys zs → has_label xs n ≡ true → has_label zs n ≡ true
dealt_has n dealt_none h = h
dealt_has n (dealt_left {x = x} {xs = xs} {zs = zs} k) h = step (nat_eq n x.label) h (dealt_has n k)
  where
    step : (b : Bool) → b || has_label xs n ≡ true → (has_label xs n ≡ true → has_label zs n ≡ true) → b || has_label zs n ≡ true
    step true h go = refl
    step false h go = go h
dealt_has n (dealt_right {x = x} {zs = zs} k) h = ap (λ b. nat_eq n x.label || b) (dealt_has n k h) ∙ or-true (nat_eq n x.label)

pub dealt_all : {xs ys zs : List Labelled} (q : ℕ → Bool) → Dealt xs ys zs → ((n : ℕ) → has_label zs n ≡ true → q n ≡ true) → list_all q (labels xs) ≡ true
dealt_all q dealt_none f = refl
dealt_all q (dealt_left {x = x} {zs = zs} k) f =
    and_intro _ _ (f x.label (ap (λ b. b || has_label zs x.label) (eq-refl x.label)))
    (dealt_all q k (λ n h. f n (ap (λ b. nat_eq n x.label || b) h ∙ or-true (nat_eq n x.label))))
dealt_all q (dealt_right {x = x} k) f = dealt_all q k (λ n h. f n (ap (λ b. nat_eq n x.label || b) h ∙ or-true (nat_eq n x.label)))

-- ---- the parts of a map by their labels

-- from low on, the set has the labels of the map, and no others
abbrev Marks : ℕ → List ℕ → List Labelled → Type 0
Marks low s xs = (n : ℕ) → low ≤ n → has s n ≡ has_label xs n

marks_own : (low : ℕ) (s : List ℕ) (x : Labelled) (xs : List Labelled) → low ≤ x.label → Marks low s (x ∷ xs) → has s x.label ≡ true
marks_own low s x xs p f = f x.label p ∙ ap (λ b. b || has_label xs x.label) (eq-refl x.label)

marks_next : (low : ℕ) (s : List ℕ) (x : Labelled) (xs : List Labelled) → low ≤ x.label → Marks low s (x ∷ xs) → Marks (suc x.label) s xs
marks_next low s x xs p f n q = f n (omega (arith, p, q)) ∙ ap (λ b. b || has_label xs n) (ne_eqb n x.label (λ e. omega (arith, e, q)))

marks_none : (low : ℕ) (s : List ℕ) (x : Labelled) (xs : List Labelled) (high : ℕ) → low ≤ x.label → Rises (suc x.label) xs high → Marks low s xs
    → has s x.label ≡ false
marks_none low s x xs high p r f = f x.label p ∙ not_below (suc x.label) xs high x.label r (omega arith)

pub part_is : (s : List ℕ) (low high : ℕ) {xs ys zs : List Labelled} → Dealt xs ys zs → Rises low zs high → Marks low s xs
    → (part s zs ≡ xs) × (rest s zs ≡ ys)
part_is s low high dealt_none r f = (refl, refl)
part_is s low high (dealt_left {x = x} {xs = xs} {zs = zs} h) r f =
    let e = marks_own low s x xs (r.0) f in
    let i = part_is s (suc x.label) high h (r.1) (marks_next low s x xs (r.0) f) in
    (ap (λ b. cond b (x ∷ part s zs) (part s zs)) e ∙ ap (λ l. x ∷ l) (i.0), ap (λ b. cond (not b) (x ∷ rest s zs) (rest s zs)) e ∙ i.1)
part_is s low high (dealt_right {x = x} {xs = xs} {zs = zs} h) r f =
    let p = r.0 in
    let e = marks_none low s x xs high p (dealt_rises (suc x.label) high h (r.1)) f in
    let i = part_is s (suc x.label) high h (r.1) (λ n q. f n (omega (arith, p, q))) in
    (ap (λ b. cond b (x ∷ part s zs) (part s zs)) e ∙ i.0, ap (λ b. cond (not b) (x ∷ rest s zs) (rest s zs)) e ∙ ap (λ l. x ∷ l) (i.1))

each_once : (s t : List ℕ) (low high : ℕ) {xs ys zs : List Labelled} → Dealt xs ys zs → Rises low zs high → Marks low s xs → Marks low t ys
    → list_all (λ l. one_of (has s l.label) (has t l.label)) zs ≡ true
each_once s t low high dealt_none r f g = refl
each_once s t low high (dealt_left {x = x} {xs = xs} {ys = ys} h) r f g =
    let p = r.0 in
    let a = marks_own low s x xs p f in
    let b = marks_none low t x ys high p (dealt_rises (suc x.label) high (dealt_swap h) (r.1)) g in
    and_intro _ _ (ap (λ z. one_of z (has t x.label)) a ∙ ap not b)
    (each_once s t (suc x.label) high h (r.1) (marks_next low s x xs p f) (λ n q. g n (omega (arith, p, q))))
each_once s t low high (dealt_right {x = x} {xs = xs} {ys = ys} h) r f g =
    let p = r.0 in
    let a = marks_none low s x xs high p (dealt_rises (suc x.label) high h (r.1)) f in
    let b = marks_own low t x ys p g in
    and_intro _ _ (ap (λ z. one_of z (has t x.label)) a ∙ b)
    (each_once s t (suc x.label) high h (r.1) (λ n q. f n (omega (arith, p, q))) (marks_next low t x ys p g))

pub part_of : (low high : ℕ) {xs ys zs : List Labelled} → Dealt xs ys zs → Rises low zs high → (part (labels xs) zs ≡ xs) × (rest (labels xs) zs ≡ ys)
part_of low high {xs = xs} h r = part_is (labels xs) low high h r (λ n q. has_labels xs n)

pub all_in_map : {xs ys zs : List Labelled} → Dealt xs ys zs → all_in (labels xs) zs ≡ true
all_in_map {zs = zs} h = dealt_all (has_label zs) h (λ n k. k)

pub splits_in_two : (low high : ℕ) {xs ys zs : List Labelled} → Dealt xs ys zs → Rises low zs high → splits (labels xs) (labels ys) zs ≡ true
splits_in_two low high {xs = xs} {ys = ys} h r =
    and_intro _ _ (and_intro _ _ (all_in_map h) (all_in_map (dealt_swap h)))
    (each_once (labels xs) (labels ys) low high h r (λ n q. has_labels xs n) (λ n q. has_labels ys n))

-- ---- one clause by its label

pub take_one : (l : Labelled) (low high : ℕ) {xs ys zs : List Labelled} → Dealt xs ys zs → xs ≡ l ∷ [] → Rises low zs high
    → take_label l.label zs ≡ Took l.clause ys
take_one l low high dealt_none e r = cc
take_one l low high (dealt_left {x = x} {xs = xs} {ys = ys} {zs = zs} h) e r =
    let p : x ≡ l = cc in let q : xs ≡ [] = cc in
    ap (λ b. if b then Took x.clause zs else behind x (take_label l.label zs)) (ap (λ z. nat_eq l.label z.label) p ∙ eq-refl l.label)
    ∙ (ap (λ z. Took z.clause zs) p ∙ ap (Took l.clause) (sym (dealt_whole h q)))
take_one l low high (dealt_right {x = x} {xs = xs} {ys = ys} {zs = zs} h) e r =
    let w : Rises (suc x.label) (l ∷ []) high = subst (λ z. Rises (suc x.label) z high) e (dealt_rises (suc x.label) high h (r.1)) in
    let p = w.0 in
    ap (λ b. if b then Took x.clause zs else behind x (take_label l.label zs)) (ne_eqb l.label x.label (λ q. omega (arith, p, q)))
    ∙ ap (behind x) (take_one l (suc x.label) high h e (r.1))

-- a clause of a map, by its label
pub record Taken (c : List Labelled) (r : Form) : Type 0 where
  pub label : ℕ
  pub left : List Labelled
  pub takes : take_label label c ≡ Took r left
  pub has : has_label c label ≡ true

pub taken : (c : List Labelled) (r : Form) → Apart c → Among r (clauses c) → Taken c r
taken [] r a m = absurd m
taken (l ∷ ls) r a (inl e) = record {
  label = l.label;
  left = ls;
  takes = ap (λ b. if b then Took l.clause ls else behind l (take_label l.label ls)) (eq-refl l.label) ∙ ap (λ z. Took z ls) e;
  has = ap (λ b. b || has_label ls l.label) (eq-refl l.label);
}
taken (l ∷ ls) r a (inr m) =
    let t = taken ls r (a.1) m in record {
      label = t.label;
      left = l ∷ t.left;
      takes =
          ap (λ b. if b then Took l.clause ls else behind l (take_label t.label ls))
          (ne_eqb t.label l.label (λ e. let z : true ≡ false = sym t.has ∙ (ap (has_label ls) e ∙ a.0) in cc))
          ∙ ap (behind l) t.takes;
      has = ap (λ b. nat_eq t.label l.label || b) t.has ∙ or-true (nat_eq t.label l.label);
    }
