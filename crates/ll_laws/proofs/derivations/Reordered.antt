-- The order of the bounded clauses plays no part in what a tree with leftovers shows.
use Rattle.std.proofs.Common.{◌≡◌, ℕ, refl, ap, sym, subst, ◌∙◌, Bool, true, false, List, [], ◌∷◌, ◌++◌, nat_eq, cond}
use Rattle.std.specs.Prelude.{filter, ◌||◌, not, if◌then◌else◌}
use Rattle.std.specs.List.{list_any}
use Rattle.std.proofs.lemmas.Bool.{eqb-true, eq-eqb, both_ways}
use Rattle.std.proofs.lemmas.List.Folds.{list_any-append}
use Rattle.ll_list_laws.proofs.CallerLemmas.{or_false_right as or_off_right, or_exchange}
use Rattle.ll_bank.specs.Form.{Form, Top, One, Atom, With, Tensor, Plus, Bang, Lolli, Imp, Forall, Exists, Use, instantiate, form_has_eigen, Num}
use Rattle.ll_laws.specs.Leaf.{Premise, Needs, NeedsFree}
use Rattle.ll_laws.specs.Module.{Setting, unfold_load}
use Rattle.ll_laws.specs.Derive.{IsNew}
use Rattle.ll_laws.specs.Shows.{Tree, OneNode, EraseNode, TensorNode, WithNode, LeftNode, RightNode, BangNode, LolliNode, ImpNode, ForallNode, ExistsNode}
use Rattle.ll_laws.specs.Shows.{UseNode, ClauseNode, Parts, NoParts, BoundedPart, UnboundedPart, Labelled, clauses, has_label, Found, Missing, Took, behind}
use Rattle.ll_laws.specs.Shows.{take_label, pick, pick_of, NumNode}
use Rattle.ll_laws.specs.Dealing.{uses}
use Rattle.ll_laws.specs.Lazy.{Lazy, LazyParts, Agree}
use Rattle.ll_laws.proofs.derivations.Dealing.{Distinct, distinct_sel, distinct_add, taken_distinct}

-- the second list has the clauses of the first, in any order
pub data Reordered : List Labelled → List Labelled → Type 0 where
  no_clause : Reordered [] []
  same_first : {l : Labelled} {i j : List Labelled} → Reordered i j → Reordered (l ∷ i) (l ∷ j)
  exchanged : {k l : Labelled} {i : List Labelled} → Reordered (k ∷ l ∷ i) (l ∷ k ∷ i)
  both_orders : {i j k : List Labelled} → Reordered i j → Reordered j k → Reordered i k

pub same_order : (i : List Labelled) → Reordered i i
same_order [] = no_clause
same_order (l ∷ i) = same_first (same_order i)

pub orders_back : {i j : List Labelled} → Reordered i j → Reordered j i
orders_back no_clause = no_clause
orders_back (same_first r) = same_first (orders_back r)
orders_back exchanged = exchanged
orders_back (both_orders r s) = both_orders (orders_back s) (orders_back r)

-- a test that some clause passes
any_same : (f : Labelled → Bool) {i j : List Labelled} → Reordered i j → list_any f i ≡ list_any f j
any_same f no_clause = refl
any_same f (same_first {l = l} r) = ap (λ b. f l || b) (any_same f r)
any_same f (exchanged {k = k} {l = l} {i = i}) = or_exchange (f k) (f l) (list_any f i)
any_same f (both_orders r s) = any_same f r ∙ any_same f s

pub has_same : {i j : List Labelled} → Reordered i j → (n : ℕ) → has_label i n ≡ has_label j n
has_same r n = any_same (λ l. nat_eq n l.label) r

any_clauses : (p : Form → Bool) (i : List Labelled) → list_any p (clauses i) ≡ list_any (λ l. p l.clause) i
any_clauses p [] = refl
any_clauses p (l ∷ i) = ap (λ b. p l.clause || b) (any_clauses p i)

new_same : (k : ℕ) (g : Form) (c : List Labelled) {i j : List Labelled} → Reordered i j → IsNew k (g ∷ (clauses c ++ clauses i))
    → IsNew k (g ∷ (clauses c ++ clauses j))
new_same k g c {i = i} {j = j} r h =
    let p : Form → Bool = form_has_eigen k in
    let e : list_any p (clauses i) ≡ list_any p (clauses j) = any_clauses p i ∙ (any_same (λ l. p l.clause) r ∙ sym (any_clauses p j)) in
    ap (λ b. p g || b) (list_any-append p (clauses c) (clauses j)
    ∙ (ap (λ b. list_any p (clauses c) || b) (sym e) ∙ sym (list_any-append p (clauses c) (clauses i)))) ∙ h

filter_same : (p : Labelled → Bool) {i j : List Labelled} → Reordered i j → Reordered (filter p i) (filter p j)
filter_same p no_clause = no_clause
filter_same p (same_first {l = l} {i = i} {j = j} r) = step (p l) (filter_same p r)
  where
    step : (b : Bool) → Reordered (filter p i) (filter p j) → Reordered (cond b (l ∷ filter p i) (filter p i)) (cond b (l ∷ filter p j) (filter p j))
    step true h = same_first h
    step false h = h
filter_same p (exchanged {k = k} {l = l} {i = i}) = step (p k) (p l)
  where
    step : (a b : Bool) → Reordered (cond a (k ∷ cond b (l ∷ filter p i) (filter p i)) (cond b (l ∷ filter p i) (filter p i)))
        (cond b (l ∷ cond a (k ∷ filter p i) (filter p i)) (cond a (k ∷ filter p i) (filter p i)))
    step true true = exchanged
    step true false = same_order (k ∷ filter p i)
    step false true = same_order (l ∷ filter p i)
    step false false = same_order (filter p i)
filter_same p (both_orders r s) = both_orders (filter_same p r) (filter_same p s)

append_same : (e : List Labelled) {i j : List Labelled} → Reordered i j → Reordered (i ++ e) (j ++ e)
append_same e no_clause = same_order e
append_same e (same_first r) = same_first (append_same e r)
append_same e exchanged = exchanged
append_same e (both_orders r s) = both_orders (append_same e r) (append_same e s)

-- the last clause in front
pub to_front : (i : List Labelled) (l : Labelled) → Reordered (i ++ l ∷ []) (l ∷ i)
to_front [] l = same_order (l ∷ [])
to_front (k ∷ i) l = both_orders (same_first (to_front i l)) exchanged

pub distinct_same : {i j : List Labelled} → Reordered i j → Distinct i → Distinct j
distinct_same no_clause d = d
distinct_same (same_first {l = l} {i = i} {j = j} r) d = (sym (has_same r l.label) ∙ d.0, distinct_same r d.1)
distinct_same (exchanged {k = k} {l = l} {i = i}) d = first (nat_eq k.label l.label) refl d.0
  where
    first : (b : Bool) → nat_eq k.label l.label ≡ b → b || has_label i k.label ≡ false → Distinct (l ∷ k ∷ i)
    first true q h = cc
    first false q h = (ap (λ b. b || has_label i l.label) (turned q) ∙ d.1.0, (h, d.1.1))
      where
        turned : nat_eq k.label l.label ≡ false → nat_eq l.label k.label ≡ false
        turned q = other (nat_eq l.label k.label) refl
          where
            other : (b : Bool) → nat_eq l.label k.label ≡ b → b ≡ false
            other true w = sym (eq-eqb k.label l.label (sym (eqb-true l.label k.label w))) ∙ q
            other false w = refl
distinct_same (both_orders r s) d = distinct_same s (distinct_same r d)

-- a clause that was taken out of both, with what is left of the second
record TakesLabelled (n : ℕ) (r : Form) (e j : List Labelled) : Type 0 where
  left : List Labelled
  takes : take_label n j ≡ Took r left
  same : Reordered e left

take_same : (n : ℕ) {i j : List Labelled} → Reordered i j → Distinct i → (r : Form) (e : List Labelled) → take_label n i ≡ Took r e → TakesLabelled n r e j
take_same n no_clause d r e h = cc
take_same n (same_first {l = l} {i = i} {j = j} p) d r e h = step (nat_eq n l.label) refl (take_label n i) refl (λ s t w. take_same n p d.1 s t w) h
  where
    step : (b : Bool) → nat_eq n l.label ≡ b → (o : Found) → take_label n i ≡ o
        → ((s : Form) (t : List Labelled) → take_label n i ≡ Took s t → TakesLabelled n s t j)
        → (if b then Took l.clause i else behind l o) ≡ Took r e → TakesLabelled n r e (l ∷ j)
    step true q o w go h =
        let a : l.clause ≡ r = cc in let b : i ≡ e = cc in
        record { left = j; takes = rw q (ap (λ c. Took c j) a); same = subst (λ z. Reordered z j) b p }
    step false q Missing w go h = cc
    step false q (Took s t) w go h =
        let a : s ≡ r = cc in let b : l ∷ t ≡ e = cc in let g = go s t w in
        record {
          left = l ∷ g.left;
          takes = rw q (ap (behind l) g.takes ∙ ap (λ c. Took c (l ∷ g.left)) a);
          same =
              subst (λ z. Reordered z (l ∷ g.left)) b (same_first g.same);
        }
take_same n (exchanged {k = k} {l = l} {i = i}) d r e h = step (nat_eq n k.label) refl (nat_eq n l.label) refl (take_label n i) refl h
  where
    step : (a : Bool) → nat_eq n k.label ≡ a → (b : Bool) → nat_eq n l.label ≡ b → (o : Found) → take_label n i ≡ o
        → (if a then Took k.clause (l ∷ i) else behind k (if b then Took l.clause i else behind l o)) ≡ Took r e → TakesLabelled n r e (l ∷ k ∷ i)
    step true p true q o w h =
        let m : k.label ≡ l.label = sym (eqb-true n k.label p) ∙ eqb-true n l.label q in
        absurd (both_ways (nat_eq k.label l.label || has_label i k.label) d.0 (ap (λ b. b || has_label i k.label) (eq-eqb k.label l.label m)))
    step true p false q o w h =
        let a : k.clause ≡ r = cc in let b : l ∷ i ≡ e = cc in
        record { left = l ∷ i; takes = rw q (rw p (ap (λ c. Took c (l ∷ i)) a)); same = subst (λ z. Reordered z (l ∷ i)) b (same_order (l ∷ i)) }
    step false p true q o w h =
        let a : l.clause ≡ r = cc in let b : k ∷ i ≡ e = cc in
        record { left = k ∷ i; takes = rw q (ap (λ c. Took c (k ∷ i)) a); same = subst (λ z. Reordered z (k ∷ i)) b (same_order (k ∷ i)) }
    step false p false q Missing w h = cc
    step false p false q (Took s t) w h =
        let a : s ≡ r = cc in let b : k ∷ l ∷ t ≡ e = cc in
        record {
          left = l ∷ k ∷ t;
          takes = rw q (rw p (ap (λ o. behind l (behind k o)) w ∙ ap (λ c. Took c (l ∷ k ∷ t)) a));
          same =
              subst (λ z. Reordered z (l ∷ k ∷ t)) b exchanged;
        }
take_same n (both_orders {j = j} p q) d r e h =
    let g = take_same n p d r e h in let f = take_same n q (distinct_same p d) r g.left g.takes in
    record { left = f.left; takes = f.takes; same = both_orders g.same f.same }

-- what was picked from both
record Picks (n : ℕ) (r : Form) (c e j : List Labelled) : Type 0 where
  left : List Labelled
  picks : pick n c j ≡ Took r left
  same : Reordered e left
  distinct : Distinct e

pick_same : (n : ℕ) (c : List Labelled) {i j : List Labelled} → Reordered i j → Distinct i → (r : Form) (e : List Labelled) → pick n c i ≡ Took r e
    → Picks n r c e j
pick_same n c {i = i} {j = j} p d r e h = step (take_label n c) refl h
  where
    step : (o : Found) → take_label n c ≡ o → pick_of i o (take_label n i) ≡ Took r e → Picks n r c e j
    step (Took s t) q h =
        let a : s ≡ r = cc in let b : i ≡ e = cc in
        record {
          left = j;
          picks = ap (λ o. pick_of j o (take_label n j)) q ∙ ap (λ f. Took f j) a;
          same = subst (λ z. Reordered z j) b p;
          distinct =
              subst Distinct b d;
        }
    step Missing q h =
        let g = take_same n p d r e h in
        record { left = g.left; picks = ap (λ o. pick_of j o (take_label n j)) q ∙ g.takes; same = g.same; distinct = (taken_distinct n i r e h d).distinct }

agree_same : (x y : Tree) {i j : List Labelled} → Reordered i j → Agree x y i → Agree x y j
agree_same x y r a n h = a n (has_same r n ∙ h)

mutual
  pub lazy_same : (beside : Setting) (x : Tree) (c : List Labelled) {i j : List Labelled} (g : Form) → Reordered i j → Distinct i → Lazy beside x c i g
      → Lazy beside x c j g
  lazy_same beside OneNode c One r d z = tt
  lazy_same beside EraseNode c Top r d z = tt
  lazy_same beside NumNode c (Num k t u) r d z = z
  lazy_same beside (TensorNode s t x y) c {i = i} (Tensor g k) r d z =
      (lazy_same beside x c g r d z.0, lazy_same beside y c k (filter_same (λ l. not (uses l.label x)) r) (distinct_sel (λ n. not (uses n x)) i d) z.1)
  lazy_same beside (WithNode x y) c (With g k) r d z = (lazy_same beside x c g r d z.0, lazy_same beside y c k r d z.1, agree_same x y r z.2)
  lazy_same beside (LeftNode x) c (Plus g k) r d z = lazy_same beside x c g r d z
  lazy_same beside (RightNode x) c (Plus g k) r d z = lazy_same beside x c k r d z
  lazy_same beside (BangNode x) c (Bang g) r d z = z
  lazy_same beside (LolliNode n x) c {i = i} (Lolli f g) r d z = (
    ap (λ b. has_label c n || b) (sym (has_same r n)) ∙ z.0,
    z.1,
    lazy_same beside x c g (append_same (record { label = n; clause = f } ∷ []) r) (distinct_add i n f d (or_off_right (has_label c n) (has_label i n) z.0))
        z.2,
  )
  lazy_same beside (ImpNode n x) c (Imp f g) r d z = (
    ap (λ b. has_label c n || b) (sym (has_same r n)) ∙ z.0,
    lazy_same beside x (record { label = n; clause = f } ∷ c) g r d z.1,
  )
  lazy_same beside (ForallNode k x) c (Forall g) r d z = (new_same k g c r z.0, lazy_same beside x c (instantiate g _) r d z.1)
  lazy_same beside (ExistsNode t x) c (Exists g) r d z = (z.0, lazy_same beside x c (instantiate g t) r d z.1)
  lazy_same beside (UseNode x) c (Use k ts g) r d z = (z.0, z.1, lazy_same beside x c (unfold_load z.0 ts g) r d z.2)
  lazy_same beside (ClauseNode n k ts ps) c (Atom a) r d z =
      let p = pick_same n c r d z.0 z.1 z.3 in (z.0, p.left, z.2, p.picks, z.4, z.5, parts_same beside ps c z.2 p.same p.distinct z.6)
  lazy_same beside _ c _ r d z = absurd z

  parts_same : (beside : Setting) (ps : Parts) (c : List Labelled) {i j : List Labelled} (gs : List Premise) → Reordered i j → Distinct i
      → LazyParts beside ps c i gs → LazyParts beside ps c j gs
  parts_same beside NoParts c [] r d z = tt
  parts_same beside (BoundedPart s x ps) c {i = i} (Needs g ∷ gs) r d z =
      (lazy_same beside x c g r d z.0, parts_same beside ps c gs (filter_same (λ l. not (uses l.label x)) r) (distinct_sel (λ n. not (uses n x)) i d) z.1)
  parts_same beside (UnboundedPart x ps) c (NeedsFree g ∷ gs) r d z = (z.0, parts_same beside ps c gs r d z.1)
  parts_same beside _ c _ r d z = absurd z
