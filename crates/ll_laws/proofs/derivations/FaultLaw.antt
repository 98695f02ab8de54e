-- The checker finds no fault exactly where the tree shows the goal.
use Rattle.std.proofs.Common.{◌≡◌, ◌<◌, ℕ, zero, suc, ◌+◌, refl, ap, ◌∙◌, Bool, true, false, List, [], ◌∷◌, ◌++◌, length, arith}
use Rattle.std.specs.Prelude.{◌&&◌, ◌||◌, not, if◌then◌else◌, nat_lt, Option, Some, None, slice_get}
use Rattle.std.specs.List.{list_any}
use Rattle.std.proofs.lemmas.Bool.{eqb-true, eq-eqb, lt-ltb, not_from_false}
use Rattle.std.proofs.lemmas.Bool.Decides.{Decides-int_eq}
use Rattle.ll_list_laws.proofs.CallerLemmas.{false_from_not as not-true, and_true_left as and_one, and_true_right as and_two, slice_get-inside as slice_at}
use Rattle.ll_bank.specs.declared.Head.TheVariants.{Eigen}
use Rattle.ll_bank.specs.Term.{Term, Var, Int, Con, Ap}
use Rattle.ll_bank.specs.Form.{Form, Top, One, Atom, With, Tensor, Plus, Bang, Lolli, Imp, Forall, Exists, Use, instantiate, form_has_eigen, Num}
use Rattle.ll_laws.specs.Leaf.{Premise, Needs, NeedsFree, Leaf, ways, leaf}
use Rattle.ll_laws.specs.Module.{Setting, ModuleTree, unfold_load}
use Rattle.ll_laws.specs.Shows.{Tree, OneNode, EraseNode, TensorNode, WithNode, LeftNode, RightNode, BangNode, LolliNode, ImpNode, ForallNode, ExistsNode}
use Rattle.ll_laws.specs.Shows.{UseNode, ClauseNode, Parts, NoParts, BoundedPart, UnboundedPart, nodes, part_nodes, Labelled, clauses, has_label, part, rest}
use Rattle.ll_laws.specs.Shows.{splits, all_in, Found, Missing, Took, pick, Shows, ShowsParts, HasClosedTerms, HaveClosedTerms, NumNode}
use Rattle.ll_laws.specs.Fault.{Checked, Fits, Fault, then_check, unless, is_empty, term_eq, parts_fit, parts_deal, Wrong, Right, judge_leaf, judge_clause}
use Rattle.ll_laws.specs.Fault.{on_judged, on_module, fault, fault_parts}
use Rattle.ll_laws.proofs.unification.UnifyLaws.{head_eq-true, head_eq-refl}
use Rattle.ll_laws.proofs.search.LeafWays.{leaf_ways}
use Rattle.ll_laws.specs.Number.{holds}

pub term_eq-true : (t u : Term) → term_eq t u ≡ true → t ≡ u
term_eq-true (Var x) (Var y) h = ap Var (eqb-true x y h)
term_eq-true (Int x) (Int y) h = ap Int ((Decides-int_eq x y).0 h)
term_eq-true (Con x) (Con y) h = ap Con (head_eq-true x y h)
term_eq-true (Ap f a) (Ap g b) h =
    let i = term_eq-true f g (and_one (term_eq f g) (term_eq a b) h) in let j = term_eq-true a b (and_two (term_eq f g) (term_eq a b) h) in cc
term_eq-true _ _ h = cc

pub term_eq-refl : (t : Term) → term_eq t t ≡ true
term_eq-refl (Var x) = eq-eqb x x refl
term_eq-refl (Int x) = (Decides-int_eq x x).1 refl
term_eq-refl (Con x) = head_eq-refl x
term_eq-refl (Ap f a) = rw (term_eq-refl f) (term_eq-refl a)

record Passed (ok : Bool) (c : Checked) (m : ℕ) : Type 0 where
  holds : ok ≡ true
  goes : c ≡ Fits m

passed : (ok : Bool) (k r : ℕ) (c : Checked) (m : ℕ) → unless ok k r c ≡ Fits m → Passed ok c m
passed true k r c m h = record { holds = refl; goes = h }
passed false k r c m h = cc

record Went (a : Checked) (go : ℕ → Checked) (m : ℕ) : Type 0 where
  to : ℕ
  first : a ≡ Fits to
  then_on : go to ≡ Fits m

went : (a : Checked) (go : ℕ → Checked) (m : ℕ) → then_check a go ≡ Fits m → Went a go m
went (Fits k) go m h = record { to = k; first = refl; then_on = h }
went (Fault k r) go m h = cc

empty : (d : List Labelled) → is_empty d ≡ true → d ≡ []
empty [] h = refl
empty (l ∷ ls) h = cc

-- what a clause node that is right has
record Judge (a : Term) (k : ℕ) (ts : List Term) (ps : Parts) (f : Found) (go : List Premise → List Labelled → Checked) (m : ℕ) : Type 0 where
  clause : Form
  left : List Labelled
  premises : List Premise
  found : f ≡ Took clause left
  leaf_is : leaf clause k ts ≡ Some (record { premises = premises; head = a })
  fit : parts_fit ps premises ≡ true
  deal : parts_deal ps left ≡ true
  goes : go premises left ≡ Fits m

judged : (a : Term) (k : ℕ) (ts : List Term) (ps : Parts) (f : Found) (j : ℕ) (go : List Premise → List Labelled → Checked) (m : ℕ)
    → on_judged (judge_clause a k ts ps f) j go ≡ Fits m
    → Judge a k ts ps f go m
judged a k ts ps Missing j go m h = cc
judged a k ts ps (Took r e) j go m h = step (nat_lt k (length (ways r))) (leaf r k ts) refl h
  where
    step_l : (l : Leaf) → leaf r k ts ≡ Some l → (b : Bool) → term_eq l.head a ≡ b → (c : Bool) → parts_fit ps l.premises ≡ c → (d : Bool) → parts_deal ps e ≡ d
        → on_judged (if b then (if c then (if d then Right l.premises e else Wrong 3) else Wrong 8) else Wrong 7) j go ≡ Fits m
        → Judge a k ts ps (Took r e) go m
    step_l l q true t true f true d h = record {
      clause = r;
      left = e;
      premises = l.premises;
      found = refl;
      leaf_is = q ∙ ap (λ z. Some (record { premises = l.premises; head = z })) (term_eq-true l.head a t);
      fit = f;
      deal = d;
      goes = h;
    }
    step_l l q true t true f false d h = cc
    step_l l q true t false f d g h = cc
    step_l l q false t c f d g h = cc

    step : (b : Bool) (o : Option Leaf) → leaf r k ts ≡ o → on_judged (if b then judge_leaf a ps e o else Wrong 5) j go ≡ Fits m
        → Judge a k ts ps (Took r e) go m
    step false o q h = cc
    step true None q h = cc
    step true (Some l) q h = step_l l q (term_eq l.head a) refl (parts_fit ps l.premises) refl (parts_deal ps e) refl h

use_shows : (beside : Setting) (k : ℕ) (x : Tree) (c d : List Labelled) (n : ℕ) (ts : List Term) (g : Form) (m : ℕ) (o : Option ModuleTree)
    → slice_get beside.modules n ≡ o
    → on_module o k (λ l. fault beside (suc k) x c d (unfold_load l ts g)) ≡ Fits m
    → ((l : ModuleTree) → fault beside (suc k) x c d (unfold_load l ts g) ≡ Fits m → Shows beside x c d (unfold_load l ts g))
    → Shows beside (UseNode x) c d (Use n ts g)
use_shows beside k x c d n ts g m None q h ih = cc
use_shows beside k x c d n ts g m (Some l) q h ih = (l, q, ih l h)

mutual
  pub yes_shows : (beside : Setting) (k : ℕ) (x : Tree) (c d : List Labelled) (g : Form) (m : ℕ) → HasClosedTerms x → fault beside k x c d g ≡ Fits m
      → Shows beside x c d g
  yes_shows beside k OneNode c d One m z h = let p = passed (is_empty d) k 2 _ m h in empty d p.holds
  yes_shows beside k EraseNode c d Top m z h = tt
  yes_shows beside k NumNode c d (Num r t u) m z h =
      let p = passed (is_empty d) k 2 _ m h in let q = passed (holds beside.operators r t u) k 12 _ m p.goes in (empty d p.holds, q.holds)
  yes_shows beside k (TensorNode s t x y) c d (Tensor g f) m z h =
      let p = passed (splits s t d) k 3 _ m h in let w = went _ _ m p.goes in
      (p.holds, yes_shows beside (suc k) x c (part s d) g w.to z.0 w.first, yes_shows beside w.to y c (part t d) f m z.1 w.then_on)
  yes_shows beside k (WithNode x y) c d (With g f) m z h =
      let w = went _ _ m h in (yes_shows beside (suc k) x c d g w.to z.0 w.first, yes_shows beside w.to y c d f m z.1 w.then_on)
  yes_shows beside k (LeftNode x) c d (Plus g f) m z h = yes_shows beside (suc k) x c d g m z h
  yes_shows beside k (RightNode x) c d (Plus g f) m z h = yes_shows beside (suc k) x c d f m z h
  yes_shows beside k (BangNode x) c d (Bang g) m z h = let p = passed (is_empty d) k 2 _ m h in (empty d p.holds, yes_shows beside (suc k) x c d g m z p.goes)
  yes_shows beside k (LolliNode n x) c d (Lolli r g) m z h =
      let p = passed (not (has_label c n || has_label d n)) k 9 _ m h in
      (not-true (has_label c n || has_label d n) p.holds, yes_shows beside (suc k) x c (d ++ record { label = n; clause = r } ∷ []) g m z p.goes)
  yes_shows beside k (ImpNode n x) c d (Imp r g) m z h =
      let p = passed (not (has_label c n || has_label d n)) k 9 _ m h in
      (not-true (has_label c n || has_label d n) p.holds, yes_shows beside (suc k) x (record { label = n; clause = r } ∷ c) d g m z p.goes)
  yes_shows beside k (ForallNode e x) c d (Forall g) m z h =
      let p = passed (not (list_any (form_has_eigen e) (g ∷ (clauses c ++ clauses d)))) k 10 _ m h in
      (not-true _ p.holds, yes_shows beside (suc k) x c d (instantiate g (Con (Eigen e))) m z p.goes)
  yes_shows beside k (ExistsNode t x) c d (Exists g) m z h = (z.0, yes_shows beside (suc k) x c d (instantiate g t) m z.1 h)
  yes_shows beside k (UseNode x) c d (Use n ts g) m z h = use_shows beside k x c d n ts g m (slice_get beside.modules n) refl h
      (λ l q. yes_shows beside (suc k) x c d (unfold_load l ts g) m z q)
  yes_shows beside k (ClauseNode n j ts ps) c d (Atom a) m z h =
      let w = judged a j ts ps (pick n c d) k _ m h in
      (w.clause, w.left, w.premises, w.found, z.0, w.leaf_is, yes_parts beside (suc k) ps c w.left w.premises m z.1 w.fit w.deal w.goes)
  yes_shows beside k _ c d _ m z h = cc

  pub yes_parts : (beside : Setting) (k : ℕ) (ps : Parts) (c d : List Labelled) (gs : List Premise) (m : ℕ) → HaveClosedTerms ps → parts_fit ps gs ≡ true
      → parts_deal ps d ≡ true
      → fault_parts beside k ps c d gs ≡ Fits m → ShowsParts beside ps c d gs
  yes_parts beside k NoParts c d [] m z f e h = empty d e
  yes_parts beside k (BoundedPart s x ps) c d (Needs g ∷ gs) m z f e h =
      let w = went _ _ m h in (
        and_one (all_in s d) (parts_deal ps (rest s d)) e,
        yes_shows beside k x c (part s d) g w.to z.0 w.first,
        yes_parts beside w.to ps c (rest s d) gs m z.1 f (and_two (all_in s d) (parts_deal ps (rest s d)) e) w.then_on,
      )
  yes_parts beside k (UnboundedPart x ps) c d (NeedsFree g ∷ gs) m z f e h =
      let w = went _ _ m h in (yes_shows beside k x c [] (Bang g) w.to z.0 w.first, yes_parts beside w.to ps c d gs m z.1 f e w.then_on)
  yes_parts beside k _ c d _ m z f e h = cc

passes : (ok : Bool) (k r : ℕ) (c : Checked) → ok ≡ true → unless ok k r c ≡ c
passes true k r c h = refl
passes false k r c h = cc

no_more : (d : List Labelled) → d ≡ [] → is_empty d ≡ true
no_more [] h = refl
no_more (l ∷ ls) h = cc

-- one check after another
chain : (a : Checked) (go : ℕ → Checked) (j m : ℕ) → a ≡ Fits j → go j ≡ Fits m → then_check a go ≡ Fits m
chain a go j m h k = ap (λ z. then_check z go) h ∙ k

to : (m n : ℕ) → m ≡ n → Fits m ≡ Fits n
to m n h = ap Fits h

fits_parts : (beside : Setting) (ps : Parts) (c d : List Labelled) (gs : List Premise) → ShowsParts beside ps c d gs
    → (parts_fit ps gs ≡ true) × (parts_deal ps d ≡ true)
fits_parts beside NoParts c d [] h = (refl, no_more d h)
fits_parts beside (BoundedPart s x ps) c d (Needs g ∷ gs) h = let r = fits_parts beside ps c (rest s d) gs h.2 in (r.0, rw h.0 r.1)
fits_parts beside (UnboundedPart x ps) c d (NeedsFree g ∷ gs) h = fits_parts beside ps c d gs h.1
fits_parts beside _ c d _ h = absurd h

judges : (a : Term) (k : ℕ) (ts : List Term) (ps : Parts) (r : Form) (e : List Labelled) (gs : List Premise)
    → leaf r k ts ≡ Some (record { premises = gs; head = a })
    → parts_fit ps gs ≡ true → parts_deal ps e ≡ true → judge_clause a k ts ps (Took r e) ≡ Right gs e
judges a k ts ps r e gs l f d =
    let n = slice_at (ways r) k (length ts) (leaf_ways [] r k ts _ l) in
    rw (lt-ltb k (length (ways r)) n) (ap (judge_leaf a ps e) l ∙ rw (term_eq-refl a) (rw f (rw d)))

mutual
  pub shows_yes : (beside : Setting) (k : ℕ) (x : Tree) (c d : List Labelled) (g : Form) → Shows beside x c d g → fault beside k x c d g ≡ Fits (k + nodes x)
  shows_yes beside k OneNode c d One h = passes (is_empty d) k 2 _ (no_more d h) ∙ to _ _ (omega arith)
  shows_yes beside k EraseNode c d Top h = to _ _ (omega arith)
  shows_yes beside k NumNode c d (Num r t u) h =
      passes (is_empty d) k 2 _ (no_more d h.0) ∙ (passes (holds beside.operators r t u) k 12 _ h.1 ∙ to _ _ (omega arith))
  shows_yes beside k (TensorNode s t x y) c d (Tensor g f) h =
      passes (splits s t d) k 3 _ h.0 ∙ chain _ _ _ _ (shows_yes beside (suc k) x c (part s d) g h.1)
      (shows_yes beside (suc k + nodes x) y c (part t d) f h.2 ∙ to _ _ (omega arith))
  shows_yes beside k (WithNode x y) c d (With g f) h = chain _ _ _ _ (shows_yes beside (suc k) x c d g h.0)
      (shows_yes beside (suc k + nodes x) y c d f h.1 ∙ to _ _ (omega arith))
  shows_yes beside k (LeftNode x) c d (Plus g f) h = shows_yes beside (suc k) x c d g h ∙ to _ _ (omega arith)
  shows_yes beside k (RightNode x) c d (Plus g f) h = shows_yes beside (suc k) x c d f h ∙ to _ _ (omega arith)
  shows_yes beside k (BangNode x) c d (Bang g) h = passes (is_empty d) k 2 _ (no_more d h.0) ∙ (shows_yes beside (suc k) x c d g h.1 ∙ to _ _ (omega arith))
  shows_yes beside k (LolliNode n x) c d (Lolli r g) h =
      passes (not (has_label c n || has_label d n)) k 9 _ (not_from_false (has_label c n || has_label d n) h.0)
      ∙ (shows_yes beside (suc k) x c (d ++ record { label = n; clause = r } ∷ []) g h.1 ∙ to _ _ (omega arith))
  shows_yes beside k (ImpNode n x) c d (Imp r g) h =
      passes (not (has_label c n || has_label d n)) k 9 _ (not_from_false (has_label c n || has_label d n) h.0)
      ∙ (shows_yes beside (suc k) x (record { label = n; clause = r } ∷ c) d g h.1 ∙ to _ _ (omega arith))
  shows_yes beside k (ForallNode e x) c d (Forall g) h =
      passes (not (list_any (form_has_eigen e) (g ∷ (clauses c ++ clauses d)))) k 10 _
      (not_from_false (list_any (form_has_eigen e) (g ∷ (clauses c ++ clauses d))) h.0)
      ∙ (shows_yes beside (suc k) x c d (instantiate g (Con (Eigen e))) h.1 ∙ to _ _ (omega arith))
  shows_yes beside k (ExistsNode t x) c d (Exists g) h = shows_yes beside (suc k) x c d (instantiate g t) h.1 ∙ to _ _ (omega arith)
  shows_yes beside k (UseNode x) c d (Use n ts g) h =
      ap (λ o. on_module o k (λ l. fault beside (suc k) x c d (unfold_load l ts g))) h.1
      ∙ (shows_yes beside (suc k) x c d (unfold_load h.0 ts g) h.2 ∙ to _ _ (omega arith))
  shows_yes beside k (ClauseNode n j ts ps) c d (Atom a) h =
      let f = fits_parts beside ps c h.1 h.2 h.6 in
      ap (λ o. on_judged (judge_clause a j ts ps o) k (λ gs e. fault_parts beside (suc k) ps c e gs)) h.3
      ∙ (ap (λ o. on_judged o k (λ gs e. fault_parts beside (suc k) ps c e gs)) (judges a j ts ps h.0 h.1 h.2 h.5 f.0 f.1)
      ∙ (shows_parts beside (suc k) ps c h.1 h.2 h.6 ∙ to _ _ (omega arith)))
  shows_yes beside k _ c d _ h = absurd h

  pub shows_parts : (beside : Setting) (k : ℕ) (ps : Parts) (c d : List Labelled) (gs : List Premise) → ShowsParts beside ps c d gs
      → fault_parts beside k ps c d gs ≡ Fits (k + part_nodes ps)
  shows_parts beside k NoParts c d [] h = to _ _ (omega arith)
  shows_parts beside k (BoundedPart s x ps) c d (Needs g ∷ gs) h =
      chain _ _ _ _ (shows_yes beside k x c (part s d) g h.1) (shows_parts beside (k + nodes x) ps c (rest s d) gs h.2 ∙ to _ _ (omega arith))
  shows_parts beside k (UnboundedPart x ps) c d (NeedsFree g ∷ gs) h =
      chain _ _ _ _ (shows_yes beside k x c [] (Bang g) h.0) (shows_parts beside (k + nodes x) ps c d gs h.1 ∙ to _ _ (omega arith))
  shows_parts beside k _ c d _ h = absurd h
