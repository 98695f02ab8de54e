-- The derivation that is dealt out for an answer is well formed: its terms are closed, and its lists of labels rise.
use Rattle.std.proofs.Common.{◌≡◌, ◌≤◌, ◌<◌, ℕ, suc, ◌+◌, refl, ap, sym, subst, ◌∙◌, Bool, true, false, List, [], ◌∷◌, ◌++◌, map, length, arith}
use Rattle.std.specs.Prelude.{◌&&◌, not, filter, nat_lt, nat_eq, Option, Some, None, if◌then◌else◌, cond}
use Rattle.std.specs.List.{list_all}
use Rattle.std.proofs.lemmas.Bool.{ltb-true, lt-ltb, and_from as and_intro}
use Rattle.std.proofs.lemmas.List.Folds.{list_all-append}
use Rattle.ll_list_laws.proofs.CallerLemmas.{and_true_left as and_left, and_true_right as and_right}
use Rattle.ll_bank.specs.Term.{Term, is_closed}
use Rattle.ll_bank.specs.Form.{Form}
use Rattle.ll_laws.specs.Leaf.{Premise, Needs, NeedsFree}
use Rattle.ll_laws.specs.declared.Kind.{Kind}
use Rattle.ll_laws.specs.Module.{Setting, ClauseTree}
use Rattle.ll_laws.specs.Settle.{Item, Front}
use Rattle.ll_laws.specs.State.{State, settle, front_of, with_front}
use Rattle.ll_laws.specs.Shows.{Tree, OneNode, EraseNode, TensorNode, WithNode, LeftNode, RightNode, BangNode, LolliNode, ImpNode, ForallNode, ExistsNode}
use Rattle.ll_laws.specs.Shows.{UseNode, ClauseNode, Parts, NoParts, BoundedPart, UnboundedPart, NumNode}
use Rattle.ll_laws.specs.Line.{Line, OneLine, EraseLine, TensorLine, WithLine, LeftLine, RightLine, BangLine, UseLine, LolliLine, ImpLine, ForallLine}
use Rattle.ll_laws.specs.Line.{ExistsLine, ClauseLine, lines, lines_of_parts, part_lines, part_line, rises, part_rises, is_line, NumLine}
use Rattle.ll_laws.specs.Verdict.{labelled, same_kind}
use Rattle.ll_laws.specs.Run.{Goes, goes_one, goes_top, goes_tensor, goes_left, goes_right, goes_with, goes_bang, goes_lolli, goes_imp, goes_forall}
use Rattle.ll_laws.specs.Run.{goes_exists, goes_use, goes_atom, Trace, trace_end, trace_step, MayChoose, goes_num}
use Rattle.ll_laws.specs.Dealing.{deal, deal_parts, goes_to, uses, uses_part, erases, without}

-- ---- the labels of what a run loads rise

-- the labels of the loads among these nodes rise, from k on
abbrev pub RisesFrom : ℕ → List Line → Type 0
RisesFrom k [] = Unit {0}
RisesFrom k (LolliLine n ∷ ns) = (k ≤ n) × RisesFrom (suc n) ns
RisesFrom k (ImpLine n ∷ ns) = (k ≤ n) × RisesFrom (suc n) ns
RisesFrom k (_ ∷ ns) = RisesFrom k ns

rises_lower : (j k : ℕ) (ns : List Line) → j ≤ k → RisesFrom k ns → RisesFrom j ns
rises_lower j k [] l h = tt
rises_lower j k (OneLine ∷ ns) l h = rises_lower j k ns l h
rises_lower j k (EraseLine ∷ ns) l h = rises_lower j k ns l h
rises_lower j k (NumLine ∷ ns) l h = rises_lower j k ns l h
rises_lower j k (TensorLine s t ∷ ns) l h = rises_lower j k ns l h
rises_lower j k (WithLine ∷ ns) l h = rises_lower j k ns l h
rises_lower j k (LeftLine ∷ ns) l h = rises_lower j k ns l h
rises_lower j k (RightLine ∷ ns) l h = rises_lower j k ns l h
rises_lower j k (BangLine ∷ ns) l h = rises_lower j k ns l h
rises_lower j k (UseLine ∷ ns) l h = rises_lower j k ns l h
rises_lower j k (LolliLine n ∷ ns) l h = (let q = h.0 in omega (arith, l, q), h.1)
rises_lower j k (ImpLine n ∷ ns) l h = (let q = h.0 in omega (arith, l, q), h.1)
rises_lower j k (ForallLine c ∷ ns) l h = rises_lower j k ns l h
rises_lower j k (ExistsLine t ∷ ns) l h = rises_lower j k ns l h
rises_lower j k (ClauseLine n i us ps ∷ ns) l h = rises_lower j k ns l h

first_rise : (k : ℕ) (ms ns : List Line) → RisesFrom k (ms ++ ns) → RisesFrom k ms
first_rise k [] ns h = tt
first_rise k (OneLine ∷ ms) ns h = first_rise k ms ns h
first_rise k (EraseLine ∷ ms) ns h = first_rise k ms ns h
first_rise k (NumLine ∷ ms) ns h = first_rise k ms ns h
first_rise k (TensorLine s t ∷ ms) ns h = first_rise k ms ns h
first_rise k (WithLine ∷ ms) ns h = first_rise k ms ns h
first_rise k (LeftLine ∷ ms) ns h = first_rise k ms ns h
first_rise k (RightLine ∷ ms) ns h = first_rise k ms ns h
first_rise k (BangLine ∷ ms) ns h = first_rise k ms ns h
first_rise k (UseLine ∷ ms) ns h = first_rise k ms ns h
first_rise k (LolliLine n ∷ ms) ns h = (h.0, first_rise (suc n) ms ns h.1)
first_rise k (ImpLine n ∷ ms) ns h = (h.0, first_rise (suc n) ms ns h.1)
first_rise k (ForallLine c ∷ ms) ns h = first_rise k ms ns h
first_rise k (ExistsLine t ∷ ms) ns h = first_rise k ms ns h
first_rise k (ClauseLine n i us ps ∷ ms) ns h = first_rise k ms ns h

last_rise : (k : ℕ) (ms ns : List Line) → RisesFrom k (ms ++ ns) → RisesFrom k ns
last_rise k [] ns h = h
last_rise k (OneLine ∷ ms) ns h = last_rise k ms ns h
last_rise k (EraseLine ∷ ms) ns h = last_rise k ms ns h
last_rise k (NumLine ∷ ms) ns h = last_rise k ms ns h
last_rise k (TensorLine s t ∷ ms) ns h = last_rise k ms ns h
last_rise k (WithLine ∷ ms) ns h = last_rise k ms ns h
last_rise k (LeftLine ∷ ms) ns h = last_rise k ms ns h
last_rise k (RightLine ∷ ms) ns h = last_rise k ms ns h
last_rise k (BangLine ∷ ms) ns h = last_rise k ms ns h
last_rise k (UseLine ∷ ms) ns h = last_rise k ms ns h
last_rise k (LolliLine n ∷ ms) ns h = let q = h.0 in rises_lower k (suc n) ns (omega (arith, q)) (last_rise (suc n) ms ns h.1)
last_rise k (ImpLine n ∷ ms) ns h = let q = h.0 in rises_lower k (suc n) ns (omega (arith, q)) (last_rise (suc n) ms ns h.1)
last_rise k (ForallLine c ∷ ms) ns h = last_rise k ms ns h
last_rise k (ExistsLine t ∷ ms) ns h = last_rise k ms ns h
last_rise k (ClauseLine n i us ps ∷ ms) ns h = last_rise k ms ns h

goes_rises : {beside : Setting} {s : State} {rest : List (Item Form)} {g : Form} {n : Line} {u : State} → Goes beside s rest g n u → (ns : List Line)
    → RisesFrom u.label ns → RisesFrom s.label (n ∷ ns)
goes_rises goes_one ns h = h
goes_rises goes_top ns h = h
goes_rises goes_tensor ns h = h
goes_rises goes_left ns h = h
goes_rises goes_right ns h = h
goes_rises goes_with ns h = h
goes_rises goes_bang ns h = h
goes_rises (goes_lolli f) ns h = (omega arith, h)
goes_rises (goes_imp f) ns h = (omega arith, h)
goes_rises (goes_forall f) ns h = h
goes_rises (goes_exists t f) ns h = h
goes_rises (goes_use m f) ns h = h
goes_rises (goes_num p) ns h = h
goes_rises (goes_atom e label k us ps a b c d) ns h = h

settled_label : (s t : State) → settle s ≡ Some t → t.label ≡ s.label
unfolding settle
settled_label s t h = step _ h
  where
    step : (o : Option (Front Form Form)) → front_of s o ≡ Some t → t.label ≡ s.label
    step None h = cc
    step (Some x) h = let e : with_front s x ≡ t = cc in sym (ap (λ z. z.label) e)

pub trace_rises : (beside : Setting) (ns : List Line) (s : State) → Trace beside ns s → RisesFrom s.label ns
trace_rises beside _ s (trace_end t h a d) = tt
trace_rises beside _ s (trace_step {n = n} {ns = ns} t u g rest h a go run) =
    subst (λ k. RisesFrom k (n ∷ ns)) (settled_label s t h) (goes_rises go ns (trace_rises beside ns u run))

-- ---- the nodes of a run are well formed

chosen_closed : (e : ℕ) (us : List Term) → MayChoose e us → list_all is_closed us ≡ true
chosen_closed e [] h = refl
chosen_closed e (t ∷ us) h = and_intro _ _ h.0 (chosen_closed e us h.2)

parts_rise : (ps : List Premise) → list_all part_rises (map part_line ps) ≡ true
parts_rise [] = refl
parts_rise (Needs g ∷ ps) = parts_rise ps
parts_rise (NeedsFree g ∷ ps) = parts_rise ps

goes_formed : {beside : Setting} {s : State} {rest : List (Item Form)} {g : Form} {n : Line} {u : State} → Goes beside s rest g n u → is_line n ≡ true
goes_formed goes_one = refl
goes_formed goes_top = refl
goes_formed goes_tensor = refl
goes_formed goes_left = refl
goes_formed goes_right = refl
goes_formed goes_with = refl
goes_formed goes_bang = refl
goes_formed (goes_lolli f) = refl
goes_formed (goes_imp f) = refl
goes_formed (goes_forall f) = refl
goes_formed (goes_exists t f) = f.0
goes_formed (goes_use m f) = refl
goes_formed (goes_num p) = refl
goes_formed {s = s} (goes_atom e label k us ps a b c d) = and_intro _ _ (chosen_closed s.eigens us c) (parts_rise ps)

pub trace_formed : (beside : Setting) (ns : List Line) (s : State) → Trace beside ns s → list_all is_line ns ≡ true
trace_formed beside _ s (trace_end t h a d) = refl
trace_formed beside _ s (trace_step {n = n} {ns = ns} t u g rest h a go run) = and_intro _ _ (goes_formed go) (trace_formed beside ns u run)

-- ---- dealing keeps them so

-- labels that rise, and are below k
abbrev pub AreRising : ℕ → List ℕ → Type 0
AreRising k ns = (rises ns ≡ true) × (list_all (λ n. nat_lt n k) ns ≡ true)

first_below : (m : ℕ) (ns : List ℕ) → list_all (nat_lt m) ns ≡ true → rises ns ≡ true → rises (m ∷ ns) ≡ true
first_below m [] l h = refl
first_below m (n ∷ ns) l h = and_intro _ _ (and_left (nat_lt m n) (list_all (nat_lt m) ns) l) h

rest_rises : (m : ℕ) (ns : List ℕ) → rises (m ∷ ns) ≡ true → rises ns ≡ true
rest_rises m [] h = refl
rest_rises m (n ∷ ns) h = and_right (nat_lt m n) (rises (n ∷ ns)) h

more_than : (m n : ℕ) (ns : List ℕ) → nat_lt m n ≡ true → list_all (nat_lt n) ns ≡ true → list_all (nat_lt m) ns ≡ true
more_than m n [] l h = refl
more_than m n (k ∷ ns) l h =
    let p = ltb-true m n l in let q = ltb-true n k (and_left (nat_lt n k) (list_all (nat_lt n) ns) h) in
    and_intro _ _ (lt-ltb m k (omega (arith, p, q))) (more_than m n ns l (and_right (nat_lt n k) (list_all (nat_lt n) ns) h))

rest_above : (m : ℕ) (ns : List ℕ) → rises (m ∷ ns) ≡ true → list_all (nat_lt m) ns ≡ true
rest_above m [] h = refl
rest_above m (n ∷ ns) h =
    let l = and_left (nat_lt m n) (rises (n ∷ ns)) h in and_intro _ _ l (more_than m n ns l (rest_above n ns (and_right (nat_lt m n) (rises (n ∷ ns)) h)))

filter_keeps : (p test : ℕ → Bool) (ns : List ℕ) → list_all test ns ≡ true → list_all test (filter p ns) ≡ true
filter_keeps p test [] h = refl
filter_keeps p test (n ∷ ns) h = step (p n) (filter_keeps p test ns (and_right (test n) (list_all test ns) h))
  where
    step : (b : Bool) → list_all test (filter p ns) ≡ true → list_all test (cond b (n ∷ filter p ns) (filter p ns)) ≡ true
    step true g = and_intro _ _ (and_left (test n) (list_all test ns) h) g
    step false g = g

filter_rises : (p : ℕ → Bool) (ns : List ℕ) → rises ns ≡ true → rises (filter p ns) ≡ true
filter_rises p [] h = refl
filter_rises p (n ∷ ns) h = step (p n) (filter_rises p ns (rest_rises n ns h))
  where
    step : (b : Bool) → rises (filter p ns) ≡ true → rises (cond b (n ∷ filter p ns) (filter p ns)) ≡ true
    step true g = first_below n (filter p ns) (filter_keeps p (nat_lt n) ns (rest_above n ns h)) g
    step false g = g

filtered : (k : ℕ) (p : ℕ → Bool) (ns : List ℕ) → AreRising k ns → AreRising k (filter p ns)
filtered k p ns h = (filter_rises p ns h.0, filter_keeps p (λ n. nat_lt n k) ns h.1)

below_more : (j k : ℕ) (ns : List ℕ) → j ≤ k → list_all (λ n. nat_lt n j) ns ≡ true → list_all (λ n. nat_lt n k) ns ≡ true
below_more j k [] l h = refl
below_more j k (n ∷ ns) l h =
    let p = ltb-true n j (and_left (nat_lt n j) (list_all (λ n. nat_lt n j) ns) h) in
    and_intro _ _ (lt-ltb n k (omega (arith, l, p))) (below_more j k ns l (and_right (nat_lt n j) (list_all (λ n. nat_lt n j) ns) h))

append_rises : (n : ℕ) (ns : List ℕ) → rises ns ≡ true → list_all (λ m. nat_lt m n) ns ≡ true → rises (ns ++ n ∷ []) ≡ true
append_rises n [] h l = refl
append_rises n (m ∷ ns) h l =
    first_below m (ns ++ n ∷ []) (list_all-append (nat_lt m) ns (n ∷ [])
    ∙ and_intro _ _ (rest_above m ns h) (and_intro _ _ (and_left (nat_lt m n) (list_all (λ m. nat_lt m n) ns) l) refl))
    (append_rises n ns (rest_rises m ns h) (and_right (nat_lt m n) (list_all (λ m. nat_lt m n) ns) l))

with_new_label : (k n : ℕ) (ns : List ℕ) → k ≤ n → AreRising k ns → AreRising (suc n) (ns ++ n ∷ [])
with_new_label k n ns l h =
    let b = below_more k n ns l h.1 in (
      append_rises n ns h.0 b,
      list_all-append (λ m. nat_lt m (suc n)) ns (n ∷ []) ∙ and_intro _ _ (below_more n (suc n) ns (omega arith) b)
          (and_intro _ _ (lt-ltb n (suc n) (omega arith)) refl),
    )

-- well-formed nodes, of which loads have rising labels
pub record AreFormed (k : ℕ) (ns : List Line) : Type 0 where
  pub formed : list_all is_line ns ≡ true
  pub rise : RisesFrom k ns

first_formed : (k : ℕ) (ms ns : List Line) → AreFormed k (ms ++ ns) → AreFormed k ms
first_formed k ms ns h =
    record { formed = and_left (list_all is_line ms) (list_all is_line ns) (sym (list_all-append is_line ms ns) ∙ h.formed); rise = first_rise k ms ns h.rise }

last_formed : (k : ℕ) (ms ns : List Line) → AreFormed k (ms ++ ns) → AreFormed k ns
last_formed k ms ns h =
    record { formed = and_right (list_all is_line ms) (list_all is_line ns) (sym (list_all-append is_line ms ns) ∙ h.formed); rise = last_rise k ms ns h.rise }

joined : (ms ns : List Line) → list_all is_line ms ≡ true → list_all is_line ns ≡ true → list_all is_line (ms ++ ns) ≡ true
joined ms ns p q = list_all-append is_line ms ns ∙ and_intro _ _ p q

mutual
  pub deal_formed : (k : ℕ) (d : List ℕ) (x : Tree) → AreRising k d → AreFormed k (lines x) → list_all is_line (lines (deal d x)) ≡ true
  deal_formed k d OneNode r f = refl
  deal_formed k d EraseNode r f = refl
  deal_formed k d NumNode r f = refl
  deal_formed k d (TensorNode s t x y) r f =
      let p : ℕ → Bool = λ n. goes_to (uses n x) (uses n y) (erases x) in
      let g : AreFormed k (lines x ++ lines y) = record {
        formed = and_right (rises s && rises t) (list_all is_line (lines x ++ lines y)) f.formed;
        rise =
            f.rise;
      } in
      and_intro _ _ (and_intro _ _ (filter_rises p d r.0) (filter_rises (λ n. not (p n)) d r.0))
      (joined (lines (deal (filter p d) x)) (lines (deal (filter (λ n. not (p n)) d) y))
      (deal_formed k (filter p d) x (filtered k p d r) (first_formed k (lines x) (lines y) g))
      (deal_formed k (filter (λ n. not (p n)) d) y (filtered k (λ n. not (p n)) d r) (last_formed k (lines x) (lines y) g)))
  deal_formed k d (WithNode x y) r f =
      let g : AreFormed k (lines x ++ lines y) = record { formed = f.formed; rise = f.rise } in
      joined (lines (deal d x)) (lines (deal d y)) (deal_formed k d x r (first_formed k (lines x) (lines y) g))
      (deal_formed k d y r (last_formed k (lines x) (lines y) g))
  deal_formed k d (LeftNode x) r f = deal_formed k d x r (record { formed = f.formed; rise = f.rise })
  deal_formed k d (RightNode x) r f = deal_formed k d x r (record { formed = f.formed; rise = f.rise })
  deal_formed k d (BangNode x) r f = deal_formed k [] x (refl, refl) (record { formed = f.formed; rise = f.rise })
  deal_formed k d (LolliNode n x) r f = deal_formed (suc n) (d ++ n ∷ []) x (with_new_label k n d f.rise.0 r) (record { formed = f.formed; rise = f.rise.1 })
  deal_formed k d (ImpNode n x) r f =
      let l = f.rise.0 in deal_formed (suc n) d x (r.0, below_more k (suc n) d (omega (arith, l)) r.1) (record { formed = f.formed; rise = f.rise.1 })
  deal_formed k d (ForallNode c x) r f = deal_formed k d x r (record { formed = f.formed; rise = f.rise })
  deal_formed k d (ExistsNode t x) r f =
      and_intro _ _ (and_left (is_closed t) (list_all is_line (lines x)) f.formed)
      (deal_formed k d x r (record { formed = and_right (is_closed t) (list_all is_line (lines x)) f.formed; rise = f.rise }))
  deal_formed k d (UseNode x) r f = deal_formed k d x r (record { formed = f.formed; rise = f.rise })
  deal_formed k d (ClauseNode n j us ps) r f =
      let a = and_left (list_all is_closed us && list_all part_rises (part_lines ps)) (list_all is_line (lines_of_parts ps)) f.formed in
      let g : AreFormed k (lines_of_parts ps) = record {
        formed =
            and_right (list_all is_closed us && list_all part_rises (part_lines ps)) (list_all is_line (lines_of_parts ps)) f.formed;
        rise = f.rise;
      } in
      let w = filtered k (λ m. not (nat_eq n m)) d r in
      and_intro _ _ (and_intro _ _ (and_left (list_all is_closed us) (list_all part_rises (part_lines ps)) a) (deal_part_labels k (without n d) ps w))
      (deal_parts_formed k (without n d) ps w g)

  deal_part_labels : (k : ℕ) (d : List ℕ) (ps : Parts) → AreRising k d → list_all part_rises (part_lines (deal_parts d ps)) ≡ true
  deal_part_labels k d NoParts r = refl
  deal_part_labels k d (BoundedPart s x ps) r =
      let p : ℕ → Bool = λ n. goes_to (uses n x) (uses_part n ps) (erases x) in
      and_intro _ _ (filter_rises p d r.0) (deal_part_labels k (filter (λ n. not (p n)) d) ps (filtered k (λ n. not (p n)) d r))
  deal_part_labels k d (UnboundedPart x ps) r = deal_part_labels k d ps r

  deal_parts_formed : (k : ℕ) (d : List ℕ) (ps : Parts) → AreRising k d → AreFormed k (lines_of_parts ps)
      → list_all is_line (lines_of_parts (deal_parts d ps)) ≡ true
  deal_parts_formed k d NoParts r f = refl
  deal_parts_formed k d (BoundedPart s x ps) r f =
      let p : ℕ → Bool = λ n. goes_to (uses n x) (uses_part n ps) (erases x) in
      joined (lines (deal (filter p d) x)) (lines_of_parts (deal_parts (filter (λ n. not (p n)) d) ps))
      (deal_formed k (filter p d) x (filtered k p d r) (first_formed k (lines x) (lines_of_parts ps) f))
      (deal_parts_formed k (filter (λ n. not (p n)) d) ps (filtered k (λ n. not (p n)) d r) (last_formed k (lines x) (lines_of_parts ps) f))
  deal_parts_formed k d (UnboundedPart x ps) r f =
      joined (lines (deal [] x)) (lines_of_parts (deal_parts d ps)) (deal_formed k [] x (refl, refl) (first_formed k (lines x) (lines_of_parts ps) f))
      (deal_parts_formed k d ps r (last_formed k (lines x) (lines_of_parts ps) f))

-- ---- the labels of a program

above_labels : (kind : Kind) (j n : ℕ) (cs : List ClauseTree) → j < n → list_all (nat_lt j) (map (λ l. l.label) (labelled kind n cs)) ≡ true
above_labels kind j n [] h = refl
above_labels kind j n (c ∷ cs) h = step (same_kind kind c.kind) (above_labels kind j (suc n) cs (omega (arith, h)))
  where
    step : (b : Bool) → list_all (nat_lt j) (map (λ l. l.label) (labelled kind (suc n) cs)) ≡ true
        → list_all (nat_lt j) (map (λ l. l.label) (if b then record { label = n; clause = c.form } ∷ labelled kind (suc n) cs else labelled kind (suc n) cs))
        ≡ true
    step true g = and_intro _ _ (lt-ltb j n h) g
    step false g = g

pub labels_rising : (kind : Kind) (n : ℕ) (cs : List ClauseTree) → AreRising (n + length cs) (map (λ l. l.label) (labelled kind n cs))
labels_rising kind n [] = (refl, refl)
labels_rising kind n (c ∷ cs) = step (same_kind kind c.kind) (labels_rising kind (suc n) cs)
  where
    step : (b : Bool) → AreRising (suc n + length cs) (map (λ l. l.label) (labelled kind (suc n) cs))
        → AreRising (n + suc (length cs)) (map (λ l. l.label)
        (if b then record { label = n; clause = c.form } ∷ labelled kind (suc n) cs else labelled kind (suc n) cs))
    step b g =
        let e : suc n + length cs ≡ n + suc (length cs) = omega arith in
        let w : AreRising (n + suc (length cs)) (map (λ l. l.label) (labelled kind (suc n) cs)) =
        subst (λ k. AreRising k (map (λ l. l.label) (labelled kind (suc n) cs))) e g in
        either b w
      where
        either : (b : Bool) → AreRising (n + suc (length cs)) (map (λ l. l.label) (labelled kind (suc n) cs))
            → AreRising (n + suc (length cs)) (map (λ l. l.label)
            (if b then record { label = n; clause = c.form } ∷ labelled kind (suc n) cs else labelled kind (suc n) cs))
        either true w = (
          first_below n (map (λ l. l.label) (labelled kind (suc n) cs)) (above_labels kind n (suc n) cs (omega arith)) w.0,
          and_intro _ _ (lt-ltb n (n + suc (length cs)) (omega arith)) w.1,
        )
        either false w = w
