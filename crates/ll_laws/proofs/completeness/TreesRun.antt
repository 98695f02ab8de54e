-- What a derivation shows, a run brings about: node by node, with the leftovers that each node hands on.
use Rattle.std.proofs.Common.{◌≡◌, ◌≤◌, ◌⊎◌, inl, inr, ℕ, suc, ◌+◌, refl, ap, sym, subst, ◌∙◌, Bool, true, false, List, [], ◌∷◌, ◌++◌, map, nat_eq, arith}
use Rattle.std.proofs.Common.{append_assoc}
use Rattle.std.specs.Prelude.{◌&&◌, ◌||◌, not, Some, slice_get}
use Rattle.std.specs.List.{list_any}
use Rattle.std.proofs.lemmas.Bool.{eqb-true, eq-eqb, ne_eqb, eqb-false, or_left as or_one, or_right as or_two, or_parts}
use Rattle.std.proofs.Math.Bool.{and-false}
use Rattle.std.proofs.Math.Bool.{or-false, or-true}
use Rattle.ll_list_laws.proofs.CallerLemmas.{and_true_right as and_right, or_assoc, or_elim as or_split}
use Rattle.ll_bank.specs.declared.Head.TheVariants.{Eigen}
use Rattle.ll_bank.specs.Term.{Term, Con}
use Rattle.ll_bank.specs.Form.{Form, Top, One, Atom, With, Tensor, Plus, Bang, Lolli, Imp, Forall, Exists, Use, instantiate}
use Rattle.ll_laws.specs.declared.Step.{Step}
use Rattle.ll_laws.specs.declared.Step.TheVariants.{Plain, Left, Right, Clause as ClauseStep}
use Rattle.ll_laws.specs.Leaf.{Premise, Needs, NeedsFree, leaf, premise_goal}
use Rattle.ll_laws.specs.Module.{Setting, ModuleTree, unfold_load}
use Rattle.ll_laws.specs.Settle.{Entry, Saved, Item, Goal, LolliEnd, ImpEnd, WithMiddle, WithEnd, BangEnd, marks, remark, unlive}
use Rattle.ll_laws.specs.State.{State}
use Rattle.ll_laws.specs.Attempt.{is_linear, is_open, entry_at, picked}
use Rattle.ll_laws.specs.Derive.{IsNew}
use Rattle.ll_laws.specs.Shows.{Tree, OneNode, EraseNode, TensorNode, WithNode, LeftNode, RightNode, BangNode, LolliNode, ImpNode, ForallNode, ExistsNode}
use Rattle.ll_laws.specs.Shows.{UseNode, ClauseNode, Parts, NoParts, BoundedPart, UnboundedPart, Labelled, has, has_label, part, rest, one_of, splits, nodes}
use Rattle.ll_laws.specs.Shows.{part_nodes}
use Rattle.ll_laws.specs.Line.{Line, TensorLine, WithLine, BangLine, ClauseLine, Labels, Free, lines, lines_of_parts, part_lines, part_line}
use Rattle.ll_laws.specs.Run.{goes_one, goes_top, goes_tensor, goes_left, goes_right, goes_with, goes_bang, goes_lolli, goes_imp, goes_forall, goes_exists}
use Rattle.ll_laws.specs.Run.{goes_use, goes_atom, Trace, MayChoose}
use Rattle.ll_laws.specs.Dealing.{uses, uses_part, erases, erases_part}
use Rattle.ll_laws.proofs.search.AnswerRuns.{Among, among_either}
use Rattle.ll_laws.proofs.search.LeafTries.{among_left, among_right}
use Rattle.ll_laws.proofs.derivations.Leftovers.{on, use_entry, used_up, used_parts, used_none, used_then, used_parts_none, used_parts_then, used_clause}
use Rattle.ll_laws.proofs.derivations.Leftovers.{remark_used, remark_to, remark_unlive, Sound}
use Rattle.ll_laws.proofs.completeness.Moving.{Numbers}
use Rattle.ll_laws.proofs.search.RunEnds.{begin, mid_back, with_back, bang_back, imp_back, lolli_back, Joined, joined, entry_map, entry_behind, not_new}
use Rattle.ll_laws.proofs.search.RunEnds.{picked_other, live_linear, found_by_label}
use Rattle.ll_laws.proofs.completeness.Sitting.{in_filter, filter_in, all_pass, other_label, Sits, add_label, own_label, kept_label, new_entry}
use Rattle.ll_laws.proofs.derivations.Numberless.{numbers, numbers_part}
use Rattle.ll_laws.proofs.completeness.Grounding.{or_none}

-- ---- what is left to be shown of a node

-- the label of the run is that of one of these clauses
pub record UsedFor (at : ℕ → ℕ) (d : List Labelled) (k : ℕ) : Type 0 where
  pub label : Labelled
  pub among : Among label d
  pub same : at label.label ≡ k

used_more : (at : ℕ → ℕ) (d e : List Labelled) (k : ℕ) → ((l : Labelled) → Among l d → Among l e) → UsedFor at d k → UsedFor at e k
used_more at d e k f u = record { label = u.label; among = f u.label u.among; same = u.same }

-- a linear entry that the tree uses is one of these clauses
abbrev pub Within : (ℕ → ℕ) → List Labelled → List (Entry Form) → (ℕ → Bool) → Type 0
Within at d es takes = (k : ℕ) (e : Entry Form) → takes k ≡ true → entry_at es k ≡ Some e → is_linear e.kind ≡ true → UsedFor at d k

-- if nothing can be erased, all of these clauses are used
abbrev pub AllUsed : (ℕ → ℕ) → List Labelled → Bool → (ℕ → Bool) → Type 0
AllUsed at d wipes takes = wipes ≡ false → (l : Labelled) → Among l d → takes (at l.label) ≡ true

-- A tree of the run, for the goal g in front of the rest of the agenda: it uses of the bounded clauses what it must, and a run of what comes
-- after it is one from the goal on.
pub record Ran (beside : Setting) (at : ℕ → ℕ) (size : ℕ) (d : List Labelled) (s : State) (g : Form) (others : List (Item Form)) (es : List (Entry Form))
    (v : Bool) : Type 0 where
  pub tree : Tree
  pub next : State
  pub labels : s.label ≤ next.label
  pub eigens : s.eigens ≤ next.eigens
  pub within : Within at d es (λ k. uses k tree)
  pub all : AllUsed at d (erases tree) (λ k. uses k tree)
  pub count : nodes tree ≡ size
  pub numberless : numbers tree ≡ false
  pub trace : (more : List Line) → Trace beside more (on next others (used_up tree es) (v || erases tree))
      → Trace beside (lines tree ++ more) (on s (Goal g ∷ others) es v)

-- the same of the premises of a leaf
pub record RanParts (beside : Setting) (at : ℕ → ℕ) (size : ℕ) (d : List Labelled) (s : State) (gs : List Premise) (others : List (Item Form))
    (es : List (Entry Form)) (v : Bool) : Type 0 where
  pub parts : Parts
  pub next : State
  pub labels : s.label ≤ next.label
  pub eigens : s.eigens ≤ next.eigens
  pub within : Within at d es (λ k. uses_part k parts)
  pub all : AllUsed at d (erases_part parts) (λ k. uses_part k parts)
  pub count : part_nodes parts ≡ size
  pub numberless : numbers_part parts ≡ false
  pub kinds : part_lines parts ≡ map part_line gs
  pub trace : (more : List Line) → Trace beside more (on next others (used_parts parts es) (v || erases_part parts))
      → Trace beside (lines_of_parts parts ++ more) (on s (map (λ p. Goal (premise_goal p)) gs ++ others) es v)

-- ---- parts of the bounded clauses

pub in_part : (s : List ℕ) (d : List Labelled) (l : Labelled) → Among l (part s d) → Among l d
in_part s d l m = (in_filter (λ l. has s l.label) d l m).among

pub in_rest : (s : List ℕ) (d : List Labelled) (l : Labelled) → Among l (rest s d) → Among l d
in_rest s d l m = (in_filter (λ l. not (has s l.label)) d l m).among

-- labels of two parts that have none in common
pub two_parts : (a b : Bool) → a ≡ true → b ≡ true → one_of a b ≡ true → ⊥
two_parts true true p q h = cc
two_parts true false p q h = cc
two_parts false b p q h = cc

pub not_both : (a : Bool) → a ≡ true → not a ≡ true → ⊥
not_both true p q = cc
not_both false p q = cc

-- what a tree used of one part, it did not use of another
pub apart_idle : {ms : List ModuleTree} {to : Numbers} {name : Term → ℕ} {at : ℕ → ℕ} {s : State} {es : List (Entry Form)} {c d : List Labelled}
    → Sits ms to name at s es c d → (x e : List Labelled) (takes : ℕ → Bool)
    → ((l : Labelled) → Among l x → Among l d) → ((l : Labelled) → Among l e → Among l d) → ((l k : Labelled) → Among l x → Among k e → l.label ≡ k.label → ⊥)
    → Within at x es takes
    → (l : Labelled) → Among l e → takes (at l.label) ≡ false
apart_idle {at = at} i x e takes f g differ w l m = step (takes (at l.label)) refl
  where
    step : (b : Bool) → takes (at l.label) ≡ b → takes (at l.label) ≡ false
    step false q = q
    step true q =
        let h = i.bounded l (g l m) in
        let u = w (at l.label) h.entry q h.finds h.kind in
        absurd (differ u.label l u.among m (i.apart u.label l (f u.label u.among) (g l m) u.same))

-- the linear entries of a context that a tree changed
still_within : (at : ℕ → ℕ) (d : List Labelled) (es : List (Entry Form)) (x : Tree) (takes : ℕ → Bool) → Within at d (used_up x es) takes → Within at d es takes
still_within at d es x takes w k e u f l = w k (use_entry x e) u (entry_map (use_entry x) (λ e. refl) es k e f) l

-- a state after a step of this kind
abbrev pub after_step : State → Step → State
after_step s step = record s { steps = s.steps ++ step ∷ [] }

module _ (beside : Setting) (at : ℕ → ℕ) (d : List Labelled) (s : State) (others : List (Item Form)) (es : List (Entry Form)) (v : Bool) where
  -- ---- `true` and `erase`

  pub one_ran : d ≡ [] → Ran beside at 1 d s One others es v
  one_ran e = record {
    tree = OneNode;
    next = after_step s Plain;
    labels = omega arith;
    eigens = omega arith;
    within = λ k e u f l. cc;
    all = λ w l m. absurd (subst (Among l) e m);
    count = refl;
    numberless = refl;
    trace = λ more run. begin beside more s One others es v _ _ goes_one
        (subst (λ w. Trace beside more (on (after_step s Plain) others w v)) (used_none OneNode (λ n. refl) es)
        (subst (λ b. Trace beside more (on (after_step s Plain) others (used_up OneNode es) b)) (or-false v) run));
  }

  pub top_ran : Ran beside at 1 d s Top others es v
  top_ran = record {
    tree = EraseNode;
    next = after_step s Plain;
    labels = omega arith;
    eigens = omega arith;
    within = λ k e u f l. cc;
    all = λ w l m. cc;
    count = refl;
    numberless = refl;
    trace = λ more run. begin beside more s Top others es v _ _ goes_top
        (subst (λ w. Trace beside more (on (after_step s Plain) others w true)) (used_none EraseNode (λ n. refl) es)
        (subst (λ b. Trace beside more (on (after_step s Plain) others (used_up EraseNode es) b)) (or-true v) run));
  }

  -- ---- `,`

  module _ (f g : Form) (p q : List ℕ) (m n : ℕ) (sp : splits p q d ≡ true) (a : Ran beside at m (part p d) (after_step s Plain) f (Goal g ∷ others) es v)
      (b : Ran beside at n (part q d) a.next g others (used_up a.tree es) (v || erases a.tree)) where
    pub tensor_ran : Ran beside at (suc (m + n)) d s (Tensor f g) others es v
    tensor_ran = record {
      tree = TensorNode [] [] a.tree b.tree;
      next = b.next;
      labels = let x = a.labels in let y = b.labels in omega arith;
      eigens = let x = a.eigens in let y = b.eigens in omega arith;
      within = λ k e u h l. or_split (uses k a.tree) (uses k b.tree) u
          (λ w. used_more at (part p d) d k (in_part p d) (a.within k e w h l))
          (λ w. used_more at (part q d) d k (in_part q d) (still_within at (part q d) es a.tree (λ k. uses k b.tree) b.within k e w h l));
      all = λ w l h. let z = or_parts (erases a.tree) (erases b.tree) w in
          side l h (has p l.label) refl (has q l.label) refl (all_pass (λ l. one_of (has p l.label) (has q l.label)) d l (and_right _ _ sp) h) (z.0) (z.1);
      count = ap (λ z. suc (z + nodes b.tree)) a.count ∙ ap (λ z. suc (m + z)) b.count;
      numberless = or_none (numbers a.tree) (numbers b.tree) a.numberless b.numberless;
      trace = λ more run.
          let r = b.trace more (subst (λ z. Trace beside more (on b.next others (used_up b.tree (used_up a.tree es)) z))
          (sym (or_assoc v (erases a.tree) (erases b.tree)))
          (subst (λ w. Trace beside more (on b.next others w (v || (erases a.tree || erases b.tree)))) (sym (used_then a.tree b.tree es)) run)) in
          subst (λ ns. Trace beside (TensorLine [] [] ∷ ns) (on s (Goal (Tensor f g) ∷ others) es v)) (sym (append_assoc (lines a.tree) (lines b.tree) more))
          (begin beside (lines a.tree ++ (lines b.tree ++ more)) s (Tensor f g) others es v _ _ goes_tensor (a.trace (lines b.tree ++ more) r));
    }
      where
        side : (l : Labelled) → Among l d → (x : Bool) → has p l.label ≡ x → (y : Bool) → has q l.label ≡ y → one_of (has p l.label) (has q l.label) ≡ true
            → erases a.tree ≡ false → erases b.tree ≡ false
            → uses (at l.label) a.tree || uses (at l.label) b.tree ≡ true
        side l h true x y z w i j = or_one (uses (at l.label) a.tree) (uses (at l.label) b.tree) (a.all i l (filter_in (λ l. has p l.label) d l h x))
        side l h false x true z w i j = or_two (uses (at l.label) a.tree) (uses (at l.label) b.tree) (b.all j l (filter_in (λ l. has q l.label) d l h z))
        side l h false x false z w i j = let k : false ≡ true = ap (λ c. one_of false c) (sym z) ∙ (ap (λ c. one_of c (has q l.label)) (sym x) ∙ w) in cc

  -- ---- `;`

  pub left_ran : (f g : Form) (m : ℕ) → Ran beside at m d (after_step s Left) f others es v → Ran beside at (suc m) d s (Plus f g) others es v
  left_ran f g m a = record {
    tree = LeftNode a.tree;
    next = a.next;
    labels = a.labels;
    eigens = a.eigens;
    within = a.within;
    all = a.all;
    count = ap (λ z. suc z) a.count;
    numberless = a.numberless;
    trace = λ more run. begin beside (lines a.tree ++ more) s (Plus f g) others es v _ _ goes_left (a.trace more run);
  }

  pub right_ran : (f g : Form) (m : ℕ) → Ran beside at m d (after_step s Right) g others es v → Ran beside at (suc m) d s (Plus f g) others es v
  right_ran f g m a = record {
    tree = RightNode a.tree;
    next = a.next;
    labels = a.labels;
    eigens = a.eigens;
    within = a.within;
    all = a.all;
    count = ap (λ z. suc z) a.count;
    numberless = a.numberless;
    trace = λ more run. begin beside (lines a.tree ++ more) s (Plus f g) others es v _ _ goes_right (a.trace more run);
  }

  -- ---- `&`

  module _ (f g : Form) (m n : ℕ) (sound : Sound es) (a : Ran beside at m d (after_step s Plain) f
      (WithMiddle (record { live = marks es; flag = v }) ∷ Goal g ∷ WithEnd (record { live = marks es; flag = v }) (record { live = marks es; flag = v })
      ∷ others) es false)
      (b : Ran beside at n d a.next g (WithEnd (record { live = marks es; flag = v }) (record { live = marks (used_up a.tree es); flag = erases a.tree })
      ∷ others) es false) where
    -- a side that erases nothing uses all that the other uses
    no_more : (x y : ℕ → Bool) (wipes : Bool) → wipes ≡ false → AllUsed at d wipes y → Within at d es x → (e : Entry Form) → Among e es → e.live ≡ true
        → x e.label ≡ true → y e.label ≡ true
    no_more x y wipes w all within e h l u =
        let k = within e.label e u (found_by_label es e sound h) (live_linear es e sound h l) in ap y (sym k.same) ∙ all w k.label k.among

    both : Joined a.tree b.tree es
    both = joined a.tree b.tree es (λ w. no_more (λ k. uses k b.tree) (λ k. uses k a.tree) (erases a.tree) w a.all b.within)
        (λ w. no_more (λ k. uses k a.tree) (λ k. uses k b.tree) (erases b.tree) w b.all a.within)

    pub with_ran : Ran beside at (suc (m + n)) d s (With f g) others es v
    with_ran = record {
      tree = WithNode a.tree b.tree;
      next = b.next;
      labels = let x = a.labels in let y = b.labels in omega arith;
      eigens = let x = a.eigens in let y = b.eigens in omega arith;
      within = λ k e u h l. or_split (uses k a.tree) (uses k b.tree) u (λ w. a.within k e w h l) (λ w. b.within k e w h l);
      all = λ w l h. side l h (erases a.tree) refl w;
      count = ap (λ z. suc (z + nodes b.tree)) a.count ∙ ap (λ z. suc (m + z)) b.count;
      numberless = or_none (numbers a.tree) (numbers b.tree) a.numberless b.numberless;
      trace = λ more run.
          let sv : Saved = record { live = marks es; flag = v } in
          let half : Saved = record { live = marks (used_up a.tree es); flag = erases a.tree } in
          let e : remark (used_up b.tree es) both.saved.live ≡ used_up (WithNode a.tree b.tree) es =
          ap (remark (used_up b.tree es)) both.live ∙ remark_to b.tree (WithNode a.tree b.tree) es in
          let t = subst (λ w. Trace beside more (on b.next others w (v || both.saved.flag))) (sym e)
          (subst (λ z. Trace beside more (on b.next others (used_up (WithNode a.tree b.tree) es) (v || z))) (sym both.flag) run) in
          let r = b.trace more (with_back beside more b.next sv half both.saved others (used_up b.tree es) (erases b.tree) both.is t) in
          let q = mid_back beside (lines b.tree ++ more) a.next sv g sv others (used_up a.tree es) (erases a.tree)
          (subst (λ w. Trace beside (lines b.tree ++ more) (on a.next (Goal g ∷ WithEnd sv half ∷ others) w false)) (sym (remark_used a.tree es)) r) in
          subst (λ ns. Trace beside (WithLine ∷ ns) (on s (Goal (With f g) ∷ others) es v)) (sym (append_assoc (lines a.tree) (lines b.tree) more))
          (begin beside (lines a.tree ++ (lines b.tree ++ more)) s (With f g) others es v _ _ goes_with (a.trace (lines b.tree ++ more) q));
    }
      where
        side : (l : Labelled) → Among l d → (x : Bool) → erases a.tree ≡ x → x && erases b.tree ≡ false
            → uses (at l.label) a.tree || uses (at l.label) b.tree ≡ true
        side l h false q w = or_one (uses (at l.label) a.tree) (uses (at l.label) b.tree) (a.all q l h)
        side l h true q w = or_two (uses (at l.label) a.tree) (uses (at l.label) b.tree) (b.all w l h)

  -- ---- `{}`

  bang_trace : (f : Form) (m : ℕ) (e : List Labelled) (a : Ran beside at m e (after_step s Plain) f (BangEnd (record { live = marks es; flag = v }) ∷ others)
      (map unlive es) false) (more : List Line)
      → Trace beside more (on a.next others es v) → Trace beside (BangLine ∷ (lines a.tree ++ more)) (on s (Goal (Bang f) ∷ others) es v)
  bang_trace f m e a more run =
      let sv : Saved = record { live = marks es; flag = v } in
      begin beside (lines a.tree ++ more) s (Bang f) others es v _ _ goes_bang
      (a.trace more (bang_back beside more a.next sv others (used_up a.tree (map unlive es)) (erases a.tree)
      (subst (λ w. Trace beside more (on a.next others w v)) (sym (remark_unlive a.tree es)) run)))

  pub bang_ran : (f : Form) (m : ℕ) → d ≡ [] → Ran beside at m [] (after_step s Plain) f (BangEnd (record { live = marks es; flag = v }) ∷ others)
      (map unlive es) false → Ran beside at (suc m) d s (Bang f) others es v
  bang_ran f m e a = record {
    tree = BangNode a.tree;
    next = a.next;
    labels = a.labels;
    eigens = a.eigens;
    within = λ k e u h l. cc;
    all = λ w l h. absurd (subst (Among l) e h);
    count = ap (λ z. suc z) a.count;
    numberless = a.numberless;
    trace = λ more run. bang_trace f m [] a more
        (subst (λ w. Trace beside more (on a.next others w v)) (used_none (BangNode a.tree) (λ n. refl) es)
        (subst (λ b. Trace beside more (on a.next others (used_up (BangNode a.tree) es) b)) (or-false v) run));
  }

  -- ---- `-o` and `=>`

  module _ (r g : Form) (n m : ℕ) (q : Form) (fd : has_label d n ≡ false) (fresh : list_any (λ e. nat_eq s.label e.label) es ≡ false) where
    abbrev added : Labelled
    added = record { label = n; clause = q }

    abbrev loading : State
    loading = record (after_step s Plain) { label = suc s.label }

    -- an older clause that was used keeps its label
    used_before : (k : ℕ) (e : Entry Form) → entry_at es k ≡ Some e → UsedFor (add_label at n s.label) d k → UsedFor at d k
    used_before k e h u = record {
      label = u.label;
      among = u.among;
      same =
          sym (kept_label at n s.label u.label.label (other_label d n u.label fd u.among)) ∙ u.same;
    }

    module _ (a : Ran beside (add_label at n s.label) m (d ++ added ∷ []) loading g (LolliEnd v ∷ others) (new_entry s true r ∷ es) false) where
      pub lolli_ran : Ran beside at (suc m) d s (Lolli r g) others es v
      lolli_ran = record {
        tree = LolliNode s.label a.tree;
        next = a.next;
        labels = let x = a.labels in omega arith;
        eigens = a.eigens;
        within = λ k e u h l. old k e h (a.within k e u (entry_behind es (new_entry s true r) k e fresh h) l);
        all = λ w l h. ap (λ z. uses z a.tree) (sym (kept_label at n s.label l.label (other_label d n l fd h))) ∙ a.all w l (among_left l d (added ∷ []) h);
        count = ap (λ z. suc z) a.count;
        numberless = a.numberless;
        trace = λ more run. begin beside (lines a.tree ++ more) s (Lolli r g) others es v _ _ (goes_lolli fresh)
            (a.trace more (lolli_back beside more a.next v others (use_entry a.tree (new_entry s true r)) (used_up a.tree es) (erases a.tree)
            (spent (erases a.tree) refl) run));
      }
        where
          split : (k : ℕ) (e : Entry Form) → entry_at es k ≡ Some e → (u : UsedFor (add_label at n s.label) (d ++ added ∷ []) k)
              → Among u.label d ⊎ Among u.label (added ∷ []) → UsedFor at d k
          split k e h u (inl w) = used_before k e h (record { label = u.label; among = w; same = u.same })
          split k e h u (inr (inl w)) =
              let x : s.label ≡ k = sym (own_label at n s.label) ∙ (ap (λ z. add_label at n s.label z.label) w ∙ u.same) in
              let y = not_new es s.label k e fresh h in absurd (eqb-false s.label k y x)
          split k e h u (inr (inr w)) = absurd w

          old : (k : ℕ) (e : Entry Form) → entry_at es k ≡ Some e → UsedFor (add_label at n s.label) (d ++ added ∷ []) k → UsedFor at d k
          old k e h u = split k e h u (among_either u.label d (added ∷ []) u.among)

          spent : (b : Bool) → erases a.tree ≡ b → not (uses s.label a.tree) && not (erases a.tree) ≡ false
          spent true w = ap (λ z. not (uses s.label a.tree) && not z) w ∙ and-false (not (uses s.label a.tree))
          spent false w = ap (λ z. not z && not (erases a.tree))
              (ap (λ z. uses z a.tree) (sym (own_label at n s.label)) ∙ a.all w added (among_right added d (added ∷ []) (inl refl)))

    module _ (a : Ran beside (add_label at n s.label) m d loading g (ImpEnd ∷ others) (new_entry s false r ∷ es) v) where
      pub imp_ran : Ran beside at (suc m) d s (Imp r g) others es v
      imp_ran = record {
        tree = ImpNode s.label a.tree;
        next = a.next;
        labels = let x = a.labels in omega arith;
        eigens = a.eigens;
        within = λ k e u h l. used_before k e h (a.within k e u (entry_behind es (new_entry s false r) k e fresh h) l);
        all = λ w l h. ap (λ z. uses z a.tree) (sym (kept_label at n s.label l.label (other_label d n l fd h))) ∙ a.all w l h;
        count = ap (λ z. suc z) a.count;
        numberless = a.numberless;
        trace = λ more run. begin beside (lines a.tree ++ more) s (Imp r g) others es v _ _ (goes_imp fresh)
            (a.trace more (imp_back beside more a.next others (use_entry a.tree (new_entry s false r)) (used_up a.tree es) (v || erases a.tree) run));
      }

  -- ---- quantifiers and loads

  pub forall_ran : (f : Form) (m : ℕ) → IsNew s.eigens (f ∷ map (λ e. e.clause) es)
      → Ran beside at m d (record (after_step s Plain) { eigens = suc s.eigens }) (instantiate f (Con (Eigen s.eigens))) others es v
      → Ran beside at (suc m) d s (Forall f) others es v
  forall_ran f m w a = record {
    tree = ForallNode s.eigens a.tree;
    next = a.next;
    labels = a.labels;
    eigens = let x = a.eigens in omega arith;
    within = a.within;
    all = a.all;
    count = ap (λ z. suc z) a.count;
    numberless = a.numberless;
    trace = λ more run. begin beside (lines a.tree ++ more) s (Forall f) others es v _ _ (goes_forall w) (a.trace more run);
  }

  pub exists_ran : (f : Form) (t : Term) (m : ℕ) → MayChoose s.eigens (t ∷ [])
      → Ran beside at m d (record (after_step s Plain) { terms = s.terms ++ t ∷ [] }) (instantiate f t) others es v
      → Ran beside at (suc m) d s (Exists f) others es v
  exists_ran f t m w a = record {
    tree = ExistsNode t a.tree;
    next = a.next;
    labels = a.labels;
    eigens = a.eigens;
    within = a.within;
    all = a.all;
    count = ap (λ z. suc z) a.count;
    numberless = a.numberless;
    trace = λ more run. begin beside (lines a.tree ++ more) s (Exists f) others es v _ _ (goes_exists t w) (a.trace more run);
  }

  pub use_ran : (k : ℕ) (ts : List Term) (g : Form) (l : ModuleTree) (m : ℕ) → slice_get beside.modules k ≡ Some l
      → Ran beside at m d (after_step s Plain) (unfold_load l ts g) others es v → Ran beside at (suc m) d s (Use k ts g) others es v
  use_ran k ts g l m q a = record {
    tree = UseNode a.tree;
    next = a.next;
    labels = a.labels;
    eigens = a.eigens;
    within = a.within;
    all = a.all;
    count = ap (λ z. suc z) a.count;
    numberless = a.numberless;
    trace = λ more run. begin beside (lines a.tree ++ more) s (Use k ts g) others es v _ _ (goes_use l q) (a.trace more run);
  }

  -- ---- an atom

  module _ (head : Term) (sound : Sound es) (k j : ℕ) (us : List Term) (ps : List Premise) (x : Entry Form) (finds : entry_at es k ≡ Some x)
      (opened : is_open x ≡ true) (choice : MayChoose s.eigens us)
      (leaves : leaf x.clause j us ≡ Some (record { premises = ps; head = head })) (e : List Labelled) (own : is_linear x.kind ≡ true
      → UsedFor at d k) (left : (l : Labelled) → Among l e → Among l d)
      (either : (l : Labelled) → Among l d → (at l.label ≡ k) ⊎ Among l e) (m : ℕ)
      (a : RanParts beside at m e (record s { terms = s.terms ++ us; steps = s.steps ++ ClauseStep k j ∷ [] }) ps others (picked k es) v) where
    pub clause_ran : Ran beside at (suc m) d s (Atom head) others es v
    clause_ran = record {
      tree = ClauseNode k j us a.parts;
      next = a.next;
      labels = a.labels;
      eigens = a.eigens;
      within = λ n w u h l. which n w h l (nat_eq n k) refl u;
      all = λ w l h. elim (either l h) [
        | inl q ↦ or_one (nat_eq (at l.label) k) (uses_part (at l.label) a.parts) (eq-eqb (at l.label) k q)
        | inr q ↦ or_two (nat_eq (at l.label) k) (uses_part (at l.label) a.parts) (a.all w l q)
      ];
      count = ap (λ z. suc z) a.count;
      numberless = a.numberless;
      trace = λ more run.
          let r = a.trace more (subst (λ w. Trace beside more (on a.next others w (v || erases_part a.parts))) (sym (used_clause k j us a.parts es sound)) run)
          in
          subst (λ z. Trace beside (ClauseLine k j us z ∷ (lines_of_parts a.parts ++ more)) (on s (Goal (Atom head) ∷ others) es v)) (sym a.kinds)
          (begin beside (lines_of_parts a.parts ++ more) s (Atom head) others es v _ _ (goes_atom x k j us ps finds opened choice leaves) r);
    }
      where
        which : (n : ℕ) (w : Entry Form) → entry_at es n ≡ Some w → is_linear w.kind ≡ true → (b : Bool) → nat_eq n k ≡ b → b || uses_part n a.parts ≡ true
            → UsedFor at d n
        which n w h l true q u =
            let i : n ≡ k = eqb-true n k q in
            let y : Some x ≡ Some w = sym finds ∙ (ap (entry_at es) (sym i) ∙ h) in
            let z : x ≡ w = cc in subst (UsedFor at d) (sym i) (own (ap (λ c. is_linear c.kind) z ∙ l))
        which n w h l false q u =
            used_more at e d n left (a.within n w u (picked_other es k n (ne_eqb k n (λ c. eqb-false n k q (sym c))) ∙ h) l)

-- ---- the premises of a leaf

module _ (beside : Setting) (at : ℕ → ℕ) (d : List Labelled) (s : State) (others : List (Item Form)) (es : List (Entry Form)) (v : Bool) where
  pub no_parts : d ≡ [] → RanParts beside at 0 d s [] others es v
  no_parts e = record {
    parts = NoParts;
    next = s;
    labels = omega arith;
    eigens = omega arith;
    within = λ k e u f l. cc;
    all = λ w l m. absurd (subst (Among l) e m);
    count = refl;
    numberless = refl;
    kinds = refl;
    trace = λ more run. subst (λ w. Trace beside more (on s others w v)) (used_parts_none es)
        (subst (λ b. Trace beside more (on s others (used_parts NoParts es) b)) (or-false v) run);
  }

  abbrev rest_of : List Premise → List (Item Form)
  rest_of gs = map (λ p. Goal (premise_goal p)) gs ++ others

  module _ (g : Form) (gs : List Premise) (p : List ℕ) (m n : ℕ) (a : Ran beside at m (part p d) s g (rest_of gs) es v)
      (b : RanParts beside at n (rest p d) a.next gs others (used_up a.tree es) (v || erases a.tree)) where
    pub bounded_part : RanParts beside at (m + n) d s (Needs g ∷ gs) others es v
    bounded_part = record {
      parts = BoundedPart [] a.tree b.parts;
      next = b.next;
      labels = let x = a.labels in let y = b.labels in omega arith;
      eigens = let x = a.eigens in let y = b.eigens in omega arith;
      within = λ k e u h l. or_split (uses k a.tree) (uses_part k b.parts) u
          (λ w. used_more at (part p d) d k (in_part p d) (a.within k e w h l))
          (λ w. used_more at (rest p d) d k (in_rest p d) (still_within at (rest p d) es a.tree (λ k. uses_part k b.parts) b.within k e w h l));
      all = λ w l h. let z = or_parts (erases a.tree) (erases_part b.parts) w in side l h (has p l.label) refl (z.0) (z.1);
      count = ap (λ z. z + part_nodes b.parts) a.count ∙ ap (λ z. m + z) b.count;
      numberless = or_none (numbers a.tree) (numbers_part b.parts) a.numberless b.numberless;
      kinds = ap (λ z. Labels [] ∷ z) b.kinds;
      trace = λ more run.
          let r = b.trace more (subst (λ z. Trace beside more (on b.next others (used_parts b.parts (used_up a.tree es)) z))
          (sym (or_assoc v (erases a.tree) (erases_part b.parts)))
          (subst (λ w. Trace beside more (on b.next others w (v || (erases a.tree || erases_part b.parts)))) (sym (used_parts_then a.tree b.parts es)) run)) in
          subst (λ ns. Trace beside ns (on s (Goal g ∷ rest_of gs) es v)) (sym (append_assoc (lines a.tree) (lines_of_parts b.parts) more))
          (a.trace (lines_of_parts b.parts ++ more) r);
    }
      where
        side : (l : Labelled) → Among l d → (x : Bool) → has p l.label ≡ x → erases a.tree ≡ false → erases_part b.parts ≡ false
            → uses (at l.label) a.tree || uses_part (at l.label) b.parts ≡ true
        side l h true x i j = or_one (uses (at l.label) a.tree) (uses_part (at l.label) b.parts) (a.all i l (filter_in (λ l. has p l.label) d l h x))
        side l h false x i j = or_two (uses (at l.label) a.tree) (uses_part (at l.label) b.parts)
            (b.all j l (filter_in (λ l. not (has p l.label)) d l h (ap not x)))

  module _ (g : Form) (gs : List Premise) (m n : ℕ) (a : Ran beside at m [] (after_step s Plain) g (BangEnd (record { live = marks es; flag = v }) ∷ rest_of gs)
      (map unlive es) false) (b : RanParts beside at n d a.next gs others es v) where
    pub free_part : RanParts beside at (suc m + n) d s (NeedsFree g ∷ gs) others es v
    free_part = record {
      parts = UnboundedPart (BangNode a.tree) b.parts;
      next = b.next;
      labels = let x = a.labels in let y = b.labels in omega arith;
      eigens = let x = a.eigens in let y = b.eigens in omega arith;
      within = b.within;
      all = b.all;
      count = ap (λ z. suc z + part_nodes b.parts) a.count ∙ ap (λ z. suc m + z) b.count;
      numberless = or_none (numbers a.tree) (numbers_part b.parts) a.numberless b.numberless;
      kinds = ap (λ z. Free ∷ z) b.kinds;
      trace = λ more run.
          subst (λ ns. Trace beside (BangLine ∷ ns) (on s (Goal (Bang g) ∷ rest_of gs) es v)) (sym (append_assoc (lines a.tree) (lines_of_parts b.parts) more))
          (bang_trace beside at d s (rest_of gs) es v g m [] a (lines_of_parts b.parts ++ more) (b.trace more run));
    }
