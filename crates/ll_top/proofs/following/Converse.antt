-- What is derivable is shown by a tree, with labels of its own.
use Rattle.std.proofs.Common.{◌≡◌, ◌≤◌, ◌<◌, ◌⊎◌, inl, inr, ℕ, suc, ◌+◌, refl, ap, sym, subst, ◌∙◌, Bool, true, false, List, [], ◌∷◌, ◌++◌, length, arith}
use Rattle.std.specs.Prelude.{◌||◌, nat_eq, if◌then◌else◌}
use Rattle.std.specs.List.{list_any, list_all}
use Rattle.std.proofs.lemmas.Bool.{eqb-true, ne_eqb, and_from as and_intro, false_from_ne_true}
use Rattle.std.proofs.lemmas.List.{map-append}
use Rattle.std.proofs.lemmas.List.Folds.{list_all-append}
use Rattle.ll_list_laws.proofs.CallerLemmas.{eq-refl}
use Rattle.ll_bank.specs.Term.{Term, is_closed}
use Rattle.ll_bank.specs.Form.{Form}
use Rattle.ll_laws.specs.declared.Kind.{Kind}
use Rattle.ll_laws.specs.declared.Kind.TheVariants.{Linear, Unbounded}
use Rattle.ll_laws.specs.Leaf.{Premise}
use Rattle.ll_laws.specs.Module.{Setting, ClauseTree}
use Rattle.ll_laws.specs.Problem.{ProblemTree, setting_of}
use Rattle.ll_laws.specs.Derive.{AreClosed, IsNew, Dealt, Derivable, by_one, by_top, by_tensor, by_with, by_left, by_right}
use Rattle.ll_laws.specs.Derive.{by_bang, by_lolli, by_imp, by_forall, by_exists, by_use, by_free, by_linear, Premises, no_premise, a_premise, a_free_premise}
use Rattle.ll_laws.specs.Derive.{by_num}
use Rattle.ll_laws.specs.Shows.{Tree, OneNode, EraseNode, TensorNode, WithNode, LeftNode, RightNode, BangNode, LolliNode, ImpNode, ForallNode, ExistsNode}
use Rattle.ll_laws.specs.Shows.{UseNode, ClauseNode, Parts, NoParts, BoundedPart, UnboundedPart, nodes, part_nodes, Labelled, clauses, has_label, part}
use Rattle.ll_laws.specs.Shows.{Took, take_label, pick_of, Shows, ShowsParts, NumNode}
use Rattle.ll_laws.specs.Line.{counts_numbers, lines, lines_of_parts, part_lines, part_rises, is_line, DerivationLines, IsWhole}
use Rattle.ll_laws.specs.Verdict.{labelled, same_kind, root_free, root_bounded, DerivationShows}
use Rattle.ll_top.specs.textbook.Follows.{of_kind, Follows, IsFilling, reckons, premises_reckon}
use Rattle.ll_laws.proofs.CallerLemmas.{Among, among, tree_of_lines, trees-count, numbers, numbers_part, lines-numbers, take_missing}
use Rattle.ll_top.proofs.following.Relabelled.{labels, Rises, Apart, rises_more, rises_end, not_below, below_high, rises_apart, labels_rise, dealt_swap}
use Rattle.ll_top.proofs.following.Relabelled.{Lifted, lifted, dealt_rises, dealt_has, part_of, all_in_map, splits_in_two, take_one, taken}

-- ---- trees

-- a tree that shows the goal, with so many nodes, well formed
record Seen (beside : Setting) (m : ℕ) (c d : List Labelled) (g : Form) (n : Bool) : Type 0 where
  tree : Tree
  shows : Shows beside tree c d g
  count : nodes tree ≡ m
  reckons : numbers tree ≡ n
  whole : list_all is_line (lines tree) ≡ true

record SeenParts (beside : Setting) (m : ℕ) (c d : List Labelled) (gs : List Premise) (n : Bool) : Type 0 where
  parts : Parts
  shows : ShowsParts beside parts c d gs
  count : part_nodes parts ≡ m
  reckons : numbers_part parts ≡ n
  rise : list_all part_rises (part_lines parts) ≡ true
  whole : list_all is_line (lines_of_parts parts) ≡ true

-- the maps of a goal: their labels are below top, and none is another's
record Mapped (top : ℕ) (c d : List Labelled) : Type 0 where
  apart : Apart c
  below : (n : ℕ) → has_label c n ≡ true → n < top
  rising : Rises 0 d top
  differ : (n : ℕ) → has_label d n ≡ true → has_label c n ≡ false

top_free : (top : ℕ) (c d : List Labelled) → Mapped top c d → has_label c top ≡ false
top_free top c d w = false_from_ne_true (has_label c top) (λ h. let p = w.below top h in omega (arith, p))

top_bounded : (top : ℕ) (c d : List Labelled) → Mapped top c d → has_label d top ≡ false
top_bounded top c d w = false_from_ne_true (has_label d top) (λ h. let p = below_high 0 d top top w.rising h in omega (arith, p))

top_new : (top : ℕ) (c d : List Labelled) → Mapped top c d → has_label c top || has_label d top ≡ false
top_new top c d w = ap (λ b. b || has_label d top) (top_free top c d w) ∙ top_bounded top c d w

mapped_first : (top : ℕ) (c : List Labelled) {xs ys d : List Labelled} → Dealt xs ys d → Mapped top c d → Mapped top c xs
mapped_first top c h w = record {
  apart = w.apart;
  below = w.below;
  rising = dealt_rises 0 top h w.rising;
  differ = λ n k. w.differ n (dealt_has n h k);
}

mapped_none : (top : ℕ) (c d : List Labelled) → Mapped top c d → Mapped top c []
mapped_none top c d w = record { apart = w.apart; below = w.below; rising = omega arith; differ = λ n k. absurd (cc) }

has_end : (n : ℕ) (d : List Labelled) (l : Labelled) → has_label (d ++ l ∷ []) n ≡ true → (has_label d n ≡ true) ⊎ (n ≡ l.label)
has_end n [] l h = step (nat_eq n l.label) refl h
  where
    step : (b : Bool) → nat_eq n l.label ≡ b → b || false ≡ true → (false ≡ true) ⊎ (n ≡ l.label)
    step true e h = inr (eqb-true n l.label e)
    step false e h = cc
has_end n (k ∷ d) l h = step (nat_eq n k.label) h (has_end n d l)
  where
    step : (b : Bool) → b || has_label (d ++ l ∷ []) n ≡ true → (has_label (d ++ l ∷ []) n ≡ true → (has_label d n ≡ true) ⊎ (n ≡ l.label))
        → (b || has_label d n ≡ true) ⊎ (n ≡ l.label)
    step true h go = inl refl
    step false h go = go h

mapped_lolli : (top : ℕ) (c d : List Labelled) (r : Form) → Mapped top c d → Mapped (suc top) c (d ++ record { label = top; clause = r } ∷ [])
mapped_lolli top c d r w = record {
  apart = w.apart;
  below = λ n h. let p = w.below n h in omega (arith, p);
  rising = rises_end 0 d top r w.rising;
  differ = λ n h. step n (has_end n d (record { label = top; clause = r }) h);
}
  where
    step : (n : ℕ) → (has_label d n ≡ true) ⊎ (n ≡ top) → has_label c n ≡ false
    step n (inl h) = w.differ n h
    step n (inr e) = ap (has_label c) e ∙ top_free top c d w

mapped_imp : (top : ℕ) (c d : List Labelled) (r : Form) → Mapped top c d → Mapped (suc top) (record { label = top; clause = r } ∷ c) d
mapped_imp top c d r w = record {
  apart = (top_free top c d w, w.apart);
  below = λ n h. below n (nat_eq n top) refl h;
  rising = widen 0 d w.rising;
  differ = λ n h. ap (λ b. b || has_label c n) (ne_eqb n top (λ e. let z : true ≡ false = sym h ∙ (ap (has_label d) e ∙ top_bounded top c d w) in cc))
      ∙ w.differ n h;
}
  where
    below : (n : ℕ) (b : Bool) → nat_eq n top ≡ b → b || has_label c n ≡ true → n < suc top
    below n true e h = let p = eqb-true n top e in omega (arith, p)
    below n false e h = let p = w.below n h in omega (arith, p)

    widen : (low : ℕ) (ls : List Labelled) → Rises low ls top → Rises low ls (suc top)
    widen low [] r = omega (arith, r)
    widen low (l ∷ ls) r = (r.0, widen (suc l.label) ls (r.1))

none_left : (d : List Labelled) → clauses d ≡ [] → d ≡ []
none_left [] e = refl
none_left (l ∷ ls) e = cc

all_closed : (ts : List Term) → AreClosed ts → list_all is_closed ts ≡ true
all_closed [] h = refl
all_closed (t ∷ ts) h = and_intro _ _ (h.0) (all_closed ts (h.1))

both_whole : (x y : Tree) → list_all is_line (lines x) ≡ true → list_all is_line (lines y) ≡ true → list_all is_line (lines x ++ lines y) ≡ true
both_whole x y p q = list_all-append is_line (lines x) (lines y) ∙ and_intro _ _ p q

-- a bounded clause that was dealt out alone, by its label
record OneTaken (d : List Labelled) (r : Form) (e : List Form) : Type 0 where
  label : ℕ
  first : List Labelled
  left : List Labelled
  takes : take_label label d ≡ Took r left
  dealt : Dealt first left d
  right : clauses left ≡ e
  has : has_label d label ≡ true

one_taken : (r : Form) (top : ℕ) (d : List Labelled) {e : List Form} → Lifted d (r ∷ []) e → Rises 0 d top → OneTaken d r e
one_taken r top d {e = e} l w = step l.first refl l.left
  where
    step : (xs : List Labelled) → l.first ≡ xs → clauses xs ≡ r ∷ [] → OneTaken d r e
    step [] i h = cc
    step (x ∷ []) i h = record {
      label = x.label;
      first = l.first;
      left = l.second;
      takes = take_one x 0 top l.dealt i w ∙ ap (λ z. Took z l.second) (let p : x.clause ≡ r = cc in p);
      dealt = l.dealt;
      right = l.right;
      has = dealt_has x.label l.dealt (ap (λ z. has_label z x.label) i ∙ ap (λ b. b || false) (eq-refl x.label));
    }
    step (x ∷ y ∷ ys) i h = cc

-- ---- the converse

module _ (beside : Setting) where
  mutual
    see : {m : ℕ} {c d : List Form} {g : Form} (h : Derivable beside m c d g) (top : ℕ) (free bounded : List Labelled) → clauses free ≡ c → clauses bounded ≡ d
        → Mapped top free bounded → Seen beside m free bounded g (reckons h)
    see by_one top free bounded p q w =
        record { tree = OneNode; shows = none_left bounded q; count = refl; reckons = refl; whole = refl }
    see by_top top free bounded p q w = record { tree = EraseNode; shows = tt; count = refl; reckons = refl; whole = refl }
    see (by_tensor {m = m} {n = n} {g = g} {h = h} s x y) top free bounded p q w =
        let l = lifted bounded s q in
        let a = see x top free l.first p l.left (mapped_first top free l.dealt w) in
        let b = see y top free l.second p l.right (mapped_first top free (dealt_swap l.dealt) w) in
        let s : List ℕ = labels l.first in
        let t : List ℕ = labels l.second in
        let i : part s bounded ≡ l.first = (part_of 0 top l.dealt w.rising).0 in
        let j : part t bounded ≡ l.second = (part_of 0 top (dealt_swap l.dealt) w.rising).0 in
        record {
          tree = TensorNode s t a.tree b.tree;
          shows = (
            splits_in_two 0 top l.dealt w.rising,
            subst (λ e. Shows beside a.tree free e g) (sym i) a.shows,
            subst (λ e. Shows beside b.tree free e h) (sym j) b.shows,
          );
          count = ap (λ k. suc (k + nodes b.tree)) a.count ∙ ap (λ k. suc (m + k)) b.count;
          reckons = ap (λ k. k || numbers b.tree) a.reckons ∙ ap (λ k. reckons x || k) b.reckons;
          whole =
              and_intro _ _ (and_intro _ _ (labels_rise 0 l.first top (dealt_rises 0 top l.dealt w.rising))
              (labels_rise 0 l.second top (dealt_rises 0 top (dealt_swap l.dealt) w.rising)))
              (both_whole a.tree b.tree a.whole b.whole);
        }
    see (by_with {m = m} x y) top free bounded p q w =
        let a = see x top free bounded p q w in
        let b = see y top free bounded p q w in
        record {
          tree = WithNode a.tree b.tree;
          shows = (a.shows, b.shows);
          count = ap (λ k. suc (k + nodes b.tree)) a.count ∙ ap (λ k. suc (m + k)) b.count;
          reckons = ap (λ k. k || numbers b.tree) a.reckons ∙ ap (λ k. reckons x || k) b.reckons;
          whole = both_whole a.tree b.tree a.whole b.whole;
        }
    see (by_left x) top free bounded p q w =
        let a = see x top free bounded p q w in
        record { tree = LeftNode a.tree; shows = a.shows; count = ap (λ k. suc k) a.count; reckons = a.reckons; whole = a.whole }
    see (by_right x) top free bounded p q w =
        let a = see x top free bounded p q w in
        record { tree = RightNode a.tree; shows = a.shows; count = ap (λ k. suc k) a.count; reckons = a.reckons; whole = a.whole }
    see (by_bang x) top free bounded p q w =
        let a = see x top free bounded p q w in
        record { tree = BangNode a.tree; shows = (none_left bounded q, a.shows); count = ap (λ k. suc k) a.count; reckons = a.reckons; whole = a.whole }
    see (by_lolli {r = r} x) top free bounded p q w =
        let a = see x (suc top) free (bounded ++ record { label = top; clause = r } ∷ []) p
        (map-append (λ l. l.clause) bounded (record { label = top; clause = r } ∷ []) ∙ ap (λ z. z ++ r ∷ []) q) (mapped_lolli top free bounded r w) in
        record {
          tree = LolliNode top a.tree;
          shows = (top_new top free bounded w, a.shows);
          count = ap (λ k. suc k) a.count;
          reckons = a.reckons;
          whole = a.whole;
        }
    see (by_imp {r = r} x) top free bounded p q w =
        let a = see x (suc top) (record { label = top; clause = r } ∷ free) bounded (ap (λ z. r ∷ z) p) q (mapped_imp top free bounded r w) in
        record {
          tree = ImpNode top a.tree;
          shows = (top_new top free bounded w, a.shows);
          count = ap (λ k. suc k) a.count;
          reckons = a.reckons;
          whole = a.whole;
        }
    see (by_forall {c = c} {d = d} {g = g} k n x) top free bounded p q w =
        let a = see x top free bounded p q w in
        record {
          tree = ForallNode k a.tree;
          shows = (subst (λ e. IsNew k (g ∷ (clauses free ++ e))) (sym q) (subst (λ e. IsNew k (g ∷ (e ++ d))) (sym p) n), a.shows);
          count = ap (λ k. suc k) a.count;
          reckons = a.reckons;
          whole = a.whole;
        }
    see (by_exists t h x) top free bounded p q w =
        let a = see x top free bounded p q w in
        record {
          tree = ExistsNode t a.tree;
          shows = (h, a.shows);
          count = ap (λ k. suc k) a.count;
          reckons = a.reckons;
          whole = and_intro _ _ h a.whole;
        }
    see (by_use l h x) top free bounded p q w =
        let a = see x top free bounded p q w in
        record { tree = UseNode a.tree; shows = (l, h, a.shows); count = ap (λ k. suc k) a.count; reckons = a.reckons; whole = a.whole }
    see (by_num h) top free bounded p q w = record { tree = NumNode; shows = (none_left bounded q, h); count = refl; reckons = refl; whole = refl }
    see (by_free r k ts ps i cl lf x) top free bounded p q w =
        let t = taken free r w.apart (subst (λ e. Among r e) (sym p) (among _ r i)) in
        let a = see_parts x top free bounded p q w in
        record {
          tree = ClauseNode t.label k ts a.parts;
          shows = (r, bounded, ps, ap (λ o. pick_of bounded o (take_label t.label bounded)) t.takes, cl, lf, a.shows);
          count = ap (λ k. suc k) a.count;
          reckons = a.reckons;
          whole = and_intro _ _ (and_intro _ _ (all_closed ts cl) a.rise) a.whole;
        }
    see (by_linear r k ts ps s cl lf x) top free bounded p q w =
        let o = one_taken r top bounded (lifted bounded s q) w.rising in
        let a = see_parts x top free o.left p o.right (mapped_first top free (dealt_swap o.dealt) w) in
        record {
          tree = ClauseNode o.label k ts a.parts;
          shows = (
            r,
            o.left,
            ps,
            ap (λ z. pick_of bounded z (take_label o.label bounded)) (take_missing o.label free (w.differ o.label o.has)) ∙ o.takes,
            cl,
            lf,
            a.shows,
          );
          count = ap (λ k. suc k) a.count;
          reckons = a.reckons;
          whole = and_intro _ _ (and_intro _ _ (all_closed ts cl) a.rise) a.whole;
        }

    see_parts : {m : ℕ} {c d : List Form} {gs : List Premise} (h : Premises beside m c d gs) (top : ℕ) (free bounded : List Labelled) → clauses free ≡ c
        → clauses bounded ≡ d → Mapped top free bounded → SeenParts beside m free bounded gs (premises_reckon h)
    see_parts no_premise top free bounded p q w =
        record { parts = NoParts; shows = none_left bounded q; count = refl; reckons = refl; rise = refl; whole = refl }
    see_parts (a_premise {m = m} {n = n} {g = g} {ps = ps} s x y) top free bounded p q w =
        let l = lifted bounded s q in
        let a = see x top free l.first p l.left (mapped_first top free l.dealt w) in
        let b = see_parts y top free l.second p l.right (mapped_first top free (dealt_swap l.dealt) w) in
        let s : List ℕ = labels l.first in
        let i = part_of 0 top l.dealt w.rising in
        record {
          parts = BoundedPart s a.tree b.parts;
          shows = (
            all_in_map l.dealt,
            subst (λ e. Shows beside a.tree free e g) (sym (i.0)) a.shows,
            subst (λ e. ShowsParts beside b.parts free e ps) (sym (i.1)) b.shows,
          );
          count = ap (λ k. k + part_nodes b.parts) a.count ∙ ap (λ k. m + k) b.count;
          reckons = ap (λ k. k || numbers_part b.parts) a.reckons ∙ ap (λ k. reckons x || k) b.reckons;
          rise = and_intro _ _ (labels_rise 0 l.first top (dealt_rises 0 top l.dealt w.rising)) b.rise;
          whole = list_all-append is_line (lines a.tree) (lines_of_parts b.parts) ∙ and_intro _ _ a.whole b.whole;
        }
    see_parts (a_free_premise {m = m} x y) top free bounded p q w =
        let a = see x top free [] p refl (mapped_none top free bounded w) in
        let b = see_parts y top free bounded p q w in
        record {
          parts = UnboundedPart a.tree b.parts;
          shows = (a.shows, b.shows);
          count = ap (λ k. k + part_nodes b.parts) a.count ∙ ap (λ k. m + k) b.count;
          reckons = ap (λ k. k || numbers_part b.parts) a.reckons ∙ ap (λ k. reckons x || k) b.reckons;
          rise = and_intro _ _ refl b.rise;
          whole = list_all-append is_line (lines a.tree) (lines_of_parts b.parts) ∙ and_intro _ _ a.whole b.whole;
        }

-- ---- the clauses of a program, by their places

pub labelled-clauses : (k : Kind) (n : ℕ) (cs : List ClauseTree) → clauses (labelled k n cs) ≡ of_kind k cs
labelled-clauses k n [] = refl
labelled-clauses k n (c ∷ cs) = step (same_kind k c.kind) (labelled-clauses k (suc n) cs)
  where
    step : (b : Bool) → clauses (labelled k (suc n) cs) ≡ of_kind k cs
        → clauses (if b then record { label = n; clause = c.form } ∷ labelled k (suc n) cs else labelled k (suc n) cs)
        ≡ (if b then c.form ∷ of_kind k cs else of_kind k cs)
    step true e = ap (λ fs. c.form ∷ fs) e
    step false e = e

labelled-rises : (k : Kind) (n : ℕ) (cs : List ClauseTree) (high : ℕ) → n + length cs ≤ high → Rises n (labelled k n cs) high
labelled-rises k n [] high p = omega (arith, p)
labelled-rises k n (c ∷ cs) high p = step (same_kind k c.kind) (labelled-rises k (suc n) cs high (omega (arith, p)))
  where
    step : (b : Bool) → Rises (suc n) (labelled k (suc n) cs) high
        → Rises n (if b then record { label = n; clause = c.form } ∷ labelled k (suc n) cs else labelled k (suc n) cs) high
    step true r = (omega arith, r)
    step false r = rises_more (suc n) n (labelled k (suc n) cs) high (omega arith) r

-- no clause is of both kinds
not_both_kinds : (n : ℕ) (cs : List ClauseTree) (m : ℕ) → has_label (labelled Linear n cs) m ≡ true → has_label (labelled Unbounded n cs) m ≡ false
not_both_kinds n [] m h = refl
not_both_kinds n (c ∷ cs) m h =
    step c.kind (labelled-rises Linear (suc n) cs (suc n + length cs) (omega arith)) (labelled-rises Unbounded (suc n) cs (suc n + length cs) (omega arith))
    (not_both_kinds (suc n) cs m) h
  where
    step : (k : Kind) → Rises (suc n) (labelled Linear (suc n) cs) (suc n + length cs) → Rises (suc n) (labelled Unbounded (suc n) cs) (suc n + length cs)
        → (has_label (labelled Linear (suc n) cs) m ≡ true → has_label (labelled Unbounded (suc n) cs) m ≡ false)
        → has_label (if same_kind Linear k then record { label = n; clause = c.form } ∷ labelled Linear (suc n) cs else labelled Linear (suc n) cs) m ≡ true
        → has_label (if same_kind Unbounded k then record { label = n; clause = c.form } ∷ labelled Unbounded (suc n) cs else labelled Unbounded (suc n) cs) m
        ≡ false
    step Linear p q go h = other (nat_eq m n) refl h
      where
        other : (b : Bool) → nat_eq m n ≡ b → b || has_label (labelled Linear (suc n) cs) m ≡ true → has_label (labelled Unbounded (suc n) cs) m ≡ false
        other true e h = let i = eqb-true m n e in not_below (suc n) (labelled Unbounded (suc n) cs) (suc n + length cs) m q (omega (arith, i))
        other false e h = go h
    step Unbounded p q go h =
        ap (λ b. b || has_label (labelled Unbounded (suc n) cs) m)
        (ne_eqb m n (λ e. let z : true ≡ false = sym h ∙ not_below (suc n) (labelled Linear (suc n) cs) (suc n + length cs) m p (omega (arith, e)) in cc))
        ∙ go h

program_mapped : (p : ProblemTree) → Mapped (length p.clauses) (root_free p) (root_bounded p)
program_mapped p =
    let r = labelled-rises Unbounded 0 p.clauses (length p.clauses) (omega arith) in record {
      apart = rises_apart 0 (root_free p) (length p.clauses) r;
      below = λ n h. below_high 0 (root_free p) (length p.clauses) n r h;
      rising = labelled-rises Linear 0 p.clauses (length p.clauses) (omega arith);
      differ = not_both_kinds 0 p.clauses;
    }

-- ---- the laws

-- what follows is shown, with whole-number goals or without
pub record IsShown (p : ProblemTree) (ts : List Term) (m : ℕ) (n : Bool) : Type 0 where
  pub derivation : DerivationLines
  pub asked : derivation.asked ≡ ts
  pub whole : IsWhole derivation
  pub shows : DerivationShows p derivation
  pub count : length derivation.nodes ≡ m
  pub reckons : list_any counts_numbers derivation.nodes ≡ n

pub follows_shown : (p : ProblemTree) (ts : List Term) (m : ℕ) (h : Follows p m ts) → IsFilling p ts → IsShown p ts m (reckons h)
follows_shown p ts m h f =
    let a = see (setting_of p) h (length p.clauses) (root_free p) (root_bounded p) (labelled-clauses Unbounded 0 p.clauses)
    (labelled-clauses Linear 0 p.clauses) (program_mapped p) in
    let k = trees-count (lines a.tree) (a.tree ∷ []) (tree_of_lines a.tree) in
    let c = a.count in
    record {
      derivation = record { asked = ts; nodes = lines a.tree };
      asked = refl;
      whole = record { tree = a.tree; is_tree = tree_of_lines a.tree; asked = f.closed; nodes = a.whole };
      shows = record { tree = a.tree; is_tree = tree_of_lines a.tree; count = f.count; shows = a.shows };
      count = omega (arith, k, c);
      reckons = sym (lines-numbers a.tree) ∙ a.reckons;
    }
