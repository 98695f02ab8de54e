-- A run of a goal is a tree with leftovers, and a run of what comes after it.
use Rattle.std.proofs.Common.{◌≡◌, ◌≤◌, ℕ, zero, suc, refl, ap, sym, subst, ◌∙◌, Bool, true, false, List, [], ◌∷◌, ◌++◌, map, length, arith, append_assoc}
use Rattle.std.specs.Prelude.{◌&&◌, ◌||◌}
use Rattle.std.proofs.lemmas.List.{append-nil}
use Rattle.std.proofs.Math.Bool.{or-false, or-true}
use Rattle.ll_list_laws.proofs.CallerLemmas.{or_assoc}
use Rattle.ll_bank.specs.declared.Head.TheVariants.{Eigen}
use Rattle.ll_bank.specs.Term.{Con}
use Rattle.ll_bank.specs.Form.{Form, Bang, instantiate}
use Rattle.ll_laws.specs.declared.Kind.TheVariants.{Linear, Unbounded}
use Rattle.ll_laws.specs.declared.Step.TheVariants.{Plain, Left, Right}
use Rattle.ll_laws.specs.Leaf.{Premise, Needs, NeedsFree, premise_goal}
use Rattle.ll_laws.specs.Module.{Setting, unfold_load}
use Rattle.ll_laws.specs.Settle.{Entry, Saved, Item, Goal, LolliEnd, ImpEnd, WithMiddle, WithEnd, BangEnd, marks, remark, unlive}
use Rattle.ll_laws.specs.State.{State}
use Rattle.ll_laws.specs.Attempt.{stepped, picked}
use Rattle.ll_laws.specs.Shows.{OneNode, EraseNode, TensorNode, WithNode, LeftNode, RightNode, BangNode, LolliNode, ImpNode, ForallNode, ExistsNode, UseNode}
use Rattle.ll_laws.specs.Shows.{ClauseNode, NoParts, BoundedPart, UnboundedPart, NumNode}
use Rattle.ll_laws.specs.Line.{Labels, Free, Line, TensorLine, WithLine, LeftLine, RightLine, BangLine, UseLine, LolliLine, ImpLine, ForallLine, ExistsLine}
use Rattle.ll_laws.specs.Line.{ClauseLine, lines, lines_of_parts, part_lines}
use Rattle.ll_laws.specs.Run.{Goes, goes_one, goes_top, goes_tensor, goes_left, goes_right, goes_with, goes_bang, goes_lolli, goes_imp, goes_forall}
use Rattle.ll_laws.specs.Run.{goes_exists, goes_use, goes_atom, Trace, taken_by, goes_num}
use Rattle.ll_laws.specs.Dealing.{uses, erases, erases_part}
use Rattle.ll_laws.specs.Lazy.{Lazy, LazyParts}
use Rattle.ll_laws.proofs.derivations.Leftovers.{used_clause, used_then, used_parts_then, used_parts_none, used_none, on, use_entry, used_up, entry, live_of}
use Rattle.ll_laws.proofs.derivations.Leftovers.{free_of, first_step, settled_goal, Sound, live_used, free_used, remark_used, mid_trace, with_none, with_some}
use Rattle.ll_laws.proofs.derivations.Leftovers.{bang_trace, imp_trace, lolli_trace, shorter, with_joined, remark_to, remark_unlive, live_unlive, free_unlive}
use Rattle.ll_laws.proofs.derivations.Leftovers.{live_fresh, free_fresh, spent_or, sound_used, sound_unlive, sound_picked, free_picked, new_parts}
use Rattle.ll_laws.proofs.derivations.Leftovers.{closed_terms, take_entry, used_parts, bang_tree, Stepped, After, AfterParts}

IH : Setting → ℕ → Type 0
IH beside k = (ns : List Line) → length ns ≤ k → (s : State) (g : Form) (rest : List (Item Form)) (es : List (Entry Form)) (v : Bool) → Sound es
    → Trace beside ns (on s (Goal g ∷ rest) es v) → After beside ns rest es v g

parts_of : (beside : Setting) (k : ℕ) → IH beside k → (ps : List Premise) (ns : List Line) → length ns ≤ k
    → (s : State) (rest : List (Item Form)) (es : List (Entry Form)) (v : Bool) → Sound es
    → Trace beside ns (on s (map (λ p. Goal (premise_goal p)) ps ++ rest) es v) → AfterParts beside ns rest es v ps
unfolding IH
parts_of beside k ih [] ns le s rest es v sd run = record {
  parts = NoParts;
  more = ns;
  nodes = refl;
  kinds = refl;
  next = s;
  trace = subst (λ w. Trace beside ns (on s rest w (v || false))) (sym (used_parts_none es))
      (subst (λ z. Trace beside ns (on s rest es z)) (sym (or-false v)) run);
  lazy = tt;
}
parts_of beside k ih (Needs g ∷ ps) ns le s rest es v sd run =
    let a = ih ns le s g (map (λ p. Goal (premise_goal p)) ps ++ rest) es v sd run in
    let b = parts_of beside k ih ps a.more (shorter k ns a.tree a.more a.nodes le) a.next rest (used_up a.tree es) (v || erases a.tree)
    (sound_used a.tree es sd) a.trace in
    record {
      parts = BoundedPart [] a.tree b.parts;
      more = b.more;
      nodes = a.nodes ∙ (ap (λ z. lines a.tree ++ z) b.nodes ∙ sym (append_assoc (lines a.tree) (lines_of_parts b.parts) b.more));
      kinds = ap (λ z. Labels [] ∷ z) b.kinds;
      next = b.next;
      trace =
          subst (λ w. Trace beside b.more (on b.next rest w (v || (erases a.tree || erases_part b.parts)))) (used_parts_then a.tree b.parts es)
          (subst (λ z. Trace beside b.more (on b.next rest (used_parts b.parts (used_up a.tree es)) z)) (or_assoc v (erases a.tree) (erases_part b.parts))
          b.trace);
      lazy = (
        a.lazy,
        subst (λ i. LazyParts beside b.parts (free_of es) i ps) (live_used a.tree es)
            (subst (λ c. LazyParts beside b.parts c (live_of (used_up a.tree es)) ps) (free_used a.tree es) b.lazy),
      );
    }
parts_of beside k ih (NeedsFree g ∷ ps) ns le s rest es v sd run =
    let a = ih ns le s (Bang g) (map (λ p. Goal (premise_goal p)) ps ++ rest) es v sd run in
    let w = bang_tree beside a.tree (free_of es) (live_of es) g a.lazy in
    let t = subst (λ z. Trace beside a.more (on a.next (map (λ p. Goal (premise_goal p)) ps ++ rest) z v)) (used_none a.tree w.idle es)
    (subst (λ z. Trace beside a.more (on a.next (map (λ p. Goal (premise_goal p)) ps ++ rest) (used_up a.tree es) z)) (ap (λ z. v || z) w.stays ∙ or-false v)
    a.trace) in
    let b = parts_of beside k ih ps a.more (shorter k ns a.tree a.more a.nodes le) a.next rest es v sd t in
    record {
      parts = UnboundedPart a.tree b.parts;
      more = b.more;
      nodes = a.nodes ∙ (ap (λ z. lines a.tree ++ z) b.nodes ∙ sym (append_assoc (lines a.tree) (lines_of_parts b.parts) b.more));
      kinds = ap (λ z. Free ∷ z) b.kinds;
      next = b.next;
      trace = b.trace;
      lazy = (w.lazy, b.lazy);
    }

case : (beside : Setting) (k : ℕ) → IH beside k → (s : State) (rest : List (Item Form)) (g : Form) (n : Line) (u : State) → Goes beside s rest g n u
    → Sound s.context → (more : List Line) → length more ≤ k → Trace beside more u
    → After beside (n ∷ more) rest s.context s.flag g
unfolding IH
case beside k ih s rest _ _ _ goes_one sd more le run = record {
  tree = OneNode;
  more = more;
  nodes = refl;
  next = stepped s rest Plain;
  trace = subst (λ w. Trace beside more (on (stepped s rest Plain) rest w (s.flag || false))) (sym (used_none OneNode (λ n. refl) s.context))
      (subst (λ b. Trace beside more (on (stepped s rest Plain) rest s.context b)) (sym (or-false s.flag)) run);
  lazy = tt;
}
case beside k ih s rest _ _ _ goes_top sd more le run = record {
  tree = EraseNode;
  more = more;
  nodes = refl;
  next = stepped s rest Plain;
  trace = subst (λ w. Trace beside more (on (stepped s rest Plain) rest w (s.flag || true))) (sym (used_none EraseNode (λ n. refl) s.context))
      (subst (λ b. Trace beside more (on (stepped s rest Plain) rest s.context b)) (sym (or-true s.flag)) run);
  lazy = tt;
}
case beside k ih s rest _ _ _ (goes_tensor {f = f} {g = g}) sd more le run =
    let a = ih more le (stepped s (Goal f ∷ Goal g ∷ rest) Plain) f (Goal g ∷ rest) s.context s.flag sd run in
    let b = ih a.more (shorter k more a.tree a.more a.nodes le) a.next g rest (used_up a.tree s.context) (s.flag || erases a.tree)
    (sound_used a.tree s.context sd) a.trace in
    record {
      tree = TensorNode [] [] a.tree b.tree;
      more = b.more;
      nodes = ap (λ z. TensorLine [] [] ∷ z) (a.nodes ∙ (ap (λ z. lines a.tree ++ z) b.nodes ∙ sym (append_assoc (lines a.tree) (lines b.tree) b.more)));
      next = b.next;
      trace =
          subst (λ w. Trace beside b.more (on b.next rest w (s.flag || (erases a.tree || erases b.tree)))) (used_then a.tree b.tree s.context)
          (subst (λ z. Trace beside b.more (on b.next rest (used_up b.tree (used_up a.tree s.context)) z)) (or_assoc s.flag (erases a.tree) (erases b.tree))
          b.trace);
      lazy = (
        a.lazy,
        subst (λ i. Lazy beside b.tree (free_of s.context) i g) (live_used a.tree s.context)
            (subst (λ c. Lazy beside b.tree c (live_of (used_up a.tree s.context)) g) (free_used a.tree s.context) b.lazy),
      );
    }
case beside k ih s rest _ _ _ (goes_left {f = f}) sd more le run =
    let a = ih more le (stepped s (Goal f ∷ rest) Left) f rest s.context s.flag sd run in
    record { tree = LeftNode a.tree; more = a.more; nodes = ap (λ z. LeftLine ∷ z) a.nodes; next = a.next; trace = a.trace; lazy = a.lazy }
case beside k ih s rest _ _ _ (goes_right {g = g}) sd more le run =
    let a = ih more le (stepped s (Goal g ∷ rest) Right) g rest s.context s.flag sd run in
    record { tree = RightNode a.tree; more = a.more; nodes = ap (λ z. RightLine ∷ z) a.nodes; next = a.next; trace = a.trace; lazy = a.lazy }
case beside k ih s rest _ _ _ (goes_with {f = f} {g = g}) sd more le run =
    let sv : Saved = record { live = marks s.context; flag = s.flag } in
    let a = ih more le (stepped s [] Plain) f (WithMiddle sv ∷ Goal g ∷ WithEnd sv sv ∷ rest) s.context false sd run in
    let half : Saved = record { live = marks (used_up a.tree s.context); flag = erases a.tree } in
    let m = mid_trace beside a.more a.next sv g sv rest (used_up a.tree s.context) (erases a.tree) a.trace in
    let m' = subst (λ w. Trace beside a.more (on a.next (Goal g ∷ WithEnd sv half ∷ rest) w false)) (remark_used a.tree s.context) m in
    let b = ih a.more (shorter k more a.tree a.more a.nodes le) a.next g (WithEnd sv half ∷ rest) s.context false sd m' in
    let j = with_joined a.tree b.tree s.context (erases a.tree) (erases b.tree) refl refl
    (λ e. with_none beside b.more b.next sv half rest (used_up b.tree s.context) (erases b.tree) e b.trace) in
    let t = with_some beside b.more b.next sv half j.saved rest (used_up b.tree s.context) (erases b.tree) j.is b.trace in
    record {
      tree = WithNode a.tree b.tree;
      more = b.more;
      nodes = ap (λ z. WithLine ∷ z) (a.nodes ∙ (ap (λ z. lines a.tree ++ z) b.nodes ∙ sym (append_assoc (lines a.tree) (lines b.tree) b.more)));
      next = b.next;
      trace =
          subst (λ w. Trace beside b.more (on b.next rest w (s.flag || (erases a.tree && erases b.tree))))
          (ap (remark (used_up b.tree s.context)) j.live ∙ remark_to b.tree (WithNode a.tree b.tree) s.context)
          (subst (λ z. Trace beside b.more (on b.next rest (remark (used_up b.tree s.context) j.saved.live) (s.flag || z))) j.flag t);
      lazy = (a.lazy, b.lazy, j.agree);
    }
case beside k ih s rest _ _ _ (goes_bang {f = f}) sd more le run =
    let sv : Saved = record { live = marks s.context; flag = s.flag } in
    let a = ih more le (stepped s [] Plain) f (BangEnd sv ∷ rest) (map unlive s.context) false (sound_unlive s.context sd) run in
    let t = bang_trace beside a.more a.next sv rest (used_up a.tree (map unlive s.context)) (erases a.tree) a.trace in
    record {
      tree = BangNode a.tree;
      more = a.more;
      nodes = ap (λ z. BangLine ∷ z) a.nodes;
      next = a.next;
      trace =
          subst (λ w. Trace beside a.more (on a.next rest w (s.flag || false)))
          (remark_unlive a.tree s.context ∙ sym (used_none (BangNode a.tree) (λ n. refl) s.context))
          (subst (λ z. Trace beside a.more (on a.next rest (remark (used_up a.tree (map unlive s.context)) (marks s.context)) z)) (sym (or-false s.flag)) t);
      lazy = subst (λ i. Lazy beside a.tree (free_of s.context) i f) (live_unlive s.context)
          (subst (λ c. Lazy beside a.tree c (live_of (map unlive s.context)) f) (free_unlive s.context) a.lazy);
    }
case beside k ih s rest _ _ _ (goes_lolli {r = r} {g = g} fr) sd more le run =
    let new : Entry Form = record { label = s.label; kind = Linear; live = true; clause = r } in
    let a = ih more le (record (stepped s [] Plain) { label = suc s.label }) g (LolliEnd s.flag ∷ rest) (new ∷ s.context) false (fr, refl, sd) run in
    let t = lolli_trace beside a.more a.next s.flag rest (use_entry a.tree new) (used_up a.tree s.context) (erases a.tree) a.trace in
    record {
      tree = LolliNode s.label a.tree;
      more = a.more;
      nodes = ap (λ z. LolliLine s.label ∷ z) a.nodes;
      next = a.next;
      trace = t.trace;
      lazy = (rw (free_fresh s.label s.context fr) (live_fresh s.label s.context fr), spent_or (uses s.label a.tree) (erases a.tree) t.spent, a.lazy);
    }
case beside k ih s rest _ _ _ (goes_imp {r = r} {g = g} fr) sd more le run =
    let new : Entry Form = record { label = s.label; kind = Unbounded; live = false; clause = r } in
    let a = ih more le (record (stepped s [] Plain) { label = suc s.label }) g (ImpEnd ∷ rest) (new ∷ s.context) s.flag (fr, refl, sd) run in
    record {
      tree = ImpNode s.label a.tree;
      more = a.more;
      nodes = ap (λ z. ImpLine s.label ∷ z) a.nodes;
      next = a.next;
      trace = imp_trace beside a.more a.next rest (use_entry a.tree new) (used_up a.tree s.context) (s.flag || erases a.tree) a.trace;
      lazy = (
        rw (free_fresh s.label s.context fr) (live_fresh s.label s.context fr),
        subst (λ i. Lazy beside a.tree (entry new ∷ free_of s.context) i g) (append-nil (live_of s.context)) a.lazy,
      );
    }
case beside k ih s rest _ _ _ (goes_forall {f = f} nw) sd more le run =
    let u : State = record (stepped s [] Plain) { eigens = suc s.eigens } in
    let a = ih more le u (instantiate f (Con (Eigen s.eigens))) rest s.context s.flag sd run in
    record {
      tree = ForallNode s.eigens a.tree;
      more = a.more;
      nodes = ap (λ z. ForallLine s.eigens ∷ z) a.nodes;
      next = a.next;
      trace = a.trace;
      lazy = (new_parts s.eigens f s.context nw, a.lazy);
    }
case beside k ih s rest _ _ _ (goes_exists {f = f} t c) sd more le run =
    let u : State = record (stepped s (Goal (instantiate f t) ∷ rest) Plain) { terms = s.terms ++ t ∷ [] } in
    let a = ih more le u (instantiate f t) rest s.context s.flag sd run in
    record { tree = ExistsNode t a.tree; more = a.more; nodes = ap (λ z. ExistsLine t ∷ z) a.nodes; next = a.next; trace = a.trace; lazy = (c.0, a.lazy) }
case beside k ih s rest _ _ _ (goes_use {ts = ts} {g = g} m q) sd more le run =
    let a = ih more le (stepped s (Goal (unfold_load m ts g) ∷ rest) Plain) (unfold_load m ts g) rest s.context s.flag sd run in
    record { tree = UseNode a.tree; more = a.more; nodes = ap (λ z. UseLine ∷ z) a.nodes; next = a.next; trace = a.trace; lazy = (m, q, a.lazy) }
case beside k ih s rest _ _ _ (goes_num q) sd more le run = record {
  tree = NumNode;
  more = more;
  nodes = refl;
  next = stepped s rest Plain;
  trace = subst (λ w. Trace beside more (on (stepped s rest Plain) rest w (s.flag || false))) (sym (used_none NumNode (λ n. refl) s.context))
      (subst (λ b. Trace beside more (on (stepped s rest Plain) rest s.context b)) (sym (or-false s.flag)) run);
  lazy = q;
}
case beside k ih s rest _ _ _ (goes_atom {a = at} e label j us ps q o c l) sd more le run =
    let u : State = taken_by s rest label j us ps in
    let t = take_entry label s.context e sd q o in
    let b = parts_of beside k ih ps more le u rest (picked label s.context) s.flag (sound_picked label s.context sd) run in
    record {
      tree = ClauseNode label j us b.parts;
      more = b.more;
      nodes = ap (λ z. ClauseLine label j us z ∷ more) (sym b.kinds) ∙ ap (λ z. ClauseLine label j us (part_lines b.parts) ∷ z) b.nodes;
      next = b.next;
      trace = subst (λ w. Trace beside b.more (on b.next rest w (s.flag || erases_part b.parts))) (used_clause label j us b.parts s.context sd) b.trace;
      lazy = (
        e.clause,
        live_of (picked label s.context),
        ps,
        t,
        closed_terms us s.eigens c,
        l,
        subst (λ w. LazyParts beside b.parts w (live_of (picked label s.context)) ps) (free_picked label s.context) b.lazy,
      );
    }

big : (beside : Setting) (k : ℕ) → IH beside k
unfolding IH
big beside zero ns le s g rest es v sd run = go (first_step beside ns _ g rest (settled_goal s g rest es v) refl run)
  where
    go : Stepped beside ns (on s (Goal g ∷ rest) es v) rest g → After beside ns rest es v g
    go st = let q : length ns ≡ suc (length st.more) = ap length st.is in absurd (omega arith)
big beside (suc k) ns le s g rest es v sd run = go (big beside k) (first_step beside ns _ g rest (settled_goal s g rest es v) refl run)
  where
    go : IH beside k → Stepped beside ns (on s (Goal g ∷ rest) es v) rest g → After beside ns rest es v g
    go ih st =
        let q : length ns ≡ suc (length st.more) = ap length st.is in
        subst (λ z. After beside z rest es v g) (sym st.is) (case beside k ih (on s (Goal g ∷ rest) es v) rest g st.node st.next st.goes sd st.more
        (omega arith) st.trace)

-- a run of a goal is a tree with leftovers, and a run of what comes after it
pub tree_of_run : (beside : Setting) (ns : List Line) (s : State) (g : Form) (rest : List (Item Form)) (es : List (Entry Form)) (v : Bool) → Sound es
    → Trace beside ns (on s (Goal g ∷ rest) es v) → After beside ns rest es v g
unfolding IH
tree_of_run beside ns s g rest es v sd run = big beside (length ns) ns (omega arith) s g rest es v sd run
