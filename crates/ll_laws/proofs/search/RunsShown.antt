-- What a run proves is shown by its tree, dealt out.
use Rattle.std.proofs.Common.{◌≡◌, ◌<◌, ℕ, suc, refl, ap, sym, subst, ◌∙◌, Bool, true, false, List, [], ◌∷◌, ◌++◌, nat_eq, arith, append_assoc}
use Rattle.std.specs.Prelude.{◌&&◌, ◌||◌, not, if◌then◌else◌, Some, option_and_then}
use Rattle.std.specs.List.{list_any}
use Rattle.std.proofs.lemmas.Bool.{eqb-true, ne_eqb, both_ways}
use Rattle.std.proofs.lemmas.List.{append-nil}
use Rattle.std.proofs.Math.Bool.{or-false, or-true}
use Rattle.ll_list_laws.proofs.CallerLemmas.{or_elim as or_split, or_false_left as or_off_left, or_false_right as or_off_right}
use Rattle.ll_bank.specs.Term.{Term}
use Rattle.ll_bank.specs.Form.{Form}
use Rattle.ll_laws.specs.declared.Kind.{Kind}
use Rattle.ll_laws.specs.declared.Kind.TheVariants.{Linear, Unbounded}
use Rattle.ll_laws.specs.Module.{ClauseTree, Setting}
use Rattle.ll_laws.specs.Settle.{Entry, Goal, has_live}
use Rattle.ll_laws.specs.State.{State, settle}
use Rattle.ll_laws.specs.Attempt.{is_linear}
use Rattle.ll_laws.specs.Search.{program_entries}
use Rattle.ll_laws.specs.Problem.{ProblemTree, setting_of}
use Rattle.ll_laws.specs.Shows.{Tree, OneNode, EraseNode, TensorNode, WithNode, LeftNode, RightNode, BangNode, LolliNode, ImpNode, ForallNode, ExistsNode}
use Rattle.ll_laws.specs.Shows.{UseNode, ClauseNode, Parts, NoParts, BoundedPart, UnboundedPart, Labelled, has_label, Shows, NumNode}
use Rattle.ll_laws.specs.Line.{Labels, Free, Line, OneLine, EraseLine, TensorLine, WithLine, LeftLine, RightLine, BangLine, LolliLine, ImpLine, ForallLine}
use Rattle.ll_laws.specs.Line.{ExistsLine, UseLine, ClauseLine, Cuts, cut_parts, add_part, put, put_clause, trees_of, lines, lines_of_parts, part_lines}
use Rattle.ll_laws.specs.Line.{NumLine}
use Rattle.ll_laws.specs.Verdict.{labelled, root_free, root_bounded, instantiated_goal, TreeShows, same_kind}
use Rattle.ll_laws.specs.Run.{Trace, trace_end, trace_step, is_done, run_start}
use Rattle.ll_laws.specs.Dealing.{uses, erases, deal}
use Rattle.ll_laws.specs.Lazy.{Lazy}
use Rattle.ll_laws.proofs.derivations.Dealing.{has_append, labels, sel, Distinct, Apart, dealt_shows}
use Rattle.ll_laws.proofs.derivations.Reordered.{Reordered, no_clause, same_first, both_orders, to_front, orders_back, has_same, distinct_same, lazy_same}
use Rattle.ll_laws.proofs.derivations.Leftovers.{on, used_up, entry, when, live_of, free_of, Sound}
use Rattle.ll_laws.proofs.search.RunTrees.{tree_of_run}

-- ---- the nodes of a tree make this tree

part_trees : Parts → List Tree
part_trees NoParts = []
part_trees (BoundedPart s x ps) = x ∷ part_trees ps
part_trees (UnboundedPart x ps) = x ∷ part_trees ps

cut_back : (ps : Parts) (ts : List Tree) → cut_parts (part_lines ps) (part_trees ps ++ ts) ≡ Cuts ps ts
unfolding part_trees
cut_back NoParts ts = refl
cut_back (BoundedPart s x ps) ts = ap (add_part (Labels s) x) (cut_back ps ts)
cut_back (UnboundedPart x ps) ts = ap (add_part Free x) (cut_back ps ts)

mutual
  unfolding part_trees

  lines_back : (x : Tree) (ns : List Line) (ts : List Tree) → trees_of ns ≡ Some ts → trees_of (lines x ++ ns) ≡ Some (x ∷ ts)
  lines_back OneNode ns ts h = ap (option_and_then (put OneLine)) h
  lines_back EraseNode ns ts h = ap (option_and_then (put EraseLine)) h
  lines_back NumNode ns ts h = ap (option_and_then (put NumLine)) h
  lines_back (TensorNode s t x y) ns ts h =
      ap (λ z. option_and_then (put (TensorLine s t)) (trees_of z)) (append_assoc (lines x) (lines y) ns)
      ∙ ap (option_and_then (put (TensorLine s t))) (lines_back x (lines y ++ ns) (y ∷ ts) (lines_back y ns ts h))
  lines_back (WithNode x y) ns ts h =
      ap (λ z. option_and_then (put WithLine) (trees_of z)) (append_assoc (lines x) (lines y) ns)
      ∙ ap (option_and_then (put WithLine)) (lines_back x (lines y ++ ns) (y ∷ ts) (lines_back y ns ts h))
  lines_back (LeftNode x) ns ts h = ap (option_and_then (put LeftLine)) (lines_back x ns ts h)
  lines_back (RightNode x) ns ts h = ap (option_and_then (put RightLine)) (lines_back x ns ts h)
  lines_back (BangNode x) ns ts h = ap (option_and_then (put BangLine)) (lines_back x ns ts h)
  lines_back (LolliNode n x) ns ts h = ap (option_and_then (put (LolliLine n))) (lines_back x ns ts h)
  lines_back (ImpNode n x) ns ts h = ap (option_and_then (put (ImpLine n))) (lines_back x ns ts h)
  lines_back (ForallNode k x) ns ts h = ap (option_and_then (put (ForallLine k))) (lines_back x ns ts h)
  lines_back (ExistsNode t x) ns ts h = ap (option_and_then (put (ExistsLine t))) (lines_back x ns ts h)
  lines_back (UseNode x) ns ts h = ap (option_and_then (put UseLine)) (lines_back x ns ts h)
  lines_back (ClauseNode n k us ps) ns ts h = ap (option_and_then (put (ClauseLine n k us (part_lines ps)))) (parts_back ps ns ts h)
      ∙ ap (put_clause n k us) (cut_back ps ts)

  parts_back : (ps : Parts) (ns : List Line) (ts : List Tree) → trees_of ns ≡ Some ts → trees_of (lines_of_parts ps ++ ns) ≡ Some (part_trees ps ++ ts)
  parts_back NoParts ns ts h = h
  parts_back (BoundedPart s x ps) ns ts h = ap trees_of (append_assoc (lines x) (lines_of_parts ps) ns)
      ∙ lines_back x (lines_of_parts ps ++ ns) (part_trees ps ++ ts) (parts_back ps ns ts h)
  parts_back (UnboundedPart x ps) ns ts h = ap trees_of (append_assoc (lines x) (lines_of_parts ps) ns)
      ∙ lines_back x (lines_of_parts ps ++ ns) (part_trees ps ++ ts) (parts_back ps ns ts h)

pub tree_of_lines : (x : Tree) → trees_of (lines x) ≡ Some (x ∷ [])
tree_of_lines x = ap trees_of (sym (append-nil (lines x))) ∙ lines_back x [] [] refl

-- ---- the end of a run

record Ended (ns : List Line) (es : List (Entry Form)) (v : Bool) : Type 0 where
  none : ns ≡ []
  done : not (has_live es) || v ≡ true

ended : (beside : Setting) (ns : List Line) (s : State) (es : List (Entry Form)) (v : Bool) → Trace beside ns (on s [] es v) → Ended ns es v
unfolding settle
ended beside _ s es v (trace_end t h e d) = record { none = refl; done = let q : t ≡ on s [] es v = cc in subst (λ z. is_done z ≡ true) q d }
ended beside _ s es v (trace_step t u g rest h a go run) =
    let q : t ≡ on s [] es v = cc in let w : [] ≡ Goal g ∷ rest = ap (λ z. z.agenda) (sym q) ∙ a in cc

-- where nothing live is left over, the tree uses each live label
all_used : (x : Tree) (es : List (Entry Form)) → has_live (used_up x es) ≡ false → (n : ℕ) → has_label (live_of es) n ≡ true → uses n x ≡ true
all_used x [] h n m = cc
all_used x (e ∷ es) h n m =
    or_split (has_label (live_of es) n) (has_label (when e.live (entry e)) n) (sym (has_append (live_of es) (when e.live (entry e)) n) ∙ m)
    (λ k. all_used x es (or_off_right (e.live && not (uses e.label x)) (has_live (used_up x es)) h) n k)
    (λ k. here e.live (uses e.label x) refl (or_off_left (e.live && not (uses e.label x)) (has_live (used_up x es)) h) k)
  where
    here : (b u : Bool) → uses e.label x ≡ u → b && not u ≡ false → has_label (when b (entry e)) n ≡ true → uses n x ≡ true
    here true true q l k = ap (λ z. uses z x) (eqb-true n e.label (sym (or-false (nat_eq n e.label)) ∙ k)) ∙ q
    here true false q l k = cc
    here false u q l k = cc

-- so the tree can take each live label that it is to take
takes_all : (x : Tree) (es : List (Entry Form)) → not (has_live (used_up x es)) || erases x ≡ true → (n : ℕ) → has_label (live_of es) n ≡ true
    → uses n x || erases x ≡ true
takes_all x es h n m = step (has_live (used_up x es)) refl (erases x) h
  where
    step : (b : Bool) → has_live (used_up x es) ≡ b → (v : Bool) → not b || v ≡ true → uses n x || v ≡ true
    step false q v k = ap (λ z. z || v) (all_used x es q n m)
    step true q true k = or-true (uses n x)
    step true q false k = cc

-- ---- the clauses of a program

-- labels from n on are no smaller one
pub not_below : (k : Kind) (m n : ℕ) (cs : List ClauseTree) → m < n → has_label (labelled k n cs) m ≡ false
not_below k m n [] h = refl
not_below k m n (c ∷ cs) h = step (same_kind k c.kind) (not_below k m (suc n) cs (omega (arith, h)))
  where
    step : (b : Bool) → has_label (labelled k (suc n) cs) m ≡ false
        → has_label (if b then record { label = n; clause = c.form } ∷ labelled k (suc n) cs else labelled k (suc n) cs) m ≡ false
    step true g = ap (λ b. b || has_label (labelled k (suc n) cs) m) (ne_eqb m n (λ e. omega (arith, h, e))) ∙ g
    step false g = g

pub labels_distinct : (k : Kind) (n : ℕ) (cs : List ClauseTree) → Distinct (labelled k n cs)
labels_distinct k n [] = tt
labels_distinct k n (c ∷ cs) = step (same_kind k c.kind) (labels_distinct k (suc n) cs)
  where
    step : (b : Bool) → Distinct (labelled k (suc n) cs) → Distinct
        (if b then record { label = n; clause = c.form } ∷ labelled k (suc n) cs else labelled k (suc n) cs)
    step true g = (not_below k n (suc n) cs (omega arith), g)
    step false g = g

kinds_apart : (n : ℕ) (cs : List ClauseTree) → Apart (labelled Unbounded n cs) (labelled Linear n cs)
kinds_apart n [] m h = cc
kinds_apart n (c ∷ cs) m h = step c.kind (kinds_apart (suc n) cs m) h
  where
    step : (k : Kind) → (has_label (labelled Unbounded (suc n) cs) m ≡ true → has_label (labelled Linear (suc n) cs) m ≡ false)
        → has_label (if same_kind Unbounded k then record { label = n; clause = c.form } ∷ labelled Unbounded (suc n) cs else labelled Unbounded (suc n) cs) m
        ≡ true
        → has_label (if same_kind Linear k then record { label = n; clause = c.form } ∷ labelled Linear (suc n) cs else labelled Linear (suc n) cs) m ≡ false
    step Linear go h = ap (λ b. b || has_label (labelled Linear (suc n) cs) m) (other (nat_eq m n) refl) ∙ go h
      where
        other : (b : Bool) → nat_eq m n ≡ b → b ≡ false
        other true q = absurd (both_ways (has_label (labelled Unbounded (suc n) cs) m)
            (not_below Unbounded m (suc n) cs (let e = eqb-true m n q in omega (arith, e))) h)
        other false q = refl
    step Unbounded go h =
        or_split (nat_eq m n) (has_label (labelled Unbounded (suc n) cs) m) h (λ q. not_below Linear m (suc n) cs (let e = eqb-true m n q in omega (arith, e)))
        go

-- a program's entries, as trees with leftovers see them
free_start : (n : ℕ) (cs : List ClauseTree) → free_of (program_entries n cs) ≡ labelled Unbounded n cs
free_start n [] = refl
free_start n (c ∷ cs) = step c.kind (free_start (suc n) cs)
  where
    step : (k : Kind) → free_of (program_entries (suc n) cs) ≡ labelled Unbounded (suc n) cs
        → when (not (is_linear k)) (record { label = n; clause = c.form }) ++ free_of (program_entries (suc n) cs)
        ≡ (if same_kind Unbounded k then record { label = n; clause = c.form } ∷ labelled Unbounded (suc n) cs else labelled Unbounded (suc n) cs)
    step Linear h = h
    step Unbounded h = ap (λ z. record { label = n; clause = c.form } ∷ z) h

live_start : (n : ℕ) (cs : List ClauseTree) → Reordered (live_of (program_entries n cs)) (labelled Linear n cs)
live_start n [] = no_clause
live_start n (c ∷ cs) = step c.kind (live_start (suc n) cs)
  where
    step : (k : Kind) → Reordered (live_of (program_entries (suc n) cs)) (labelled Linear (suc n) cs)
        → Reordered (live_of (program_entries (suc n) cs) ++ when (is_linear k) (record { label = n; clause = c.form }))
        (if same_kind Linear k then record { label = n; clause = c.form } ∷ labelled Linear (suc n) cs else labelled Linear (suc n) cs)
    step Linear h = both_orders (to_front (live_of (program_entries (suc n) cs)) (record { label = n; clause = c.form })) (same_first h)
    step Unbounded h = subst (λ z. Reordered z (labelled Linear (suc n) cs)) (sym (append-nil (live_of (program_entries (suc n) cs)))) h

pub entries_sound : (n : ℕ) (cs : List ClauseTree) → Sound (program_entries n cs)
entries_sound n [] = tt
entries_sound n (c ∷ cs) = (fresh n (suc n) cs (omega arith), may c.kind, entries_sound (suc n) cs)
  where
    may : (k : Kind) → is_linear k || not (is_linear k) ≡ true
    may Linear = refl
    may Unbounded = refl

    fresh : (m k : ℕ) (ds : List ClauseTree) → m < k → list_any (λ d. nat_eq m d.label) (program_entries k ds) ≡ false
    fresh m k [] h = refl
    fresh m k (d ∷ ds) h = ap (λ b. b || list_any (λ d. nat_eq m d.label) (program_entries (suc k) ds)) (ne_eqb m k (λ e. omega (arith, h, e)))
        ∙ fresh m (suc k) ds (omega (arith, h))

-- ---- a run from the start of a problem

all_kept : (d : List Labelled) → sel (λ n. true) d ≡ d
all_kept [] = refl
all_kept (l ∷ d) = ap (λ z. l ∷ z) (all_kept d)

-- the tree of a run, and that it shows what the run proves
pub record RunShown (p : ProblemTree) (ts : List Term) (ns : List Line) : Type 0 where
  pub tree : Tree
  pub is_tree : trees_of ns ≡ Some (tree ∷ [])
  pub is_lines : ns ≡ lines tree
  pub shows : TreeShows p (deal (labels (root_bounded p)) tree) ts

pub run_shown : (p : ProblemTree) (ts : List Term) (ns : List Line) → Trace (setting_of p) ns (run_start p ts) → RunShown p ts ns
run_shown p ts ns run =
    let es = program_entries 0 p.clauses in
    let a = tree_of_run (setting_of p) ns (run_start p ts) (instantiated_goal p ts) [] es false (entries_sound 0 p.clauses) run in
    let e = ended (setting_of p) a.more a.next (used_up a.tree es) (erases a.tree) a.trace in
    let is : ns ≡ lines a.tree = a.nodes ∙ (ap (λ z. lines a.tree ++ z) e.none ∙ append-nil (lines a.tree)) in
    let r = live_start 0 p.clauses in
    let z = lazy_same (setting_of p) a.tree (free_of es) (instantiated_goal p ts) r (distinct_same (orders_back r) (labels_distinct Linear 0 p.clauses)) a.lazy
    in
    let y = subst (λ c. Lazy (setting_of p) a.tree c (root_bounded p) (instantiated_goal p ts)) (free_start 0 p.clauses) z in
    let w = dealt_shows (setting_of p) a.tree (root_free p) (root_bounded p) (instantiated_goal p ts) (kinds_apart 0 p.clauses)
    (labels_distinct Linear 0 p.clauses) y (λ n. true) (record {
      needs = λ n h u. refl;
      takes = λ n h t. takes_all a.tree es e.done n (has_same r n ∙ h);
    }) in
    record {
      tree = a.tree;
      is_tree = ap trees_of is ∙ tree_of_lines a.tree;
      is_lines = is;
      shows = subst (λ d. Shows (setting_of p) (deal (labels d) a.tree) (root_free p) d (instantiated_goal p ts)) (all_kept (root_bounded p)) w;
    }
