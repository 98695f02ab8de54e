-- What a derivation shows of a problem, a run brings about from its start.
use Rattle.std.proofs.Common.{◌≡◌, ◌≤◌, inl, inr, ℕ, zero, suc, ◌+◌, refl, ap, sym, subst, ◌∙◌, Bool, true, false, List, [], ◌∷◌, ◌++◌, map, nat_eq, length}
use Rattle.std.proofs.Common.{arith}
use Rattle.std.specs.Prelude.{◌&&◌, ◌||◌, not, if◌then◌else◌, Some, None, slice_index_or}
use Rattle.std.specs.List.{list_any}
use Rattle.std.proofs.lemmas.Bool.{eq-eqb, ne_eqb}
use Rattle.std.proofs.lemmas.List.{append-nil}
use Rattle.std.proofs.Math.Path.{fun_ext}
use Rattle.ll_bank.specs.Term.{Term, Var}
use Rattle.ll_bank.specs.Form.{Form, sub_form, form_has_eigen}
use Rattle.ll_laws.specs.declared.Kind.{Kind}
use Rattle.ll_laws.specs.declared.Kind.TheVariants.{Linear, Unbounded}
use Rattle.ll_laws.specs.Module.{ClauseTree, ModuleTree}
use Rattle.ll_laws.specs.Settle.{Entry, Goal, has_live}
use Rattle.ll_laws.specs.State.{State, settle}
use Rattle.ll_laws.specs.Attempt.{is_linear, entry_at}
use Rattle.ll_laws.specs.Search.{program_entries}
use Rattle.ll_laws.specs.Problem.{setting_of}
use Rattle.ll_laws.specs.Valid.{given, GoalSide, ClauseSide, AreClauses}
use Rattle.ll_laws.specs.Shows.{Tree, Labelled}
use Rattle.ll_laws.specs.Line.{lines}
use Rattle.ll_laws.specs.Verdict.{labelled, same_kind, root_free, root_bounded, instantiated_goal}
use Rattle.ll_laws.specs.Run.{Trace, trace_end, run_start, is_done}
use Rattle.ll_laws.specs.Dealing.{uses, erases}
use Rattle.ll_laws.specs.Instance.{hide}
use Rattle.ll_laws.specs.Completeness.{ShownRuns}
use Rattle.ll_laws.proofs.unification.SubLaws.{IsClosing}
use Rattle.ll_laws.proofs.consistency.ConsistentForms.{FormFits, fits-more, fits_of_formula}
use Rattle.ll_laws.proofs.consistency.ConsistentStates.{grows_given}
use Rattle.ll_laws.proofs.search.AnswerRuns.{Among}
use Rattle.ll_laws.proofs.derivations.Lines.{trees-count}
use Rattle.ll_laws.proofs.derivations.Leftovers.{on, used_up}
use Rattle.ll_laws.proofs.search.RunsShown.{tree_of_lines, entries_sound, labels_distinct}
use Rattle.ll_laws.proofs.completeness.Moving.{no_numbers, clear, move, move_form, move-hides, fits-tame, form-stays, move_sub_form, sub_form-tame}
use Rattle.ll_laws.proofs.completeness.Numbering.{NumbersBelow, form-new}
use Rattle.ll_laws.proofs.completeness.Sitting.{Sits}
use Rattle.ll_laws.proofs.completeness.ShownTrees.{run_tree}
use Rattle.ll_laws.proofs.completeness.Chosen.{closed_at}
use Rattle.ll_laws.proofs.derivations.Numberless.{tree-numbers, lines-numbers}

-- ---- the clauses of a program

-- the kind that is linear, or the other
abbrev kind_of : Bool → Kind
kind_of true = Linear
kind_of false = Unbounded

record Placed (n : ℕ) (cs : List ClauseTree) (linear : Bool) (l : Labelled) : Type 0 where
  entry : Entry Form
  finds : entry_at (program_entries n cs) l.label ≡ Some entry
  kind : is_linear entry.kind ≡ linear
  live : linear ≡ true → entry.live ≡ true
  clause : entry.clause ≡ l.clause
  above : n ≤ l.label

deeper : (n : ℕ) (c : ClauseTree) (cs : List ClauseTree) (linear : Bool) (l : Labelled) → Placed (suc n) cs linear l → Placed n (c ∷ cs) linear l
deeper n c cs linear l p = record {
  entry = p.entry;
  finds = ap (λ b. if b then Some (record { label = n; kind = c.kind; live = is_linear c.kind; clause = c.form }) else
      entry_at (program_entries (suc n) cs) l.label) (ne_eqb n l.label (λ e. let a = p.above in omega arith)) ∙ p.finds;
  kind = p.kind;
  live = p.live;
  clause = p.clause;
  above = let a = p.above in omega arith;
}

placed : (linear : Bool) (n : ℕ) (cs : List ClauseTree) (l : Labelled) → Among l (labelled (kind_of linear) n cs) → Placed n cs linear l
placed linear n [] l m = absurd m
placed linear n (c ∷ cs) l m = step linear c.kind refl (placed linear (suc n) cs l) m
  where
    first : (linear : Bool) (k : Kind) → c.kind ≡ k → is_linear k ≡ linear → (q : record { label = n; clause = c.form } ≡ l) → Placed n (c ∷ cs) linear l
    first linear k e h q = subst (Placed n (c ∷ cs) linear) q (record {
      entry = record { label = n; kind = c.kind; live = is_linear c.kind; clause = c.form };
      finds = ap (λ b. if b then Some (record { label = n; kind = c.kind; live = is_linear c.kind; clause = c.form }) else
          entry_at (program_entries (suc n) cs) n) (eq-eqb n n refl);
      kind = ap (λ z. is_linear z) e ∙ h;
      live = λ w. ap (λ z. is_linear z) e ∙ (h ∙ w);
      clause = refl;
      above = omega arith;
    })

    step : (linear : Bool) (k : Kind) → c.kind ≡ k → (Among l (labelled (kind_of linear) (suc n) cs) → Placed (suc n) cs linear l)
        → Among l (if same_kind (kind_of linear) k then record { label = n; clause = c.form } ∷ labelled (kind_of linear) (suc n) cs else
        labelled (kind_of linear) (suc n) cs) → Placed n (c ∷ cs) linear l
    step true Linear e go (inl q) = first true Linear e refl q
    step true Linear e go (inr m) = deeper n c cs true l (go m)
    step true Unbounded e go m = deeper n c cs true l (go m)
    step false Unbounded e go (inl q) = first false Unbounded e refl q
    step false Unbounded e go (inr m) = deeper n c cs false l (go m)
    step false Linear e go m = deeper n c cs false l (go m)

-- each live entry is one of the linear clauses
record Listed (n : ℕ) (cs : List ClauseTree) (e : Entry Form) : Type 0 where
  one : Labelled
  among : Among one (labelled Linear n cs)
  same : one.label ≡ e.label

listed : (n : ℕ) (cs : List ClauseTree) (e : Entry Form) → Among e (program_entries n cs) → e.live ≡ true → Listed n cs e
listed n [] e m h = absurd m
listed n (c ∷ cs) e (inl q) h = step c.kind (ap (λ z. z.live) q ∙ h)
  where
    step : (k : Kind) → is_linear k ≡ true → Listed n (c ∷ cs) e
    step Linear w = record { one = record { label = n; clause = c.form }; among = first c.kind (ap (λ z. z.live) q ∙ h); same = ap (λ z. z.label) q }
      where
        first : (k : Kind) → is_linear k ≡ true → Among (record { label = n; clause = c.form })
            (if same_kind Linear k then record { label = n; clause = c.form } ∷ labelled Linear (suc n) cs else labelled Linear (suc n) cs)
        first Linear w = inl refl
        first Unbounded w = cc
    step Unbounded w = cc
listed n (c ∷ cs) e (inr m) h = let r = listed (suc n) cs e m h in record { one = r.one; among = behind c.kind r.one r.among; same = r.same }
  where
    behind : (k : Kind) (l : Labelled) → Among l (labelled Linear (suc n) cs)
        → Among l (if same_kind Linear k then record { label = n; clause = c.form } ∷ labelled Linear (suc n) cs else labelled Linear (suc n) cs)
    behind Linear l m = inr m
    behind Unbounded l m = m

no_live : (x : Tree) (es : List (Entry Form)) → ((e : Entry Form) → Among e es → e.live ≡ true → uses e.label x ≡ true) → has_live (used_up x es) ≡ false
no_live x [] h = refl
no_live x (e ∷ es) h = ap (λ b. b || has_live (used_up x es)) (off e.live (uses e.label x) (h e (inl refl))) ∙ no_live x es (λ d m. h d (inr m))
  where
    off : (b u : Bool) → (b ≡ true → u ≡ true) → b && not u ≡ false
    off false u f = refl
    off true true f = refl
    off true false f = let q : false ≡ true = f refl in cc

fresh_above : (m n : ℕ) (cs : List ClauseTree) → n + length cs ≤ m → list_any (λ e. nat_eq m e.label) (program_entries n cs) ≡ false
fresh_above m n [] h = refl
fresh_above m n (c ∷ cs) h = ap (λ b. b || list_any (λ e. nat_eq m e.label) (program_entries (suc n) cs)) (ne_eqb m n (λ e. omega (arith, h, e)))
    ∙ fresh_above m (suc n) cs (omega arith)

module _ (names : ℕ) (ms : List ModuleTree) where
  clause-fits : (c : ClauseTree) (cs : List ClauseTree) → AreClauses names ms [] (c ∷ cs) → FormFits (clear ms 0) ClauseSide [] c.form
  clause-fits c cs h = fits-more (given ms 0) (clear ms 0) ClauseSide [] [] c.form (grows_given ms 0 0 0 (omega arith)) tt
      (fits_of_formula (given ms 0) ClauseSide [] c.form h.0)

  no_numbers-below : (e : ℕ) → NumbersBelow no_numbers e
  no_numbers-below e c j h = let q : None ≡ Some j = h in cc

  none_new : (name : Term → ℕ) (k n : ℕ) (cs : List ClauseTree) → AreClauses names ms [] cs
      → list_any (form_has_eigen k) (map (λ e. e.clause) (program_entries n cs)) ≡ false
  none_new name k n [] h = refl
  none_new name k n (c ∷ cs) h =
      let a : form_has_eigen k c.form ≡ false = ap (form_has_eigen k) (sym (form-stays ms 0 no_numbers name ClauseSide [] c.form (clause-fits c cs h)))
      ∙ form-new no_numbers name k (no_numbers-below k) c.form in
      ap (λ b. b || list_any (form_has_eigen k) (map (λ e. e.clause) (program_entries (suc n) cs))) a ∙ none_new name k (suc n) cs h.2

  labelled-fits : (k : Kind) (n : ℕ) (cs : List ClauseTree) → AreClauses names ms [] cs → (l : Labelled) → Among l (labelled k n cs)
      → FormFits (clear ms 0) ClauseSide [] l.clause
  labelled-fits k n [] h l m = absurd m
  labelled-fits k n (c ∷ cs) h l m = step (same_kind k c.kind) (labelled-fits k (suc n) cs h.2 l) m
    where
      step : (b : Bool) → (Among l (labelled k (suc n) cs) → FormFits (clear ms 0) ClauseSide [] l.clause)
          → Among l (if b then record { label = n; clause = c.form } ∷ labelled k (suc n) cs else labelled k (suc n) cs)
          → FormFits (clear ms 0) ClauseSide [] l.clause
      step true go (inl q) = subst (λ z. FormFits (clear ms 0) ClauseSide [] z.clause) q (clause-fits c cs h)
      step true go (inr m) = go m
      step false go m = go m

-- ---- the terms of a derivation

hidden_at : (name : Term → ℕ) (ts : List Term) (x y : ℕ) → move no_numbers name (slice_index_or ts x (Var y)) ≡ slice_index_or (map (hide name) ts) x (Var y)
hidden_at name [] x y = refl
hidden_at name (t ∷ ts) zero y = move-hides name t
hidden_at name (t ∷ ts) (suc x) y = hidden_at name ts x y

-- ---- the law

settled_end : (s : State) (es : List (Entry Form)) (v : Bool) → settle (on s [] es v) ≡ Some (on s [] es v)
unfolding settle
settled_end s es v = refl

pub shown_runs : ShownRuns
shown_runs p d name valid h =
    let ms = p.modules in
    let es = program_entries 0 p.clauses in
    let ts = map (hide name) d.asked in
    let f : ℕ → Term = λ x. slice_index_or d.asked x (Var x) in
    let s = run_start p ts in
    let goal : FormFits (clear ms (length p.asked)) GoalSide [] p.goal =
    fits-more (given ms (length p.asked)) (clear ms (length p.asked)) GoalSide [] [] p.goal (grows_given ms (length p.asked) (length p.asked) 0 (omega arith))
    tt (fits_of_formula (given ms (length p.asked)) GoalSide [] p.goal valid.goal) in
    let closing : IsClosing f = λ x. closed_at d.asked x x h.closed in
    let moved : move_form no_numbers name (instantiated_goal p d.asked) ≡ instantiated_goal p ts =
    move_sub_form ms (length p.asked) no_numbers name f GoalSide [] p.goal goal ∙ ap (λ g. sub_form g p.goal) (fun_ext (λ x. hidden_at name d.asked x x)) in
    let sits : Sits ms no_numbers name (λ n. n) s es (root_free p) (root_bounded p) = record {
      sound = entries_sound 0 p.clauses;
      fresh = λ n h. fresh_above n 0 p.clauses (omega arith);
      new = λ n h. none_new (length p.names) ms name n 0 p.clauses valid.clauses;
      below = no_numbers-below (length p.names) ms 0;
      free = λ l m. let q = placed false 0 p.clauses l m in
          record {
            entry = q.entry;
            finds = q.finds;
            kind = q.kind;
            live = q.live;
            clause =
                q.clause ∙ sym (form-stays ms 0 no_numbers name ClauseSide [] l.clause
                (labelled-fits (length p.names) ms Unbounded 0 p.clauses valid.clauses l m));
          };
      bounded = λ l m. let q = placed true 0 p.clauses l m in
          record {
            entry = q.entry;
            finds = q.finds;
            kind = q.kind;
            live = q.live;
            clause =
                q.clause ∙ sym (form-stays ms 0 no_numbers name ClauseSide [] l.clause
                (labelled-fits (length p.names) ms Linear 0 p.clauses valid.clauses l m));
          };
      apart = λ l k m n q. q;
      distinct = labels_distinct Linear 0 p.clauses;
      tame_free = λ l m. fits-tame ms 0 no_numbers ClauseSide [] l.clause (labelled-fits (length p.names) ms Unbounded 0 p.clauses valid.clauses l m);
      tame_bounded = λ l m. fits-tame ms 0 no_numbers ClauseSide [] l.clause (labelled-fits (length p.names) ms Linear 0 p.clauses valid.clauses l m);
    } in
    let r = run_tree (length p.names) (setting_of p) valid.modules name h.shows.tree no_numbers (λ n. n) (root_free p) (root_bounded p)
    (instantiated_goal p d.asked) s [] es false sits
    (sub_form-tame ms (length p.asked) no_numbers f closing GoalSide [] p.goal goal) (tree-numbers d.nodes h.shows.tree h.shows.is_tree ∙ h.numberless)
    h.shows.shows in
    let done : is_done (on r.next [] (used_up r.tree es) (false || erases r.tree)) ≡ true =
    ended r.tree es (erases r.tree) refl (λ w e m l. let q = listed 0 p.clauses e m l in ap (λ k. uses k r.tree) (sym q.same) ∙ r.all w q.one q.among) in
    let run = r.trace [] (trace_end (on r.next [] (used_up r.tree es) (false || erases r.tree))
    (settled_end r.next (used_up r.tree es) (false || erases r.tree)) refl done) in
    record {
      nodes = lines r.tree;
      trace = subst (λ ns. Trace (setting_of p) ns (run_start p ts)) (append-nil (lines r.tree))
          (subst (λ g. Trace (setting_of p) (lines r.tree ++ []) (on s (Goal g ∷ []) es false)) moved run);
      count = sym (trees-count (lines r.tree) (r.tree ∷ []) (tree_of_lines r.tree))
          ∙ (ap (λ n. n + 0) r.count ∙ trees-count d.nodes (h.shows.tree ∷ []) h.shows.is_tree);
      numberless = sym (lines-numbers r.tree) ∙ r.numberless;
    }
  where
    ended : (x : Tree) (es : List (Entry Form)) (b : Bool) → erases x ≡ b
        → (erases x ≡ false → (e : Entry Form) → Among e es → e.live ≡ true → uses e.label x ≡ true) → not (has_live (used_up x es)) || erases x ≡ true
    ended x es true q h = ap (λ b. not (has_live (used_up x es)) || b) q ∙ any (not (has_live (used_up x es)))
      where
        any : (b : Bool) → b || true ≡ true
        any true = refl
        any false = refl
    ended x es false q h = ap (λ b. not b || erases x) (no_live x es (h q))
