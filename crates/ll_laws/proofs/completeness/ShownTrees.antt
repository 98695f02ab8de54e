-- Each tree that shows a goal is a tree of a run.
use Rattle.std.proofs.Common.{◌≡◌, ◌⊎◌, inl, inr, ℕ, suc, refl, ap, sym, subst, ◌∙◌, Bool, true, false, List, [], ◌∷◌, ◌++◌, map, length, arith}
use Rattle.std.specs.Prelude.{◌||◌, not, Some, option_map, is_some, slice_get}
use Rattle.std.specs.List.{list_any}
use Rattle.std.proofs.lemmas.Bool.{eqb-true, or_right}
use Rattle.ll_list_laws.proofs.CallerLemmas.{and_true_right as and_right, or_false_left as or_off_left, or_false_right as or_off_right}
use Rattle.ll_bank.specs.declared.Head.TheVariants.{Eigen}
use Rattle.ll_bank.specs.Term.{Term, Con, is_closed}
use Rattle.ll_bank.specs.Form.{Form, Top, One, Atom, With, Tensor, Plus, Bang, Lolli, Imp, Forall, Exists, Use, instantiate, form_has_eigen, Num}
use Rattle.ll_laws.specs.declared.Step.TheVariants.{Plain, Left, Right, Clause as ClauseStep}
use Rattle.ll_laws.specs.Leaf.{Premise, Needs, NeedsFree, leaf, premise_goal}
use Rattle.ll_laws.specs.Module.{Setting, ModuleTree, unfold_load}
use Rattle.ll_laws.specs.Settle.{Entry, Saved, Item, Goal, LolliEnd, ImpEnd, WithMiddle, WithEnd, BangEnd, marks, unlive}
use Rattle.ll_laws.specs.State.{State}
use Rattle.ll_laws.specs.Attempt.{is_linear, is_open, entry_at, picked}
use Rattle.ll_laws.specs.Derive.{AreClosed}
use Rattle.ll_laws.specs.Valid.{AreModules, GoalSide, ClauseSide, module_scope, fits_module}
use Rattle.ll_laws.specs.Shows.{Tree, OneNode, EraseNode, TensorNode, WithNode, LeftNode, RightNode, BangNode, LolliNode, ImpNode, ForallNode, ExistsNode}
use Rattle.ll_laws.specs.Shows.{UseNode, ClauseNode, Parts, NoParts, BoundedPart, UnboundedPart, Labelled, clauses, has, has_label, part, rest, one_of, splits}
use Rattle.ll_laws.specs.Shows.{Found, Missing, Took, take_label, pick, pick_of, nodes, part_nodes, Shows, ShowsParts, NumNode}
use Rattle.ll_laws.specs.Dealing.{uses, erases}
use Rattle.ll_laws.proofs.consistency.ConsistentLeaves.{ClausesFit}
use Rattle.ll_laws.proofs.consistency.ConsistentSteps.{module-fits}
use Rattle.ll_laws.proofs.consistency.ConsistentStates.{grows_given}
use Rattle.ll_laws.proofs.search.AnswerRuns.{Among}
use Rattle.ll_laws.proofs.derivations.Dealing.{distinct_sel}
use Rattle.ll_laws.proofs.derivations.Leftovers.{used_up}
use Rattle.ll_laws.proofs.completeness.Moving.{Numbers, clear, Fills, move, move_form, move_premise, move_leaf, TameForm, TamePremises, leaf_move, leaf_tame}
use Rattle.ll_laws.proofs.completeness.Moving.{move_close_form, form-close, form-more, unfold_tame, unfold_move, numbered}
use Rattle.ll_laws.proofs.completeness.Numbering.{add_number, own-number, more-numbers, form-fresh, form-new, moved-choice}
use Rattle.ll_laws.proofs.search.RunEnds.{picked_dead, unbounded_dead}
use Rattle.ll_laws.proofs.completeness.Sitting.{in_filter, all_pass, taken_from_map, Sits, later_sits, some_sit, used_sits, none_sits, picked_sits}
use Rattle.ll_laws.proofs.completeness.Sitting.{forall_sits, add_label, new_entry, lolli_sits, imp_sits}
use Rattle.ll_laws.proofs.completeness.TreesRun.{Ran, RanParts, in_part, in_rest, two_parts, not_both, apart_idle, after_step, one_ran, top_ran, tensor_ran}
use Rattle.ll_laws.proofs.completeness.TreesRun.{left_ran, right_ran, with_ran, bang_ran, lolli_ran, imp_ran, forall_ran, exists_ran, use_ran, clause_ran}
use Rattle.ll_laws.proofs.completeness.TreesRun.{no_parts, bounded_part, free_part}
use Rattle.ll_laws.proofs.completeness.Grounding.{or_none}
use Rattle.ll_laws.proofs.derivations.Numberless.{numbers, numbers_part}

-- two dealt parts have no label in common
parts_differ : (p q : List ℕ) (d : List Labelled) → splits p q d ≡ true → (l k : Labelled) → Among l (part p d) → Among k (part q d) → l.label ≡ k.label → ⊥
parts_differ p q d h l k m n e =
    let a = in_filter (λ l. has p l.label) d l m in
    let b = in_filter (λ l. has q l.label) d k n in
    two_parts (has p l.label) (has q l.label) a.passes (ap (has q) e ∙ b.passes)
    (all_pass (λ l. one_of (has p l.label) (has q l.label)) d l (and_right _ _ h) a.among)

rest_differs : (p : List ℕ) (d : List Labelled) (l k : Labelled) → Among l (part p d) → Among k (rest p d) → l.label ≡ k.label → ⊥
rest_differs p d l k m n e =
    let a = in_filter (λ l. has p l.label) d l m in
    let b = in_filter (λ l. not (has p l.label)) d k n in
    not_both (has p l.label) a.passes (ap (λ z. not (has p z)) e ∙ b.passes)

module _ (names : ℕ) (beside : Setting) (valid : AreModules names beside.modules beside.modules) (name : Term → ℕ) where
  -- ---- an atom

  module _ (to : Numbers) (at : ℕ → ℕ) (c d e : List Labelled) (s : State) (others : List (Item Form)) (es : List (Entry Form)) (v : Bool)
      (i : Sits beside.modules to name at s es c d)
      (n j : ℕ) (ts : List Term) (head : Term) (r : Form) (gs : List Premise) (closed : AreClosed ts)
      (leaves : leaf r j ts ≡ Some (record { premises = gs; head = head })) (m : ℕ) where
    abbrev taking : State
    taking = record s { terms = s.terms ++ map (move to name) ts; steps = s.steps ++ ClauseStep (at n) j ∷ [] }

    -- how the premises run on what the clause leaves over
    abbrev Going : Type 0
    Going = TamePremises beside.modules to gs → (fs : List (Entry Form)) → Sits beside.modules to name at taking fs c e
        → RanParts beside at m e taking (map (move_premise to name) gs) others fs v

    -- the leaf of the entry
    entry_leaf : (x : Entry Form) → x.clause ≡ move_form to name r → TameForm beside.modules to ClauseSide [] r
        → leaf x.clause j (map (move to name) ts) ≡ Some (record { premises = map (move_premise to name) gs; head = move to name head })
    entry_leaf x q t = ap (λ z. leaf z j (map (move to name) ts)) q
        ∙ (leaf_move to name beside.modules r j ts t closed ∙ ap (option_map (move_leaf to name)) leaves)

    premises_tame : TameForm beside.modules to ClauseSide [] r → TamePremises beside.modules to gs
    premises_tame t = leaf_tame beside.modules to r j ts (record { premises = gs; head = head }) t closed leaves

    open_free : (x : Entry Form) → is_linear x.kind ≡ false → is_open x ≡ true
    open_free x h = ap (λ b. not b || x.live) h

    open_live : (x : Entry Form) → x.live ≡ true → is_open x ≡ true
    open_live x h = or_right (not (is_linear x.kind)) x.live h

    by_free : (q : Form) (f : List Labelled) → take_label n c ≡ Took q f → q ≡ r → d ≡ e → Going
        → Ran beside at (suc m) d s (Atom (move to name head)) others es v
    by_free q f w y z go =
        let t = taken_from_map n c q f w in
        let h = i.free t.one t.among in
        let finds : entry_at es (at n) ≡ Some h.entry = ap (λ k. entry_at es (at k)) (sym t.same) ∙ h.finds in
        let tame : TameForm beside.modules to ClauseSide [] r = subst (TameForm beside.modules to ClauseSide []) (t.clause ∙ y) (i.tame_free t.one t.among) in
        let same : picked (at n) es ≡ es = picked_dead es (at n) h.entry finds (unbounded_dead es (at n) h.entry i.sound finds h.kind) in
        let k = later_sits taking (omega arith) (omega arith) i in
        clause_ran beside at d s others es v (move to name head) i.sound (at n) j (map (move to name) ts) (map (move_premise to name) gs) h.entry finds
        (open_free h.entry h.kind)
        (moved-choice to name s.eigens i.below ts closed) (entry_leaf h.entry (h.clause ∙ ap (move_form to name) (t.clause ∙ y)) tame) e
        (λ u. let x : true ≡ false = sym u ∙ h.kind in cc) (λ l g. subst (Among l) (sym z) g) (λ l g. inr (subst (Among l) z g)) m
        (go (premises_tame tame) (picked (at n) es) (subst (λ fs. Sits beside.modules to name at taking fs c e) (sym same)
        (subst (Sits beside.modules to name at taking es c) z k)))

    by_bounded : take_label n d ≡ Took r e → Going → Ran beside at (suc m) d s (Atom (move to name head)) others es v
    by_bounded w go =
        let t = taken_from_map n d r e w in
        let h = i.bounded t.one t.among in
        let finds : entry_at es (at n) ≡ Some h.entry = ap (λ k. entry_at es (at k)) (sym t.same) ∙ h.finds in
        let tame : TameForm beside.modules to ClauseSide [] r = subst (TameForm beside.modules to ClauseSide []) t.clause (i.tame_bounded t.one t.among) in
        clause_ran beside at d s others es v (move to name head) i.sound (at n) j (map (move to name) ts) (map (move_premise to name) gs) h.entry finds
        (open_live h.entry (h.live refl))
        (moved-choice to name s.eigens i.below ts closed) (entry_leaf h.entry (h.clause ∙ ap (move_form to name) t.clause) tame) e
        (λ u. record { label = t.one; among = t.among; same = ap at t.same }) t.left (λ l g. label l (t.either l g)) m
        (go (premises_tame tame) (picked (at n) es) (later_sits taking (omega arith) (omega arith) (picked_sits n r e w i)))
      where
        label : (l : Labelled) → (l.label ≡ n) ⊎ Among l e → (at l.label ≡ at n) ⊎ Among l e
        label l (inl q) = inl (ap at q)
        label l (inr q) = inr q

    atom_ran : pick n c d ≡ Took r e → Going → Ran beside at (suc m) d s (Atom (move to name head)) others es v
    atom_ran h go = step (take_label n c) (take_label n d) refl refl h
      where
        step : (o q : Found) → take_label n c ≡ o → take_label n d ≡ q → pick_of d o q ≡ Took r e
            → Ran beside at (suc m) d s (Atom (move to name head)) others es v
        step (Took p f) q x y h = let a : p ≡ r = cc in let b : d ≡ e = cc in by_free p f x a b go
        step Missing q x y h = by_bounded (y ∙ h) go

  -- ---- quantifiers

  open_forall : (to : Numbers) (k e : ℕ) (g : Form) → form_has_eigen k g ≡ false → TameForm beside.modules to GoalSide (true ∷ []) g
      → move_form (add_number to k e) name (instantiate g (Con (Eigen k))) ≡ instantiate (move_form to name g) (Con (Eigen e))
  open_forall to k e g f t =
      let more : Numbers = add_number to k e in
      let own : move more name (Con (Eigen k)) ≡ Con (Eigen e) = ap (λ o. numbered o (name (Con (Eigen k)))) (own-number to k e) in
      let fills : Fills more (Some (Con (Eigen k)) ∷ []) (true ∷ []) [] = (refl, λ q. (refl, ap (λ o. is_some o) (own-number to k e)), tt) in
      move_close_form more name beside.modules (Some (Con (Eigen k)) ∷ []) GoalSide (true ∷ []) [] g fills
      (form-more beside.modules to more GoalSide (true ∷ []) g (more-numbers to k e) t)
      ∙ (ap (λ z. instantiate (move_form more name g) z) own ∙ ap (λ z. instantiate z (Con (Eigen e))) (form-fresh to k e name g f))

  tame_forall : (to : Numbers) (k e : ℕ) (g : Form) → TameForm beside.modules to GoalSide (true ∷ []) g
      → TameForm beside.modules (add_number to k e) GoalSide [] (instantiate g (Con (Eigen k)))
  tame_forall to k e g t =
      form-close beside.modules (add_number to k e) (Some (Con (Eigen k)) ∷ []) GoalSide (true ∷ []) [] g (
        refl,
        λ q. (refl, ap (λ o. is_some o) (own-number to k e)),
        tt,
      )
      (form-more beside.modules to (add_number to k e) GoalSide (true ∷ []) g (more-numbers to k e) t)

  fills_exists : (to : Numbers) (t : Term) → is_closed t ≡ true → Fills to (Some t ∷ []) (false ∷ []) []
  fills_exists to t h = (h, λ q. cc, tt)

  -- ---- loads

  loaded_module : (k : ℕ) (l : ModuleTree) → slice_get beside.modules k ≡ Some l → ClausesFit (clear beside.modules 0) (module_scope l) l.clauses
  loaded_module k l q = module-fits names beside.modules beside.modules (clear beside.modules 0) k l (grows_given beside.modules 0 0 0 (omega arith)) valid q

  loaded_count : (k : ℕ) (l : ModuleTree) (ts : List Term) → slice_get beside.modules k ≡ Some l → fits_module (slice_get beside.modules k) ts ≡ true
      → length ts ≡ l.params
  loaded_count k l ts q h = eqb-true (length ts) l.params (ap (λ o. fits_module o ts) (sym q) ∙ h)

  -- ---- the trees

  mutual
    pub run_tree : (x : Tree) (to : Numbers) (at : ℕ → ℕ) (c d : List Labelled) (g : Form) (s : State) (others : List (Item Form)) (es : List (Entry Form))
        (v : Bool)
        → Sits beside.modules to name at s es c d → TameForm beside.modules to GoalSide [] g → numbers x ≡ false → Shows beside x c d g
        → Ran beside at (nodes x) d s (move_form to name g) others es v
    run_tree OneNode to at c d One s others es v i t k h = one_ran beside at d s others es v h
    run_tree EraseNode to at c d Top s others es v i t k h = top_ran beside at d s others es v
    run_tree NumNode to at c d (Num r a b) s others es v i t k h = cc
    run_tree (TensorNode p q x y) to at c d (Tensor f g) s others es v i t k h =
        let a = run_tree x to at c (part p d) f (after_step s Plain) (Goal (move_form to name g) ∷ others) es v
        (later_sits (after_step s Plain) (omega arith) (omega arith) (some_sit (part p d) (in_part p d) (distinct_sel (has p) d i.distinct) i)) t.0
        (or_off_left (numbers x) (numbers y) k) h.1 in
        let idle = apart_idle i (part p d) (part q d) (λ k. uses k a.tree) (in_part p d) (in_part q d) (parts_differ p q d h.0) a.within in
        let b = run_tree y to at c (part q d) g a.next others (used_up a.tree es) (v || erases a.tree)
        (used_sits a.tree idle (later_sits a.next a.labels a.eigens (some_sit (part q d) (in_part q d) (distinct_sel (has q) d i.distinct) i))) t.1
        (or_off_right (numbers x) (numbers y) k) h.2 in
        tensor_ran beside at d s others es v (move_form to name f) (move_form to name g) p q (nodes x) (nodes y) h.0 a b
    run_tree (WithNode x y) to at c d (With f g) s others es v i t k h =
        let sv : Saved = record { live = marks es; flag = v } in
        let a = run_tree x to at c d f (after_step s Plain) (WithMiddle sv ∷ Goal (move_form to name g) ∷ WithEnd sv sv ∷ others) es false
        (later_sits (after_step s Plain) (omega arith) (omega arith) i) t.0 (or_off_left (numbers x) (numbers y) k) h.0 in
        let b = run_tree y to at c d g a.next (WithEnd sv (record { live = marks (used_up a.tree es); flag = erases a.tree }) ∷ others) es false
        (later_sits a.next a.labels a.eigens i) t.1 (or_off_right (numbers x) (numbers y) k) h.1 in
        with_ran beside at d s others es v (move_form to name f) (move_form to name g) (nodes x) (nodes y) i.sound a b
    run_tree (LeftNode x) to at c d (Plus f g) s others es v i t k h =
        left_ran beside at d s others es v (move_form to name f) (move_form to name g) (nodes x)
        (run_tree x to at c d f (after_step s Left) others es v (later_sits (after_step s Left) (omega arith) (omega arith) i) t.0 k h)
    run_tree (RightNode x) to at c d (Plus f g) s others es v i t k h =
        right_ran beside at d s others es v (move_form to name f) (move_form to name g) (nodes x)
        (run_tree x to at c d g (after_step s Right) others es v (later_sits (after_step s Right) (omega arith) (omega arith) i) t.1 k h)
    run_tree (BangNode x) to at c d (Bang g) s others es v i t k h =
        bang_ran beside at d s others es v (move_form to name g) (nodes x) h.0
        (run_tree x to at c [] g (after_step s Plain) (BangEnd (record { live = marks es; flag = v }) ∷ others) (map unlive es) false
        (later_sits (after_step s Plain) (omega arith) (omega arith) (none_sits i)) t k (subst (λ z. Shows beside x c z g) h.0 h.1))
    run_tree (LolliNode n x) to at c d (Lolli r g) s others es v i t k h =
        let fc = or_off_left (has_label c n) (has_label d n) h.0 in
        let fd = or_off_right (has_label c n) (has_label d n) h.0 in
        let u : State = record (after_step s Plain) { label = suc s.label } in
        lolli_ran beside at d s others es v (move_form to name r) (move_form to name g) n (nodes x) r fd (i.fresh s.label (omega arith))
        (run_tree x to (add_label at n s.label) c (d ++ record { label = n; clause = r } ∷ []) g u (LolliEnd v ∷ others)
        (new_entry s true (move_form to name r) ∷ es) false (lolli_sits i n r fc fd t.0 u refl refl) t.1 k h.1)
    run_tree (ImpNode n x) to at c d (Imp r g) s others es v i t k h =
        let fc = or_off_left (has_label c n) (has_label d n) h.0 in
        let fd = or_off_right (has_label c n) (has_label d n) h.0 in
        let u : State = record (after_step s Plain) { label = suc s.label } in
        imp_ran beside at d s others es v (move_form to name r) (move_form to name g) n (nodes x) r fd (i.fresh s.label (omega arith))
        (run_tree x to (add_label at n s.label) (record { label = n; clause = r } ∷ c) d g u (ImpEnd ∷ others) (new_entry s false (move_form to name r) ∷ es) v
        (imp_sits i n r fc fd t.0 u refl refl) t.1 k h.1)
    run_tree (ForallNode k x) to at c d (Forall g) s others es v i t z h =
        let u : State = record (after_step s Plain) { eigens = suc s.eigens } in
        let a = run_tree x (add_number to k s.eigens) at c d (instantiate g (Con (Eigen k))) u others es v (forall_sits k g u refl refl h.0 i)
        (tame_forall to k s.eigens g t) z h.1 in
        forall_ran beside at d s others es v (move_form to name g) (nodes x) (or_none _ _ (form-new to name s.eigens i.below g) (i.new s.eigens (omega arith)))
        (subst (λ z. Ran beside at (nodes x) d u z others es v)
        (open_forall to k s.eigens g (or_off_left (form_has_eigen k g) (list_any (form_has_eigen k) (clauses c ++ clauses d)) h.0) t) a)
    run_tree (ExistsNode x y) to at c d (Exists g) s others es v i t k h =
        let u : State = record (after_step s Plain) { terms = s.terms ++ move to name x ∷ [] } in
        let f = fills_exists to x h.0 in
        let a = run_tree y to at c d (instantiate g x) u others es v (later_sits u (omega arith) (omega arith) i)
        (form-close beside.modules to (Some x ∷ []) GoalSide (false ∷ []) [] g f t) k h.1 in
        exists_ran beside at d s others es v (move_form to name g) (move to name x) (nodes y) (moved-choice to name s.eigens i.below (x ∷ []) (h.0, tt))
        (subst (λ z. Ran beside at (nodes y) d u z others es v) (move_close_form to name beside.modules (Some x ∷ []) GoalSide (false ∷ []) [] g f t) a)
    run_tree (UseNode x) to at c d (Use k ts g) s others es v i t z h =
        let f = loaded_module k h.0 h.1 in
        let n = loaded_count k h.0 ts h.1 t.0 in
        let a = run_tree x to at c d (unfold_load h.0 ts g) (after_step s Plain) others es v (later_sits (after_step s Plain) (omega arith) (omega arith) i)
        (unfold_tame beside.modules to h.0 ts g f n t.1 t.2) z h.2 in
        use_ran beside at d s others es v k (map (move to name) ts) (move_form to name g) h.0 (nodes x) h.1
        (subst (λ z. Ran beside at (nodes x) d (after_step s Plain) z others es v) (unfold_move beside.modules to h.0 ts g f n t.1 t.2 name) a)
    run_tree (ClauseNode n j ts ps) to at c d (Atom a) s others es v i t k h =
        atom_ran to at c d h.1 s others es v i n j ts a h.0 h.2 h.4 h.5 (part_nodes ps) h.3
        (λ tp fs q. run_parts ps to at c h.1 h.2 (record s { terms = s.terms ++ map (move to name) ts; steps = s.steps ++ ClauseStep (at n) j ∷ [] }) others fs
        v q tp k h.6)
    run_tree _ to at c d _ s others es v i t k h = absurd h

    run_parts : (ps : Parts) (to : Numbers) (at : ℕ → ℕ) (c d : List Labelled) (gs : List Premise) (s : State) (others : List (Item Form))
        (es : List (Entry Form)) (v : Bool)
        → Sits beside.modules to name at s es c d → TamePremises beside.modules to gs → numbers_part ps ≡ false → ShowsParts beside ps c d gs
        → RanParts beside at (part_nodes ps) d s (map (move_premise to name) gs) others es v
    run_parts NoParts to at c d [] s others es v i t k h = no_parts beside at d s others es v h
    run_parts (BoundedPart p x ps) to at c d (Needs g ∷ gs) s others es v i t k h =
        let a = run_tree x to at c (part p d) g s (map (λ p. Goal (premise_goal p)) (map (move_premise to name) gs) ++ others) es v
        (some_sit (part p d) (in_part p d) (distinct_sel (has p) d i.distinct) i) t.0 (or_off_left (numbers x) (numbers_part ps) k) h.1 in
        let idle = apart_idle i (part p d) (rest p d) (λ k. uses k a.tree) (in_part p d) (in_rest p d) (rest_differs p d) a.within in
        let b = run_parts ps to at c (rest p d) gs a.next others (used_up a.tree es) (v || erases a.tree)
        (used_sits a.tree idle (later_sits a.next a.labels a.eigens (some_sit (rest p d) (in_rest p d) (distinct_sel (λ n. not (has p n)) d i.distinct) i))) t.1
        (or_off_right (numbers x) (numbers_part ps) k) h.2 in
        bounded_part beside at d s others es v (move_form to name g) (map (move_premise to name) gs) p (nodes x) (part_nodes ps) a b
    run_parts (UnboundedPart (BangNode y) ps) to at c d (NeedsFree g ∷ gs) s others es v i t k h =
        let a = run_tree y to at c [] g (after_step s Plain)
        (BangEnd (record { live = marks es; flag = v }) ∷ (map (λ p. Goal (premise_goal p)) (map (move_premise to name) gs) ++ others)) (map unlive es)
        false
        (later_sits (after_step s Plain) (omega arith) (omega arith) (none_sits i)) t.0 (or_off_left (numbers y) (numbers_part ps) k) ((h.0).1) in
        let b = run_parts ps to at c d gs a.next others es v (later_sits a.next a.labels a.eigens i) t.1 (or_off_right (numbers y) (numbers_part ps) k) h.1 in
        free_part beside at d s others es v (move_form to name g) (map (move_premise to name) gs) (nodes y) (part_nodes ps) a b
    run_parts (UnboundedPart _ ps) to at c d (NeedsFree g ∷ gs) s others es v i t k h = absurd h.0
    run_parts _ to at c d _ s others es v i t k h = absurd h
