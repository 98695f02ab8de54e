-- Each inference of a consistent state gives a consistent one.
use Rattle.std.proofs.Common.{◌≡◌, ◌≤◌, ℕ, zero, suc, ◌+◌, refl, ap, sym, subst, ◌∙◌, Bool, true, false, List, [], ◌∷◌, ◌++◌, map, length, replicate, nat_eq}
use Rattle.std.proofs.Common.{arith, ℤ}
use Rattle.std.proofs.lemmas.List.{length-replicate, length-append, length-map}
use Rattle.std.proofs.lemmas.List.Folds.{list_all-append}
use Rattle.std.proofs.lemmas.Bool.{ltb-true, lt-ltb, leb-true, le-leb, eqb-true, ne_eqb, and_from as and_intro}
use Rattle.std.specs.Prelude.{◌||◌, not, if◌then◌else◌, nat_lt, nat_le, Option, Some, None, slice_get, slice_index, option_map, option_and_then}
use Rattle.std.specs.List.{list_all, list_any}
use Rattle.ll_list_laws.proofs.CallerLemmas.{and_true_left as and_left, and_true_right as and_right, lt_more}
use Rattle.ll_bank.specs.declared.Head.TheVariants.{Eigen}
use Rattle.ll_bank.specs.Term.{Term, Var, Con, sub, Int}
use Rattle.ll_bank.specs.Form.{Form, Top, One, Atom, With, Tensor, Plus, Bang, Lolli, Imp, Forall, Exists, Use, instantiate, Num, Is, Less, Most}
use Rattle.ll_laws.specs.declared.Kind.{Kind}
use Rattle.ll_laws.specs.declared.Kind.TheVariants.{Linear, Unbounded}
use Rattle.ll_laws.specs.declared.Step.{Step}
use Rattle.ll_laws.specs.declared.Candidate.{Candidate}
use Rattle.ll_laws.specs.Leaf.{Premise, premise_goal, Leaf, ways, leaf}
use Rattle.ll_laws.specs.Module.{ClauseTree, ModuleTree, Setting, unfold_load}
use Rattle.ll_laws.specs.Unify.{Solved, mgu}
use Rattle.ll_laws.specs.Settle.{Entry, Item, Goal, LolliEnd, ImpEnd, WithMiddle, WithEnd, BangEnd, unlive}
use Rattle.ll_laws.specs.State.{State, sub_item, sub_entry}
use Rattle.ll_laws.specs.Attempt.{is_linear, vars_from, entry_at, saved_of, picked, instantiated, with_leaf, take_leaf, take_way, take_entry, take_side}
use Rattle.ll_laws.specs.Attempt.{load_module, attempt_goal, attempt_agenda, attempt, stepped, take_value}
use Rattle.ll_laws.specs.Valid.{GoalSide, ClauseSide, Allowed, Scope, IsFormula, given, AreClauses, AreModules, module_scope, fits_module}
use Rattle.ll_laws.specs.Consistent.{ends_fit, allowed_in, AreGoals, AreResources, is_made, IsConsistent}
use Rattle.ll_laws.specs.Laws.{StepsConsistent}
use Rattle.ll_laws.proofs.unification.UnifyOver.{Falls, solve-falls}
use Rattle.ll_laws.proofs.consistency.ConsistentTerms.{Fit, AllFit, widens-refl, Grows, fit-more, fit_of_made, fit-made, GoesToFitting, fit-sub}
use Rattle.ll_laws.proofs.consistency.ConsistentForms.{FormFits, fits_of_formula, formula_of_fits, fits-more, fits-close}
use Rattle.ll_laws.proofs.consistency.ConsistentUnifier.{mgu-goes}
use Rattle.ll_laws.proofs.consistency.ConsistentLeaves.{PremisesFit, LeafFits, leaf-fits, ClausesFit, unfold_load-fits}
use Rattle.ll_laws.proofs.consistency.ConsistentContexts.{alike-unlive, alike-picked, alike-sub, alike-ends, alike-below, alike-differ, marks-fit, may-unlive}
use Rattle.ll_laws.proofs.consistency.ConsistentContexts.{may-picked, may-sub, resources-unlive, resources-picked, resources-more, resources-sub, goals-more}
use Rattle.ll_laws.proofs.consistency.ConsistentContexts.{goals-sub, ends-sub}
use Rattle.ll_laws.proofs.consistency.ConsistentStates.{IsFront, front_of_state, may_begin, vars-made, length-vars, levels-replicate, grows_given}
use Rattle.ll_laws.specs.Number.{value_of, holds}
use Rattle.ll_laws.specs.declared.Step.TheVariants.{Plain}

-- ---- fronts

-- another agenda
front-agenda : (may : Allowed) (label : ℕ) (a b : List (Item Form)) (es : List (Entry Form)) → IsFront may label a es → AreGoals may b → ends_fit b es ≡ true
    → IsFront may label b es
front-agenda may label a b es f g e = record { goals = g; resources = f.resources; below = f.below; differ = f.differ; live = f.live; ends = e }

front-more : (may more : Allowed) (label : ℕ) (a : List (Item Form)) (es : List (Entry Form)) → Grows may more → IsFront may label a es
    → IsFront more label a es
front-more may more label a es g f =
    record {
      goals = goals-more may more a g f.goals;
      resources = resources-more may more es g f.resources;
      below = f.below;
      differ = f.differ;
      live = f.live;
      ends = f.ends;
    }

-- all resources put away
front-unlive : (may : Allowed) (label : ℕ) (a b : List (Item Form)) (es : List (Entry Form)) → IsFront may label a es → AreGoals may b → ends_fit b es ≡ true
    → IsFront may label b (map unlive es)
front-unlive may label a b es f g e = record {
  goals = g;
  resources = resources-unlive may es f.resources;
  below = alike-below label es (map unlive es) (alike-unlive es) f.below;
  differ = alike-differ es (map unlive es) (alike-unlive es) f.differ;
  live = may-unlive es;
  ends = alike-ends b es (map unlive es) (alike-unlive es) e;
}

front-picked : (may : Allowed) (label l : ℕ) (a : List (Item Form)) (es : List (Entry Form)) → IsFront may label a es → IsFront may label a (picked l es)
front-picked may label l a es f = record {
  goals = f.goals;
  resources = resources-picked may l es f.resources;
  below = alike-below label es (picked l es) (alike-picked l es) f.below;
  differ = alike-differ es (picked l es) (alike-picked l es) f.differ;
  live = may-picked l es f.live;
  ends = alike-ends a es (picked l es) (alike-picked l es) f.ends;
}

front-sub : (may : Allowed) (s : ℕ → Term) (label : ℕ) (a : List (Item Form)) (es : List (Entry Form)) → GoesToFitting may s → IsFront may label a es
    → IsFront may label (map (sub_item s) a) (map (sub_entry s) es)
front-sub may s label a es g f = record {
  goals = goals-sub may s a g f.goals;
  resources = resources-sub may s es g f.resources;
  below = alike-below label es (map (sub_entry s) es) (alike-sub s es) f.below;
  differ = alike-differ es (map (sub_entry s) es) (alike-sub s es) f.differ;
  live = may-sub s es f.live;
  ends = alike-ends (map (sub_item s) a) es (map (sub_entry s) es) (alike-sub s es) (ends-sub s a es f.ends);
}

below-more : (m n : ℕ) (es : List (Entry Form)) → m ≤ n → list_all (λ e. nat_lt e.label m) es ≡ true → list_all (λ e. nat_lt e.label n) es ≡ true
below-more m n [] le h = refl
below-more m n (e ∷ es) le h =
    and_intro _ _ (lt_more e.label m n le (and_left (nat_lt e.label m) (list_all (λ e. nat_lt e.label m) es) h))
    (below-more m n es le (and_right (nat_lt e.label m) (list_all (λ e. nat_lt e.label m) es) h))

-- the next label is none of those below it
fresh : (n : ℕ) (es : List (Entry Form)) → list_all (λ e. nat_lt e.label n) es ≡ true → list_any (λ d. nat_eq n d.label) es ≡ false
fresh n [] h = refl
fresh n (e ∷ es) h =
    let l = ltb-true e.label n (and_left (nat_lt e.label n) (list_all (λ e. nat_lt e.label n) es) h) in
    ap (λ b. b || list_any (λ d. nat_eq n d.label) es) (ne_eqb n e.label (λ q. absurd (omega arith)))
    ∙ fresh n es (and_right (nat_lt e.label n) (list_all (λ e. nat_lt e.label n) es) h)

-- a clause loaded under the next label
front-loaded : (may : Allowed) (label : ℕ) (a b : List (Item Form)) (es : List (Entry Form)) (kind : Kind) (r : Form) → IsFront may label a es
    → IsFormula may ClauseSide [] r → AreGoals may b
    → ends_fit b (record { label = label; kind = kind; live = is_linear kind; clause = r } ∷ es) ≡ true
    → IsFront may (suc label) b (record { label = label; kind = kind; live = is_linear kind; clause = r } ∷ es)
front-loaded may label a b es kind r f c g e = record {
  goals = g;
  resources = (c, f.resources);
  below = and_intro _ _ (lt-ltb label (suc label) (omega arith)) (below-more label (suc label) es (omega arith) f.below);
  differ = and_intro _ _ (ap not (fresh label es f.below)) f.differ;
  live = and_intro _ _ (may_begin kind) f.live;
  ends = e;
}

-- ---- states

done : (m : Setting) (x t : State) → Some x ≡ Some t → IsConsistent m x → IsConsistent m t
done m x t h c = let e : x ≡ t = cc in subst (IsConsistent m) e c

-- a state with another front, and the same variables and eigenvariables
kept : (m : Setting) (s : State) (a : List (Item Form)) (es : List (Entry Form)) (flag : Bool) (label : ℕ) (steps : List Step) → IsConsistent m s
    → IsFront (allowed_in m s) label a es
    → IsConsistent m (record s { agenda = a; context = es; flag = flag; label = label; steps = steps })
kept m s a es flag label steps c f = record {
  goals = f.goals;
  resources = f.resources;
  terms = c.terms;
  term_count = c.term_count;
  levels = c.levels;
  labels_below = f.below;
  labels_differ = f.differ;
  live = f.live;
  ends = f.ends;
}

made-more : (may more : Allowed) (ts : List Term) → Grows may more → list_all (is_made may.variables may.eigens) ts ≡ true
    → list_all (is_made more.variables more.eigens) ts ≡ true
made-more may more [] g h = refl
made-more may more (t ∷ ts) g h =
    and_intro _ _ (fit-made more t (fit-more may more [] [] t g tt
    (fit_of_made may t (and_left (is_made may.variables may.eigens t) (list_all (is_made may.variables may.eigens) ts) h))))
    (made-more may more ts g (and_right (is_made may.variables may.eigens t) (list_all (is_made may.variables may.eigens) ts) h))

made-sub : (may : Allowed) (s : ℕ → Term) (ts : List Term) → GoesToFitting may s → list_all (is_made may.variables may.eigens) ts ≡ true
    → list_all (is_made may.variables may.eigens) (map (sub s) ts) ≡ true
made-sub may s [] g h = refl
made-sub may s (t ∷ ts) g h =
    and_intro _ _ (fit-made may (sub s t) (fit-sub may s [] t g
    (fit_of_made may t (and_left (is_made may.variables may.eigens t) (list_all (is_made may.variables may.eigens) ts) h))))
    (made-sub may s ts g (and_right (is_made may.variables may.eigens t) (list_all (is_made may.variables may.eigens) ts) h))

levels-more : (d e : ℕ) (ls : List ℕ) → d ≤ e → list_all (λ l. nat_le l d) ls ≡ true → list_all (λ l. nat_le l e) ls ≡ true
levels-more d e [] le h = refl
levels-more d e (l ∷ ls) le h =
    let k = leb-true l d (and_left (nat_le l d) (list_all (λ l. nat_le l d) ls) h) in
    and_intro _ _ (le-leb l e (omega arith)) (levels-more d e ls le (and_right (nat_le l d) (list_all (λ l. nat_le l d) ls) h))

-- levels that fell stay up to the number of eigenvariables
levels-fall : (e : ℕ) (old new : List ℕ) → length new ≡ length old → ((x : ℕ) → slice_index new x ≤ slice_index old x) → list_all (λ l. nat_le l e) old ≡ true
    → list_all (λ l. nat_le l e) new ≡ true
levels-fall e old [] n f h = refl
levels-fall e [] (k ∷ ks) n f h = absurd (omega arith)
levels-fall e (l ∷ ls) (k ∷ ks) n f h =
    let i = leb-true l e (and_left (nat_le l e) (list_all (λ l. nat_le l e) ls) h) in
    let j : k ≤ l = f 0 in
    and_intro _ _ (le-leb k e (omega arith)) (levels-fall e ls ks (omega arith) (λ x. f (suc x)) (and_right (nat_le l e) (list_all (λ l. nat_le l e) ls) h))

-- ---- new variables

-- a state's levels with those of n new variables
abbrev pub levels_with : State → ℕ → List ℕ
levels_with s n = s.levels ++ replicate n s.eigens

abbrev pub allowed_with : Setting → State → ℕ → Allowed
allowed_with m s n = record { modules = m.modules; variables = length (levels_with s n); eigens = s.eigens; opens = true }

pub count_with : (s : State) (n : ℕ) → length (levels_with s n) ≡ length s.levels + n
count_with s n = length-append s.levels (replicate n s.eigens) ∙ ap (λ k. length s.levels + k) (length-replicate n s.eigens)

pub grows_with : (m : Setting) (s : State) (n : ℕ) → Grows (allowed_in m s) (allowed_with m s n)
grows_with m s n = let c = count_with s n in record { modules = refl; variables = omega arith; eigens = omega arith; opens = λ h. h }

pub vars_with : (m : Setting) (s : State) (n : ℕ) → list_all (is_made (length (levels_with s n)) s.eigens) (vars_from (length s.levels) n) ≡ true
vars_with m s n = let c = count_with s n in vars-made (length (levels_with s n)) s.eigens (length s.levels) n (omega arith)

pub all_fit_of_made : (may : Allowed) (ts : List Term) → list_all (is_made may.variables may.eigens) ts ≡ true → AllFit may [] ts
all_fit_of_made may [] h = tt
all_fit_of_made may (t ∷ ts) h = (
  fit_of_made may t (and_left (is_made may.variables may.eigens t) (list_all (is_made may.variables may.eigens) ts) h),
  all_fit_of_made may ts (and_right (is_made may.variables may.eigens t) (list_all (is_made may.variables may.eigens) ts) h),
)

-- a state with n new variables and another front
opened : (m : Setting) (s : State) (n : ℕ) (a : List (Item Form)) (es : List (Entry Form)) (steps : List Step) → IsConsistent m s
    → IsFront (allowed_with m s n) s.label a es
    → IsConsistent m (record s { agenda = a; context = es; levels = levels_with s n; terms = s.terms ++ vars_from (length s.levels) n; steps = steps })
opened m s n a es steps c f = record {
  goals = f.goals;
  resources = f.resources;
  terms =
      list_all-append (is_made (length (levels_with s n)) s.eigens) s.terms (vars_from (length s.levels) n)
      ∙ and_intro _ _ (made-more (allowed_in m s) (allowed_with m s n) s.terms (grows_with m s n) c.terms) (vars_with m s n);
  term_count =
      length-append s.terms (vars_from (length s.levels) n) ∙
      (ap (λ k. k + length (vars_from (length s.levels) n)) c.term_count
      ∙ (ap (λ k. length s.levels + k) (length-vars (length s.levels) n) ∙ sym (count_with s n)));
  levels = list_all-append (λ l. nat_le l s.eigens) s.levels (replicate n s.eigens)
      ∙ and_intro _ _ c.levels (levels-replicate s.eigens s.eigens n (omega arith));
  labels_below = f.below;
  labels_differ = f.differ;
  live = f.live;
  ends = f.ends;
}

-- ---- atoms

premises-goals : (may : Allowed) (ps : List Premise) (rest : List (Item Form)) → PremisesFit may ps → AreGoals may rest
    → AreGoals may (map (λ p. Goal (premise_goal p)) ps ++ rest)
premises-goals may [] rest p h = h
premises-goals may (q ∷ ps) rest p h = (formula_of_fits may GoalSide [] (premise_goal q) p.0, premises-goals may ps rest p.1 h)

premises-ends : (ps : List Premise) (rest : List (Item Form)) (es : List (Entry Form)) → ends_fit rest es ≡ true
    → ends_fit (map (λ p. Goal (premise_goal p)) ps ++ rest) es ≡ true
premises-ends [] rest es h = h
premises-ends (q ∷ ps) rest es h = premises-ends ps rest es h

pub entry-formula : (may : Allowed) (es : List (Entry Form)) (label : ℕ) (e : Entry Form) → AreResources may es → entry_at es label ≡ Some e
    → IsFormula may ClauseSide [] e.clause
entry-formula may [] label e r h = cc
entry-formula may (d ∷ es) label e r h = step (nat_eq d.label label) (entry-formula may es label e r.1) h
  where
    step : (b : Bool) → (entry_at es label ≡ Some e → IsFormula may ClauseSide [] e.clause) → (if b then Some d else entry_at es label) ≡ Some e
        → IsFormula may ClauseSide [] e.clause
    step true i h = let q : d ≡ e = cc in subst (λ z. IsFormula may ClauseSide [] z.clause) q r.0
    step false i h = i h

mgu-falls : (ls rs : List Term) (levels : List ℕ) (v : Solved) → mgu ls rs levels ≡ Some v → Falls levels v.levels
unfolding mgu
mgu-falls ls rs levels v h = solve-falls (length levels) ls rs levels v h

same_count : (m : Setting) (w : State) (levels : List ℕ) → length levels ≡ length w.levels
    → Grows (allowed_in m w) (record { modules = m.modules; variables = length levels; eigens = w.eigens; opens = true })
same_count m w levels e = record { modules = refl; variables = omega arith; eigens = omega arith; opens = λ h. h }

-- a consistent state under a substitution to terms that fit, with levels that fell
instantiated-consistent : (m : Setting) (w : State) (u : Solved) → IsConsistent m w → GoesToFitting (allowed_in m w) u.subst → Falls w.levels u.levels
    → IsConsistent m (instantiated w u)
instantiated-consistent m w u c g l =
    let may = allowed_in m w in
    let more : Allowed = record { modules = m.modules; variables = length u.levels; eigens = w.eigens; opens = true } in
    let k = same_count m w u.levels l.count in
    let f = front-more may more w.label (map (sub_item u.subst) w.agenda) (map (sub_entry u.subst) w.context) k
    (front-sub may u.subst w.label w.agenda w.context g (front_of_state m w c)) in
    record {
      goals = f.goals;
      resources = f.resources;
      terms = made-more may more (map (sub u.subst) w.terms) k (made-sub may u.subst w.terms g c.terms);
      term_count = length-map w.terms (sub u.subst) ∙ (c.term_count ∙ sym l.count);
      levels = levels-fall w.eigens w.levels u.levels l.count l.each c.levels;
      labels_below = f.below;
      labels_differ = f.differ;
      live = f.live;
      ends = f.ends;
    }

leaf-consistent : (m : Setting) (s t : State) (a : Term) (rest : List (Item Form)) (label k n : ℕ) (l : Leaf) → IsConsistent m s
    → AreGoals (allowed_in m s) rest → ends_fit rest s.context ≡ true
    → Fit (allowed_in m s) [] a → LeafFits (allowed_with m s n) l → take_leaf s a rest label k n l ≡ Some t → IsConsistent m t
leaf-consistent m s t a rest label k n l c g e fa fl h = step (mgu (a ∷ []) (l.head ∷ []) (levels_with s n)) refl h
  where
    step : (o : Option Solved) → mgu (a ∷ []) (l.head ∷ []) (levels_with s n) ≡ o → option_map (instantiated (with_leaf s rest label k n l)) o ≡ Some t
        → IsConsistent m t
    step None q h = cc
    step (Some u) q h =
        let may = allowed_in m s in
        let more = allowed_with m s n in
        let w = with_leaf s rest label k n l in
        let f = front-more may more s.label s.agenda s.context (grows_with m s n) (front_of_state m s c) in
        let b = map (λ p. Goal (premise_goal p)) l.premises ++ rest in
        let gs = premises-goals more l.premises rest fl.premises (goals-more may more rest (grows_with m s n) g) in
        let p = front-picked more s.label label b s.context (front-agenda more s.label s.agenda b s.context f gs (premises-ends l.premises rest s.context e)) in
        let cw = opened m s n b (picked label s.context) w.steps c p in
        let go = mgu-goes more (a ∷ []) (l.head ∷ []) (levels_with s n) u (fit-more may more [] [] a (grows_with m s n) tt fa, tt) (fl.head.1, tt) q in
        done m (instantiated w u) t h (instantiated-consistent m w u cw go (mgu-falls (a ∷ []) (l.head ∷ []) (levels_with s n) u q))

way-consistent : (m : Setting) (s t : State) (a : Term) (rest : List (Item Form)) (label k n : ℕ) (e : Entry Form) → IsConsistent m s
    → AreGoals (allowed_in m s) rest → ends_fit rest s.context ≡ true
    → Fit (allowed_in m s) [] a → IsFormula (allowed_in m s) ClauseSide [] e.clause → take_way s a rest label k e n ≡ Some t → IsConsistent m t
way-consistent m s t a rest label k n e c g i fa fe h = step (leaf e.clause k (vars_from (length s.levels) n)) refl h
  where
    step : (o : Option Leaf) → leaf e.clause k (vars_from (length s.levels) n) ≡ o → option_and_then (take_leaf s a rest label k n) o ≡ Some t
        → IsConsistent m t
    step None q h = cc
    step (Some l) q h =
        let more = allowed_with m s n in
        let r = fits-more (allowed_in m s) more ClauseSide [] [] e.clause (grows_with m s n) tt (fits_of_formula (allowed_in m s) ClauseSide [] e.clause fe) in
        leaf-consistent m s t a rest label k n l c g i fa (leaf-fits more e.clause k (vars_from (length s.levels) n) l r
        (all_fit_of_made more (vars_from (length s.levels) n) (vars_with m s n)) q) h

entry-consistent : (m : Setting) (s t : State) (a : Term) (rest : List (Item Form)) (label k : ℕ) (e : Entry Form) → IsConsistent m s
    → AreGoals (allowed_in m s) rest → ends_fit rest s.context ≡ true
    → Fit (allowed_in m s) [] a → IsFormula (allowed_in m s) ClauseSide [] e.clause → take_entry s a rest label k e ≡ Some t → IsConsistent m t
entry-consistent m s t a rest label k e c g i fa fe h = step (slice_get (ways e.clause) k) h
  where
    step : (o : Option ℕ) → option_and_then (take_way s a rest label k e) o ≡ Some t → IsConsistent m t
    step None h = cc
    step (Some n) h = way-consistent m s t a rest label k n e c g i fa fe h

atom-consistent : (m : Setting) (s t : State) (a : Term) (rest : List (Item Form)) (label k : ℕ) → IsConsistent m s → AreGoals (allowed_in m s) rest
    → ends_fit rest s.context ≡ true
    → Fit (allowed_in m s) [] a → option_and_then (take_entry s a rest label k) (entry_at s.context label) ≡ Some t → IsConsistent m t
atom-consistent m s t a rest label k c g i fa h = step (entry_at s.context label) refl h
  where
    step : (o : Option (Entry Form)) → entry_at s.context label ≡ o → option_and_then (take_entry s a rest label k) o ≡ Some t → IsConsistent m t
    step None q h = cc
    step (Some e) q h = entry-consistent m s t a rest label k e c g i fa (entry-formula (allowed_in m s) s.context label e c.resources q) h

-- ---- modules

clauses-fit : (names : ℕ) (ms : List ModuleTree) (may : Allowed) (scope : Scope) (cs : List ClauseTree) → Grows (given ms 0) may → AreClauses names ms scope cs
    → ClausesFit may scope cs
clauses-fit names ms may scope [] g h = tt
clauses-fit names ms may scope (c ∷ cs) g h = (
  fits-more (given ms 0) may ClauseSide scope scope c.form g (widens-refl scope) (fits_of_formula (given ms 0) ClauseSide scope c.form h.0),
  clauses-fit names ms may scope cs g h.2,
)

pub module-fits : (names : ℕ) (modules ms : List ModuleTree) (may : Allowed) (n : ℕ) (d : ModuleTree) → Grows (given modules 0) may
    → AreModules names modules ms → slice_get ms n ≡ Some d
    → ClausesFit may (module_scope d) d.clauses
module-fits names modules [] may n d g h q = cc
module-fits names modules (x ∷ ms) may zero d g h q = let e : x ≡ d = cc in
    subst (λ z. ClausesFit may (module_scope z) z.clauses) e (clauses-fit names modules may (module_scope x) x.clauses g h.0)
module-fits names modules (x ∷ ms) may (suc n) d g h q = module-fits names modules ms may n d g h.2 q

-- ---- whole-number goals

-- the goal went, and nothing else was changed
gone-consistent : (m : Setting) (s : State) (rest : List (Item Form)) → IsConsistent m s → AreGoals (allowed_in m s) rest → ends_fit rest s.context ≡ true
    → IsConsistent m (stepped s rest Plain)
gone-consistent m s rest i r e = kept m s rest s.context s.flag s.label _ i
    (front-agenda (allowed_in m s) s.label s.agenda rest s.context (front_of_state m s i) r e)

tested-consistent : (m : Setting) (s t : State) (rest : List (Item Form)) (b : Bool) → IsConsistent m s → AreGoals (allowed_in m s) rest
    → ends_fit rest s.context ≡ true
    → (if b then Some (stepped s rest Plain) else None) ≡ Some t → IsConsistent m t
tested-consistent m s t rest true i r e h = done m _ t h (gone-consistent m s rest i r e)
tested-consistent m s t rest false i r e h = cc

value-consistent : (m : Setting) (s t : State) (a : Term) (rest : List (Item Form)) (o : Option ℤ) → IsConsistent m s → AreGoals (allowed_in m s) rest
    → ends_fit rest s.context ≡ true → Fit (allowed_in m s) [] a
    → take_value s a rest o ≡ Some t → IsConsistent m t
value-consistent m s t a rest None i r e fa h = cc
value-consistent m s t a rest (Some z) i r e fa h = step (mgu (a ∷ []) (Int z ∷ []) s.levels) refl h
  where
    step : (o : Option Solved) → mgu (a ∷ []) (Int z ∷ []) s.levels ≡ o → option_map (instantiated (stepped s rest Plain)) o ≡ Some t → IsConsistent m t
    step None q h = cc
    step (Some v) q h =
        done m (instantiated (stepped s rest Plain) v) t h
        (instantiated-consistent m (stepped s rest Plain) v (gone-consistent m s rest i r e)
        (mgu-goes (allowed_in m s) (a ∷ []) (Int z ∷ []) s.levels v (fa, tt) (tt, tt) q)
        (mgu-falls (a ∷ []) (Int z ∷ []) s.levels v q))

-- ---- inferences

goal-consistent : (names : ℕ) (m : Setting) (s t : State) (g : Form) (rest : List (Item Form)) (c : Candidate) → AreModules names m.modules m.modules
    → IsConsistent m s
    → FormFits (allowed_in m s) GoalSide [] g → AreGoals (allowed_in m s) rest → ends_fit rest s.context ≡ true → attempt_goal m s g rest c ≡ Some t
    → IsConsistent m t
goal-consistent names m s t One rest c v i f r e h =
    done m _ t h (kept m s rest s.context s.flag s.label _ i (front-agenda (allowed_in m s) s.label s.agenda rest s.context (front_of_state m s i) r e))
goal-consistent names m s t Top rest c v i f r e h =
    done m _ t h (kept m s rest s.context true s.label _ i (front-agenda (allowed_in m s) s.label s.agenda rest s.context (front_of_state m s i) r e))
goal-consistent names m s t (Tensor p q) rest c v i f r e h =
    let may = allowed_in m s in
    done m _ t h (kept m s (Goal p ∷ Goal q ∷ rest) s.context s.flag s.label _ i
    (front-agenda may s.label s.agenda (Goal p ∷ Goal q ∷ rest) s.context (front_of_state m s i) (
      formula_of_fits may GoalSide [] p f.1,
      (formula_of_fits may GoalSide [] q f.2, r),
    ) e))
goal-consistent names m s t (Plus p q) rest c v i f r e h = step c.leaf h
  where
    step : (k : ℕ) → Some (take_side k s p q rest) ≡ Some t → IsConsistent m t
    step zero h =
        let may = allowed_in m s in
        done m _ t h (kept m s (Goal p ∷ rest) s.context s.flag s.label _ i
        (front-agenda may s.label s.agenda (Goal p ∷ rest) s.context (front_of_state m s i) (formula_of_fits may GoalSide [] p f.1, r) e))
    step (suc k) h =
        let may = allowed_in m s in
        done m _ t h (kept m s (Goal q ∷ rest) s.context s.flag s.label _ i
        (front-agenda may s.label s.agenda (Goal q ∷ rest) s.context (front_of_state m s i) (formula_of_fits may GoalSide [] q f.2, r) e))
goal-consistent names m s t (With p q) rest c v i f r e h =
    let may = allowed_in m s in
    let a = Goal p ∷ WithMiddle (saved_of s) ∷ Goal q ∷ WithEnd (saved_of s) (saved_of s) ∷ rest in
    let k = marks-fit s.context i.live in
    let n : ends_fit a s.context ≡ true = and_intro _ _ (and_intro _ _ refl k) (and_intro _ _ (and_intro _ _ k k) e) in
    done m _ t h (kept m s a s.context false s.label _ i
    (front-agenda may s.label s.agenda a s.context (front_of_state m s i) (formula_of_fits may GoalSide [] p f.0, (formula_of_fits may GoalSide [] q f.1, r))
    n))
goal-consistent names m s t (Bang p) rest c v i f r e h =
    let may = allowed_in m s in
    let a = Goal p ∷ BangEnd (saved_of s) ∷ rest in
    done m _ t h (kept m s a (map unlive s.context) false s.label _ i
    (front-unlive may s.label s.agenda a s.context (front_of_state m s i) (formula_of_fits may GoalSide [] p f.1, r)
    (and_intro _ _ (marks-fit s.context i.live) e)))
goal-consistent names m s t (Lolli p q) rest c v i f r e h =
    let may = allowed_in m s in
    done m _ t h (kept m s (Goal q ∷ LolliEnd s.flag ∷ rest) _ false (suc s.label) _ i
    (front-loaded may s.label s.agenda (Goal q ∷ LolliEnd s.flag ∷ rest) s.context Linear p (front_of_state m s i) (formula_of_fits may ClauseSide [] p f.0)
    (formula_of_fits may GoalSide [] q f.1, r) e))
goal-consistent names m s t (Imp p q) rest c v i f r e h =
    let may = allowed_in m s in
    done m _ t h (kept m s (Goal q ∷ ImpEnd ∷ rest) _ s.flag (suc s.label) _ i
    (front-loaded may s.label s.agenda (Goal q ∷ ImpEnd ∷ rest) s.context Unbounded p (front_of_state m s i) (formula_of_fits may ClauseSide [] p f.0)
    (formula_of_fits may GoalSide [] q f.1, r) e))
goal-consistent names m s t (Forall p) rest c v i f r e h =
    let may = allowed_in m s in
    let more : Allowed = record { modules = m.modules; variables = length s.levels; eigens = suc s.eigens; opens = true } in
    let k : Grows may more = record { modules = refl; variables = omega arith; eigens = omega arith; opens = λ h. h } in
    let x = Con (Eigen s.eigens) in
    let b = fits-close more (Some x ∷ []) GoalSide (true ∷ []) [] p (lt-ltb s.eigens (suc s.eigens) (omega arith), λ h. refl, tt)
    (fits-more may more GoalSide (true ∷ []) (true ∷ []) p k (λ h. h, tt) f) in
    let a = Goal (instantiate p x) ∷ rest in
    let n =
    front-agenda more s.label s.agenda a s.context (front-more may more s.label s.agenda s.context k (front_of_state m s i))
    (formula_of_fits more GoalSide [] (instantiate p x) b, goals-more may more rest k r) e
    in
    done m _ t h (record {
      goals = n.goals;
      resources = n.resources;
      terms = made-more may more s.terms k i.terms;
      term_count = i.term_count;
      levels = levels-more s.eigens (suc s.eigens) s.levels (omega arith) i.levels;
      labels_below = n.below;
      labels_differ = n.differ;
      live = n.live;
      ends = n.ends;
    })
goal-consistent names m s t (Exists p) rest c v i f r e h =
    let may = allowed_in m s in
    let more = allowed_with m s 1 in
    let k = grows_with m s 1 in
    let y = count_with s 1 in
    let x = Var (length s.levels) in
    let b = fits-close more (Some x ∷ []) GoalSide (false ∷ []) [] p (
      lt-ltb (length s.levels) (length (levels_with s 1)) (omega arith),
      λ h. absurd (cc (h)),
      tt,
    ) (fits-more may more GoalSide (false ∷ []) (false ∷ []) p k (λ h. h, tt) f.1) in
    let a = Goal (instantiate p x) ∷ rest in
    let n =
    front-agenda more s.label s.agenda a s.context (front-more may more s.label s.agenda s.context k (front_of_state m s i))
    (formula_of_fits more GoalSide [] (instantiate p x) b, goals-more may more rest k r) e
    in
    done m _ t h (opened m s 1 a s.context _ i n)
goal-consistent names m s t (Use n ts p) rest c v i f r e h = step (slice_get m.modules n) refl f.1 h
  where
    step : (o : Option ModuleTree) → slice_get m.modules n ≡ o → fits_module o ts ≡ true → load_module s rest ts p o ≡ Some t → IsConsistent m t
    step None q k h = cc
    step (Some d) q k h =
        let may = allowed_in m s in
        let b = unfold_load-fits may d ts p refl (module-fits names m.modules m.modules may n d
        (grows_given m.modules 0 (length s.levels) s.eigens (omega arith)) v q) (eqb-true (length ts) d.params k) f.2 f.3 in
        let a = Goal (unfold_load d ts p) ∷ rest in
        done m _ t h (kept m s a s.context s.flag s.label _ i
        (front-agenda may s.label s.agenda a s.context (front_of_state m s i) (formula_of_fits may GoalSide [] (unfold_load d ts p) b, r) e))
goal-consistent names m s t (Atom a) rest c v i f r e h = atom-consistent m s t a rest c.label c.leaf i r e f.1 h
goal-consistent names m s t (Num Is a b) rest c v i f r e h = value-consistent m s t a rest (value_of m.operators b) i r e f.1 h
goal-consistent names m s t (Num Less a b) rest c v i f r e h = tested-consistent m s t rest (holds m.operators Less a b) i r e h
goal-consistent names m s t (Num Most a b) rest c v i f r e h = tested-consistent m s t rest (holds m.operators Most a b) i r e h

agenda-consistent : (names : ℕ) (m : Setting) (s t : State) (a : List (Item Form)) (c : Candidate) → AreModules names m.modules m.modules → IsConsistent m s
    → AreGoals (allowed_in m s) a → ends_fit a s.context ≡ true → attempt_agenda m s a c ≡ Some t → IsConsistent m t
agenda-consistent names m s t (Goal g ∷ rest) c v i r e h = goal-consistent names m s t g rest c v i (fits_of_formula (allowed_in m s) GoalSide [] g r.0) r.1 e
    h
agenda-consistent names m s t _ c v i r e h = cc

pub steps_consistent : StepsConsistent
unfolding attempt
steps_consistent names m s t c v i h = agenda-consistent names m s t s.agenda c v i i.goals i.ends h
