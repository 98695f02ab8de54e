-- What an answer makes of the variables, inference by inference.
use Rattle.std.proofs.Common.{◌≡◌, ◌≤◌, ◌<◌, ℕ, zero, suc, ◌+◌, refl, ap, subst, ◌∙◌, Bool, true, false, List, [], ◌∷◌, ◌++◌, map, length, replicate, arith}
use Rattle.std.specs.Prelude.{◌||◌, nat_lt, nat_le, Option, Some, None, slice_get, slice_index, if◌then◌else◌}
use Rattle.std.specs.List.{list_any, list_all}
use Rattle.std.proofs.lemmas.Bool.{eqb-true, eq-eqb, ltb-true, ne_eqb, leb-true, and_from as and_intro}
use Rattle.std.proofs.Math.ListN.{get_or-append}
use Rattle.ll_list_laws.proofs.CallerLemmas.{slice_index-append as old_level, and_true_left as and_left, and_true_right as and_right, or_elim as or_split}
use Rattle.ll_bank.specs.declared.Head.TheVariants.{Name, Eigen, Bound}
use Rattle.ll_bank.specs.Term.{Term, Var, Int, Con, Ap, sub, is_closed, eigens_below, has_eigen, occurs}
use Rattle.ll_bank.specs.Form.{Form, Top, One, Atom, With, Tensor, Plus, Bang, Lolli, Imp, Forall, Exists, Use, form_has_eigen, Num, Is, Less, Most}
use Rattle.ll_laws.specs.declared.Candidate.{Candidate}
use Rattle.ll_laws.specs.Module.{Setting, ModuleTree}
use Rattle.ll_laws.specs.Settle.{Entry, Item, Goal}
use Rattle.ll_laws.specs.State.{State, sub_entry}
use Rattle.ll_laws.specs.Attempt.{attempt_goal, take_side, load_module, vars_from, stepped}
use Rattle.ll_laws.specs.Unify.{FitsLevel, vars_below}
use Rattle.ll_laws.specs.Valid.{Allowed, given, AreModules, GoalSide, ClauseSide}
use Rattle.ll_laws.specs.Consistent.{IsConsistent, AreGoals, AreResources, allowed_in}
use Rattle.ll_laws.specs.Run.{IsFresh, MayChoose}
use Rattle.ll_laws.proofs.unification.SubLaws.{IsClosing}
use Rattle.ll_laws.proofs.unification.UnifyLaws.{eigens-mono, fits-left, fits-right}
use Rattle.ll_laws.proofs.consistency.ConsistentTerms.{grows-refl}
use Rattle.ll_laws.proofs.consistency.ConsistentForms.{FormFits, fits_of_formula}
use Rattle.ll_laws.proofs.consistency.ConsistentSteps.{module-fits}
use Rattle.ll_laws.proofs.completeness.Grounding.{or_none, Avoids, form_avoids, unfold_sub}
use Rattle.ll_laws.proofs.search.Projected.{Ready, IsPlain}
use Rattle.ll_laws.specs.Number.{holds}
use Rattle.ll_laws.specs.declared.Step.TheVariants.{Plain}

-- ---- levels

pub new_level : (xs : List ℕ) (k e x : ℕ) → length xs ≤ x → x < length xs + k → slice_index (xs ++ replicate k e) x ≡ e
new_level [] zero e x l h = absurd (omega (arith, h))
new_level [] (suc k) e zero l h = refl
new_level [] (suc k) e (suc x) l h = new_level [] k e x (omega arith) (omega (arith, h))
new_level (y ∷ xs) k e zero l h = absurd (omega (arith, l))
new_level (y ∷ xs) k e (suc x) l h = new_level xs k e x (omega (arith, l)) (omega (arith, h))

pub level_up_to : (e : ℕ) (levels : List ℕ) (x : ℕ) → list_all (λ l. nat_le l e) levels ≡ true → slice_index levels x ≤ e
level_up_to e [] x h = omega arith
level_up_to e (l ∷ levels) zero h = leb-true l e (and_left (nat_le l e) (list_all (λ l. nat_le l e) levels) h)
level_up_to e (l ∷ levels) (suc x) h = level_up_to e levels x (and_right (nat_le l e) (list_all (λ l. nat_le l e) levels) h)

-- ---- eigenvariables

pub eigens_none : (k : ℕ) (t : Term) → eigens_below k t ≡ true → has_eigen k t ≡ false
eigens_none k (Var x) h = refl
eigens_none k (Int z) h = refl
eigens_none k (Con (Name n)) h = refl
eigens_none k (Con (Bound n)) h = refl
eigens_none k (Con (Eigen j)) h = ne_eqb k j (λ e. let l = ltb-true j k h in omega (arith, e, l))
eigens_none k (Ap t u) h =
    ap (λ b. b || has_eigen k u) (eigens_none k t (and_left (eigens_below k t) (eigens_below k u) h))
    ∙ eigens_none k u (and_right (eigens_below k t) (eigens_below k u) h)

pub occurs_below : (n y : ℕ) (t : Term) → vars_below n t ≡ true → occurs y t ≡ true → y < n
occurs_below n y (Var x) v h = let e = eqb-true y x h in let l = ltb-true x n v in omega (arith, e, l)
occurs_below n y (Int z) v h = cc
occurs_below n y (Con k) v h = cc
occurs_below n y (Ap t u) v h =
    or_split (occurs y t) (occurs y u) h (λ q. occurs_below n y t (and_left (vars_below n t) (vars_below n u) v) q)
    (λ q. occurs_below n y u (and_right (vars_below n t) (vars_below n u) v) q)

-- a term that fits a level has no newer eigenvariable once its variables have terms that fit theirs
pub sub_below : (l : ℕ) (levels : List ℕ) (f : ℕ → Term) → ((y : ℕ) → y < length levels → eigens_below (slice_index levels y) (f y) ≡ true)
    → (t : Term) → vars_below (length levels) t ≡ true → FitsLevel l t levels → eigens_below l (sub f t) ≡ true
sub_below l levels f below (Var x) v fit = eigens-mono (slice_index levels x) l (f x) (fit.vars x (eq-eqb x x refl)) (below x (ltb-true x (length levels) v))
sub_below l levels f below (Int z) v fit = refl
sub_below l levels f below (Con k) v fit = fit.eigens
sub_below l levels f below (Ap t u) v fit =
    and_intro _ _ (sub_below l levels f below t (and_left (vars_below (length levels) t) (vars_below (length levels) u) v) (fits-left l t u levels fit))
    (sub_below l levels f below u (and_right (vars_below (length levels) t) (vars_below (length levels) u) v) (fits-right l t u levels fit))

-- ---- what a run needs of a consistent state

fresh_label : (n : ℕ) (es : List (Entry Form)) → list_all (λ e. nat_lt e.label n) es ≡ true → IsFresh n es
fresh_label n [] h = refl
fresh_label n (e ∷ es) h =
    or_none _ _ (ne_eqb n e.label (λ q. let l = ltb-true e.label n (and_left (nat_lt e.label n) (list_all (λ e. nat_lt e.label n) es) h) in
    omega (arith, q, l)))
    (fresh_label n es (and_right (nat_lt e.label n) (list_all (λ e. nat_lt e.label n) es) h))

resources_avoid : (may : Allowed) (f : ℕ → Term) → Avoids may.eigens may.variables f → (es : List (Entry Form)) → AreResources may es
    → list_any (form_has_eigen may.eigens) (map (λ e. e.clause) (map (sub_entry f) es)) ≡ false
resources_avoid may f v [] r = refl
resources_avoid may f v (e ∷ es) r = or_none _ _ (form_avoids may f v ClauseSide [] e.clause (fits_of_formula may ClauseSide [] e.clause r.0))
    (resources_avoid may f v es r.1)

-- terms that fit the levels of a consistent state avoid the next eigenvariable
pub avoids_next : (beside : Setting) (s : State) (f : ℕ → Term) → IsConsistent beside s
    → ((x : ℕ) → x < length s.levels → eigens_below (slice_index s.levels x) (f x) ≡ true)
    → Avoids s.eigens (length s.levels) f
avoids_next beside s f i below x h =
    eigens_none s.eigens (f x) (eigens-mono (slice_index s.levels x) s.eigens (f x) (level_up_to s.eigens s.levels x i.levels)
    (below x (ltb-true x (length s.levels) h)))

pub ready : (names : ℕ) (beside : Setting) (s : State) (f : ℕ → Term) (g : Form) (rest : List (Item Form)) → AreModules names beside.modules beside.modules
    → IsConsistent beside s → IsClosing f
    → ((x : ℕ) → x < length s.levels → eigens_below (slice_index s.levels x) (f x) ≡ true) → s.agenda ≡ Goal g ∷ rest → Ready beside s f g
ready names beside s f g rest v i cl below e =
    let may = allowed_in beside s in
    let av = avoids_next beside s f i below in
    let fits : AreGoals may (Goal g ∷ rest) = subst (AreGoals may) e i.goals in
    record {
      fresh = fresh_label s.label s.context i.labels_below;
      new = λ a q. or_none _ _ (form_avoids may f av GoalSide (true ∷ []) a (subst (FormFits may GoalSide []) q (fits_of_formula may GoalSide [] g fits.0)))
          (resources_avoid may f av s.context i.resources);
      modules = λ k m ts h q. unfold_sub f cl beside.modules _ m ts h
          (module-fits names beside.modules beside.modules (given beside.modules 0) k m (grows-refl (given beside.modules 0)) v q);
    }

-- ---- inferences that make no variable

pub record SameVariables (s u : State) : Type 0 where
  pub levels : u.levels ≡ s.levels
  pub terms : u.terms ≡ s.terms

kept : (s x u : State) → Some x ≡ Some u → x.levels ≡ s.levels → x.terms ≡ s.terms → SameVariables s u
kept s x u h a b = let e : x ≡ u = cc in subst (SameVariables s) e (record { levels = a; terms = b })

tested : (s u : State) (rest : List (Item Form)) (b : Bool) → (if b then Some (stepped s rest Plain) else None) ≡ Some u → SameVariables s u
tested s u rest true h = kept s _ u h refl refl
tested s u rest false h = cc

pub same_variables : (beside : Setting) (s u : State) (g : Form) (rest : List (Item Form)) (c : Candidate) → attempt_goal beside s g rest c ≡ Some u → IsPlain g
    → SameVariables s u
same_variables beside s u One rest c h p = kept s _ u h refl refl
same_variables beside s u Top rest c h p = kept s _ u h refl refl
same_variables beside s u (Tensor f g) rest c h p = kept s _ u h refl refl
same_variables beside s u (Plus f g) rest c h p = step c.leaf h
  where
    step : (k : ℕ) → Some (take_side k s f g rest) ≡ Some u → SameVariables s u
    step zero h = kept s _ u h refl refl
    step (suc k) h = kept s _ u h refl refl
same_variables beside s u (With f g) rest c h p = kept s _ u h refl refl
same_variables beside s u (Bang f) rest c h p = kept s _ u h refl refl
same_variables beside s u (Lolli r g) rest c h p = kept s _ u h refl refl
same_variables beside s u (Imp r g) rest c h p = kept s _ u h refl refl
same_variables beside s u (Forall f) rest c h p = kept s _ u h refl refl
same_variables beside s u (Exists f) rest c h p = absurd p
same_variables beside s u (Use m ts g) rest c h p = step (slice_get beside.modules m) h
  where
    step : (o : Option ModuleTree) → load_module s rest ts g o ≡ Some u → SameVariables s u
    step None h = cc
    step (Some l) h = kept s _ u h refl refl
same_variables beside s u (Atom a) rest c h p = absurd p
same_variables beside s u (Num Is a b) rest c h p = absurd p
same_variables beside s u (Num Less a b) rest c h p = tested s u rest (holds beside.operators Less a b) h
same_variables beside s u (Num Most a b) rest c h p = tested s u rest (holds beside.operators Most a b) h

-- ---- chosen terms

pub may_choose : (e : ℕ) (f : ℕ → Term) (n k : ℕ) → ((x : ℕ) → n ≤ x → x < n + k → (is_closed (f x) ≡ true) × (eigens_below e (f x) ≡ true))
    → MayChoose e (map (sub f) (vars_from n k))
may_choose e f n zero h = tt
may_choose e f n (suc k) h =
    let a = h n (omega arith) (omega arith) in (a.0, a.1, may_choose e f (suc n) k (λ x l m. h x (omega (arith, l)) (omega (arith, m))))
