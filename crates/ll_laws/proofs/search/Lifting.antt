-- One inference of a run, with terms chosen for the variables of a state, is one that the search tries on the state itself.
use Rattle.std.proofs.Common.{◌≡◌, ◌≤◌, ◌⊎◌, inl, inr, ℕ, zero, suc, refl, ap, sym, subst, ◌∙◌, Bool, true, false, List, [], ◌∷◌, ◌++◌, map, length, nat_eq}
use Rattle.std.proofs.Common.{replicate, arith}
use Rattle.std.specs.Prelude.{◌&&◌, if◌then◌else◌, Option, Some, None, option_map, option_and_then, slice_get, slice_index}
use Rattle.std.specs.List.{list_all}
use Rattle.std.proofs.lemmas.List.{map-append, append-nil}
use Rattle.std.proofs.Math.ListN.{length-replicate}
use Rattle.std.proofs.Math.Path.{fun_ext}
use Rattle.ll_bank.specs.declared.Head.TheVariants.{Eigen}
use Rattle.ll_bank.specs.Term.{Term, Var, Con, sub}
use Rattle.ll_bank.specs.Form.{Form, Top, One, Atom, With, Tensor, Plus, Bang, Lolli, Imp, Forall, Exists, Use, sub_form, instantiate, Num}
use Rattle.ll_laws.specs.declared.Candidate.{Candidate}
use Rattle.ll_laws.specs.declared.Kind.TheVariants.{Linear, Unbounded}
use Rattle.ll_laws.specs.declared.Step.TheVariants.{Plain, Left, Right}
use Rattle.ll_laws.specs.Leaf.{Premise, Leaf, leaf, ways}
use Rattle.ll_laws.specs.Module.{Setting, ModuleTree, unfold_load}
use Rattle.ll_laws.specs.Settle.{Entry, Item, Goal, LolliEnd, ImpEnd, WithMiddle, WithEnd, BangEnd, marks, unlive}
use Rattle.ll_laws.specs.State.{State, sub_item, sub_entry}
use Rattle.ll_laws.specs.Attempt.{stepped, saved_of, loaded, entry_at, is_open, attempt_goal, goal_tries, take_entry, take_way, take_leaf, with_leaf}
use Rattle.ll_laws.specs.Attempt.{instantiated, vars_from, load_module}
use Rattle.ll_laws.specs.Unify.{Solved, mgu, IsUnifier, Respects, vars_below}
use Rattle.ll_laws.specs.Valid.{AreModules, GoalSide, ClauseSide}
use Rattle.ll_laws.specs.Consistent.{IsConsistent, AreGoals, allowed_in}
use Rattle.ll_laws.specs.Line.{Line, counts_numbers}
use Rattle.ll_laws.specs.Run.{Goes, goes_one, goes_top, goes_tensor, goes_left, goes_right, goes_with, goes_bang, goes_lolli, goes_imp, goes_forall}
use Rattle.ll_laws.specs.Run.{goes_exists, goes_use, goes_atom, taken_by, MayChoose, goes_num}
use Rattle.ll_laws.specs.Dealt.{value}
use Rattle.ll_laws.proofs.unification.SubLaws.{sub_instantiate, leaf-sub, sub_premise, sub_leaf, IsClosing}
use Rattle.ll_laws.proofs.unification.UnifyBest.{found-unifier, found-best, none-unifier}
use Rattle.ll_laws.proofs.consistency.ConsistentTerms.{IsHead, Fit, fit-more, fit-vars}
use Rattle.ll_laws.proofs.consistency.ConsistentForms.{FormFits, fits-more, fits_of_formula}
use Rattle.ll_laws.proofs.consistency.ConsistentLeaves.{LeafFits, leaf-fits}
use Rattle.ll_laws.proofs.consistency.ConsistentStates.{length-vars}
use Rattle.ll_laws.proofs.consistency.ConsistentSteps.{levels_with, allowed_with, grows_with, vars_with, all_fit_of_made, entry-formula}
use Rattle.ll_laws.proofs.search.LeafWays.{leaf_ways}
use Rattle.ll_laws.proofs.search.LeafTries.{leaf-head-fits, in_tries}
use Rattle.ll_laws.proofs.completeness.Grounding.{grounded}
use Rattle.ll_laws.proofs.search.Projected.{marks_sub, unlive_sub, same_taken}
use Rattle.ll_laws.proofs.search.AnswerRuns.{Among}
use Rattle.ll_laws.proofs.search.AnswerSteps.{ready}
use Rattle.ll_laws.proofs.completeness.Chosen.{FitsAll, fits-count, chosen-more, fits-change, value-below, value-closing, value-over, more-agree, new-values}
use Rattle.ll_laws.proofs.completeness.Chosen.{AgreeBelow, goals-agree, resources-agree, form-agree, fit-agree, made-agree, same_parts}

-- ---- what an inference of a run makes of a state

-- a leaf taken for an atom
record TakesLeaf (s : State) (rest : List (Item Form)) (a : Term) (u : State) : Type 0 where
  entry : Entry Form
  label : ℕ
  k : ℕ
  terms : List Term
  premises : List Premise
  finds : entry_at s.context label ≡ Some entry
  opened : is_open entry ≡ true
  chosen : MayChoose s.eigens terms
  leaves : leaf entry.clause k terms ≡ Some (record { premises = premises; head = a })
  is : u ≡ taken_by s rest label k terms premises

abbrev Follows : Setting → State → List (Item Form) → Form → State → Type 0
Follows beside s rest One u = u ≡ stepped s rest Plain
Follows beside s rest Top u = u ≡ record (stepped s rest Plain) { flag = true }
Follows beside s rest (Atom a) u = TakesLeaf s rest a u
Follows beside s rest (With f g) u = u ≡ record (stepped s (Goal f ∷ WithMiddle (saved_of s) ∷ Goal g ∷ WithEnd (saved_of s) (saved_of s) ∷ rest) Plain)
    { flag = false }
Follows beside s rest (Tensor f g) u = u ≡ stepped s (Goal f ∷ Goal g ∷ rest) Plain
Follows beside s rest (Plus f g) u = (u ≡ stepped s (Goal f ∷ rest) Left) ⊎ (u ≡ stepped s (Goal g ∷ rest) Right)
Follows beside s rest (Bang f) u = u ≡ record (stepped s (Goal f ∷ BangEnd (saved_of s) ∷ rest) Plain) { context = map unlive s.context; flag = false }
Follows beside s rest (Lolli r g) u = u ≡ record (stepped s (Goal g ∷ LolliEnd s.flag ∷ rest) Plain) {
  context = loaded s Linear r;
  label = suc s.label;
  flag =
      false;
}
Follows beside s rest (Imp r g) u = u ≡ record (stepped s (Goal g ∷ ImpEnd ∷ rest) Plain) { context = loaded s Unbounded r; label = suc s.label }
Follows beside s rest (Forall f) u = u ≡ record (stepped s (Goal (instantiate f (Con (Eigen s.eigens))) ∷ rest) Plain) { eigens = suc s.eigens }
Follows beside s rest (Exists f) u = (t : Term) × MayChoose s.eigens (t ∷ [])
    × (u ≡ record (stepped s (Goal (instantiate f t) ∷ rest) Plain) { terms = s.terms ++ t ∷ [] })
Follows beside s rest (Use k ts g) u = (m : ModuleTree) × (slice_get beside.modules k ≡ Some m) × (u ≡ stepped s (Goal (unfold_load m ts g) ∷ rest) Plain)
Follows beside s rest (Num r a b) u = ⊥

follows : {beside : Setting} {s : State} {rest : List (Item Form)} {g : Form} {n : Line} {u : State} → Goes beside s rest g n u → counts_numbers n ≡ false
    → Follows beside s rest g u
follows goes_one q = refl
follows goes_top q = refl
follows goes_tensor q = refl
follows goes_left q = inl refl
follows goes_right q = inr refl
follows goes_with q = refl
follows goes_bang q = refl
follows (goes_lolli f) q = refl
follows (goes_imp f) q = refl
follows (goes_forall f) q = refl
follows (goes_exists t f) q = (t, f, refl)
follows (goes_use m f) q = (m, f, refl)
follows (goes_atom e label k us ps a b c d) q = record {
  entry = e;
  label = label;
  k = k;
  terms = us;
  premises = ps;
  finds = a;
  opened = b;
  chosen = c;
  leaves =
      d;
  is = refl;
}
follows (goes_num p) q = cc

-- a run's inference gives the variables that there are the terms that they had, and maybe more
pub record KeepsTerms (s u : State) : Type 0 where
  pub more : List Term
  pub is : u.terms ≡ s.terms ++ more

pub keeps_terms : {beside : Setting} {s : State} {rest : List (Item Form)} {g : Form} {n : Line} {u : State} → Goes beside s rest g n u → KeepsTerms s u
keeps_terms {s = s} goes_one = record { more = []; is = sym (append-nil s.terms) }
keeps_terms {s = s} goes_top = record { more = []; is = sym (append-nil s.terms) }
keeps_terms {s = s} goes_tensor = record { more = []; is = sym (append-nil s.terms) }
keeps_terms {s = s} goes_left = record { more = []; is = sym (append-nil s.terms) }
keeps_terms {s = s} goes_right = record { more = []; is = sym (append-nil s.terms) }
keeps_terms {s = s} goes_with = record { more = []; is = sym (append-nil s.terms) }
keeps_terms {s = s} goes_bang = record { more = []; is = sym (append-nil s.terms) }
keeps_terms {s = s} (goes_lolli f) = record { more = []; is = sym (append-nil s.terms) }
keeps_terms {s = s} (goes_imp f) = record { more = []; is = sym (append-nil s.terms) }
keeps_terms {s = s} (goes_forall f) = record { more = []; is = sym (append-nil s.terms) }
keeps_terms (goes_exists t f) = record { more = t ∷ []; is = refl }
keeps_terms {s = s} (goes_num p) = record { more = []; is = sym (append-nil s.terms) }
keeps_terms {s = s} (goes_use m f) = record { more = []; is = sym (append-nil s.terms) }
keeps_terms (goes_atom e label k us ps a b c d) = record { more = us; is = refl }

-- ---- the search's inference

-- a candidate of the goal and the state that it gives, with terms chosen for its variables that make of it what the run's inference gave
pub record Lifts (beside : Setting) (t : State) (g : Form) (rest : List (Item Form)) (u : State) : Type 0 where
  pub by : Candidate
  pub tried : Among by (goal_tries t.context g)
  pub next : State
  pub gives : attempt_goal beside t g rest by ≡ Some next
  pub values : List Term
  pub fits : FitsAll next.levels values
  pub is : u ≡ grounded (value values) next

module _ (beside : Setting) (t : State) (rest : List (Item Form)) (g : Form) (i : IsConsistent beside t) (e : t.agenda ≡ Goal g ∷ rest) where
  goals : AreGoals (allowed_in beside t) (Goal g ∷ rest)
  goals = subst (AreGoals (allowed_in beside t)) e i.goals

  goal-fits : FormFits (allowed_in beside t) GoalSide [] g
  goal-fits = fits_of_formula (allowed_in beside t) GoalSide [] g (goals.0)

-- ---- `exists`

lift_exists : (beside : Setting) (t : State) (f : Form) (rest : List (Item Form)) (fs : List Term) (x : Term) (u : State) → IsConsistent beside t
    → FitsAll t.levels fs → t.agenda ≡ Goal (Exists f) ∷ rest
    → MayChoose t.eigens (x ∷ [])
    → u ≡ record (stepped (grounded (value fs) t) (Goal (instantiate (sub_form (value fs) f) x) ∷ map (sub_item (value fs)) rest) Plain) {
      terms =
          map (sub (value fs)) t.terms ++ x ∷ [];
    }
    → Lifts beside t (Exists f) rest u
lift_exists beside t f rest fs x u i w e m h =
    let n = length t.levels in
    let may = allowed_in beside t in
    let old : ℕ → Term = value fs in
    let new : ℕ → Term = value (fs ++ x ∷ []) in
    let size = fits-count t.levels fs w in
    let fw : FitsAll (t.levels ++ t.eigens ∷ []) (fs ++ x ∷ []) = chosen-more t.levels fs t.eigens (x ∷ []) w m in
    let agree : AgreeBelow n old new = more-agree n fs (x ∷ []) size in
    let at : new n ≡ x = head_same (new-values fs (x ∷ []) n size) in
    let body : sub_form new (instantiate f (Var n)) ≡ instantiate (sub_form old f) x =
    sub_instantiate new (value-closing (t.levels ++ t.eigens ∷ []) (fs ++ x ∷ []) fw) f (Var n)
    ∙ (ap (instantiate (sub_form new f)) at ∙ ap (λ z. instantiate z x)
    (sym (form-agree may old new agree GoalSide (false ∷ []) f ((goal-fits beside t rest (Exists f) i e).1)))) in
    let others : map (sub_item new) rest ≡ map (sub_item old) rest = sym (goals-agree may old new agree rest ((goals beside t rest (Exists f) i e).1)) in
    let entries : map (sub_entry new) t.context ≡ map (sub_entry old) t.context = sym (resources-agree may old new agree t.context i.resources) in
    let terms : map (sub new) (t.terms ++ Var n ∷ []) ≡ map (sub old) t.terms ++ x ∷ [] =
    map-append (sub new) t.terms (Var n ∷ []) ∙ both (sym (made-agree n t.eigens old new agree t.terms i.terms)) (ap (λ z. z ∷ []) at) in
    let next : State = record (stepped t (Goal (instantiate f (Var n)) ∷ rest) Plain) { levels = t.levels ++ t.eigens ∷ []; terms = t.terms ++ Var n ∷ [] } in
    record {
      by = record { label = 0; leaf = 0 };
      tried = inl refl;
      next = next;
      gives = refl;
      values = fs ++ x ∷ [];
      fits = fw;
      is = h ∙ sym (same_parts (grounded new next) (goals_same body others) entries terms);
    }
  where
    head_same : {a b : Term} → a ∷ [] ≡ b ∷ [] → a ≡ b
    head_same q = cc

    both : {a b c d : List Term} → a ≡ b → c ≡ d → a ++ c ≡ b ++ d
    both p q = cc

    goals_same : {a b : Form} {c d : List (Item Form)} → a ≡ b → c ≡ d → Goal a ∷ c ≡ Goal b ∷ d
    goals_same p q = cc

-- ---- an atom

-- an entry under a substitution is found where it is found without
record EntryBack (f : ℕ → Term) (es : List (Entry Form)) (label : ℕ) (d : Entry Form) : Type 0 where
  entry : Entry Form
  finds : entry_at es label ≡ Some entry
  same : sub_entry f entry ≡ d

entry_back : (f : ℕ → Term) (es : List (Entry Form)) (label : ℕ) (d : Entry Form) → entry_at (map (sub_entry f) es) label ≡ Some d → EntryBack f es label d
entry_back f [] label d h = cc
entry_back f (e ∷ es) label d h = step (nat_eq e.label label) refl (entry_back f es label d) h
  where
    step : (b : Bool) → nat_eq e.label label ≡ b → (entry_at (map (sub_entry f) es) label ≡ Some d → EntryBack f es label d)
        → (if b then Some (sub_entry f e) else entry_at (map (sub_entry f) es) label) ≡ Some d → EntryBack f (e ∷ es) label d
    step true q go h = record { entry = e; finds = ap (λ b. if b then Some e else entry_at es label) q; same = cc }
    step false q go h = let r = go h in record { entry = r.entry; finds = ap (λ b. if b then Some e else entry_at es label) q ∙ r.finds; same = r.same }

-- a leaf under a substitution is one without
record LeafBack (f : ℕ → Term) (o : Option Leaf) (ps : List Premise) (t : Term) : Type 0 where
  leaf_of : Leaf
  is : o ≡ Some leaf_of
  premises : map (sub_premise f) leaf_of.premises ≡ ps
  head : sub f leaf_of.head ≡ t

leaf_back : (f : ℕ → Term) (o : Option Leaf) (ps : List Premise) (t : Term) → option_map (sub_leaf f) o ≡ Some (record { premises = ps; head = t })
    → LeafBack f o ps t
leaf_back f None ps t h = cc
leaf_back f (Some l) ps t h =
    let r : Leaf = record { premises = ps; head = t } in
    let e : sub_leaf f l ≡ r = cc in record { leaf_of = l; is = refl; premises = ap (λ x. x.premises) e; head = ap (λ x. x.head) e }

-- where there is a unifier, unification finds a most general one
record Solves (ls rs : List Term) (levels : List ℕ) (s : ℕ → Term) (new : List ℕ) : Type 0 where
  solved : Solved
  is : mgu ls rs levels ≡ Some solved
  through : (λ x. sub s (solved.subst x)) ≡ s
  respects : Respects solved.levels s new
  count : length solved.levels ≡ length levels

solves : (ls rs : List Term) (levels : List ℕ) (s : ℕ → Term) (new : List ℕ) → list_all (vars_below (length levels)) ls ≡ true
    → list_all (vars_below (length levels)) rs ≡ true → IsUnifier ls rs levels s new
    → Solves ls rs levels s new
solves ls rs levels s new a b u = step (mgu ls rs levels) refl
  where
    step : (o : Option Solved) → mgu ls rs levels ≡ o → Solves ls rs levels s new
    step None q = absurd (none-unifier ls rs levels s new a b q u)
    step (Some v) q = let g = found-best ls rs levels v a b q s new u in
        record { solved = v; is = q; through = fun_ext g.0; respects = g.1; count = (found-unifier ls rs levels v a b q).count }

zero-level : (n y l : ℕ) → slice_index (replicate n 0) y ≤ l
zero-level zero y l = omega arith
zero-level (suc n) zero l = omega arith
zero-level (suc n) (suc y) l = zero-level n y l

module _ (beside : Setting) (t : State) (a : Term) (rest : List (Item Form)) (fs : List Term) (i : IsConsistent beside t) (w : FitsAll t.levels fs)
    (ag : t.agenda ≡ Goal (Atom a) ∷ rest)
    (label k : ℕ) (us : List Term) (ps : List Premise) (may : MayChoose t.eigens us) (en : Entry Form) (fe : entry_at t.context label ≡ Some en)
    (op : is_open en ≡ true)
    (lf : leaf (sub_form (value fs) en.clause) k us ≡ Some (record { premises = ps; head = sub (value fs) a })) where
  abbrev n : ℕ
  n = length us

  abbrev old : ℕ → Term
  old = value fs

  abbrev new : ℕ → Term
  new = value (fs ++ us)

  abbrev vs : List Term
  vs = vars_from (length t.levels) (length us)

  all_fit : FitsAll (levels_with t n) (fs ++ us)
  all_fit = chosen-more t.levels fs t.eigens us w may

  agree : AgreeBelow (length t.levels) old new
  agree = more-agree (length t.levels) fs us (fits-count t.levels fs w)

  closing : IsClosing new
  closing = value-closing (levels_with t n) (fs ++ us) all_fit

  clause-fits : FormFits (allowed_in beside t) ClauseSide [] en.clause
  clause-fits = fits_of_formula (allowed_in beside t) ClauseSide [] en.clause (entry-formula (allowed_in beside t) t.context label en i.resources fe)

  atom-fits : IsHead [] a × Fit (allowed_in beside t) [] a
  atom-fits = goal-fits beside t rest (Atom a) i ag

  opened : LeafBack new (leaf en.clause k vs) ps (sub new a)
  opened =
      let to : List Term → Form → Option Leaf = λ ts r. leaf r k ts in
      let out : Term → Option Leaf = λ h. Some (record { premises = ps; head = h }) in
      leaf_back new (leaf en.clause k vs) ps (sub new a)
      (sym (leaf-sub new closing [] en.clause k vs)
      ∙ (ap (λ ts. to ts (sub_form new en.clause)) (new-values fs us (length t.levels) (fits-count t.levels fs w))
      ∙ (ap (to us) (sym (form-agree (allowed_in beside t) old new agree ClauseSide [] en.clause clause-fits))
      ∙ (lf ∙ ap out (fit-agree (allowed_in beside t) old new agree [] a (atom-fits.1))))))

  way : slice_get (ways en.clause) k ≡ Some n
  way = leaf_ways [] en.clause k vs opened.leaf_of opened.is ∙ ap Some (length-vars (length t.levels) n)

  wide : FormFits (allowed_with beside t n) ClauseSide [] en.clause
  wide = fits-more (allowed_in beside t) (allowed_with beside t n) ClauseSide [] [] en.clause (grows_with beside t n) tt clause-fits

  leaf-is : LeafFits (allowed_with beside t n) opened.leaf_of
  leaf-is = leaf-fits (allowed_with beside t n) en.clause k vs opened.leaf_of wide (all_fit_of_made (allowed_with beside t n) vs (vars_with beside t n))
      opened.is

  solution : Solves (a ∷ []) (opened.leaf_of.head ∷ []) (levels_with t n) new (replicate (length (levels_with t n)) 0)
  solution =
      solves (a ∷ []) (opened.leaf_of.head ∷ []) (levels_with t n) new (replicate (length (levels_with t n)) 0)
      (one (fit-vars (allowed_with beside t n) [] a (fit-more (allowed_in beside t) (allowed_with beside t n) [] [] a (grows_with beside t n) tt
      (atom-fits.1))))
      (one (fit-vars (allowed_with beside t n) [] opened.leaf_of.head (leaf-is.head.1)))
      (record {
        unifies = ap (λ z. z ∷ []) (sym opened.head);
        over = λ x h. value-over (fs ++ us) x (let c = fits-count (levels_with t n) (fs ++ us) all_fit in omega arith);
        count = length-replicate (length (levels_with t n)) 0;
        respects = λ x h. record {
          eigens = value-below (levels_with t n) (fs ++ us) all_fit x;
          vars =
              λ y o. zero-level (length (levels_with t n)) y (slice_index (levels_with t n) x);
        };
      })
    where
      one : {b : Bool} → b ≡ true → b && true ≡ true
      one q = ap (λ z. z && true) q

  next-is : taken_by (grounded old t) (map (sub_item old) rest) label k us ps
      ≡ grounded new (instantiated (with_leaf t rest label k n opened.leaf_of) solution.solved)
  next-is =
      let to : (ℕ → Term) → State = λ z. taken_by (grounded z t) (map (sub_item z) rest) label k (map (sub z) vs) (map (sub_premise z) opened.leaf_of.premises)
      in
      let grown : grounded new t ≡ grounded old t =
      same_parts (grounded new t) (sym (goals-agree (allowed_in beside t) old new agree t.agenda i.goals))
      (sym (resources-agree (allowed_in beside t) old new agree t.context i.resources))
      (sym (made-agree (length t.levels) t.eigens old new agree t.terms i.terms)) in
      sym (same_taken new solution.solved t rest label k n opened.leaf_of
      ∙ (ap to solution.through
      ∙ taken grown (sym (goals-agree (allowed_in beside t) old new agree rest ((goals beside t rest (Atom a) i ag).1)))
      (new-values fs us (length t.levels) (fits-count t.levels fs w)) opened.premises))
    where
      taken : {s z : State} {q r : List (Item Form)} {x y : List Term} {c d : List Premise} → s ≡ z → q ≡ r → x ≡ y → c ≡ d
          → taken_by s q label k x c ≡ taken_by z r label k y d
      taken p q r s = cc

  lift_leaf : (u : State) → u ≡ taken_by (grounded old t) (map (sub_item old) rest) label k us ps → Lifts beside t (Atom a) rest u
  lift_leaf u h = record {
    by = record { label = label; leaf = k };
    tried = in_tries a t.context label k n en fe op way (leaf-head-fits (allowed_with beside t n) new a en.clause k n (length t.levels) opened.leaf_of
        (atom-fits.0) (leaf-is.head.0) wide opened.is (sym opened.head));
    next = instantiated (with_leaf t rest label k n opened.leaf_of) solution.solved;
    gives =
        ap (option_and_then (take_entry t a rest label k)) fe
        ∙ (ap (option_and_then (take_way t a rest label k en)) way
        ∙ (ap (option_and_then (take_leaf t a rest label k n)) opened.is
        ∙ ap (option_map (instantiated (with_leaf t rest label k n opened.leaf_of))) solution.is));
    values = fs ++ us;
    fits = fits-change (levels_with t n) solution.solved.levels (fs ++ us) all_fit solution.count (λ x. (solution.respects x).eigens);
    is = h ∙ next-is;
  }

lift_atom : (beside : Setting) (t : State) (a : Term) (rest : List (Item Form)) (fs : List Term) (u : State) → IsConsistent beside t → FitsAll t.levels fs
    → t.agenda ≡ Goal (Atom a) ∷ rest
    → TakesLeaf (grounded (value fs) t) (map (sub_item (value fs)) rest) (sub (value fs) a) u → Lifts beside t (Atom a) rest u
lift_atom beside t a rest fs u i w ag h =
    let b = entry_back (value fs) t.context h.label h.entry h.finds in
    let op : is_open b.entry ≡ true = subst (λ z. is_open z ≡ true) (sym b.same) h.opened in
    let lf = ap (λ z. leaf z.clause h.k h.terms) b.same ∙ h.leaves in
    lift_leaf beside t a rest fs i w ag h.label h.k h.terms h.premises h.chosen b.entry b.finds op lf u h.is

-- ---- any inference

-- what an inference of a run does with chosen terms, the search does too
pub lift : (names : ℕ) (beside : Setting) (t : State) (g : Form) (rest : List (Item Form)) (fs : List Term) (n : Line) (u : State)
    → AreModules names beside.modules beside.modules → IsConsistent beside t → FitsAll t.levels fs
    → t.agenda ≡ Goal g ∷ rest → Goes beside (grounded (value fs) t) (map (sub_item (value fs)) rest) (sub_form (value fs) g) n u → counts_numbers n ≡ false
    → Lifts beside t g rest u
lift names beside t g rest fs n u v i w e go k = by_goal g e (follows go k)
  where
    f : ℕ → Term
    f = value fs

    plain : (g : Form) (next : State) → goal_tries t.context g ≡ record { label = 0; leaf = 0 } ∷ []
        → attempt_goal beside t g rest (record { label = 0; leaf = 0 }) ≡ Some next → next.levels ≡ t.levels
        → u ≡ grounded (value fs) next → Lifts beside t g rest u
    plain g next m h l q = record {
      by = record { label = 0; leaf = 0 };
      tried = subst (Among (record { label = 0; leaf = 0 })) (sym m) (inl refl);
      next = next;
      gives = h;
      values = fs;
      fits = subst (λ ls. FitsAll ls fs) (sym l) w;
      is = q;
    }

    by_goal : (g : Form) → t.agenda ≡ Goal g ∷ rest → Follows beside (grounded (value fs) t) (map (sub_item (value fs)) rest) (sub_form (value fs) g) u
        → Lifts beside t g rest u
    by_goal One e h = plain One _ refl refl refl h
    by_goal Top e h = plain Top _ refl refl refl h
    by_goal (Atom a) e h = lift_atom beside t a rest fs u i w e h
    by_goal (With a b) e h =
        let to : List Bool
        → State = λ m. record (stepped (grounded (value fs) t)
        (Goal (sub_form (value fs) a) ∷ WithMiddle (record { live = m; flag = t.flag }) ∷ Goal (sub_form (value fs) b)
        ∷ WithEnd (record { live = m; flag = t.flag }) (record { live = m; flag = t.flag }) ∷ map (sub_item (value fs)) rest) Plain) { flag = false } in
        plain (With a b) _ refl refl refl (h ∙ ap to (marks_sub (value fs) t.context))
    by_goal (Tensor a b) e h = plain (Tensor a b) _ refl refl refl h
    by_goal (Plus a b) e (inl h) = record {
      by = record { label = 0; leaf = 0 };
      tried = inl refl;
      next = stepped t (Goal a ∷ rest) Left;
      gives = refl;
      values =
          fs;
      fits = w;
      is = h;
    }
    by_goal (Plus a b) e (inr h) = record {
      by = record { label = 0; leaf = 1 };
      tried = inr (inl refl);
      next = stepped t (Goal b ∷ rest) Right;
      gives = refl;
      values = fs;
      fits = w;
      is = h;
    }
    by_goal (Bang a) e h =
        let to : List Bool → List (Entry Form) → State = λ m es.
        record (stepped (grounded (value fs) t) (Goal (sub_form (value fs) a) ∷ BangEnd (record { live = m; flag = t.flag })
        ∷ map (sub_item (value fs)) rest) Plain) { context = es; flag = false } in
        plain (Bang a) _ refl refl refl (h ∙ (ap (λ m. to m (map unlive (map (sub_entry (value fs)) t.context))) (marks_sub (value fs) t.context)
        ∙ ap (to (marks t.context)) (sym (unlive_sub (value fs) t.context))))
    by_goal (Lolli r a) e h = plain (Lolli r a) _ refl refl refl h
    by_goal (Imp r a) e h = plain (Imp r a) _ refl refl refl h
    by_goal (Forall a) e h =
        let to : Form → State = λ z. record (stepped (grounded (value fs) t) (Goal z ∷ map (sub_item (value fs)) rest) Plain) { eigens = suc t.eigens } in
        plain (Forall a) _ refl refl refl (h ∙ ap to (sym (sub_instantiate (value fs) (value-closing t.levels fs w) a (Con (Eigen t.eigens)))))
    by_goal (Exists a) e h = lift_exists beside t a rest fs (h.0) u i w e (h.1) (h.2)
    by_goal (Num r a b) e h = absurd h
    by_goal (Use k ts a) e h =
        let rd = ready names beside t (value fs) (Use k ts a) rest v i (value-closing t.levels fs w) (λ x l. value-below t.levels fs w x) e in
        let to : Form → State = λ z. stepped (grounded (value fs) t) (Goal z ∷ map (sub_item (value fs)) rest) Plain in
        plain (Use k ts a) (stepped t (Goal (unfold_load (h.0) ts a) ∷ rest) Plain) refl (ap (load_module t rest ts a) (h.1)) refl
        (h.2 ∙ ap to (sym (rd.modules k (h.0) ts a (h.1))))
