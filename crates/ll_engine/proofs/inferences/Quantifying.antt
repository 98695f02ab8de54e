-- An inference that opens a quantifier or a load: what it makes of a machine.
use Rattle.std.proofs.Common.{◌≡◌, ℕ, zero, suc, ◌+◌, ◌≤◌, ◌<◌, ◌^◌, refl, ap, sym, ◌∙◌, subst, true, Bool, List, [], ◌∷◌, ◌++◌, map, length, arith, All}
use Rattle.std.proofs.Common.{length-append, inl, inr, false}
use Rattle.std.proofs.lemmas.List.{map-append}
use Rattle.std.proofs.lemmas.List.Elements.{All-nil, All-cons, All-head, All-tail, All-weaker, All-push}
use Rattle.std.proofs.lemmas.Bool.{lt-ltb, cases_lt, and_from as and_intro}
use Rattle.std.specs.Prelude.{Option, Some, None, ◌&&◌}
use Rattle.std.specs.List.{Contains, list_all}
use Rattle.ll_list_laws.proofs.CallerLemmas.{and_true_left as and_left, and_true_right as and_right}
use Rattle.ll_bank.specs.declared.At.{At}
use Rattle.ll_bank.specs.declared.FormAt.{FormAt}
use Rattle.ll_bank.specs.declared.Head.TheVariants.{Eigen}
use Rattle.ll_bank.specs.Term.{Term, Var, Int, Con, Ap, sub, is_spine, is_closed, applies_heads}
use Rattle.ll_bank.specs.Form.{
  Form,
  Top,
  One,
  Atom,
  With,
  Tensor,
  Plus,
  Bang,
  Lolli,
  Imp,
  Forall,
  Exists,
  Use,
  Num,
  close_form,
  sub_form,
  instantiate,
  form_applies_heads,
}
use Rattle.ll_bank.specs.declared.environment.Environment.{Environment}
use Rattle.ll_bank.specs.Environments.{values_in}
use Rattle.ll_bank.specs.Nodes.{Nodes, HasTerm, HasForm, AllInTerms, Extends, ShowsTerm, ShowsForm, term_tree, term_trees, form_tree}
use Rattle.ll_bank.proofs.CallerLemmas.{HasTerm-extends, HasForm-extends, term_tree-extends, form_tree-extends, AllInTerms-extends, term_trees-extends}
use Rattle.ll_laws.specs.declared.Candidate.{Candidate}
use Rattle.ll_laws.specs.declared.Step.{Step}
use Rattle.ll_laws.specs.declared.Step.TheVariants.{Plain}
use Rattle.ll_laws.specs.Problem.{ProblemTree, setting_of}
use Rattle.ll_laws.specs.Settle.{Saved, Entry, Item as ItemOf, Goal as GoalOf}
use Rattle.ll_laws.specs.State.{State}
use Rattle.ll_laws.specs.Attempt.{attempt, tries, vars_from}
use Rattle.ll_laws.specs.Valid.{Allowed, Scope, Side, GoalSide, ClauseSide, IsFormula}
use Rattle.ll_laws.specs.Consistent.{IsConsistent, is_made}
use Rattle.ll_laws.proofs.CallerLemmas.{IsClosing, sub_same, sub_instantiate, Grows, Fit, AllFit, FormFits, formula_of_fits, fits-more, fits-close}
use Rattle.ll_laws.proofs.CallerLemmas.{formula-more, steps_consistent}
use Rattle.ll_freeze.specs.Resting.{RestsOn}
use Rattle.ll_freeze.proofs.CallerLemmas.{keyed-later, step_rests, trees_read, vars_more, form_same, state_by, state_is, modules_later, modules_has}
use Rattle.ll_resources.specs.Resources.{Resources}
use Rattle.ll_freeze.specs.Parts.{Parts, table}
use Rattle.ll_freeze.specs.declared.machine.Item.{Item}
use Rattle.ll_freeze.specs.declared.machine.Item.TheVariants.{Goal, LolliEnd, ImpEnd, Mid, WithEnd, BangEnd}
use Rattle.ll_freeze.specs.Reading.{reading, read_term, read_form, goal_tree, read_goal, HasValue}
use Rattle.ll_freeze.specs.Shown.{shown_item, shown_entry, items_of, state_of, closed_goal, no_variables}
use Rattle.ll_freeze.specs.Fits.{Fits, HasItem, IsGoalIn, allowed, setting}
use Rattle.ll_engine.specs.Attempts.{Infers}
use Rattle.ll_engine.specs.Rows.{GoesOn, PutsInFront, OpensForall, OpensExists}
use Rattle.ll_engine.proofs.machine.ReadLemmas.{reading_same, reading_past, values_extend, fits_table, ordered_extends}
use Rattle.ll_unify.specs.Bindings.{IsTable, IsOrdered}
use Rattle.ll_unify.proofs.CallerLemmas.{table-extends, table-fresh, found-fresh}
use Rattle.ll_engine.specs.Turned.{is_empty}
use Rattle.ll_engine.proofs.machine.MachineLemmas.{agenda_shown, tries_end}
use Rattle.ll_engine.proofs.inferences.Connecting.{attempt_by, rest_items, rest_goals, goal_fits, goal_closed, closed_sorted}

-- ---- nothing but a head has arguments in a formula that fits

fit_applies : (may : Allowed) (scope : Scope) (t : Term) → Fit may scope t → applies_heads t ≡ true
fit_applies may scope (Var x) h = refl
fit_applies may scope (Int z) h = refl
fit_applies may scope (Con k) h = refl
fit_applies may scope (Ap f a) h =
    and_intro (is_spine f && applies_heads f) (applies_heads a) (and_intro (is_spine f) (applies_heads f) (h.0).0 (fit_applies may scope f h.1))
    (fit_applies may scope a h.2)

all_apply : (may : Allowed) (scope : Scope) (ts : List Term) → AllFit may scope ts → list_all applies_heads ts ≡ true
all_apply may scope [] h = refl
all_apply may scope (t ∷ ts) h = and_intro (applies_heads t) (list_all applies_heads ts) (fit_applies may scope t h.0) (all_apply may scope ts h.1)

abbrev both_apply : Form → Form → Bool
both_apply f g = form_applies_heads f && form_applies_heads g

pub fits_apply : (may : Allowed) (side : Side) (scope : Scope) (f : Form) → FormFits may side scope f → form_applies_heads f ≡ true
fits_apply may side scope Top h = refl
fits_apply may side scope One h = refl
fits_apply may side scope (Atom a) h = fit_applies may scope a h.1
fits_apply may side scope (With f g) h = and_intro (form_applies_heads f) (form_applies_heads g) (fits_apply may side scope f h.0)
    (fits_apply may side scope g h.1)
fits_apply may side scope (Tensor f g) h = and_intro (form_applies_heads f) (form_applies_heads g) (fits_apply may side scope f h.1)
    (fits_apply may side scope g h.2)
fits_apply may side scope (Plus f g) h = and_intro (form_applies_heads f) (form_applies_heads g) (fits_apply may side scope f h.1)
    (fits_apply may side scope g h.2)
fits_apply may side scope (Bang f) h = fits_apply may side scope f h.1
fits_apply may side scope (Lolli f g) h = and_intro (form_applies_heads f) (form_applies_heads g) (fits_apply may _ scope f h.0)
    (fits_apply may side scope g h.1)
fits_apply may side scope (Imp f g) h = and_intro (form_applies_heads f) (form_applies_heads g) (fits_apply may _ scope f h.0) (fits_apply may side scope g h.1)
fits_apply may side scope (Forall f) h = fits_apply may side _ f h
fits_apply may side scope (Exists f) h = fits_apply may side _ f h.1
fits_apply may side scope (Use m ts f) h = and_intro (list_all applies_heads ts) (form_applies_heads f) (all_apply may scope ts h.2)
    (fits_apply may side scope f h.3)
fits_apply may side scope (Num r t u) h = and_intro (applies_heads t) (applies_heads u) (fit_applies may scope t h.1) (fit_applies may scope u h.2)

-- ---- what stands for a variable is closed

made_closed : (s : ℕ → Term) (v e : ℕ) (a n : ℕ) → list_all (is_made v e) (map (sub s) (vars_from a n)) ≡ true → (k : ℕ) → k < n → is_closed (s (a + k)) ≡ true
made_closed s v e a zero h k l = absurd (omega (arith, l))
made_closed s v e a (suc n) h zero l =
    let i = and_left (is_made v e (s a)) (list_all (is_made v e) (map (sub s) (vars_from (suc a) n))) h in
    let q : a ≡ a + 0 = omega arith in
    subst (λ x. is_closed (s x) ≡ true) q (and_left (is_closed (s a)) _ (and_left _ _ i))
made_closed s v e a (suc n) h (suc k) l =
    let i = and_right (is_made v e (s a)) (list_all (is_made v e) (map (sub s) (vars_from (suc a) n))) h in
    let q : suc a + k ≡ a + suc k = omega arith in
    subst (λ x. is_closed (s x) ≡ true) q (made_closed s v e (suc a) n i k (omega (arith, l)))

pub closing : (m : Parts) → Fits m → IsClosing (reading m.bank m.bound)
unfolding state_of
closing m f x =
    let s = reading m.bank m.bound in let n = length m.levels in
    let a : map (read_term m.bank m.bound) m.terms ≡ map (sub s) (vars_from 0 n) = trees_read s m.bank m.terms ∙ ap (λ ts. map (sub s) ts) f.variables in
    let h : list_all (is_made n m.eigens) (map (sub s) (vars_from 0 n)) ≡ true =
    subst (λ (ts : List Term). list_all (is_made n m.eigens) ts ≡ true) a f.consistent.terms in
    elim (cases_lt x n) [
      | inl l ↦ let q : 0 + x ≡ x = omega arith in subst (λ (y : ℕ). is_closed (s y) ≡ true) q (made_closed s n m.eigens 0 n h x l)
      | inr l ↦ let c = f.count in subst (λ (t : Term). is_closed t ≡ true) (sym (reading_past m.bank m.bound x (omega (arith, l, c)))) refl
    ]

-- ---- what is read stays

module _ (old new : Nodes) (before after : List (Option At)) (keeps : Extends old new) (reads : (x : ℕ) → reading new after x ≡ reading old before x) where
  form_stays : (at : FormAt) → HasForm old at.0 → read_form new after at ≡ read_form old before at
  form_stays at h = ap (sub_form (reading new after)) (form_tree-extends keeps at.0 h)
      ∙ form_same (reading new after) (reading old before) reads (form_tree old at.0)

  pub goal_stays_read : (env : Environment) (at : FormAt) → HasForm old at.0 → read_goal new after env at ≡ read_goal old before env at
  goal_stays_read env at h = ap (λ f. sub_form (reading new after) (close_form (values_in env) f)) (form_tree-extends keeps at.0 h)
      ∙ form_same (reading new after) (reading old before) reads (goal_tree old env at)

  item_stays : (kept : List Saved) (n : ℕ) (i : Item) → HasItem old n i → shown_item new after kept i ≡ shown_item old before kept i
  item_stays kept n (Goal g env) h = ap (λ r. GoalOf r) (goal_stays_read env g h)
  item_stays kept n (LolliEnd b) h = refl
  item_stays kept n ImpEnd h = refl
  item_stays kept n (Mid s) h = refl
  item_stays kept n (WithEnd s t) h = refl
  item_stays kept n (BangEnd s) h = refl

  pub items_stay : (kept : List Saved) (n : ℕ) (is : List Item) → All (HasItem old n) is
      → map (shown_item new after kept) is ≡ map (shown_item old before kept) is
  items_stay kept n [] h = refl
  items_stay kept n (i ∷ is) h = λ j. item_stays kept n i (All-head (HasItem old n) i is h) j ∷ items_stay kept n is (All-tail (HasItem old n) i is h) j

  entry_stays : (e : Entry FormAt) → HasForm old e.clause.0 → shown_entry new after e ≡ shown_entry old before e
  entry_stays e h = λ i. record { label = e.label; kind = e.kind; live = e.live; clause = form_stays e.clause h i }

  pub entries_stay : (es : List (Entry FormAt)) → All (λ e. HasForm old e.clause.0) es → map (shown_entry new after) es ≡ map (shown_entry old before) es
  entries_stay [] h = refl
  entries_stay (e ∷ es) h =
      λ i. entry_stays e (All-head (λ (d : Entry FormAt). HasForm old d.clause.0) e es h) i
      ∷ entries_stay es (All-tail (λ (d : Entry FormAt). HasForm old d.clause.0) e es h) i

  pub terms_stay : (ats : List At) → AllInTerms old ats → map (read_term new after) ats ≡ map (read_term old before) ats
  terms_stay [] h = refl
  terms_stay (a ∷ ats) h =
      let t : read_term new after a ≡ read_term old before a =
      ap (sub (reading new after)) (term_tree-extends keeps a.0 (All-head (λ (b : At). HasTerm old b.0) a ats h))
      ∙ sub_same (reading new after) (reading old before) reads (term_tree old a.0) in
      λ i. t i ∷ terms_stay ats (All-tail (λ (b : At). HasTerm old b.0) a ats h) i

-- ---- and is as well sorted

module _ (old new : Nodes) (may more : Allowed) (keeps : Extends old new) (grows : Grows may more) where
  sorted_stays : (side : Side) (at : ℕ) → HasForm old at → IsFormula may side [] (form_tree old at) → IsFormula more side [] (form_tree new at)
  sorted_stays side at h f = subst (λ (r : Form). IsFormula more side [] r) (sym (form_tree-extends keeps at h))
      (formula-more may more side (form_tree old at) grows f)

  pub clauses_stay : (es : List (Entry FormAt)) → All (λ e. HasForm old e.clause.0) es → All (λ e. IsFormula may ClauseSide [] (form_tree old e.clause.0)) es
      → All (λ e. IsFormula more ClauseSide [] (form_tree new e.clause.0)) es
  clauses_stay [] h f = All-nil (λ (e : Entry FormAt). IsFormula more ClauseSide [] (form_tree new e.clause.0))
  clauses_stay (e ∷ es) h f =
      let P : Entry FormAt → Type 0 = λ e. HasForm old e.clause.0 in let Q : Entry FormAt
      → Type 0 = λ e. IsFormula may ClauseSide [] (form_tree old e.clause.0) in
      All-cons (λ (e : Entry FormAt). IsFormula more ClauseSide [] (form_tree new e.clause.0)) e es
      (sorted_stays ClauseSide e.clause.0 (All-head P e es h) (All-head Q e es f))
      (clauses_stay es (All-tail P e es h) (All-tail Q e es f))

  pub goal_stays : (n : ℕ) (i : Item) → HasItem old n i → IsGoalIn may old i → IsGoalIn more new i
  goal_stays n (Goal g env) h f = (
    record { count = f.0.count; end = (let a = f.0.end in let b = grows.variables in omega (arith, a, b)) },
    subst (λ (r : Form). IsFormula more GoalSide [] (close_form (values_in env) r)) (sym (form_tree-extends keeps g.0 h))
        (formula-more may more GoalSide (goal_tree old env g) grows f.1),
  )
  goal_stays n (LolliEnd b) h f = tt
  goal_stays n ImpEnd h f = tt
  goal_stays n (Mid s) h f = tt
  goal_stays n (WithEnd s t) h f = tt
  goal_stays n (BangEnd s) h f = tt

  pub goals_stay : (n : ℕ) (is : List Item) → All (HasItem old n) is → All (IsGoalIn may old) is → All (IsGoalIn more new) is
  goals_stay n [] h f = All-nil (IsGoalIn more new)
  goals_stay n (i ∷ is) h f =
      All-cons (IsGoalIn more new) i is (goal_stays n i (All-head (HasItem old n) i is h) (All-head (IsGoalIn may old) i is f))
      (goals_stay n is (All-tail (HasItem old n) i is h) (All-tail (IsGoalIn may old) i is f))

  pub item_has : (n : ℕ) (i : Item) → HasItem old n i → HasItem new n i
  item_has n (Goal g env) h = HasForm-extends keeps g.0 h
  item_has n (LolliEnd b) h = tt
  item_has n ImpEnd h = tt
  item_has n (Mid s) h = h
  item_has n (WithEnd s t) h = h
  item_has n (BangEnd s) h = h

-- ---- a goal in place of the one in front

-- what the state of the later machine is
abbrev opened_state : Parts → Parts → Form → List Item → State
opened_state old new f rest =
    record {
      agenda = GoalOf (sub_form (reading old.bank old.bound) f) ∷ map (shown_item old.bank old.bound old.resources.kept) rest;
      context = map (shown_entry old.bank old.bound) old.resources.entries;
      flag = old.resources.flag;
      levels = new.levels;
      eigens = new.eigens;
      terms = map (read_term new.bank new.bound) new.terms;
      label = old.resources.next;
      steps = old.steps ++ Plain ∷ [];
    }

state_opened : (old new : Parts) (f : Form) (rest : List Item) → PutsInFront old f rest new
    → ((x : ℕ) → reading new.bank new.bound x ≡ reading old.bank old.bound x)
    → All (HasItem old.bank (length old.resources.kept)) rest → All (λ e. HasForm old.bank e.clause.0) old.resources.entries
    → state_of new ≡ opened_state old new f rest
state_opened old new f rest o reads items clauses =
    let r = old.resources in let b = new.bank in let a = new.bound in
    let by : Resources FormAt → List Item → List Step → State = λ p xs ss. state_by b a p xs new.levels new.eigens new.terms ss in
    let make : Form → List (ItemOf Form) → List (Entry Form) → State = λ h xs es. record {
      agenda = GoalOf h ∷ xs;
      context = es;
      flag = r.flag;
      levels = new.levels;
      eigens = new.eigens;
      terms = map (read_term b a) new.terms;
      label = r.next;
      steps = old.steps ++ Plain ∷ [];
    } in
    let g : read_goal b a no_variables o.goal ≡ sub_form (reading old.bank old.bound) f =
    ap (sub_form (reading b a)) (goal_closed b o.goal ∙ o.shows.tree) ∙ form_same (reading b a) (reading old.bank old.bound) reads f in
    state_is new
    ∙ (ap (λ p. by p (items_of new) new.steps) o.resources
    ∙ (ap (λ xs. by r xs new.steps) o.items
    ∙ (ap (λ ss. by r (closed_goal o.goal ∷ rest) ss) o.steps
    ∙ (ap (λ h. make h (map (shown_item b a r.kept) rest) (map (shown_entry b a) r.entries)) g
    ∙ (ap (λ xs. make (sub_form (reading old.bank old.bound) f) xs (map (shown_entry b a) r.entries))
    (items_stay old.bank b old.bound a o.bank reads r.kept (length r.kept) rest items)
    ∙ ap (λ es. make (sub_form (reading old.bank old.bound) f) (map (shown_item old.bank old.bound r.kept) rest) es)
    (entries_stay old.bank b old.bound a o.bank reads r.entries clauses))))))

pub opened : (old new : Parts) (g : FormAt) (env : Environment) (rest : List Item) (c : Candidate) (f : Form) → Fits old → items_of old ≡ Goal g env ∷ rest
    → PutsInFront old f rest new
    → ((x : ℕ) → reading new.bank new.bound x ≡ reading old.bank old.bound x) → Grows (allowed old) (allowed new)
    → length new.bound ≡ length new.levels → All (HasValue new.bank) new.bound → IsOrdered new.bank (table new) → AllInTerms new.bank new.terms
    → term_trees new.bank new.terms ≡ vars_from 0 (length new.levels) → IsFormula (allowed new) GoalSide [] f → new.eigens + new.left ≤ 2 ^ 20
    → attempt (setting old) (state_of old) c ≡ Some (opened_state old new f rest) → Infers old c new
opened old new g env rest c f fits e1 o reads grows count bound ordered terms variables sorted eigens gives =
    let r = old.resources in let k = length r.kept in let xs = rest_items old g env rest fits e1 in
    let r2 : new.resources ≡ r = o.resources in
    let P : Item → Type 0 = HasItem new.bank k in let R : Item → Type 0 = IsGoalIn (allowed new) new.bank in
    let a : attempt (setting old) (state_of old) c ≡ Some (state_of new) =
    gives ∙ ap (λ (s : State). Some s) (sym (state_opened old new f rest o reads xs fits.clauses)) in
    let n : new.resources.next ≡ r.next = ap (λ (p : Resources FormAt). p.next) r2 in let l = o.left in
    record {
      gives = a;
      problem = o.problem;
      left = l;
      fits = record {
        valid = rw o.problem fits.valid;
        consistent =
            subst (λ (p : ProblemTree). IsConsistent (setting_of p) (state_of new)) (sym o.problem)
            (steps_consistent (length old.problem.names) (setting old) (state_of old) (state_of new) c fits.valid.modules fits.consistent a);
        rests = subst (λ (p : ProblemTree). RestsOn p.clauses (state_of new)) (sym o.problem)
            (step_rests (length old.problem.names) old.problem.modules old.problem.clauses fits.valid.clauses (setting old) (state_of old) (state_of new) c a
            fits.rests);
        count = count;
        bound = bound;
        ordered = ordered;
        terms = terms;
        variables = variables;
        clauses =
            rw r2
            (All-weaker (λ (e : Entry FormAt). HasForm old.bank e.clause.0) (λ (e : Entry FormAt). HasForm new.bank e.clause.0)
            (λ e h. HasForm-extends o.bank e.clause.0 h) r.entries fits.clauses);
        sorted_clauses = rw r2 (clauses_stay old.bank new.bank (allowed old) (allowed new) o.bank grows r.entries fits.clauses fits.sorted_clauses);
        sorted_goals =
            rw o.items
            (All-cons R (closed_goal o.goal) rest (closed_sorted (allowed new) new.bank o.goal
            (subst (λ (h : Form). IsFormula (allowed new) GoalSide [] h) (sym o.shows.tree) sorted))
            (goals_stay old.bank new.bank (allowed old) (allowed new) o.bank grows k rest xs (rest_goals old g env rest fits e1)));
        has_modules = rw o.modules (modules_has old.bank new.bank old.modules o.bank fits.has_modules);
        modules = rw (o.problem, o.modules) (modules_later old.bank new.bank old.modules o.bank fits.has_modules ∙ fits.modules);
        top = o.top;
        items =
            rw (r2, o.items)
            (All-cons P (closed_goal o.goal) rest o.shows.inside
            (All-weaker (HasItem old.bank k) P (λ i h. item_has old.bank new.bank (allowed old) (allowed new) o.bank grows k i h) rest xs));
        labels = let b = fits.labels in omega (arith, b, l, n);
        eigens = eigens;
        keyed = rw (r2, o.problem) (keyed-later old.bank new.bank (length old.problem.clauses) r o.bank fits.clauses fits.keyed);
      };
    }

-- ---- the quantifiers

-- what may be mentioned with one eigenvariable more, and with one variable more
abbrev pub with_eigen : Allowed → Allowed
with_eigen may = record { modules = may.modules; variables = may.variables; eigens = suc may.eigens; opens = may.opens }

abbrev pub with_variable : Allowed → Allowed
with_variable may = record { modules = may.modules; variables = suc may.variables; eigens = may.eigens; opens = may.opens }

forall_opened : (may : Allowed) (p : Form) → FormFits may GoalSide (true ∷ []) p
    → FormFits (with_eigen may) GoalSide [] (instantiate p (Con (Eigen may.eigens)))
forall_opened may p f =
    let more = with_eigen may in let k : Grows may more = record { modules = refl; variables = omega arith; eigens = omega arith; opens = λ h. h } in
    fits-close more (Some (Con (Eigen may.eigens)) ∷ []) GoalSide (true ∷ []) [] p (lt-ltb may.eigens (suc may.eigens) (omega arith), λ h. refl, tt)
    (fits-more may more GoalSide (true ∷ []) (true ∷ []) p k (λ h. h, tt) f)

exists_opened : (may : Allowed) (p : Form) → FormFits may GoalSide (false ∷ []) p → FormFits (with_variable may) GoalSide [] (instantiate p (Var may.variables))
exists_opened may p f =
    let more = with_variable may in let k : Grows may more = record { modules = refl; variables = omega arith; eigens = omega arith; opens = λ h. h } in
    fits-close more (Some (Var may.variables) ∷ []) GoalSide (false ∷ []) [] p (
      lt-ltb may.variables (suc may.variables) (omega arith),
      λ h. absurd (cc (h)),
      tt,
    )
    (fits-more may more GoalSide (false ∷ []) (false ∷ []) p k (λ h. h, tt) f)

pub forall_heads : (m : Parts) (g : FormAt) (env : Environment) (body : FormAt) (rest : List Item) → Fits m → items_of m ≡ Goal g env ∷ rest
    → goal_tree m.bank env g ≡ Forall (form_tree m.bank body.0)
    → form_applies_heads (instantiate (form_tree m.bank body.0) (Con (Eigen m.eigens))) ≡ true
forall_heads m g env body rest f e1 e2 =
    fits_apply (with_eigen (allowed m)) GoalSide [] (instantiate (form_tree m.bank body.0) (Con (Eigen m.eigens)))
    (forall_opened (allowed m) (form_tree m.bank body.0) (goal_fits m g env rest (Forall (form_tree m.bank body.0)) f e1 e2))

pub exists_heads : (m : Parts) (g : FormAt) (env : Environment) (body : FormAt) (rest : List Item) → Fits m → items_of m ≡ Goal g env ∷ rest
    → goal_tree m.bank env g ≡ Exists (form_tree m.bank body.0)
    → form_applies_heads (instantiate (form_tree m.bank body.0) (Var (length m.levels))) ≡ true
exists_heads m g env body rest f e1 e2 =
    fits_apply (with_variable (allowed m)) GoalSide [] (instantiate (form_tree m.bank body.0) (Var (length m.levels)))
    (exists_opened (allowed m) (form_tree m.bank body.0) (goal_fits m g env rest (Exists (form_tree m.bank body.0)) f e1 e2).1)

-- the later state where no variable is new
abbrev pub still_state : Parts → Form → List Item → ℕ → State
still_state old h rest e =
    record {
      agenda = GoalOf h ∷ map (shown_item old.bank old.bound old.resources.kept) rest;
      context = map (shown_entry old.bank old.bound) old.resources.entries;
      flag = old.resources.flag;
      levels = old.levels;
      eigens = e;
      terms = map (read_term old.bank old.bound) old.terms;
      label = old.resources.next;
      steps = old.steps ++ Plain ∷ [];
    }

-- a goal in place of the one in front where no variable is new
pub still : (old new : Parts) (g : FormAt) (env : Environment) (rest : List Item) (c : Candidate) (f : Form) → Fits old → items_of old ≡ Goal g env ∷ rest
    → PutsInFront old f rest new
    → new.bound ≡ old.bound → new.levels ≡ old.levels → new.terms ≡ old.terms → old.eigens ≤ new.eigens → new.eigens ≤ suc old.eigens
    → IsFormula (allowed new) GoalSide [] f → attempt (setting old) (state_of old) c
    ≡ Some (still_state old (sub_form (reading old.bank old.bound) f) rest new.eigens) → Infers old c new
still old new g env rest c f fits e1 o wb wl wt low high sorted gives =
    let reads : (y : ℕ) → reading new.bank new.bound y ≡ reading old.bank old.bound y =
    λ y. ap (λ bs. reading new.bank bs y) wb ∙ reading_same old.bank new.bank o.bank old.bound fits.bound y in
    let n : length new.levels ≡ length old.levels = ap (λ (ls : List ℕ). length ls) wl in let l = o.left in
    let grows : Grows (allowed old) (allowed new) =
    record { modules = ap (λ (q : ProblemTree). q.modules) (sym o.problem); variables = omega (arith, n); eigens = low; opens = λ h. h } in
    let make : List ℕ → List Term → Option State = λ ls ts. Some (record {
      agenda = GoalOf (sub_form (reading old.bank old.bound) f) ∷ map (shown_item old.bank old.bound old.resources.kept) rest;
      context = map (shown_entry old.bank old.bound) old.resources.entries;
      flag = old.resources.flag;
      levels = ls;
      eigens = new.eigens;
      terms = ts;
      label = old.resources.next;
      steps = old.steps ++ Plain ∷ [];
    }) in
    let ts : map (read_term new.bank new.bound) new.terms ≡ map (read_term old.bank old.bound) old.terms =
    ap (λ xs. map (read_term new.bank new.bound) xs) wt ∙ terms_stay old.bank new.bank old.bound new.bound o.bank reads old.terms fits.terms in
    opened old new g env rest c f fits e1 o reads grows (ap (λ (bs : List (Option At)). length bs) wb ∙ (fits.count ∙ sym n))
    (rw wb (values_extend old.bank new.bank o.bank old.bound fits.bound)) (rw (wb, wl) (ordered_extends old new.bank fits o.bank))
    (rw wt (AllInTerms-extends o.bank old.terms fits.terms))
    (rw (wt, wl) (term_trees-extends o.bank old.terms fits.terms ∙ fits.variables)) sorted (let b = fits.eigens in omega (arith, b, high, l))
    (gives ∙ (ap (λ ls. make ls (map (read_term old.bank old.bound) old.terms)) (sym wl) ∙ ap (λ xs. make new.levels xs) (sym ts)))

pub forall_row : (old new : Parts) (g : FormAt) (env : Environment) (body : FormAt) (rest : List Item) (c : Candidate) → Fits old
    → items_of old ≡ Goal g env ∷ rest
    → goal_tree old.bank env g ≡ Forall (form_tree old.bank body.0) → OpensForall old body rest new → Infers old c new
forall_row old new g env body rest c f e1 e2 w =
    let o = w.opens in let p = form_tree old.bank body.0 in let x = Con (Eigen old.eigens) in let s = reading old.bank old.bound in
    let may = allowed old in let more = with_eigen may in let k = w.eigens in
    let n : length new.levels ≡ length old.levels = ap (λ (ls : List ℕ). length ls) w.levels in
    let grown : Grows more (allowed new) =
    record { modules = ap (λ (q : ProblemTree). q.modules) (sym o.problem); variables = omega (arith, n); eigens = omega (arith, k); opens = λ h. h } in
    let sorted =
    formula-more more (allowed new) GoalSide (instantiate p x) grown
    (formula_of_fits more GoalSide [] (instantiate p x) (forall_opened may p (goal_fits old g env rest (Forall p) f e1 e2))) in
    still old new g env rest c (instantiate p x) f e1 o w.bound w.levels w.terms (omega (arith, k)) (omega (arith, k)) sorted
    (attempt_by old g env rest c (Forall p) e1 e2
    ∙ (ap (λ h. Some (still_state old h rest (suc old.eigens))) (sym (sub_instantiate s (closing old f) p x))
    ∙ ap (λ e. Some (still_state old (sub_form s (instantiate p x)) rest e)) (sym k)))

pub exists_row : (old new : Parts) (g : FormAt) (env : Environment) (body : FormAt) (rest : List Item) (c : Candidate) → Fits old
    → items_of old ≡ Goal g env ∷ rest
    → goal_tree old.bank env g ≡ Exists (form_tree old.bank body.0) → OpensExists old body rest new → Infers old c new
exists_row old new g env body rest c f e1 e2 w =
    let o = w.opens in let p = form_tree old.bank body.0 in let n = length old.levels in let s = reading old.bank old.bound in
    let may = allowed old in let more = with_variable may in let b = new.bank in let a = new.bound in
    let grown_table : IsTable b (table old) = table-extends old.bank b (table old) (fits_table old f) o.bank in
    let reads : (y : ℕ) → reading b a y ≡ reading old.bank old.bound y =
    λ y. ap (λ bs. reading b bs y) w.bound ∙ (found-fresh b (table old) old.eigens grown_table y ∙ reading_same old.bank b o.bank old.bound f.bound y) in
    let free : s n ≡ Var n = let q = f.count in reading_past old.bank old.bound n (omega (arith, q)) in
    let ln : length new.levels ≡ suc n = ap (λ (ls : List ℕ). length ls) w.levels
    ∙ (length-append old.levels (old.eigens ∷ []) ∙ (let q : n + 1 ≡ suc n = omega arith in q)) in
    let bn : length a ≡ suc (length old.bound) =
    ap (λ (bs : List (Option At)). length bs) w.bound ∙ (length-append old.bound (None ∷ [])
    ∙ (let q : length old.bound + 1 ≡ suc (length old.bound) = omega arith in q)) in
    let k = w.eigens in let l = o.left in
    let ms = ap (λ (q : ProblemTree). q.modules) (sym o.problem) in
    let grows : Grows may (allowed new) = record { modules = ms; variables = omega (arith, ln); eigens = omega (arith, k); opens = λ h. h } in
    let grown : Grows more (allowed new) = record { modules = ms; variables = omega (arith, ln); eigens = omega (arith, k); opens = λ h. h } in
    let sorted =
    formula-more more (allowed new) GoalSide (instantiate p (Var n)) grown
    (formula_of_fits more GoalSide [] (instantiate p (Var n)) (exists_opened may p (goal_fits old g env rest (Exists p) f e1 e2).1)) in
    let make : Form → List ℕ → ℕ → List Term → Option State = λ h ls e ts. Some (record {
      agenda = GoalOf h ∷ map (shown_item old.bank old.bound old.resources.kept) rest;
      context = map (shown_entry old.bank old.bound) old.resources.entries;
      flag = old.resources.flag;
      levels = ls;
      eigens = e;
      terms = ts;
      label = old.resources.next;
      steps = old.steps ++ Plain ∷ [];
    }) in
    let us = map (read_term old.bank old.bound) old.terms in
    let value : read_term b a w.value ≡ Var n = ap (sub (reading b a)) w.shows.tree ∙ (reads n ∙ free) in
    let ts : map (read_term b a) new.terms ≡ us ++ Var n ∷ [] =
    ap (λ xs. map (read_term b a) xs) w.terms
    ∙ (map-append (read_term b a) old.terms (w.value ∷ [])
    ∙ (ap (λ xs. xs ++ read_term b a w.value ∷ []) (terms_stay old.bank b old.bound a o.bank reads old.terms f.terms) ∙ ap (λ t. us ++ t ∷ []) value)) in
    let goal = instantiate p (Var n) in
    opened old new g env rest c goal f e1 o reads grows (let q = f.count in omega (arith, q, bn, ln))
    (rw w.bound (All-push (HasValue b) old.bound None (values_extend old.bank b o.bank old.bound f.bound) tt))
    (rw (w.bound, w.levels) (table-fresh b (table old) old.eigens grown_table).ordered)
    (rw w.terms (All-push (λ (x : At). HasTerm b x.0) old.terms w.value (AllInTerms-extends o.bank old.terms f.terms) w.shows.inside))
    (ap (λ xs. term_trees b xs) w.terms
    ∙ (map-append (λ (x : At). term_tree b x.0) old.terms (w.value ∷ [])
    ∙ (ap (λ xs. xs ++ term_tree b w.value.0 ∷ []) (term_trees-extends o.bank old.terms f.terms ∙ f.variables)
    ∙ (ap (λ t. vars_from 0 n ++ t ∷ []) w.shows.tree ∙ (sym (vars_more 0 n n (omega arith)) ∙ ap (λ i. vars_from 0 i) (sym ln))))))
    sorted (let q = f.eigens in omega (arith, q, k, l))
    (attempt_by old g env rest c (Exists p) e1 e2
    ∙ (ap (λ h. make h (old.levels ++ old.eigens ∷ []) old.eigens (us ++ Var n ∷ []))
    (ap (λ t. instantiate (sub_form s p) t) (sym free) ∙ sym (sub_instantiate s (closing old f) p (Var n)))
    ∙ (ap (λ ls. make (sub_form s goal) ls old.eigens (us ++ Var n ∷ [])) (sym w.levels)
    ∙ (ap (λ e. make (sub_form s goal) new.levels e (us ++ Var n ∷ [])) (sym k) ∙ ap (λ xs. make (sub_form s goal) new.levels new.eigens xs) (sym ts)))))

-- ---- how the goal comes in front

-- the machine that goes on has a place that shows the formula
pub opens_shown : (old mid new : Parts) → mid.problem ≡ old.problem → mid.modules ≡ old.modules → mid.resources ≡ old.resources → mid.steps ≡ old.steps
    → mid.left ≡ old.left
    → (goal : FormAt) (f : Form) (rest : List Item) → Extends old.bank mid.bank → ShowsForm mid.bank goal.0 f → (item : Item)
    → GoesOn mid (item ∷ []) rest Plain new → item ≡ closed_goal goal → PutsInFront old f rest new
opens_shown old mid new p ms q st l goal f rest k sh item go is =
    let nb : new.bank ≡ mid.bank = ap (λ (m : Parts). m.bank) go.same in
    record {
      problem = ap (λ (m : Parts). m.problem) go.same ∙ p;
      modules = ap (λ (m : Parts). m.modules) go.same ∙ ms;
      resources = ap (λ (m : Parts). m.resources) go.same ∙ q;
      bank = subst (λ (b : Nodes). Extends old.bank b) (sym nb) k;
      goal = goal;
      shows = subst (λ (b : Nodes). ShowsForm b goal.0 f) (sym nb) sh;
      top = go.top;
      items = go.items ∙ ap (λ i. i ∷ rest) is;
      steps = go.steps ∙ ap (λ ss. ss ++ Plain ∷ []) st;
      left = go.left ∙ l;
    }

-- the body of a quantifier, opened with a term that was put in the bank before
pub body_shown : (first second third : Nodes) (body goal value : ℕ) (t : Term) → Extends first second → HasForm first body → ShowsTerm second value t
    → ShowsForm third goal (instantiate (form_tree second body) (term_tree second value)) → ShowsForm third goal (instantiate (form_tree first body) t)
body_shown first second third body goal value t k h v s =
    record {
      inside = s.inside;
      tree = s.tree ∙ (ap (λ f. instantiate f (term_tree second value)) (form_tree-extends k body h) ∙ ap (λ u. instantiate (form_tree first body) u) v.tree);
    }

-- a term that was put in the bank before stays
pub value_shown : (second third : Nodes) (value : ℕ) (t : Term) → Extends second third → ShowsTerm second value t → ShowsTerm third value t
value_shown second third value t k v = record { inside = HasTerm-extends k value v.inside; tree = term_tree-extends k value v.inside ∙ v.tree }

-- ---- a goal is in front

pub not_empty : (m : Parts) → is_empty (state_of m).agenda ≡ false → items_of m ≡ [] → ⊥
not_empty m h e = let x : true ≡ false = sym (ap (λ xs. is_empty xs) (agenda_shown m [] e)) ∙ h in absurd (cc (x))

-- an end in front has no candidate
pub no_candidate : (m : Parts) (i : Item) (rest : List Item) (c : Candidate) → Contains (tries (state_of m)) c → items_of m ≡ i ∷ rest
    → ((g : FormAt) (env : Environment) → i ≡ Goal g env → ⊥) → ⊥
no_candidate m i rest c h e n =
    let p = subst (λ (cs : List Candidate). Contains cs c) (tries_end m i rest e n) h in let l = p.1 in absurd (omega (arith, l))
