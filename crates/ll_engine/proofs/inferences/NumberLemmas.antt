-- A whole-number goal taken: what it makes of a machine.
use Rattle.std.proofs.Common.{◌≡◌, ℕ, suc, List, [], ◌∷◌, ◌++◌, length, map, All, refl, ap, sym, subst, ◌∙◌, arith, Option, Some, None, Bool, true, false, w64}
use Rattle.std.proofs.Common.{FitsSigned, to_z, of_z}
use Rattle.std.proofs.lemmas.Int.{to_z-of_z}
use Rattle.std.specs.Prelude.{ℤ, option_map, if◌then◌else◌, int_lt, int_le}
use Rattle.std.proofs.lemmas.List.Elements.{All-weaker}
use Rattle.ll_bank.specs.declared.At.{At}
use Rattle.ll_bank.specs.declared.FormAt.{FormAt}
use Rattle.ll_bank.specs.declared.environment.Environment.{Environment}
use Rattle.ll_bank.specs.declared.FormNode.{FormNode}
use Rattle.ll_bank.specs.declared.FormNode.TheVariants.{Is as IsView, Less as LessView, Most as MostView}
use Rattle.ll_bank.specs.Term.{Term, Int, sub}
use Rattle.ll_bank.specs.Form.{Form, Num, Relation, Is, Less, Most, sub_form}
use Rattle.ll_bank.specs.Nodes.{Nodes, HasTerm, HasForm, AllInTerms, ShowsTerm, Extends, form_of, term_tree, term_trees, form_tree}
use Rattle.ll_bank.proofs.CallerLemmas.{HasForm-extends, AllInTerms-extends, term_trees-extends}
use Rattle.ll_laws.specs.declared.Candidate.{Candidate}
use Rattle.ll_laws.specs.declared.Step.{Step}
use Rattle.ll_laws.specs.declared.Step.TheVariants.{Plain}
use Rattle.ll_laws.specs.Settle.{Entry, Item as ItemOf}
use Rattle.ll_laws.specs.State.{State, sub_item, sub_entry}
use Rattle.ll_laws.specs.Unify.{Solved, mgu, vars_below}
use Rattle.ll_laws.specs.Number.{operators_of, value_of, compared}
use Rattle.ll_laws.specs.Attempt.{vars_from, attempt, instantiated, stepped, take_value, take_number}
use Rattle.ll_laws.specs.Problem.{ProblemTree, setting_of}
use Rattle.ll_laws.specs.Valid.{IsFormula, IsValid, GoalSide, ClauseSide}
use Rattle.ll_laws.specs.Consistent.{IsConsistent, allowed_in}
use Rattle.ll_laws.proofs.CallerLemmas.{grows-refl, fit-vars, fits_of_formula, steps_consistent}
use Rattle.ll_freeze.specs.Resting.{RestsOn}
use Rattle.ll_freeze.specs.Keyed.{AreKeyed}
use Rattle.ll_freeze.proofs.CallerLemmas.{keyed-later, step_rests, modules_later, modules_has}
use Rattle.ll_agenda.specs.declared.agenda.Top.{Top as AgendaTop}
use Rattle.ll_agenda.specs.Frames.{HasTop, items_at}
use Rattle.ll_resources.specs.Resources.{Resources}
use Rattle.ll_freeze.specs.Parts.{Parts, table}
use Rattle.ll_freeze.specs.declared.machine.Item.{Item}
use Rattle.ll_freeze.specs.declared.machine.Item.TheVariants.{Goal}
use Rattle.ll_freeze.specs.Reading.{reading, read_term, HasValue}
use Rattle.ll_freeze.specs.Shown.{shown_item, shown_entry, items_of, state_of}
use Rattle.ll_freeze.specs.Fits.{Fits, HasItem, IsGoalIn, allowed, setting}
use Rattle.ll_engine.specs.Attempts.{Infers}
use Rattle.ll_engine.specs.Taking.{Unifies}
use Rattle.ll_engine.specs.Numbers.{tested}
use Rattle.ll_engine.specs.declared.numbers.Values.{Values}
use Rattle.ll_engine.specs.Front.{IsClosedFront}
use Rattle.ll_engine.specs.Rows.{GoesOn}
use Rattle.ll_unify.specs.Bindings.{Table, IsTable, IsOrdered, IsPlaceOf}
use Rattle.ll_unify.proofs.CallerLemmas.{table-extends, place-extends, place-below}
use Rattle.ll_engine.proofs.machine.ReadLemmas.{reading_same, read_same, length_variables, values_extend, table_values, fits_table, ordered_extends}
use Rattle.ll_engine.proofs.machine.LaterLemmas.{items_later, entries_later, terms_later}
use Rattle.ll_engine.proofs.machine.MachineLemmas.{closed_tree, goal_in_front}
use Rattle.ll_engine.proofs.inferences.Connecting.{at_goal, attempt_by, rest_items, rest_goals}
use Rattle.ll_engine.proofs.inferences.Quantifying.{items_stay, entries_stay, terms_stay, clauses_stay, goals_stay, item_has}
use Rattle.ll_engine.proofs.inferences.TakingLemmas.{allowed_shown, term_count}

-- a goal went: the later machine has the rest of the agenda, after one step more, and may have other bindings
pub record Went (old : Parts) (rest : List Item) (new : Parts) : Type 0 where
  pub problem : new.problem ≡ old.problem
  pub modules : new.modules ≡ old.modules
  pub resources : new.resources ≡ old.resources
  pub bank : Extends old.bank new.bank
  pub count : length new.bound ≡ length old.levels
  pub inside : All (HasValue new.bank) new.bound
  pub ordered : IsOrdered new.bank (table new)
  pub terms : new.terms ≡ old.terms
  pub eigens : new.eigens ≡ old.eigens
  pub top : HasTop new.agenda new.top
  pub items : items_of new ≡ rest
  pub steps : new.steps ≡ old.steps ++ Plain ∷ []
  pub left : suc new.left ≡ old.left

-- what is left of the agenda, as it is shown
abbrev pub behind : Parts → List Item → List (ItemOf Form)
behind m rest = map (shown_item m.bank m.bound m.resources.kept) rest

-- then the inference is the one that gives its state
infers : (old new : Parts) (g : FormAt) (env : Environment) (rest : List Item) (c : Candidate) → Fits old → items_of old ≡ Goal g env ∷ rest → Went old rest new
    → attempt (setting old) (state_of old) c ≡ Some (state_of new) → Infers old c new
infers old new g env rest c f e o gives =
    record { gives = gives; problem = o.problem; left = o.left; fits = fits }
  where
    kept : ℕ
    kept = length old.resources.kept

    items : All (HasItem old.bank (length old.resources.kept)) rest
    items = rest_items old g env rest f e

    consistent : IsConsistent (setting new) (state_of new)
    consistent =
        subst (λ (p : ProblemTree). IsConsistent (setting_of p) (state_of new)) (sym o.problem)
        (steps_consistent (length old.problem.names) (setting old) (state_of old) (state_of new) c f.valid.modules f.consistent gives)

    levels : length old.levels ≡ length new.levels
    levels =
        sym (ap (λ (ats : List At). length ats) o.terms ∙ length_variables old.bank old.terms (length old.levels) f.variables)
        ∙ term_count new consistent

    may : allowed old ≡ allowed new
    may = λ i. record { modules = (setting_of (sym o.problem i)).modules; variables = levels i; eigens = sym o.eigens i; opens = true }

    clauses : All (λ e. HasForm new.bank e.clause.0) old.resources.entries
    clauses =
        All-weaker (λ (e : Entry FormAt). HasForm old.bank e.clause.0) (λ (e : Entry FormAt). HasForm new.bank e.clause.0)
        (λ e h. HasForm-extends o.bank e.clause.0 h) old.resources.entries f.clauses

    sorted : All (λ e. IsFormula (allowed old) ClauseSide [] (form_tree new.bank e.clause.0)) old.resources.entries
    sorted =
        clauses_stay old.bank new.bank (allowed old) (allowed old) o.bank (grows-refl (allowed old)) old.resources.entries f.clauses
        f.sorted_clauses

    goals : All (IsGoalIn (allowed old) new.bank) rest
    goals =
        goals_stay old.bank new.bank (allowed old) (allowed old) o.bank (grows-refl (allowed old)) (length old.resources.kept) rest items
        (rest_goals old g env rest f e)

    inside : All (HasItem new.bank (length old.resources.kept)) rest
    inside =
        All-weaker (HasItem old.bank (length old.resources.kept)) (HasItem new.bank (length old.resources.kept))
        (λ i h. item_has old.bank new.bank (allowed old) (allowed old) o.bank (grows-refl (allowed old)) (length old.resources.kept) i h)
        rest items

    next : new.resources.next ≡ old.resources.next
    next = ap (λ (p : Resources FormAt). p.next) o.resources

    fits : Fits new
    fits = record {
      valid = subst IsValid (sym o.problem) f.valid;
      consistent = consistent;
      rests = subst (λ (p : ProblemTree). RestsOn p.clauses (state_of new)) (sym o.problem)
          (step_rests (length old.problem.names) old.problem.modules old.problem.clauses f.valid.clauses (setting old) (state_of old) (state_of new) c gives
          f.rests);
      count = o.count ∙ levels;
      bound = o.inside;
      ordered = o.ordered;
      terms = subst (AllInTerms new.bank) (sym o.terms) (AllInTerms-extends o.bank old.terms f.terms);
      variables =
          ap (term_trees new.bank) o.terms
          ∙ (term_trees-extends o.bank old.terms f.terms ∙ (f.variables ∙ ap (vars_from 0) levels));
      clauses = subst (λ (r : Resources FormAt). All (λ e. HasForm new.bank e.clause.0) r.entries) (sym o.resources) clauses;
      sorted_clauses =
          subst (λ (r : Resources FormAt). All (λ e. IsFormula (allowed new) ClauseSide [] (form_tree new.bank e.clause.0)) r.entries) (sym o.resources)
          (subst (λ k. All (λ (e : Entry FormAt). IsFormula k ClauseSide [] (form_tree new.bank e.clause.0)) old.resources.entries) may sorted);
      sorted_goals = subst (λ (xs : List Item). All (IsGoalIn (allowed new) new.bank) xs) (sym o.items)
          (subst (λ k. All (IsGoalIn k new.bank) rest) may goals);
      has_modules = rw o.modules (modules_has old.bank new.bank old.modules o.bank f.has_modules);
      modules = rw (o.problem, o.modules) (modules_later old.bank new.bank old.modules o.bank f.has_modules ∙ f.modules);
      top = o.top;
      items = subst (λ (xs : List Item). All (HasItem new.bank (length new.resources.kept)) xs) (sym o.items)
          (subst (λ (r : Resources FormAt). All (HasItem new.bank (length r.kept)) rest) (sym o.resources) inside);
      labels = (let a = next in let b = o.left in let d = f.labels in omega arith);
      eigens = (let a = o.eigens in let b = o.left in let d = f.eigens in omega arith);
      keyed =
          subst (λ (r : Resources FormAt). AreKeyed new.bank (length new.problem.clauses) r) (sym o.resources)
          (subst (λ (p : ProblemTree). AreKeyed new.bank (length p.clauses) old.resources) (sym o.problem)
          (keyed-later old.bank new.bank (length old.problem.clauses) old.resources o.bank f.clauses f.keyed));
    }

-- with the bindings that were there, the state has lost its goal
state_went : (old new : Parts) (g : FormAt) (env : Environment) (rest : List Item) → Fits old → items_of old ≡ Goal g env ∷ rest → Went old rest new
    → new.bound ≡ old.bound → new.levels ≡ old.levels → stepped (at_goal old g env rest) (behind old rest) Plain ≡ state_of new
unfolding state_of
state_went old new g env rest f e o bound levels = λ i. record {
  agenda = agenda i;
  context = context i;
  flag = (sym o.resources i).flag;
  levels = sym levels i;
  eigens = sym o.eigens i;
  terms = terms i;
  label = (sym o.resources i).next;
  steps = sym o.steps i;
}
  where
    reads : (x : ℕ) → reading new.bank new.bound x ≡ reading old.bank old.bound x
    reads x = ap (λ xs. reading new.bank xs x) bound ∙ reading_same old.bank new.bank o.bank old.bound f.bound x

    agenda : behind old rest ≡ map (shown_item new.bank new.bound new.resources.kept) (items_of new)
    agenda =
        sym (items_stay old.bank new.bank old.bound new.bound o.bank reads old.resources.kept
        (length old.resources.kept) rest (rest_items old g env rest f e))
        ∙ (λ i. map (shown_item new.bank new.bound (sym o.resources i).kept) (sym o.items i))

    context : map (shown_entry old.bank old.bound) old.resources.entries ≡ map (shown_entry new.bank new.bound) new.resources.entries
    context =
        sym (entries_stay old.bank new.bank old.bound new.bound o.bank reads old.resources.entries f.clauses)
        ∙ (λ i. map (shown_entry new.bank new.bound) (sym o.resources i).entries)

    terms : map (read_term old.bank old.bound) old.terms ≡ map (read_term new.bank new.bound) new.terms
    terms =
        sym (terms_stay old.bank new.bank old.bound new.bound o.bank reads old.terms f.terms)
        ∙ ap (map (read_term new.bank new.bound)) (sym o.terms)

-- with more bindings, it stands under the substitution between, too
state_bound : (old new : Parts) (g : FormAt) (env : Environment) (rest : List Item) (v : Solved) → Fits old → items_of old ≡ Goal g env ∷ rest
    → Went old rest new
    → ((x : ℕ) → reading new.bank new.bound x ≡ sub v.subst (reading old.bank old.bound x)) → new.levels ≡ v.levels
    → instantiated (stepped (at_goal old g env rest) (behind old rest) Plain) v ≡ state_of new
unfolding state_of
state_bound old new g env rest v f e o reads levels = λ i. record {
  agenda = agenda i;
  context = context i;
  flag = (sym o.resources i).flag;
  levels = sym levels i;
  eigens = sym o.eigens i;
  terms = terms i;
  label = (sym o.resources i).next;
  steps = sym o.steps i;
}
  where
    agenda : map (sub_item v.subst) (behind old rest) ≡ map (shown_item new.bank new.bound new.resources.kept) (items_of new)
    agenda =
        sym (items_later old.bank new.bank old.bound new.bound v.subst o.bank reads old.resources.kept
        (length old.resources.kept) rest (rest_items old g env rest f e))
        ∙ (λ i. map (shown_item new.bank new.bound (sym o.resources i).kept) (sym o.items i))

    context : map (sub_entry v.subst) (map (shown_entry old.bank old.bound) old.resources.entries)
        ≡ map (shown_entry new.bank new.bound) new.resources.entries
    context =
        sym (entries_later old.bank new.bank old.bound new.bound v.subst o.bank reads old.resources.entries f.clauses)
        ∙ (λ i. map (shown_entry new.bank new.bound) (sym o.resources i).entries)

    terms : map (sub v.subst) (map (read_term old.bank old.bound) old.terms) ≡ map (read_term new.bank new.bound) new.terms
    terms =
        sym (terms_later old.bank new.bank old.bound new.bound v.subst o.bank reads old.terms f.terms)
        ∙ ap (map (read_term new.bank new.bound)) (sym o.terms)

-- a goal went, as a machine went on without it
pub goes : (m mid new : Parts) (rest : List Item) → mid.problem ≡ m.problem → mid.modules ≡ m.modules → mid.resources ≡ m.resources
    → Extends m.bank mid.bank → length mid.bound ≡ length m.levels → All (HasValue mid.bank) mid.bound → IsOrdered mid.bank (table mid) → mid.terms ≡ m.terms
    → mid.eigens ≡ m.eigens → mid.steps ≡ m.steps → mid.left ≡ m.left → GoesOn mid [] rest Plain new → Went m rest new
goes m mid new rest problem modules resources bank count inside ordered terms eigens steps left go =
    let place : new.bank ≡ mid.bank = ap (λ (x : Parts). x.bank) go.same in
    let values : new.bound ≡ mid.bound = ap (λ (x : Parts). x.bound) go.same in
    record {
      problem = ap (λ (x : Parts). x.problem) go.same ∙ problem;
      modules = ap (λ (x : Parts). x.modules) go.same ∙ modules;
      resources = ap (λ (x : Parts). x.resources) go.same ∙ resources;
      bank = subst (Extends m.bank) (sym place) bank;
      count = ap (λ (xs : List (Option At)). length xs) values ∙ count;
      inside = subst (All (HasValue new.bank)) (sym values) (subst (λ b. All (HasValue b) mid.bound) (sym place) inside);
      ordered = subst (λ (x : Parts). IsOrdered x.bank (table x)) (sym go.same) ordered;
      terms = ap (λ (x : Parts). x.terms) go.same ∙ terms;
      eigens = ap (λ (x : Parts). x.eigens) go.same ∙ eigens;
      top = go.top;
      items = go.items;
      steps = go.steps ∙ ap (λ (ss : List Step). ss ++ Plain ∷ []) steps;
      left = go.left ∙ left;
    }

-- and in particular with the cells that it had
pub goes_same : (m mid new : Parts) (rest : List Item) → Fits m → mid.problem ≡ m.problem → mid.modules ≡ m.modules → mid.resources ≡ m.resources
    → Extends m.bank mid.bank → table mid ≡ table m → mid.terms ≡ m.terms → mid.eigens ≡ m.eigens → mid.steps ≡ m.steps → mid.left ≡ m.left
    → GoesOn mid [] rest Plain new → Went m rest new
goes_same m mid new rest f problem modules resources bank cells terms eigens steps left go =
    let values : mid.bound ≡ m.bound = ap (λ (t : Table). t.bound) cells in
    goes m mid new rest problem modules resources bank (ap (λ (xs : List (Option At)). length xs) values ∙ f.count)
    (subst (All (HasValue mid.bank)) (sym values) (values_extend m.bank mid.bank bank m.bound f.bound))
    (subst (λ (t : Table). IsOrdered mid.bank t) (sym cells) (ordered_extends m mid.bank f bank)) terms eigens steps left go

-- a value stays that of an expression as the bank grows
pub value_kept : (names : List (List ℕ)) (old new : Nodes) (t : Table) → IsTable old t → Extends old new → (at : At) → HasTerm old at.0
    → (found : Option ℤ) → found ≡ value_of (operators_of names) (read_term new t.bound at) → value_of (operators_of names) (read_term old t.bound at) ≡ found
value_kept names old new t is keeps at inside found e =
    sym (e ∙ ap (value_of (operators_of names)) (read_same old new keeps t.bound (table_values old t.bound is.places) at.0 inside))

-- a test fails where a value lacks, and is that of the values where both are there
pub first_lacks : (test : ℤ → ℤ → Bool) (a b : Option ℤ) → a ≡ None → false ≡ compared test a b
first_lacks test a b e = sym (ap (λ (o : Option ℤ). compared test o b) e ∙ lacks b)
  where
    lacks : (o : Option ℤ) → compared test None o ≡ false
    lacks None = refl
    lacks (Some x) = refl

pub second_lacks : (test : ℤ → ℤ → Bool) (a b : Option ℤ) → b ≡ None → false ≡ compared test a b
second_lacks test a b e = sym (ap (compared test a) e ∙ lacks a)
  where
    lacks : (o : Option ℤ) → compared test o None ≡ false
    lacks None = refl
    lacks (Some x) = refl

pub both_values : (test : ℤ → ℤ → Bool) (x y : ℤ) (a b : Option ℤ) → FitsSigned w64 x → FitsSigned w64 y → a ≡ Some x → b ≡ Some y
    → test (to_z w64 (of_z w64 x)) (to_z w64 (of_z w64 y)) ≡ compared test a b
both_values test x y a b f g e1 e2 = (λ i. test (to_z-of_z w64 x f i) (to_z-of_z w64 y g i)) ∙ (λ i. compared test (sym e1 i) (sym e2 i))

-- the environment of a goal with no free bound place
abbrev without : {m : Parts} {view : FormNode} {rest : AgendaTop} → IsClosedFront m view rest → Environment
without h = record { end = h.0; count = 0 }

module _ (m : Parts) (r : Relation) (left right : At) (rest : AgendaTop) (f : Fits m) (view : FormNode) (h : IsClosedFront m view rest)
    (tree : form_of m.bank view ≡ Num r (term_tree m.bank left.0) (term_tree m.bank right.0)) where
  abbrev shown : At → Term
  shown at = read_term m.bank m.bound at

  -- an inference on the goal
  step : (c : Candidate) → attempt (setting m) (state_of m) c
      ≡ take_number (setting m) (at_goal m h.1.goal (without h) (items_at m.agenda rest)) r (shown left) (shown right) (behind m (items_at m.agenda rest))
  step c =
      attempt_by m h.1.goal (without h) (items_at m.agenda rest) c (Num r (term_tree m.bank left.0) (term_tree m.bank right.0)) h.1.list
      (closed_tree m view rest h ∙ tree)

  -- the left side has no variable but those that there are
  pub left_below : vars_below (length m.levels) (shown left) ≡ true
  left_below =
      let is = subst (λ g. IsFormula (allowed_in (setting m) (state_of m)) GoalSide [] (sub_form (reading m.bank m.bound) g)) (closed_tree m view rest h ∙ tree)
      (goal_in_front m h.1.goal (without h) (items_at m.agenda rest) f h.1.list) in
      let now = subst (λ may. IsFormula may GoalSide [] (Num r (shown left) (shown right))) (allowed_shown m) is in
      fit-vars (allowed m) [] (shown left) (fits_of_formula (allowed m) GoalSide [] (Num r (shown left) (shown right)) now).1

  -- a side is a place over cells of the machine
  side_place : (at : At) → HasTerm m.bank at.0 → vars_below (length m.levels) (shown at) ≡ true → IsPlaceOf m.bank (table m) at.0
  side_place at inside below = place-below m.bank (table m) at.0 (fits_table m f) inside below

  right_below : vars_below (length m.levels) (shown right) ≡ true
  right_below =
      let is = subst (λ g. IsFormula (allowed_in (setting m) (state_of m)) GoalSide [] (sub_form (reading m.bank m.bound) g)) (closed_tree m view rest h ∙ tree)
      (goal_in_front m h.1.goal (without h) (items_at m.agenda rest) f h.1.list) in
      let now = subst (λ may. IsFormula may GoalSide [] (Num r (shown left) (shown right))) (allowed_shown m) is in
      fit-vars (allowed m) [] (shown right) (fits_of_formula (allowed m) GoalSide [] (Num r (shown left) (shown right)) now).2

  pub left_place : HasTerm m.bank left.0 → IsPlaceOf m.bank (table m) left.0
  left_place inside = side_place left inside left_below

  pub right_place : HasTerm m.bank right.0 → IsPlaceOf m.bank (table m) right.0
  right_place inside = side_place right inside right_below

-- ---- a comparison

abbrev pub test_of : Parts → At → At → (ℤ → ℤ → Bool) → Bool
test_of m left right test =
    compared test (value_of (setting m).operators (read_term m.bank m.bound left)) (value_of (setting m).operators (read_term m.bank m.bound right))

-- what is found out of two values holds of the sides as they are read
pub test_is : (m : Parts) (left right : At) (test : ℤ → ℤ → Bool) (found : Option Values) (names : List (List ℕ)) (b : Bool) → names ≡ m.problem.names
    → tested test found ≡ compared test (value_of (operators_of names) (read_term m.bank m.bound left))
    (value_of (operators_of names) (read_term m.bank m.bound right))
    → tested test found ≡ b → test_of m left right test ≡ b
test_is m left right test found names b n told is =
    (λ i. compared test (value_of (operators_of (sym n i)) (read_term m.bank m.bound left))
    (value_of (operators_of (sym n i)) (read_term m.bank m.bound right)))
    ∙ (sym told ∙ is)

module _ (m : Parts) (left right : At) (rest : AgendaTop) (f : Fits m) where
  less_step : (h : IsClosedFront m (LessView left right) rest) (c : Candidate) → attempt (setting m) (state_of m) c
      ≡ (if test_of m left right int_lt then Some (stepped (at_goal m h.1.goal (without h) (items_at m.agenda rest)) (behind m (items_at m.agenda rest))
      Plain) else None)
  less_step h c = step m Less left right rest f (LessView left right) h refl c

  most_step : (h : IsClosedFront m (MostView left right) rest) (c : Candidate) → attempt (setting m) (state_of m) c
      ≡ (if test_of m left right int_le then Some (stepped (at_goal m h.1.goal (without h) (items_at m.agenda rest)) (behind m (items_at m.agenda rest))
      Plain) else None)
  most_step h c = step m Most left right rest f (MostView left right) h refl c

  pub less_left : IsClosedFront m (LessView left right) rest → IsPlaceOf m.bank (table m) left.0
  less_left h = left_place m Less left right rest f (LessView left right) h refl h.1.seen.parts.0

  pub less_right : IsClosedFront m (LessView left right) rest → IsPlaceOf m.bank (table m) right.0
  less_right h = right_place m Less left right rest f (LessView left right) h refl h.1.seen.parts.1

  pub most_left : IsClosedFront m (MostView left right) rest → IsPlaceOf m.bank (table m) left.0
  most_left h = left_place m Most left right rest f (MostView left right) h refl h.1.seen.parts.0

  pub most_right : IsClosedFront m (MostView left right) rest → IsPlaceOf m.bank (table m) right.0
  most_right h = right_place m Most left right rest f (MostView left right) h refl h.1.seen.parts.1

  pub less_fails : (c : Candidate) → IsClosedFront m (LessView left right) rest → test_of m left right int_lt ≡ false
      → attempt (setting m) (state_of m) c ≡ None
  less_fails c h fails =
      less_step h c ∙ ap (λ b. if b then Some (stepped (at_goal m h.1.goal (without h) (items_at m.agenda rest)) (behind m (items_at m.agenda rest)) Plain)
      else None) fails

  pub most_fails : (c : Candidate) → IsClosedFront m (MostView left right) rest → test_of m left right int_le ≡ false
      → attempt (setting m) (state_of m) c ≡ None
  most_fails c h fails =
      most_step h c ∙ ap (λ b. if b then Some (stepped (at_goal m h.1.goal (without h) (items_at m.agenda rest)) (behind m (items_at m.agenda rest)) Plain)
      else None) fails

  pub less_holds : (new : Parts) (c : Candidate) → IsClosedFront m (LessView left right) rest → test_of m left right int_lt ≡ true
      → Went m (items_at m.agenda rest) new
      → new.bound ≡ m.bound → new.levels ≡ m.levels → Infers m c new
  less_holds new c h holds o bound levels =
      infers m new h.1.goal (without h) (items_at m.agenda rest) c f h.1.list o
      (less_step h c ∙ (ap (λ b. if b then Some (stepped (at_goal m h.1.goal (without h) (items_at m.agenda rest)) (behind m (items_at m.agenda rest))
      Plain) else None) holds
      ∙ ap (λ (s : State). Some s) (state_went m new h.1.goal (without h) (items_at m.agenda rest) f h.1.list o bound levels)))

  pub most_holds : (new : Parts) (c : Candidate) → IsClosedFront m (MostView left right) rest → test_of m left right int_le ≡ true
      → Went m (items_at m.agenda rest) new
      → new.bound ≡ m.bound → new.levels ≡ m.levels → Infers m c new
  most_holds new c h holds o bound levels =
      infers m new h.1.goal (without h) (items_at m.agenda rest) c f h.1.list o
      (most_step h c ∙ (ap (λ b. if b then Some (stepped (at_goal m h.1.goal (without h) (items_at m.agenda rest)) (behind m (items_at m.agenda rest))
      Plain) else None) holds
      ∙ ap (λ (s : State). Some s) (state_went m new h.1.goal (without h) (items_at m.agenda rest) f h.1.list o bound levels)))

-- ---- an equation with a value

module _ (m : Parts) (left right : At) (rest : AgendaTop) (f : Fits m) (h : IsClosedFront m (IsView left right) rest) where
  abbrev value : Option ℤ
  value = value_of (setting m).operators (read_term m.bank m.bound right)

  abbrev went : State
  went = stepped (at_goal m h.1.goal (without h) (items_at m.agenda rest)) (behind m (items_at m.agenda rest)) Plain

  is_step : (c : Candidate) → attempt (setting m) (state_of m) c
      ≡ take_value (at_goal m h.1.goal (without h) (items_at m.agenda rest)) (read_term m.bank m.bound left) (behind m (items_at m.agenda rest)) value
  is_step c = step m Is left right rest f (IsView left right) h refl c

  pub no_value : (c : Candidate) → value ≡ None → attempt (setting m) (state_of m) c ≡ None
  no_value c none =
      is_step c ∙ ap (take_value (at_goal m h.1.goal (without h) (items_at m.agenda rest)) (read_term m.bank m.bound left)
      (behind m (items_at m.agenda rest))) none

  -- what its value is found to be
  pub value_is : (found : Option ℤ) (names : List (List ℕ)) → names ≡ m.problem.names → found ≡ value_of (operators_of names) (read_term m.bank m.bound right)
      → value ≡ found
  value_is found names n e = sym (e ∙ (λ i. value_of (operators_of (n i)) (read_term m.bank m.bound right)))

  pub target_place : IsPlaceOf m.bank (table m) left.0
  target_place = left_place m Is left right rest f (IsView left right) h refl h.1.seen.parts.0

  pub expression_place : IsPlaceOf m.bank (table m) right.0
  expression_place = right_place m Is left right rest f (IsView left right) h refl h.1.seen.parts.1

  module _ (z : ℤ) (some : value ≡ Some z) (mid : Nodes) (keeps : Extends m.bank mid) (place : At) (shows : ShowsTerm mid place.0 (Int z))
      (start : Table) (start_is : start ≡ table m) where
    abbrev pub Finds : Table → Bool → Type 0
    Finds after answer = Unifies mid mid start after (mgu (read_term mid start.bound left ∷ []) (read_term mid start.bound place ∷ []) start.levels) answer

    number : read_term mid start.bound place ≡ Int z
    number = ap (sub (reading mid start.bound)) shows.tree

    same : read_term mid start.bound left ≡ read_term m.bank m.bound left
    same = ap (λ (t : Table). read_term mid t.bound left) start_is ∙ read_same m.bank mid keeps m.bound f.bound left.0 h.1.seen.parts.0

    pub start_table : IsTable mid start
    start_table = subst (IsTable mid) (sym start_is) (table-extends m.bank mid (table m) (fits_table m f) keeps)

    pub target_is_place : IsPlaceOf mid start left.0
    target_is_place = subst (λ (t : Table). IsPlaceOf mid t left.0) (sym start_is)
        (place-extends m.bank mid (table m) left.0 (fits_table m f) keeps target_place)

    pub value_is_place : IsPlaceOf mid start place.0
    value_is_place = place-below mid start place.0 start_table shows.inside (ap (vars_below (length start.levels)) number)

    same_problem : mgu (read_term m.bank m.bound left ∷ []) (Int z ∷ []) m.levels
        ≡ mgu (read_term mid start.bound left ∷ []) (read_term mid start.bound place ∷ []) start.levels
    same_problem = λ i. mgu (sym same i ∷ []) (sym number i ∷ []) (sym start_is i).levels

    gives : (c : Candidate) → attempt (setting m) (state_of m) c
        ≡ option_map (instantiated went) (mgu (read_term mid start.bound left ∷ []) (read_term mid start.bound place ∷ []) start.levels)
    gives c =
        is_step c
        ∙ (ap (take_value (at_goal m h.1.goal (without h) (items_at m.agenda rest)) (read_term m.bank m.bound left) (behind m (items_at m.agenda rest))) some
        ∙ ap (option_map (instantiated went)) same_problem)

    pub clash : (after : Table) (c : Candidate) → Finds after false → attempt (setting m) (state_of m) c ≡ None
    clash after c w = gives c ∙ ap (option_map (instantiated went))
        (go (mgu (read_term mid start.bound left ∷ []) (read_term mid start.bound place ∷ []) start.levels) w)
      where
        go : (s : Option Solved) → Unifies mid mid start after s false → s ≡ None
        go None x = refl
        go (Some v) x = absurd x

    pub equal : (after : Table) (new : Parts) (c : Candidate) → Finds after true → new.bank ≡ mid → new.bound ≡ after.bound → new.levels ≡ after.levels
        → (length after.bound ≡ length m.levels → All (HasValue mid) after.bound → IsOrdered mid after → Went m (items_at m.agenda rest) new) → Infers m c new
    equal after new c w bank_is bound_new levels_new o =
        go (mgu (read_term mid start.bound left ∷ []) (read_term mid start.bound place ∷ []) start.levels) refl w
      where
        go : (s : Option Solved) → mgu (read_term mid start.bound left ∷ []) (read_term mid start.bound place ∷ []) start.levels ≡ s
            → Unifies mid mid start after s true → Infers m c new
        go None p x = absurd x
        go (Some v) p x =
            let reads : (y : ℕ) → reading new.bank new.bound y ≡ sub v.subst (reading m.bank m.bound y) =
            λ y. (λ i. reading (bank_is i) (bound_new i) y)
            ∙ (x.reads y ∙ ap (sub v.subst) (ap (λ (t : Table). reading mid t.bound y) start_is ∙ reading_same m.bank mid keeps m.bound f.bound y)) in
            let w : Went m (items_at m.agenda rest) new =
            o (x.table.bound ∙ (x.same_count ∙ ap (λ (t : Table). length t.levels) start_is)) (table_values mid after.bound x.table.places) x.table.ordered in
            infers m new h.1.goal (without h) (items_at m.agenda rest) c f h.1.list w
            (gives c ∙ (ap (option_map (instantiated went)) p
            ∙ ap (λ (s : State). Some s) (state_bound m new h.1.goal (without h) (items_at m.agenda rest) v f h.1.list w reads (levels_new ∙ x.levels_are))))
