-- A leaf taken for the atom in front of a machine's agenda.
use Rattle.std.proofs.Common.{◌≡◌, ◌≢◌, ℕ, zero, suc, inl, inr, ◌+◌, ◌-◌, ◌<◌, ◌≤◌, List, [], ◌∷◌, ◌++◌}
use Rattle.std.proofs.Common.{length, map, All, get_or, refl, ap, sym, subst, ◌∙◌}
use Rattle.std.proofs.Common.{arith, Option, Some, None, Bool, true, false}
use Rattle.std.specs.Prelude.{flat_map, slice_index_or, slice_get, option_map, option_and_then, replicate, ◌&&◌, nat_le, slice_index}
use Rattle.std.specs.List.{list_all, Contains}
use Rattle.std.proofs.lemmas.Bool.{lt-ltb, ltb-true, cases_lt, and_from as and_intro}
use Rattle.std.proofs.lemmas.List.{map-append, length-append, length-replicate, length-map}
use Rattle.std.proofs.lemmas.List.Elements.{All-append, All-cons, All-contains, All-head, All-map, All-tail, All-weaker}
use Rattle.std.proofs.lemmas.Option.{slice_get-get_or}
use Rattle.std.proofs.lemmas.List.Folds.{list_all-append}
use Rattle.ll_list_laws.proofs.CallerLemmas.{and_true_left as and_left, and_true_right as and_right}
use Rattle.ll_bank.specs.declared.At.{At}
use Rattle.ll_bank.specs.declared.FormAt.{FormAt}
use Rattle.ll_bank.specs.declared.Head.{Head}
use Rattle.ll_bank.specs.declared.environment.Environment.{Environment}
use Rattle.ll_bank.specs.Term.{Term, Con, Ap, sub, app, apply, close, not_bound, applies_heads, is_closed, eigens_below, occurs}
use Rattle.ll_bank.specs.Form.{Form, Atom, close_form, sub_form}
use Rattle.ll_bank.specs.Nodes.{Nodes, HasTerm, HasForm, AllInTerms, Extends, term_tree, term_trees, form_tree}
use Rattle.ll_bank.proofs.CallerLemmas.{Extends-trans, HasForm-extends, form_tree-extends, AllInTerms-extends, term_trees-extends}
use Rattle.ll_bank.proofs.CallerLemmas.{sub-term_trees, sub-apply}
use Rattle.ll_laws.specs.declared.Candidate.{Candidate}
use Rattle.ll_laws.specs.declared.Step.TheVariants.{Clause as ClauseStep}
use Rattle.ll_laws.specs.Leaf.{Leaf, premise_goal, ways, leaf}
use Rattle.ll_laws.specs.Settle.{Saved, Entry, map_entry}
use Rattle.ll_laws.specs.State.{sub_item, sub_entry}
use Rattle.ll_laws.specs.Unify.{Solved, mgu, vars_below}
use Rattle.ll_laws.specs.Attempt.{vars_from, entry_at, picked, instantiated, with_leaf, take_entry, attempt_agenda, attempt, entry_tries, agenda_tries, tries}
use Rattle.ll_laws.specs.Problem.{ProblemTree, setting_of}
use Rattle.ll_laws.specs.Valid.{Allowed, IsFormula, IsValid, GoalSide, ClauseSide}
use Rattle.ll_laws.specs.Consistent.{IsConsistent, allowed_in, is_made}
use Rattle.ll_laws.proofs.CallerLemmas.{IsClosing, ways-sub, sub_leaf, sub_premise, sub_same, grows-refl}
use Rattle.ll_laws.proofs.CallerLemmas.{Fit, AllFit, GoesToFitting, Grows, fit_of_made, fit-more}
use Rattle.ll_laws.proofs.CallerLemmas.{fit-sub, fit-vars, fit-eigens, levels-replicate, level_up_to, new_level, occurs_below, fits_of_formula, fits-more}
use Rattle.ll_laws.proofs.CallerLemmas.{formula-more, LeafFits, leaf-fits, steps_consistent}
use Rattle.ll_bank.specs.Environments.{values_in, IsWithin}
use Rattle.ll_bind.specs.Built.{begins_fixed}
use Rattle.ll_freeze.specs.Resting.{RestsOn}
use Rattle.ll_freeze.specs.Keyed.{AreKeyed}
use Rattle.ll_freeze.proofs.CallerLemmas.{clauses_of, clauses-picked, keyed-alike, keyed-later}
use Rattle.ll_freeze.proofs.CallerLemmas.{step_rests, modules_has, modules_later}
use Rattle.ll_agenda.specs.declared.agenda.Top.{Top as AgendaTop}
use Rattle.ll_resources.specs.Resources.{Resources, after_pick}
use Rattle.ll_agenda.specs.Frames.{Frames, HasTop, items_at}
use Rattle.ll_freeze.specs.Parts.{Parts, table}
use Rattle.ll_freeze.specs.declared.machine.Item.{Item}
use Rattle.ll_freeze.specs.declared.machine.Item.TheVariants.{Goal, LolliEnd, ImpEnd, Mid, WithEnd, BangEnd}
use Rattle.ll_freeze.specs.Reading.{reading, read_term, read_form, goal_tree, HasValue}
use Rattle.ll_freeze.specs.Shown.{shown_item, shown_entry, items_of, state_of}
use Rattle.ll_freeze.specs.Fits.{setting, Fits, allowed, HasItem, IsGoalIn}
use Rattle.ll_engine.specs.Attempts.{Infers}
use Rattle.ll_engine.specs.Opening.{Opens}
use Rattle.ll_engine.specs.declared.attempt.Position.{Position}
use Rattle.ll_engine.specs.Front.{IsAsked}
use Rattle.ll_engine.specs.Taking.{IsUnified, Unifies}
use Rattle.ll_unify.specs.Bindings.{Table, IsTable, IsOrdered, IsPlaceOf, HasCells}
use Rattle.ll_unify.specs.Scanned.{is_bad}
use Rattle.ll_unify.specs.Fresh.{StandsNowhere}
use Rattle.ll_unify.proofs.CallerLemmas.{table-extends, cells-below, place-below}
use Rattle.ll_unify.proofs.CallerLemmas.{clear-of, clear-var}
use Rattle.ll_engine.proofs.machine.ReadLemmas.{reading_same, reading_past, length_variables, fits_table, with_cells, same_table, table_more}
use Rattle.ll_engine.proofs.machine.ReadLemmas.{table_values, reads_more}
use Rattle.ll_engine.proofs.machine.MachineLemmas.{agenda_shown, goal_in_front}
use Rattle.ll_engine.proofs.machine.LaterLemmas.{items_later}
use Rattle.ll_engine.proofs.inferences.OwnTries.{all_own}
use Rattle.ll_engine.proofs.inferences.TakeLemmas.{at_their_labels, entry_there}
use Rattle.ll_engine.proofs.inferences.StepLemmas.{atom_step, leaf_read, way_read}
use Rattle.ll_engine.proofs.inferences.TakenLemmas.{made_at, found_has, entry_read, picked_all, reads_first, goals_later, picked_later, terms_taken}
use Rattle.ll_engine.proofs.inferences.TakenLemmas.{goals_sorted, goals_inside}

-- ---- what the state of a machine says

pub allowed_shown : (m : Parts) → allowed_in (setting m) (state_of m) ≡ allowed m
unfolding state_of
allowed_shown m = refl

terms_made : (m : Parts) → Fits m → list_all (is_made (length m.levels) m.eigens) (map (read_term m.bank m.bound) m.terms) ≡ true
unfolding state_of
terms_made m f = f.consistent.terms

pub term_count : (m : Parts) → IsConsistent (setting m) (state_of m) → length m.terms ≡ length m.levels
unfolding state_of
term_count m c = sym (length-map m.terms (read_term m.bank m.bound)) ∙ c.term_count

-- the atom in front, by its sign and the places of its arguments
abbrev pub asked : Parts → Head → List At → Term
asked m sign args = app sign (term_trees m.bank args)

-- the atom in front, as the state shows it
pub atom_shown : (m : Parts) (sign : Head) (args : List At) (p : Position) → IsAsked m sign args p
    → (state_of m).agenda ≡ Rattle.ll_laws.specs.Settle.Goal (Atom (sub (reading m.bank m.bound) (asked m sign args)))
    ∷ map (shown_item m.bank m.bound m.resources.kept) (items_at m.agenda p.rest)
atom_shown m sign args p h =
    agenda_shown m (Goal h.goal p.environment ∷ items_at m.agenda p.rest) h.list
    ∙ ap (λ g. Rattle.ll_laws.specs.Settle.Goal g ∷ map (shown_item m.bank m.bound m.resources.kept) (items_at m.agenda p.rest)) h.reads

-- an inference on it
attempt_atom : (m : Parts) (sign : Head) (args : List At) (p : Position) (label k count : ℕ) (e : Entry Form) (l : Leaf) → IsAsked m sign args p
    → entry_at (map (shown_entry m.bank m.bound) m.resources.entries) label ≡ Some e → slice_get (ways e.clause) k ≡ Some count
    → leaf e.clause k (vars_from (length m.levels) count) ≡ Some l
    → attempt (setting m) (state_of m) (record { label = label; leaf = k })
    ≡ option_map (instantiated (with_leaf (state_of m) (map (shown_item m.bank m.bound m.resources.kept) (items_at m.agenda p.rest)) label k count l))
    (mgu (sub (reading m.bank m.bound) (asked m sign args) ∷ []) (l.head ∷ []) (m.levels ++ replicate count m.eigens))
unfolding state_of
attempt_atom m sign args p label k count e l h entry way is =
    atom_step (setting m) (state_of m) (sub (reading m.bank m.bound) (asked m sign args))
    (map (shown_item m.bank m.bound m.resources.kept) (items_at m.agenda p.rest)) label k count e l (atom_shown m sign args p h) entry way is

-- no entry has the label
pub no_entry : (m : Parts) (a : Term) (behind : List (Rattle.ll_laws.specs.Settle.Item Form)) (c : Candidate)
    → (state_of m).agenda ≡ Rattle.ll_laws.specs.Settle.Goal (Atom a) ∷ behind → entry_at m.resources.entries c.label ≡ None
    → attempt (setting m) (state_of m) c ≡ None
unfolding attempt state_of
no_entry m a behind c shown none =
    ap (λ items. attempt_agenda (setting m) (state_of m) items c) shown
    ∙ ap (option_and_then (take_entry (state_of m) a behind c.label c.leaf))
    (entry_read (read_form m.bank m.bound) m.resources.entries c.label ∙ ap (option_map (shown_entry m.bank m.bound)) none)

-- the candidates of the atom in front are leaves of the entries with their labels
pub leaf_among : (m : Parts) (a : Term) (behind : List (Rattle.ll_laws.specs.Settle.Item Form)) (c : Candidate) (e : Entry FormAt) → Fits m
    → (state_of m).agenda ≡ Rattle.ll_laws.specs.Settle.Goal (Atom a) ∷ behind → Contains (tries (state_of m)) c
    → entry_at m.resources.entries c.label ≡ Some e → c.leaf < length (ways (form_tree m.bank e.clause.0))
unfolding tries state_of
leaf_among m a behind c e f shown k found =
    let es = m.resources.entries in
    let show : Entry FormAt → Entry Form = λ d. shown_entry m.bank m.bound d in
    let IsLeaf : Candidate → Type 0 = λ x. (d : Entry FormAt) → entry_at es x.label ≡ Some d → x.leaf < length (ways (form_tree m.bank d.clause.0)) in
    let Own : Entry Form → Type 0 = λ d. (x : Candidate) → x.label ≡ d.label → x.leaf < length (ways d.clause) → IsLeaf x in
    let own : All (λ (d : Entry FormAt). Own (show d)) es = λ i z l. own_leaf m f (slice_index_or es i z) i (slice_get-get_or es i z l) in
    All-contains IsLeaf (flat_map (entry_tries a) (map show es)) c (all_own a IsLeaf (map show es) (All-map Own show es own))
    (subst (λ items. Contains (agenda_tries items (map show es)) c) shown k) e found
  where
    own_leaf : (m : Parts) → Fits m → (d : Entry FormAt) (i : ℕ) → slice_get m.resources.entries i ≡ Some d → (x : Candidate) → x.label ≡ d.label
        → x.leaf < length (ways (sub_form (reading m.bank m.bound) (form_tree m.bank d.clause.0)))
        → (y : Entry FormAt) → entry_at m.resources.entries x.label ≡ Some y → x.leaf < length (ways (form_tree m.bank y.clause.0))
    own_leaf m f d i g x q b y w =
        let es = m.resources.entries in
        let there : entry_at es d.label ≡ Some d = entry_there es d.label i d (sym (at_their_labels m f i d g)) g in
        let both : Some d ≡ Some y = sym there ∙ (ap (λ l. entry_at es l) (sym q) ∙ w) in
        let same : d ≡ y = cc in
        let count = ap (λ (ws : List ℕ). length ws) (ways-sub (reading m.bank m.bound) (form_tree m.bank d.clause.0)) in
        subst (λ (z : Entry FormAt). x.leaf < length (ways (form_tree m.bank z.clause.0))) same (omega arith)

-- ---- items as the bank grows

item_more : (may more : Allowed) (old new : Nodes) (n : ℕ) → Grows may more → Extends old new → (i : Item) → HasItem old n i → IsGoalIn may old i
    → IsGoalIn more new i
item_more may more old new n g e (Goal at env) h s = (
  record { count = s.0.count; end = (let a = s.0.end in let b = g.variables in omega (arith, a, b)) },
  subst (λ r. IsFormula more GoalSide [] (close_form (values_in env) r)) (sym (form_tree-extends e at.0 h))
      (formula-more may more GoalSide (goal_tree old env at) g s.1),
)
item_more may more old new n g e (LolliEnd b) h s = tt
item_more may more old new n g e ImpEnd h s = tt
item_more may more old new n g e (Mid x) h s = tt
item_more may more old new n g e (WithEnd x y) h s = tt
item_more may more old new n g e (BangEnd x) h s = tt

item_extends : (old new : Nodes) (n : ℕ) → Extends old new → (i : Item) → HasItem old n i → HasItem new n i
item_extends old new n e (Goal at env) h = HasForm-extends e at.0 h
item_extends old new n e (LolliEnd b) h = h
item_extends old new n e ImpEnd h = h
item_extends old new n e (Mid x) h = h
item_extends old new n e (WithEnd x y) h = h
item_extends old new n e (BangEnd x) h = h

-- ---- arguments

-- the variables of arguments are among those of the whole
args_below : (n : ℕ) (f : Term) (us : List Term) → vars_below n (apply f us) ≡ true → All (λ u. vars_below n u ≡ true) us
args_below n f [] h = λ i d l. absurd (omega arith)
args_below n f (u ∷ us) h =
    All-cons (λ v. vars_below n v ≡ true) u us (and_right (vars_below n f) (vars_below n u) (head_below n (Ap f u) us h)) (args_below n (Ap f u) us h)
  where
    head_below : (n : ℕ) (g : Term) (vs : List Term) → vars_below n (apply g vs) ≡ true → vars_below n g ≡ true
    head_below n g [] k = k
    head_below n g (v ∷ vs) k = and_left (vars_below n g) (vars_below n v) (head_below n (Ap g v) vs k)

places_below : (nodes : Nodes) (t : Table) (args : List At) → IsTable nodes t → AllInTerms nodes args
    → All (λ v. vars_below (length t.levels) v ≡ true) (map (sub (reading nodes t.bound)) (term_trees nodes args))
    → All (λ (a : At). IsPlaceOf nodes t a.0) args
places_below nodes t [] tb h b = λ i d l. absurd (omega arith)
places_below nodes t (a ∷ args) tb h b =
    let V : Term → Type 0 = λ v. vars_below (length t.levels) v ≡ true in
    let us = map (sub (reading nodes t.bound)) (term_trees nodes args) in
    All-cons (λ (x : At). IsPlaceOf nodes t x.0) a args
    (place-below nodes t a.0 tb (All-head (λ (x : At). HasTerm nodes x.0) a args h) (All-head V (sub (reading nodes t.bound) (term_tree nodes a.0)) us b))
    (places_below nodes t args tb (All-tail (λ (x : At). HasTerm nodes x.0) a args h) (All-tail V (sub (reading nodes t.bound) (term_tree nodes a.0)) us b))

-- ---- what a machine's variables stand for

module _ (m : Parts) (f : Fits m) where
  pub variable_count : length m.terms ≡ length m.levels
  variable_count = length_variables m.bank m.terms (length m.levels) f.variables

  made : (x : ℕ) → x < length m.levels → is_made (length m.levels) m.eigens (reading m.bank m.bound x) ≡ true
  made x l =
      made_at (length m.levels) m.eigens (reading m.bank m.bound) 0 (length m.levels) x
      (ap (list_all (is_made (length m.levels) m.eigens)) (ap (map (sub (reading m.bank m.bound))) (sym f.variables)
      ∙ sub-term_trees (reading m.bank m.bound) m.bank m.terms) ∙ terms_made m f) (omega arith) (omega arith)

  goes : GoesToFitting (allowed m) (reading m.bank m.bound)
  goes x l = fit_of_made (allowed m) (reading m.bank m.bound x) (made x (ltb-true x (length m.levels) l))

  closing : IsClosing (reading m.bank m.bound)
  closing x = elim (cases_lt x (length m.levels)) [
    | inl l ↦ let t = reading m.bank m.bound x in
        and_left (is_closed t) (vars_below (length m.levels) t) (and_left (is_closed t && vars_below (length m.levels) t) (eigens_below m.eigens t) (made x l))
    | inr l ↦ ap is_closed (reading_past m.bank m.bound x (let c = f.count in omega arith))
  ]

  -- with more variables
  abbrev pub with_more : ℕ → Allowed
  with_more count = record { modules = (setting m).modules; variables = length m.levels + count; eigens = m.eigens; opens = true }

  grows : (count : ℕ) → Grows (allowed m) (with_more count)
  grows count = record { modules = refl; variables = omega arith; eigens = omega arith; opens = λ h. h }

  goes_more : (count : ℕ) → GoesToFitting (with_more count) (reading m.bank m.bound)
  goes_more count x l = elim (cases_lt x (length m.levels)) [
    | inl s ↦ fit-more (allowed m) (with_more count) [] [] (reading m.bank m.bound x) (grows count) tt (goes x (lt-ltb x (length m.levels) s))
    | inr s ↦ subst (Fit (with_more count) []) (sym (reading_past m.bank m.bound x (let c = f.count in omega arith))) l
  ]

  vars_fit : (n count all : ℕ) → n + count ≤ length m.levels + all → AllFit (with_more all) [] (vars_from n count)
  vars_fit n zero all h = tt
  vars_fit n (suc count) all h = (lt-ltb n (length m.levels + all) (omega arith), vars_fit (suc n) count all (omega arith))

  -- the atom is of what there is
  atom_fit : (sign : Head) (args : List At) (p : Position) → IsAsked m sign args p → Fit (allowed m) [] (sub (reading m.bank m.bound) (asked m sign args))
  atom_fit sign args p h =
      let is = subst (λ g. IsFormula (allowed_in (setting m) (state_of m)) GoalSide [] g) h.reads
      (goal_in_front m h.goal p.environment (items_at m.agenda p.rest) f h.list) in
      (fits_of_formula (allowed m) GoalSide [] (Atom (sub (reading m.bank m.bound) (asked m sign args)))
      (subst (λ may. IsFormula may GoalSide [] (Atom (sub (reading m.bank m.bound) (asked m sign args)))) (allowed_shown m) is)).1

  -- a further variable stands in nothing that is of what there is, and further eigenvariables don't
  clear_fit : (t : Term) (x : ℕ) → length m.levels ≤ x → Fit (allowed m) [] t → is_bad x m.eigens t ≡ false
  clear_fit t x l h = clear-of x m.eigens t (absent (occurs x t) refl) (fit-eigens (allowed m) [] t h)
    where
      absent : (b : Bool) → occurs x t ≡ b → b ≡ false
      absent true o = let p = occurs_below (length m.levels) x t (fit-vars (allowed m) [] t h) o in absurd (omega arith)
      absent false o = refl

  -- the atom has no variable but those that there are
  pub atom_below : (sign : Head) (args : List At) (p : Position) (count : ℕ) → IsAsked m sign args p
      → vars_below (length m.levels + count) (sub (reading m.bank m.bound) (asked m sign args)) ≡ true
  atom_below sign args p count h =
      fit-vars (with_more count) [] (sub (reading m.bank m.bound) (asked m sign args))
      (fit-more (allowed m) (with_more count) [] [] (sub (reading m.bank m.bound) (asked m sign args)) (grows count) tt (atom_fit sign args p h))

  levels_most : list_all (λ l. nat_le l m.eigens) m.levels ≡ true
  unfolding state_of
  levels_most = f.consistent.levels

  module _ (label : ℕ) (e : Entry FormAt) (found : entry_at m.resources.entries label ≡ Some e) where
    pub clause_inside : HasForm m.bank e.clause.0
    clause_inside = found_has (λ d. HasForm m.bank d.clause.0) m.resources.entries label e f.clauses found

    pub clause_sorted : IsFormula (allowed m) ClauseSide [] (form_tree m.bank e.clause.0)
    clause_sorted = found_has (λ d. IsFormula (allowed m) ClauseSide [] (form_tree m.bank d.clause.0)) m.resources.entries label e f.sorted_clauses found

    module _ (p : Position) (k : ℕ) (mid : Nodes) (now : Frames Item) (terms : List At) (head : At) (own : Environment) (top : AgendaTop)
        (keeps : Extends m.bank mid)
        (o : Opens m.bank (items_at m.agenda p.rest) (length m.terms) e.clause.0 k mid now terms head own top) where
      -- its head, closed by its variables
      abbrev pub shut_in : Nodes → Term
      shut_in bank = close (values_in own) (term_tree bank head.0)

      abbrev pub shut : Term
      shut = shut_in mid

      abbrev pub opened : Leaf
      opened = record { premises = o.premises; head = shut }

      leaf_is : leaf (form_tree m.bank e.clause.0) k (vars_from (length m.levels) o.count) ≡ Some opened
      leaf_is = ap (λ n. leaf (form_tree m.bank e.clause.0) k (vars_from n o.count)) (sym variable_count) ∙ o.leaf_is

      leaf_sorted : LeafFits (with_more o.count) opened
      leaf_sorted =
          leaf-fits (with_more o.count) (form_tree m.bank e.clause.0) k (vars_from (length m.levels) o.count) opened
          (fits-more (allowed m) (with_more o.count) ClauseSide [] [] (form_tree m.bank e.clause.0) (grows o.count) tt
          (fits_of_formula (allowed m) ClauseSide [] (form_tree m.bank e.clause.0) clause_sorted))
          (vars_fit (length m.levels) o.count o.count (omega arith)) leaf_is

      head_read : sub (reading mid m.bound) shut ≡ sub (reading m.bank m.bound) shut
      head_read = sub_same (reading mid m.bound) (reading m.bank m.bound) (reading_same m.bank mid keeps m.bound f.bound) shut

      -- nor has the head
      pub head_below : vars_below (length m.levels + o.count) (sub (reading mid m.bound) shut) ≡ true
      head_below =
          ap (vars_below (length m.levels + o.count)) head_read
          ∙ fit-vars (with_more o.count) [] (sub (reading m.bank m.bound) shut)
          (fit-sub (with_more o.count) (reading m.bank m.bound) [] shut (goes_more o.count) leaf_sorted.head.1)

      -- what the inference comes to, by what unification gives
      pub step_is : (sign : Head) (args : List At) → IsAsked m sign args p
          → attempt (setting m) (state_of m) (record { label = label; leaf = k })
          ≡ option_map (instantiated (with_leaf (state_of m) (map (shown_item m.bank m.bound m.resources.kept) (items_at m.agenda p.rest)) label k o.count
          (sub_leaf (reading m.bank m.bound) opened)))
          (mgu (sub (reading m.bank m.bound) (asked m sign args) ∷ []) (sub (reading mid m.bound) shut ∷ []) (m.levels ++ replicate o.count m.eigens))
      step_is sign args h =
          let r = reading m.bank m.bound in
          attempt_atom m sign args p label k o.count (shown_entry m.bank m.bound e) (sub_leaf r opened) h
          (entry_read (read_form m.bank m.bound) m.resources.entries label ∙ ap (option_map (shown_entry m.bank m.bound)) found)
          (way_read r (form_tree m.bank e.clause.0) k o.count o.way)
          (leaf_read r closing (form_tree m.bank e.clause.0) k (length m.levels) o.count opened
          (λ x l. reading_past m.bank m.bound x (let c = f.count in omega arith)) leaf_is)
          ∙ ap
          (λ t.
          option_map (instantiated (with_leaf (state_of m) (map (shown_item m.bank m.bound m.resources.kept) (items_at m.agenda p.rest)) label k o.count
          (sub_leaf r opened)))
          (mgu (sub (reading m.bank m.bound) (asked m sign args) ∷ []) (t ∷ []) (m.levels ++ replicate o.count m.eigens))) (sym head_read)

      -- a machine with all that a leaf brings, after unification found a substitution
      pub record IsTaken (v : Solved) (new : Parts) : Type 0 where
        pub problem : new.problem ≡ m.problem
        pub modules : new.modules ≡ m.modules
        pub later : Extends mid new.bank
        pub levels : new.levels ≡ v.levels
        pub count : length new.bound ≡ length (m.levels ++ replicate o.count m.eigens)
        pub inside : All (HasValue new.bank) new.bound
        pub ordered : IsOrdered new.bank (table new)
        pub reads : (x : ℕ) → reading new.bank new.bound x ≡ sub v.subst (reading mid m.bound x)
        pub entries : new.resources.entries ≡ picked label m.resources.entries
        pub flag : new.resources.flag ≡ m.resources.flag
        pub next : new.resources.next ≡ m.resources.next
        pub kept : new.resources.kept ≡ m.resources.kept
        pub keys : new.resources.keys ≡ m.resources.keys
        pub agenda : new.agenda ≡ now
        pub front : new.top ≡ top
        pub all : new.terms ≡ terms
        pub eigens : new.eigens ≡ m.eigens
        pub steps : new.steps ≡ m.steps ++ ClauseStep label k ∷ []
        pub left : suc new.left ≡ m.left

      module _ (sign : Head) (args : List At) (h : IsAsked m sign args p) (v : Solved)
          (unified : mgu (sub (reading m.bank m.bound) (asked m sign args) ∷ []) (sub (reading mid m.bound) shut ∷ [])
          (m.levels ++ replicate o.count m.eigens) ≡ Some v)
          (new : Parts) (t : IsTaken v new) where
        behind : All (HasItem m.bank (length m.resources.kept)) (items_at m.agenda p.rest)
        behind =
            All-tail (HasItem m.bank (length m.resources.kept)) (Goal h.goal p.environment) (items_at m.agenda p.rest)
            (subst (All (HasItem m.bank (length m.resources.kept))) h.list f.items)

        behind_sorted : All (IsGoalIn (allowed m) m.bank) (items_at m.agenda p.rest)
        behind_sorted = All-tail (IsGoalIn (allowed m) m.bank) (Goal h.goal p.environment) (items_at m.agenda p.rest)
            (subst (All (IsGoalIn (allowed m) m.bank)) h.list f.sorted_goals)

        items_are : items_of new ≡ map (λ g. Goal g.0 g.1) o.goals ++ items_at m.agenda p.rest
        items_are = (λ i. items_at (t.agenda i) (t.front i)) ∙ o.shows.list

        firsts : (x : ℕ) → reading new.bank new.bound x ≡ sub v.subst (reading m.bank m.bound x)
        firsts = reads_first m.bank mid new.bank m.bound new.bound v.subst keeps t.later f.bound t.reads

        agenda_is : map (sub_item v.subst) (map (λ p. Rattle.ll_laws.specs.Settle.Goal (premise_goal p)) (map (sub_premise (reading m.bank m.bound)) o.premises)
            ++ map (shown_item m.bank m.bound m.resources.kept) (items_at m.agenda p.rest))
            ≡ map (shown_item new.bank new.bound new.resources.kept) (items_of new)
        agenda_is =
            let kept = m.resources.kept in
            let one = goals_later m.bank mid new.bank m.bound new.bound v.subst keeps t.later f.bound t.reads o.goals o.premises kept o.goals_are.inside
            o.goals_are.trees in
            let two = items_later m.bank new.bank m.bound new.bound v.subst (Extends-trans keeps t.later) firsts kept (length kept) (items_at m.agenda p.rest)
            behind in
            map-append (sub_item v.subst) (map (λ p. Rattle.ll_laws.specs.Settle.Goal (premise_goal p)) (map (sub_premise (reading m.bank m.bound)) o.premises))
            (map (shown_item m.bank m.bound kept) (items_at m.agenda p.rest))
            ∙ ((λ i. sym one i ++ sym two i)
            ∙ (sym (map-append (shown_item new.bank new.bound kept) (map (λ g. Goal g.0 g.1) o.goals) (items_at m.agenda p.rest))
            ∙ (λ i. map (shown_item new.bank new.bound (sym t.kept i)) (sym items_are i))))

        context_is : map (sub_entry v.subst) (picked label (map (shown_entry m.bank m.bound) m.resources.entries))
            ≡ map (shown_entry new.bank new.bound) new.resources.entries
        context_is =
            picked_later m.bank mid new.bank m.bound new.bound v.subst keeps t.later f.bound t.reads m.resources.entries label f.clauses
            ∙ ap (map (shown_entry new.bank new.bound)) (sym t.entries)

        variables_are : term_trees mid terms ≡ vars_from 0 (length m.levels + o.count)
        variables_are = o.variables ∙ ap (λ n. vars_from 0 (n + o.count)) variable_count

        terms_are : map (sub v.subst) (map (read_term m.bank m.bound) m.terms ++ vars_from (length m.levels) o.count)
            ≡ map (read_term new.bank new.bound) new.terms
        terms_are =
            terms_taken m.bank mid new.bank m.bound new.bound v.subst keeps t.later f.bound t.reads m.terms terms (length m.levels) o.count (let c = f.count in
            omega arith) f.variables o.terms_inside variables_are
            ∙ ap (map (read_term new.bank new.bound)) (sym t.all)

        state_is : instantiated (with_leaf (state_of m) (map (shown_item m.bank m.bound m.resources.kept) (items_at m.agenda p.rest)) label k o.count
            (sub_leaf (reading m.bank m.bound) opened)) v ≡ state_of new
        unfolding state_of
        state_is = λ i. record {
          agenda = agenda_is i;
          context = context_is i;
          flag = sym t.flag i;
          levels = sym t.levels i;
          eigens = sym t.eigens i;
          terms = terms_are i;
          label = sym t.next i;
          steps = sym t.steps i;
        }

        gives : attempt (setting m) (state_of m) (record { label = label; leaf = k }) ≡ Some (state_of new)
        gives =
            step_is sign args h
            ∙
            (ap
            (option_map (instantiated (with_leaf (state_of m) (map (shown_item m.bank m.bound m.resources.kept) (items_at m.agenda p.rest)) label k o.count
            (sub_leaf (reading m.bank m.bound) opened)))) unified
            ∙ ap (λ s. Some s) state_is)

        consistent : IsConsistent (setting new) (state_of new)
        consistent =
            subst (λ p. IsConsistent (setting_of p) (state_of new)) (sym t.problem)
            (steps_consistent (length m.problem.names) (setting m) (state_of m) (state_of new) (record { label = label; leaf = k }) f.valid.modules f.consistent
            gives)

        level_count : length new.levels ≡ length m.levels + o.count
        level_count = sym (term_count new consistent) ∙ (ap (λ (ats : List At). length ats) t.all
            ∙ length_variables mid terms (length m.levels + o.count) variables_are)

        may_is : allowed new ≡ with_more o.count
        may_is = λ i. record { modules = (setting_of (t.problem i)).modules; variables = level_count i; eigens = t.eigens i; opens = true }

        whole : Extends m.bank new.bank
        whole = Extends-trans keeps t.later

        clauses_are : All (λ e. HasForm new.bank e.clause.0) new.resources.entries
        clauses_are =
            subst (All (λ (d : Entry FormAt). HasForm new.bank d.clause.0)) (sym t.entries)
            (picked_all (λ g. HasForm new.bank g.0) m.resources.entries label
            (λ j d l. HasForm-extends whole (get_or m.resources.entries j d).clause.0 (f.clauses j d l)))

        sorted_are : All (λ e. IsFormula (allowed new) ClauseSide [] (form_tree new.bank e.clause.0)) new.resources.entries
        sorted_are =
            subst (λ may. All (λ (d : Entry FormAt). IsFormula may ClauseSide [] (form_tree new.bank d.clause.0)) new.resources.entries) (sym may_is)
            (subst (All (λ (d : Entry FormAt). IsFormula (with_more o.count) ClauseSide [] (form_tree new.bank d.clause.0))) (sym t.entries)
            (picked_all (λ g. IsFormula (with_more o.count) ClauseSide [] (form_tree new.bank g.0)) m.resources.entries label
            (λ j d l. let g = (get_or m.resources.entries j d).clause.0 in
            subst (IsFormula (with_more o.count) ClauseSide []) (sym (form_tree-extends whole g (f.clauses j d l)))
            (formula-more (allowed m) (with_more o.count) ClauseSide (form_tree m.bank g) (grows o.count) (f.sorted_clauses j d l)))))

        goals_are : All (IsGoalIn (allowed new) new.bank) (items_of new)
        goals_are =
            let kept = length m.resources.kept in
            let within = subst (λ n. All (λ (g : FormAt × Environment). IsWithin n g.1) o.goals) (ap (λ n. n + o.count) variable_count) o.goals_are.within in
            let fresh = goals_sorted (with_more o.count) mid o.goals o.premises within leaf_sorted.premises o.goals_are.trees in
            let has = goals_inside mid kept o.goals o.goals_are.inside in
            subst (λ may. All (IsGoalIn may new.bank) (items_of new)) (sym may_is)
            (subst (All (IsGoalIn (with_more o.count) new.bank)) (sym items_are)
            (All-append (IsGoalIn (with_more o.count) new.bank) (map (λ g. Goal g.0 g.1) o.goals) (items_at m.agenda p.rest)
            (λ j d l. item_more (with_more o.count) (with_more o.count) mid new.bank kept (grows-refl (with_more o.count)) t.later
            (get_or (map (λ g. Goal g.0 g.1) o.goals) j d) (has j d l) (fresh j d l))
            (λ j d l. item_more (allowed m) (with_more o.count) m.bank new.bank kept (grows o.count) whole (get_or (items_at m.agenda p.rest) j d)
            (behind j d l)
            (behind_sorted j d l))))

        items_inside : All (HasItem new.bank (length new.resources.kept)) (items_of new)
        items_inside =
            let kept = length m.resources.kept in
            subst (λ n. All (HasItem new.bank n) (items_of new)) (ap (λ (s : List Saved). length s) (sym t.kept))
            (subst (All (HasItem new.bank kept)) (sym items_are)
            (All-append (HasItem new.bank kept) (map (λ g. Goal g.0 g.1) o.goals) (items_at m.agenda p.rest)
            (λ j d l. item_extends mid new.bank kept t.later (get_or (map (λ g. Goal g.0 g.1) o.goals) j d)
            (goals_inside mid kept o.goals o.goals_are.inside j d l))
            (λ j d l. item_extends m.bank new.bank kept whole (get_or (items_at m.agenda p.rest) j d) (behind j d l))))

        terms_inside : AllInTerms new.bank new.terms
        terms_inside = subst (AllInTerms new.bank) (sym t.all) (AllInTerms-extends t.later terms o.terms_inside)

        fits_new : Fits new
        fits_new = record {
          valid = subst IsValid (sym t.problem) f.valid;
          consistent = consistent;
          rests = subst (λ (p : ProblemTree). RestsOn p.clauses (state_of new)) (sym t.problem)
              (step_rests (length m.problem.names) m.problem.modules m.problem.clauses f.valid.clauses (setting m) (state_of m) (state_of new)
              (record { label = label; leaf = k }) gives f.rests);
          count = (let c = t.count in let a = length-append m.levels (replicate o.count m.eigens) in let b = length-replicate o.count m.eigens in
              let d = level_count in omega arith);
          bound = t.inside;
          ordered = t.ordered;
          terms = terms_inside;
          variables = ap (term_trees new.bank) t.all ∙ (term_trees-extends t.later terms o.terms_inside ∙ (variables_are ∙ ap (vars_from 0) (sym level_count)));
          clauses = clauses_are;
          sorted_clauses = sorted_are;
          sorted_goals = goals_are;
          has_modules = rw t.modules (modules_has m.bank new.bank m.modules whole f.has_modules);
          modules = rw (t.problem, t.modules) (modules_later m.bank new.bank m.modules whole f.has_modules ∙ f.modules);
          top = subst (λ top. HasTop new.agenda top) (sym t.front) (subst (λ (frames : Frames Item). HasTop frames top) (sym t.agenda) o.shows.inside);
          items = items_inside;
          labels = (let a = t.next in let b = t.left in let c = f.labels in omega arith);
          eigens = (let a = t.eigens in let b = t.left in let c = f.eigens in omega arith);
          keyed =
              subst (λ (p : ProblemTree). AreKeyed new.bank (length p.clauses) new.resources) (sym t.problem)
              (keyed-alike new.bank (length m.problem.clauses) m.resources new.resources
              (ap (λ es. clauses_of es) t.entries ∙ clauses-picked label m.resources.entries) t.keys
              (keyed-later m.bank new.bank (length m.problem.clauses) m.resources whole f.clauses f.keyed));
        }

        pub taken : Infers m (record { label = label; leaf = k }) new
        taken = record { gives = gives; problem = t.problem; left = t.left; fits = fits_new }

      -- ---- with what unification was given

      pub count_is : length terms ≡ length m.terms + o.count
      count_is = length_variables mid terms (length m.terms + o.count) o.variables

      module _ (sign : Head) (args : List At) (h : IsAsked m sign args p) (start : Table) (start_bound : start.bound ≡ m.bound ++ replicate o.count None)
          (start_levels : start.levels ≡ m.levels ++ replicate o.count m.eigens) where
        opened_table : IsTable mid (table m)
        opened_table = table-extends m.bank mid (table m) (fits_table m f) keeps

        -- the bindings with new cells for the variables of the leaf
        pub start_table : IsTable mid start
        start_table =
            subst (IsTable mid) (sym (same_table (with_cells (table m) o.count m.eigens) start.bound start.levels start_bound start_levels))
            (table_more mid (table m) o.count m.eigens opened_table)

        reads_is : (x : ℕ) → reading mid start.bound x ≡ reading mid m.bound x
        reads_is x = ap (λ bs. reading mid bs x) start_bound ∙ reads_more mid (table m) o.count m.eigens opened_table x

        term_is : (u : Term) → sub (reading mid start.bound) u ≡ sub (reading mid m.bound) u
        term_is u = sub_same (reading mid start.bound) (reading mid m.bound) reads_is u

        first_read : (x : ℕ) → reading mid start.bound x ≡ reading m.bank m.bound x
        first_read x = reads_is x ∙ reading_same m.bank mid keeps m.bound f.bound x

        atom_is : sub (reading mid start.bound) (asked m sign args) ≡ sub (reading m.bank m.bound) (asked m sign args)
        atom_is = sub_same (reading mid start.bound) (reading m.bank m.bound) first_read (asked m sign args)

        sized : length start.levels ≡ length m.levels + o.count
        sized =
            let a = ap (λ (xs : List ℕ). length xs) start_levels in let b = length-append m.levels (replicate o.count m.eigens) in
            let d = length-replicate o.count m.eigens in omega arith

        args_inside : AllInTerms m.bank args
        args_inside = All-weaker (λ (a : At). IsPlaceOf m.bank (table m) a.0) (λ (a : At). HasTerm m.bank a.0) (λ a q. q.inside) args h.places

        trees_stay : term_trees mid args ≡ term_trees m.bank args
        trees_stay = term_trees-extends keeps args args_inside

        pub arg_places : All (λ (a : At). IsPlaceOf mid start a.0) args
        arg_places = places_below mid start args start_table (AllInTerms-extends keeps args args_inside)
            (subst (λ u. All (λ v. vars_below (length start.levels) v ≡ true) u) (ap (map (sub (reading mid start.bound))) (sym trees_stay))
            (args_below (length start.levels) (Con sign) (map (sub (reading mid start.bound)) (term_trees m.bank args))
            (ap (vars_below (length start.levels)) (sym (sub-apply (reading mid start.bound) (Con sign) (term_trees m.bank args)))
            ∙ ((λ i. vars_below (sized i) (atom_is i)) ∙ atom_below sign args p o.count h))))

        start_level : (x : ℕ) → length m.levels ≤ x → x < length start.levels → slice_index start.levels x ≡ m.eigens
        start_level x l b = ap (λ ls. slice_index ls x) start_levels ∙ new_level m.levels o.count m.eigens x l (let s = sized in omega arith)

        levels_up_to : (y : ℕ) → slice_index start.levels y ≤ m.eigens
        levels_up_to y =
            level_up_to m.eigens start.levels y
            (ap (list_all (λ l. nat_le l m.eigens)) start_levels
            ∙ (list_all-append (λ l. nat_le l m.eigens) m.levels (replicate o.count m.eigens)
            ∙ and_intro _ _ levels_most (levels-replicate m.eigens m.eigens o.count (omega arith))))

        -- the variables of the leaf stand in its head alone
        pub atom_apart : (x : ℕ) → length m.terms ≤ x → x < length start.levels → StandsNowhere mid start (asked m sign args ∷ []) x
        atom_apart x l b = record {
          own = first_read x ∙ reading_past m.bank m.bound x (let c = f.count in let v = variable_count in omega arith);
          others = λ y n. subst (λ e. is_bad x e (reading mid start.bound y) ≡ false) (sym level) (ap (is_bad x m.eigens) (first_read y) ∙ other y n);
          terms = (
            subst (λ e. is_bad x e (sub (reading mid start.bound) (asked m sign args)) ≡ false) (sym level)
                (ap (is_bad x m.eigens) atom_is ∙ clear_fit (sub (reading m.bank m.bound) (asked m sign args)) x past_all (atom_fit sign args p h)),
            tt,
          );
          newest = λ y. subst (λ e. slice_index start.levels y ≤ e) (sym level) (levels_up_to y);
        }
          where
            past_all : length m.levels ≤ x
            past_all = let v = variable_count in omega arith

            level : slice_index start.levels x ≡ m.eigens
            level = start_level x past_all b

            other : (y : ℕ) → y ≢ x → is_bad x m.eigens (reading m.bank m.bound y) ≡ false
            other y n = elim (cases_lt y (length m.levels)) [
              | inl s ↦ clear_fit (reading m.bank m.bound y) x past_all (goes y (lt-ltb y (length m.levels) s))
              | inr s ↦ ap (is_bad x m.eigens) (reading_past m.bank m.bound y (let c = f.count in omega arith)) ∙ clear-var x m.eigens y n
            ]

        -- what unification asks for
        pub record IsReady (bank : Nodes) : Type 0 where
          pub table : IsTable bank start
          pub within : IsWithin (length start.levels) own
          pub fixed : not_bound sign ≡ true
          pub places : All (λ (a : At). IsPlaceOf bank start a.0) args
          pub head_inside : HasTerm bank head.0
          pub begins : begins_fixed (term_tree bank head.0) ≡ true
          pub heads : applies_heads (shut_in bank) ≡ true
          pub vars : HasCells bank start (shut_in bank)
          pub apart : (x : ℕ) → own.end - own.count ≤ x → x < length start.levels
              → StandsNowhere bank start (app sign (term_trees bank args) ∷ []) x

        own_end : own.end ≡ length m.terms + o.count
        own_end = ap (λ (e : Environment). e.end) o.own_is

        own_count : own.count ≡ o.count
        own_count = ap (λ (e : Environment). e.count) o.own_is

        ready_now : IsReady mid
        ready_now = record {
          table = start_table;
          within = (let a = own_end in let b = own_count in let v = variable_count in let s = sized in
              record { count = omega (arith, a, b); end = omega (arith, a, v, s) });
          fixed = h.fixed;
          places = arg_places;
          head_inside = o.inside;
          begins = o.begins;
          heads = o.heads;
          vars = cells-below mid start shut start_table ((λ i. vars_below (sized i) (term_is shut i)) ∙ head_below);
          apart = λ x l b. subst (λ ts. StandsNowhere mid start (app sign ts ∷ []) x) (sym trees_stay)
              (atom_apart x (let a = own_end in let n = own_count in omega (arith, a, n, l)) b);
        }

        -- over an equal bank
        pub ready_in : (bank : Nodes) → bank ≡ mid → IsReady bank
        ready_in bank e = subst (λ (b : Nodes). IsReady b) (sym e) ready_now

        abbrev pub Finds : Nodes → Table → Bool → Type 0
        Finds last after answer = Unifies mid last start after
            (mgu (sub (reading mid start.bound) (asked m sign args) ∷ []) (sub (reading mid start.bound) shut ∷ []) start.levels) answer

        -- what was found over an equal bank
        pub finds_in : (bank last : Nodes) (after : Table) (found b : Bool) → bank ≡ mid → found ≡ b
            → Unifies bank last start after (mgu (sub (reading bank start.bound) (app sign (term_trees bank args)) ∷ [])
            (sub (reading bank start.bound) (shut_in bank) ∷ []) start.levels) found → Finds last after b
        finds_in bank last after found b e q w =
            subst (λ x. Finds last after x) q
            (subst (λ ts. Unifies mid last start after
            (mgu (sub (reading mid start.bound) (app sign ts) ∷ []) (sub (reading mid start.bound) shut ∷ []) start.levels) found) trees_stay
            (subst (λ (n : Nodes). Unifies n last start after
            (mgu (sub (reading n start.bound) (app sign (term_trees n args)) ∷ []) (sub (reading n start.bound) (shut_in n) ∷ []) start.levels) found) e w))

        same_problem : mgu (sub (reading m.bank m.bound) (asked m sign args) ∷ []) (sub (reading mid m.bound) shut ∷ [])
            (m.levels ++ replicate o.count m.eigens)
            ≡ mgu (sub (reading mid start.bound) (asked m sign args) ∷ []) (sub (reading mid start.bound) shut ∷ []) start.levels
        same_problem = λ i. mgu (sym atom_is i ∷ []) (sym (term_is shut) i ∷ []) (sym start_levels i)

        pub none_taken : (last : Nodes) (after : Table) → Finds last after false → attempt (setting m) (state_of m) (record { label = label; leaf = k }) ≡ None
        none_taken last after w =
            step_is sign args h
            ∙ ap
            (option_map (instantiated (with_leaf (state_of m) (map (shown_item m.bank m.bound m.resources.kept) (items_at m.agenda p.rest)) label k o.count
            (sub_leaf (reading m.bank m.bound) opened))))
            (same_problem ∙ go (mgu (sub (reading mid start.bound) (asked m sign args) ∷ []) (sub (reading mid start.bound) shut ∷ []) start.levels) w)
          where
            go : (s : Option Solved) → Unifies mid last start after s false → s ≡ None
            go None x = refl
            go (Some v) x = absurd x

        -- a machine with all that a leaf and unification bring
        pub record IsMoved (last : Nodes) (after : Table) (new : Parts) : Type 0 where
          pub problem : new.problem ≡ m.problem
          pub modules : new.modules ≡ m.modules
          pub grown : Extends mid last
          pub bank : new.bank ≡ last
          pub bound_new : new.bound ≡ after.bound
          pub levels_new : new.levels ≡ after.levels
          pub resources : new.resources ≡ after_pick label m.resources
          pub agenda : new.agenda ≡ now
          pub top_new : new.top ≡ top
          pub terms_new : new.terms ≡ terms
          pub eigens : new.eigens ≡ m.eigens
          pub steps : new.steps ≡ m.steps ++ ClauseStep label k ∷ []
          pub left : suc new.left ≡ m.left

        moved : (last : Nodes) (after : Table) (new : Parts) (v : Solved) → IsMoved last after new → IsUnified mid last start after v → IsTaken v new
        moved last after new v t w =
            let same : table new ≡ after = same_table after new.bound new.levels t.bound_new t.levels_new in
            record {
              problem = t.problem;
              modules = t.modules;
              later = subst (Extends mid) (sym t.bank) t.grown;
              levels = t.levels_new ∙ w.levels_are;
              count = ap (λ (xs : List (Option At)). length xs) t.bound_new ∙ (w.table.bound ∙ (w.same_count ∙ ap (λ (xs : List ℕ). length xs) start_levels));
              inside =
                  subst (All (HasValue new.bank)) (sym t.bound_new)
                  (subst (λ bank. All (HasValue bank) after.bound) (sym t.bank) (table_values last after.bound w.table.places));
              ordered = subst (λ (bank : Nodes). IsOrdered bank (table new)) (sym t.bank) (subst (λ (u : Table). IsOrdered last u) (sym same) w.table.ordered);
              reads = λ x. (λ i. reading (t.bank i) (t.bound_new i) x) ∙ (w.reads x ∙ ap (sub v.subst) (reads_is x));
              entries = ap (λ (r : Resources FormAt). r.entries) t.resources;
              flag = ap (λ (r : Resources FormAt). r.flag) t.resources;
              next = ap (λ (r : Resources FormAt). r.next) t.resources;
              kept = ap (λ (r : Resources FormAt). r.kept) t.resources;
              keys = ap (λ (r : Resources FormAt). r.keys) t.resources;
              agenda = t.agenda;
              front = t.top_new;
              all = t.terms_new;
              eigens = t.eigens;
              steps = t.steps;
              left = t.left;
            }

        pub some_taken : (last : Nodes) (after : Table) (new : Parts) → IsMoved last after new → Finds last after true
            → Infers m (record { label = label; leaf = k }) new
        some_taken last after new t w =
            go (mgu (sub (reading mid start.bound) (asked m sign args) ∷ []) (sub (reading mid start.bound) shut ∷ []) start.levels) refl w
          where
            go : (s : Option Solved) → mgu (sub (reading mid start.bound) (asked m sign args) ∷ []) (sub (reading mid start.bound) shut ∷ []) start.levels ≡ s
                → Unifies mid last start after s true
                → Infers m (record { label = label; leaf = k }) new
            go None p x = absurd x
            go (Some v) p x = taken sign args h v (same_problem ∙ p) new (moved last after new v t x)
