-- A load in front: what it stands for, and what it makes of a machine.
use Rattle.std.proofs.Common.{◌≡◌, ℕ, zero, suc, ◌≤◌, ◌<◌, refl, ap, sym, ◌∙◌, subst, true, List, [], ◌∷◌, map, length, arith, All}
use Rattle.std.proofs.lemmas.List.{length-map}
use Rattle.std.proofs.lemmas.List.Elements.{All-nil, All-cons, All-head, All-tail}
use Rattle.std.proofs.lemmas.Bool.{eqb-true}
use Rattle.std.specs.Prelude.{Option, Some, slice_get, slice_index_or, option_map}
use Rattle.ll_list_laws.proofs.CallerLemmas.{and_true_left as and_left, and_true_right as and_right}
use Rattle.ll_bank.specs.declared.At.{At}
use Rattle.ll_bank.specs.declared.FormAt.{FormAt}
use Rattle.ll_bank.specs.Term.{Term, Env, sub}
use Rattle.ll_bank.specs.Form.{Form, Use, sub_form, close_form, form_applies_heads}
use Rattle.ll_bank.specs.Nodes.{Nodes, term_tree, term_trees, form_tree}
use Rattle.ll_laws.specs.declared.Candidate.{Candidate}
use Rattle.ll_laws.specs.declared.Clause.{Clause}
use Rattle.ll_laws.specs.declared.Kind.{Kind}
use Rattle.ll_laws.specs.declared.Kind.TheVariants.{Linear, Unbounded}
use Rattle.ll_laws.specs.declared.Module.{Module}
use Rattle.ll_laws.specs.Module.{ModuleTree, load, load_all, forall_all, unfold_load}
use Rattle.ll_laws.specs.Problem.{ProblemTree}
use Rattle.ll_laws.specs.Shown.{clause_tree, module_tree, HasClauses, HasModules}
use Rattle.ll_laws.specs.Attempt.{load_module}
use Rattle.ll_laws.specs.Valid.{Allowed, GoalSide, fits_module, given, module_scope, places_below}
use Rattle.ll_laws.proofs.CallerLemmas.{Grows, grows-refl, AllFit, fit-places, FormFits, formula_of_fits, formula-more, unfold_load-fits, grows_given}
use Rattle.ll_laws.proofs.CallerLemmas.{module-fits, unfold_sub}
use Rattle.ll_modules.specs.Loads.{arguments_env, AreClosed, MayLoad}
use Rattle.ll_freeze.specs.Parts.{Parts}
use Rattle.ll_freeze.specs.declared.machine.Item.{Item}
use Rattle.ll_freeze.specs.declared.machine.Item.TheVariants.{Goal}
use Rattle.ll_freeze.specs.Reading.{reading, goal_tree}
use Rattle.ll_bank.specs.declared.environment.Environment.{Environment}
use Rattle.ll_freeze.specs.Shown.{shown_item, items_of}
use Rattle.ll_freeze.specs.Fits.{Fits, allowed}
use Rattle.ll_engine.specs.Attempts.{Infers}
use Rattle.ll_engine.specs.Rows.{Loads}
use Rattle.ll_engine.proofs.inferences.Connecting.{at_goal, attempt_by, goal_fits}
use Rattle.ll_engine.proofs.inferences.Quantifying.{fits_apply, closing, still, still_state}

-- ---- modules by their places

tree_at : (bank : Nodes) (ms : List Module) (k : ℕ) (d : Module) → slice_get ms k ≡ Some d → slice_get (map (module_tree bank) ms) k ≡ Some (module_tree bank d)
tree_at bank [] k d h = cc
tree_at bank (m ∷ ms) zero d h = ap (λ o. option_map (module_tree bank) o) h
tree_at bank (m ∷ ms) (suc k) d h = tree_at bank ms k d h

clauses_at : (bank : Nodes) (ms : List Module) (k : ℕ) (d : Module) → slice_get ms k ≡ Some d → HasModules bank ms → HasClauses bank d.clauses.items
clauses_at bank [] k d e h = cc
clauses_at bank (m ∷ ms) zero d e h =
    let q : m ≡ d = cc in subst (λ (x : Module). HasClauses bank x.clauses.items) q (All-head (λ (x : Module). HasClauses bank x.clauses.items) m ms h)
clauses_at bank (m ∷ ms) (suc k) d e h = clauses_at bank ms k d e (All-tail (λ (x : Module). HasClauses bank x.clauses.items) m ms h)

known_module : (ms : List ModuleTree) (k : ℕ) (ts : List Term) → fits_module (slice_get ms k) ts ≡ true → k < length ms
known_module [] k ts h = cc
known_module (m ∷ ms) zero ts h = omega arith
known_module (m ∷ ms) (suc k) ts h = let l = known_module ms k ts h in omega (arith, l)

found_at : (ms : List Module) (k : ℕ) (d x : Module) → k < length ms → d ≡ slice_index_or ms k x → slice_get ms k ≡ Some d
found_at [] k d x l e = absurd (omega (arith, l))
found_at (m ∷ ms) zero d x l e = ap (λ (y : Module). Some y) (sym e)
found_at (m ∷ ms) (suc k) d x l e = found_at ms k d x (omega (arith, l)) e

-- ---- heads

forall_heads_of : (n : ℕ) (g : Form) → form_applies_heads (forall_all n g) ≡ true → form_applies_heads g ≡ true
forall_heads_of zero g h = h
forall_heads_of (suc n) g h = forall_heads_of n g h

load_parts : (k : Kind) (r g : Form) → form_applies_heads (load k r g) ≡ true → (form_applies_heads r ≡ true) × (form_applies_heads g ≡ true)
load_parts Linear r g h = (and_left (form_applies_heads r) (form_applies_heads g) h, and_right (form_applies_heads r) (form_applies_heads g) h)
load_parts Unbounded r g h = (and_left (form_applies_heads r) (form_applies_heads g) h, and_right (form_applies_heads r) (form_applies_heads g) h)

load_heads_of : (env : Env) (bank : Nodes) (cs : List Clause) (g : Form) → form_applies_heads (load_all env (map (clause_tree bank) cs) g) ≡ true
    → All (λ (c : Clause). form_applies_heads (close_form env (form_tree bank c.form.0)) ≡ true) cs
load_heads_of env bank [] g h = All-nil (λ (c : Clause). form_applies_heads (close_form env (form_tree bank c.form.0)) ≡ true)
load_heads_of env bank (c ∷ cs) g h =
    let p = load_parts c.kind (close_form env (form_tree bank c.form.0)) (load_all env (map (clause_tree bank) cs) g) h in
    All-cons (λ (c : Clause). form_applies_heads (close_form env (form_tree bank c.form.0)) ≡ true) c cs p.0 (load_heads_of env bank cs g p.1)

all_closed : (may : Allowed) (ts : List Term) → AllFit may [] ts → AreClosed ts
all_closed may [] h = All-nil (λ (t : Term). places_below 0 t ≡ true)
all_closed may (t ∷ ts) h = All-cons (λ (t : Term). places_below 0 t ≡ true) t ts (fit-places may [] t h.0) (all_closed may ts h.1)

-- ---- a load in front

-- a load of a module, in front of a machine's agenda: as many arguments as parameters, closed, clauses that may be loaded, and the inference
pub record IsLoading (m : Parts) (body : FormAt) (args : List At) (rest : List Item) (d : Module) : Type 0 where
  pub count : length args ≡ d.params
  pub closed : AreClosed (term_trees m.bank args)
  pub clauses : HasClauses m.bank d.clauses.items
  pub heads : MayLoad m.bank d.clauses.items (term_trees m.bank args)
  pub row : (new : Parts) (c : Candidate) → Loads m d args body rest new → Infers m c new

module _ (m : Parts) (g : FormAt) (env : Environment) (body : FormAt) (k : ℕ) (args : List At) (rest : List Item) (f : Fits m)
    (e1 : items_of m ≡ Goal g env ∷ rest)
    (e2 : goal_tree m.bank env g ≡ Use k (term_trees m.bank args) (form_tree m.bank body.0)) where
  -- it names a module
  pub is_known : k < length m.modules
  is_known =
      let h = goal_fits m g env rest (Use k (term_trees m.bank args) (form_tree m.bank body.0)) f e1 e2 in
      let l = known_module m.problem.modules k (term_trees m.bank args) h.1 in
      let n : length m.modules ≡ length m.problem.modules =
      sym (length-map m.modules (module_tree m.bank)) ∙ ap (λ (ms : List ModuleTree). length ms) f.modules in
      omega (arith, l, n)

  module _ (d : Module) (i : d ≡ slice_index_or m.modules k d) where
    e : slice_get m.modules k ≡ Some d
    e = found_at m.modules k d d is_known i

    tree_is : slice_get m.problem.modules k ≡ Some (module_tree m.bank d)
    tree_is = ap (λ ms. slice_get ms k) (sym f.modules) ∙ tree_at m.bank m.modules k d e

    count_is : length (term_trees m.bank args) ≡ d.params
    count_is =
        let h = goal_fits m g env rest (Use k (term_trees m.bank args) (form_tree m.bank body.0)) f e1 e2 in
        eqb-true (length (term_trees m.bank args)) d.params (subst (λ (o : Option ModuleTree). fits_module o (term_trees m.bank args) ≡ true) tree_is h.1)

    fits_load : FormFits (allowed m) GoalSide [] (unfold_load (module_tree m.bank d) (term_trees m.bank args) (form_tree m.bank body.0))
    fits_load =
        let h = goal_fits m g env rest (Use k (term_trees m.bank args) (form_tree m.bank body.0)) f e1 e2 in let ms = m.problem.modules in
        let low : 0 ≤ length m.levels = omega arith in
        let cf = module-fits (length m.problem.names) ms ms (allowed m) k (module_tree m.bank d) (grows_given ms 0 (length m.levels) m.eigens low)
        f.valid.modules tree_is in
        unfold_load-fits (allowed m) (module_tree m.bank d) (term_trees m.bank args) (form_tree m.bank body.0) refl cf count_is h.2 h.3

    use_count : length args ≡ d.params
    use_count = sym (length-map args (λ (a : At). term_tree m.bank a.0)) ∙ count_is

    use_closed : AreClosed (term_trees m.bank args)
    use_closed = all_closed (allowed m) (term_trees m.bank args) (goal_fits m g env rest (Use k (term_trees m.bank args) (form_tree m.bank body.0)) f e1 e2).2

    use_clauses : HasClauses m.bank d.clauses.items
    use_clauses = clauses_at m.bank m.modules k d e f.has_modules

    use_heads : MayLoad m.bank d.clauses.items (term_trees m.bank args)
    use_heads =
        let values = arguments_env (term_trees m.bank args) in
        load_heads_of values m.bank d.clauses.items (form_tree m.bank body.0)
        (forall_heads_of d.locals (load_all values (map (clause_tree m.bank) d.clauses.items) (form_tree m.bank body.0))
        (fits_apply (allowed m) GoalSide [] (unfold_load (module_tree m.bank d) (term_trees m.bank args) (form_tree m.bank body.0)) fits_load))

    use_row : (new : Parts) (c : Candidate) → Loads m d args body rest new → Infers m c new
    use_row new c w =
        let o = w.opens in let t = module_tree m.bank d in let ts = term_trees m.bank args in let p = form_tree m.bank body.0 in
        let s = reading m.bank m.bound in
        let ms = m.problem.modules in let x = w.eigens in
        let n : length new.levels ≡ length m.levels = ap (λ (ls : List ℕ). length ls) w.levels in
        let grows : Grows (allowed m) (allowed new) =
        record { modules = ap (λ (q : ProblemTree). q.modules) (sym o.problem); variables = omega (arith, n); eigens = omega (arith, x); opens = λ h. h } in
        let sorted = formula-more (allowed m) (allowed new) GoalSide (unfold_load t ts p) grows
        (formula_of_fits (allowed m) GoalSide [] (unfold_load t ts p) fits_load) in
        let cf = module-fits (length m.problem.names) ms ms (given ms 0) k t (grows-refl (given ms 0)) f.valid.modules tree_is in
        still m new g env rest c (unfold_load t ts p) f e1 o w.bound w.levels w.terms (omega (arith, x)) (omega (arith, x)) sorted
        (attempt_by m g env rest c (Use k ts p) e1 e2
        ∙ (ap (λ o. load_module (at_goal m g env rest) (map (shown_item m.bank m.bound m.resources.kept) rest) (map (sub s) ts) (sub_form s p) o) tree_is
        ∙ (ap (λ h. Some (still_state m h rest m.eigens)) (sym (unfold_sub s (closing m f) ms (module_scope t) t ts p cf))
        ∙ ap (λ e. Some (still_state m (sub_form s (unfold_load t ts p)) rest e)) (sym x))))

    pub is_loading : IsLoading m body args rest d
    is_loading = record { count = use_count; closed = use_closed; clauses = use_clauses; heads = use_heads; row = use_row }
