-- The goal that a load stands for is sound: closed arguments take the places of a module's parameters.
use Rattle.std.proofs.Common.{◌≡◌, ℕ, zero, suc, ◌+◌, ◌<◌, refl, ap, sym, ◌∙◌, subst, Bool, true, false, List, [], ◌∷◌, ◌++◌, map, take, reverse, length}
use Rattle.std.proofs.Common.{get_or, All, Bor, arith}
use Rattle.std.specs.Prelude.{◌&&◌, Option, Some, slice_index_or, slice_get, replicate}
use Rattle.std.specs.List.{list_all}
use Rattle.std.proofs.lemmas.Bool.{and_from, and_parts, eqb-true, ltb-true, lt-ltb}
use Rattle.std.proofs.lemmas.List.{append-nil, length-map, length-reverse, reverse-append, get_or-map}
use Rattle.std.proofs.lemmas.List.Elements.{All-head, All-tail}
use Rattle.ll_list_laws.proofs.CallerLemmas.{All-slice_get as all_got}
use Rattle.ll_bank.specs.declared.Head.TheVariants.{Name, Eigen, Bound}
use Rattle.ll_bank.specs.Term.{Term, Var, Int, Con, Ap, Env, place, head_of, is_spine}
use Rattle.ll_bank.specs.Form.{Form, Use, close_form}
use Rattle.ll_bank.specs.Nodes.{Nodes, form_tree, form_of, term_tree, term_trees, ShowsForm, IsFormView, Extends}
use Rattle.ll_bank.specs.declared.At.{At}
use Rattle.ll_bank.specs.declared.FormAt.{FormAt}
use Rattle.ll_bank.specs.declared.FormNode.{FormNode}
use Rattle.ll_bank.specs.declared.FormNode.TheVariants.{Top as TopView, One as OneView, Atom as AtomView, With as WithView, Tensor as TensorView}
use Rattle.ll_bank.specs.declared.FormNode.TheVariants.{Plus as PlusView, Bang as BangView, Lolli as LolliView, Imp as ImpView, Forall as ForallView}
use Rattle.ll_bank.specs.declared.FormNode.TheVariants.{Exists as ExistsView, Use as UseView, Is as IsView, Less as LessView, Most as MostView}
use Rattle.ll_laws.specs.Number.{Operators}
use Rattle.ll_laws.specs.declared.Clause.{Clause}
use Rattle.ll_laws.specs.declared.Kind.{Kind}
use Rattle.ll_laws.specs.declared.Kind.TheVariants.{Linear, Unbounded}
use Rattle.ll_laws.specs.Module.{Setting, ModuleTree, ClauseTree, load, load_all, forall_all, unfold_load}
use Rattle.ll_laws.specs.declared.Module.{Module}
use Rattle.ll_laws.specs.Shown.{clause_tree, module_tree}
use Rattle.ll_laws.specs.Shows.{Labelled}
use Rattle.ll_laws.specs.Line.{UseLine}
use Rattle.ll_laws.specs.Valid.{Side, GoalSide, ClauseSide, Scope, places_below, free_below, may_head, is_headed, has_heads, fits_module, loads_fit}
use Rattle.ll_laws.specs.Valid.{module_scope}
use Rattle.ll_modules.specs.Loads.{arguments_env, MayLoad}
use Rattle.ll_modules.proofs.CallerLemmas.{closes_nothing}
use Rattle.ll_sequent.specs.declared.sequents.Resource.{Resource}
use Rattle.ll_sequent.specs.declared.sequents.Sequent.{Sequent}
use Rattle.ll_sequent.specs.declared.sequents.Step.{Step}
use Rattle.ll_sequent.specs.declared.sequents.Step.TheVariants.{Refused}
use Rattle.ll_sequent.specs.Sequents.{IsSound, IsSequent, bounded_in, free_in, sequent_in}
use Rattle.ll_sequent.specs.Steps.{Refuses, made, made_by}
use Rattle.ll_sequent.specs.Named.{IsLeaving}
use Rattle.ll_sequent.specs.Judging.{AreModulesSound, beside, Holds, IsStep, StepsOver}
use Rattle.ll_sequent.proofs.RuleLemmas.{none_added}
use Rattle.ll_sequent.proofs.OpeningLemmas.{opened_steps}
use Rattle.ll_sequent.proofs.Closings.{Puts, sound-close, heads_apply}

-- ---- wider scopes

wider_free : (n : ℕ) (t : Term) → places_below 0 t ≡ true → places_below n t ≡ true
wider_free n (Var x) h = refl
wider_free n (Int z) h = refl
wider_free n (Con (Name k)) h = refl
wider_free n (Con (Eigen k)) h = refl
wider_free n (Con (Bound k)) h = absurd (let p = ltb-true k 0 h in omega arith)
wider_free n (Ap f a) h = let p = and_parts (places_below 0 f) (places_below 0 a) h in and_from _ _ (wider_free n f p.0) (wider_free n a p.1)

wider_head : (scope : Scope) (t : Term) → may_head [] (head_of t) ≡ true → may_head scope (head_of t) ≡ true
wider_head scope (Var x) h = refl
wider_head scope (Int z) h = refl
wider_head scope (Con (Name k)) h = refl
wider_head scope (Con (Eigen k)) h = refl
wider_head scope (Con (Bound k)) h = cc
wider_head scope (Ap f a) h = wider_head scope f h

wider_headed : (scope : Scope) (t : Term) → is_headed [] t ≡ true → is_headed scope t ≡ true
wider_headed scope (Var x) h = refl
wider_headed scope (Int z) h = refl
wider_headed scope (Con k) h = refl
wider_headed scope (Ap f a) h =
    let q = and_parts (is_spine f && may_head [] (head_of f) && is_headed [] f) (is_headed [] a) h in
    let r = and_parts (is_spine f && may_head [] (head_of f)) (is_headed [] f) q.0 in
    let s = and_parts (is_spine f) (may_head [] (head_of f)) r.0 in
    and_from _ _ (and_from _ _ (and_from _ _ s.0 (wider_head scope f s.1)) (wider_headed scope f r.1)) (wider_headed scope a q.1)

pub puts_nothing : (outer : Scope) → Puts [] [] outer
puts_nothing outer = record { free = λ k round l. absurd (omega arith); spines = λ k round m. refl; may = λ k round m. cc; headed = λ k round. refl }

-- a sound formula is sound under more quantifiers
sound-wider : (modules : List ModuleTree) (side : Side) (outer : Scope) (f : Form) → IsSound modules side [] f → IsSound modules side outer f
sound-wider modules side outer f h = let P : Form → Type 0 = IsSound modules side outer in
    subst P (closes_nothing f) (sound-close (puts_nothing outer) modules side f h)

-- ---- arguments

at_past : (round outer : Scope) (k n : ℕ) → n ≡ length round + k → slice_index_or (round ++ outer) n false ≡ slice_index_or outer k false
at_past [] outer k n e = let d : n ≡ k = omega arith in ap (λ m. slice_index_or outer m false) d
at_past (x ∷ round) outer k zero e = absurd (omega arith)
at_past (x ∷ round) outer k (suc n) e = at_past round outer k n (omega arith)

puts_none : (outer : Scope) → Puts [] outer outer
puts_none outer = record {
  free = λ k round l. lt-ltb (length round + k) (length round + length outer) (omega arith);
  spines = λ k round m. refl;
  may = λ k round m. at_past round outer k (length round + k) refl ∙ m;
  headed = λ k round. refl;
}

pub puts_one : (u : Term) (e : Env) (inner outer : Scope) → places_below 0 u ≡ true → is_headed [] u ≡ true → Puts e inner outer
    → Puts (Some u ∷ e) (false ∷ inner) outer
puts_one u e inner outer c d h = record { free = free; spines = spines; may = may; headed = headed }
  where
    free : (k : ℕ) (round : Scope) → k < length (false ∷ inner) → places_below (length round + length outer) (place (Some u ∷ e) k (length round)) ≡ true
    free zero round l = wider_free (length round + length outer) u c
    free (suc k) round l = h.free k round (omega arith)

    spines : (k : ℕ) (round : Scope) → may_head (false ∷ inner) (Some (Bound k)) ≡ true → is_spine (place (Some u ∷ e) k (length round)) ≡ true
    spines zero round m = cc
    spines (suc k) round m = h.spines k round m

    may : (k : ℕ) (round : Scope) → may_head (false ∷ inner) (Some (Bound k)) ≡ true
        → may_head (round ++ outer) (head_of (place (Some u ∷ e) k (length round))) ≡ true
    may zero round m = cc
    may (suc k) round m = h.may k round m

    headed : (k : ℕ) (round : Scope) → is_headed (round ++ outer) (place (Some u ∷ e) k (length round)) ≡ true
    headed zero round = wider_headed (round ++ outer) u d
    headed (suc k) round = h.headed k round

puts_each : (us : List Term) (outer : Scope) → list_all (places_below 0) us ≡ true → list_all (is_headed []) us ≡ true
    → Puts (map (λ t. Some t) us) (replicate (length us) false ++ outer) outer
puts_each [] outer c d = puts_none outer
puts_each (u ∷ us) outer c d =
    let p = and_parts (places_below 0 u) (list_all (places_below 0) us) c in
    let q = and_parts (is_headed [] u) (list_all (is_headed []) us) d in
    puts_one u (map (λ t. Some t) us) (replicate (length us) false ++ outer) outer p.0 q.0 (puts_each us outer p.1 q.1)

all_append : (p : Term → Bool) (xs ys : List Term) → list_all p xs ≡ true → list_all p ys ≡ true → list_all p (xs ++ ys) ≡ true
all_append p [] ys h k = k
all_append p (x ∷ xs) ys h k = let q = and_parts (p x) (list_all p xs) h in and_from _ _ q.0 (all_append p xs ys q.1 k)

all_reverse : (p : Term → Bool) (xs : List Term) → list_all p xs ≡ true → list_all p (reverse xs) ≡ true
all_reverse p [] h = h
all_reverse p (x ∷ xs) h =
    let q = and_parts (p x) (list_all p xs) h in
    ap (list_all p) (reverse-append (x ∷ []) xs) ∙ all_append p (reverse xs) (x ∷ []) (all_reverse p xs q.1) (and_from _ _ q.0 refl)

pub puts_arguments : (m : ModuleTree) (ts : List Term) → length ts ≡ m.params → list_all (places_below 0) ts ≡ true → list_all (is_headed []) ts ≡ true
    → Puts (arguments_env ts) (module_scope m) (replicate m.locals true)
puts_arguments m ts n c d =
    let P : ℕ → Type 0 = λ k. Puts (arguments_env ts) (replicate k false ++ replicate m.locals true) (replicate m.locals true) in
    subst P (length-reverse ts ∙ n) (puts_each (reverse ts) (replicate m.locals true) (all_reverse (places_below 0) ts c) (all_reverse (is_headed []) ts d))

-- ---- the goal

sound-load : (modules : List ModuleTree) (outer : Scope) (kind : Kind) (r g : Form) → IsSound modules ClauseSide outer r → IsSound modules GoalSide outer g
    → IsSound modules GoalSide outer (load kind r g)
sound-load modules outer Linear r g h k = record {
  closed = and_from _ _ h.closed k.closed;
  heads = and_from _ _ h.heads k.heads;
  loads =
      and_from _ _ h.loads k.loads;
}
sound-load modules outer Unbounded r g h k = record {
  closed = and_from _ _ h.closed k.closed;
  heads = and_from _ _ h.heads k.heads;
  loads =
      and_from _ _ h.loads k.loads;
}

sound-loads : (modules : List ModuleTree) (e : Env) (inner outer : Scope) → Puts e inner outer → (cs : List ClauseTree) (g : Form)
    → All (λ (c : ClauseTree). IsSound modules ClauseSide inner c.form) cs
    → IsSound modules GoalSide outer g → IsSound modules GoalSide outer (load_all e cs g)
sound-loads modules e inner outer p [] g h k = k
sound-loads modules e inner outer p (c ∷ cs) g h k =
    sound-load modules outer c.kind (close_form e c.form) (load_all e cs g)
    (sound-close p modules ClauseSide c.form (All-head (λ (c : ClauseTree). IsSound modules ClauseSide inner c.form) c cs h))
    (sound-loads modules e inner outer p cs g (All-tail (λ (c : ClauseTree). IsSound modules ClauseSide inner c.form) c cs h) k)

last_first : (n : ℕ) (scope : Scope) → true ∷ (replicate n true ++ scope) ≡ replicate n true ++ true ∷ scope
last_first zero scope = refl
last_first (suc n) scope = ap (λ s. true ∷ s) (last_first n scope)

sound-forall_all : (modules : List ModuleTree) (n : ℕ) (scope : Scope) (g : Form) → IsSound modules GoalSide (replicate n true ++ scope) g
    → IsSound modules GoalSide scope (forall_all n g)
sound-forall_all modules zero scope g h = h
sound-forall_all modules (suc n) scope g h =
    let P : Scope → Type 0 = λ s. IsSound modules GoalSide s g in
    let k = sound-forall_all modules n (true ∷ scope) g (subst P (last_first n scope) h) in
    record { closed = k.closed; heads = k.heads; loads = k.loads }

pub sound-unfold_load : (modules : List ModuleTree) (m : ModuleTree) (ts : List Term) (g : Form) → length ts ≡ m.params → list_all (places_below 0) ts ≡ true
    → list_all (is_headed []) ts ≡ true
    → All (λ (c : ClauseTree). IsSound modules ClauseSide (module_scope m) c.form) m.clauses → IsSound modules GoalSide [] g
    → IsSound modules GoalSide [] (unfold_load m ts g)
sound-unfold_load modules m ts g n c d h k =
    let outer = replicate m.locals true in
    let l = sound-loads modules (arguments_env ts) (module_scope m) outer (puts_arguments m ts n c d) m.clauses g h (sound-wider modules GoalSide outer g k) in
    let P : Scope → Type 0 = λ s. IsSound modules GoalSide s (load_all (arguments_env ts) m.clauses g) in
    sound-forall_all modules m.locals [] (load_all (arguments_env ts) m.clauses g) (subst P (sym (append-nil outer)) l)

-- so the clauses may be loaded
pub may_load : (modules : List ModuleTree) (bank : Nodes) (inner outer : Scope) (cs : List Clause) (ts : List Term) → Puts (arguments_env ts) inner outer
    → All (λ (c : ClauseTree). IsSound modules ClauseSide inner c.form) (map (clause_tree bank) cs) → MayLoad bank cs ts
may_load modules bank inner outer cs ts p h = λ k d l.
    let n : k < length (map (clause_tree bank) cs) = let e = length-map cs (clause_tree bank) in omega arith in
    let s = h k (clause_tree bank d) n in
    let P : ClauseTree → Type 0 = λ c. IsSound modules ClauseSide inner c.form in
    let t : IsSound modules ClauseSide inner (form_tree bank (get_or cs k d).form.0) =
    subst P (get_or-map (clause_tree bank) cs k d (clause_tree bank d) l) s in
    heads_apply ClauseSide outer (close_form (arguments_env ts) (form_tree bank (get_or cs k d).form.0))
    (sound-close p modules ClauseSide (form_tree bank (get_or cs k d).form.0) t).heads

-- ---- the rule

got_at : {X Y : Type 0} (f : X → Y) (xs : List X) (i : ℕ) (x : X) → i < length xs → x ≡ get_or xs i x → slice_get (map f xs) i ≡ Some (f x)
got_at f [] i x low e = absurd (omega arith)
got_at f (y ∷ xs) zero x low e = ap (λ z. Some (f z)) (sym e)
got_at f (y ∷ xs) (suc i) x low e = got_at f xs i x (omega arith) e

-- what holds of a load's parts
record Parts (modules : List ModuleTree) (number : ℕ) (ts : List Term) (g : Form) : Type 0 where
  args_closed : list_all (places_below 0) ts ≡ true
  args_headed : list_all (is_headed []) ts ≡ true
  fits : fits_module (slice_get modules number) ts ≡ true
  inner : IsSound modules GoalSide [] g

parts_of : (modules : List ModuleTree) (number : ℕ) (ts : List Term) (g : Form) → IsSound modules GoalSide [] (Use number ts g) → Parts modules number ts g
parts_of modules number ts g h =
    let p = and_parts (list_all (places_below 0) ts) (free_below 0 g) h.closed in
    let q = and_parts (list_all (is_headed []) ts) (has_heads true GoalSide [] g) h.heads in
    let r = and_parts (fits_module (slice_get modules number) ts) (loads_fit modules g) h.loads in
    record { args_closed = p.0; args_headed = q.0; fits = r.0; inner = record { closed = p.1; heads = q.1; loads = r.1 } }

module _ (bank : Nodes) (modules : List Module) (number : ℕ) (m : Module) (args : List At) (body : FormAt) (s : Sequent) (low : number < length modules)
    (found : m ≡ get_or modules number m)
    (tree : form_tree bank s.goal.0 ≡ Use number (term_trees bank args) (form_tree bank body.0)) (sound : AreModulesSound (map (module_tree bank) modules))
    (sequent : IsSequent (map (module_tree bank) modules) bank s) where
  got : slice_get (map (module_tree bank) modules) number ≡ Some (module_tree bank m)
  got = got_at (module_tree bank) modules number m low found

  parts : Parts (map (module_tree bank) modules) number (term_trees bank args) (form_tree bank body.0)
  parts =
      let P : Form → Type 0 = IsSound (map (module_tree bank) modules) GoalSide [] in
      parts_of (map (module_tree bank) modules) number (term_trees bank args) (form_tree bank body.0) (subst P tree sequent.goal.sound)

  counted : length (term_trees bank args) ≡ m.params
  counted =
      let P : Option ModuleTree → Type 0 = λ o. fits_module o (term_trees bank args) ≡ true in
      eqb-true (length (term_trees bank args)) m.params (subst P got parts.fits)

  clauses_sound : All (λ (c : ClauseTree). IsSound (map (module_tree bank) modules) ClauseSide (module_scope (module_tree bank m)) c.form)
      (map (clause_tree bank) m.clauses.items)
  clauses_sound =
      all_got (λ (t : ModuleTree). All (λ (c : ClauseTree). IsSound (map (module_tree bank) modules) ClauseSide (module_scope t) c.form) t.clauses)
      (map (module_tree bank) modules) number
      (module_tree bank m) sound got

  pub load_count : length args ≡ m.params
  load_count = sym (length-map args (λ (a : At). term_tree bank a.0)) ∙ counted

  pub load_heads : MayLoad bank m.clauses.items (term_trees bank args)
  load_heads =
      may_load (map (module_tree bank) modules) bank (module_scope (module_tree bank m)) (replicate m.locals true) m.clauses.items (term_trees bank args)
      (puts_arguments (module_tree bank m) (term_trees bank args) counted parts.args_closed parts.args_headed) clauses_sound

  pub load_steps : (new : Nodes) (p : Sequent) (step : Step) → Extends bank new
      → ShowsForm new p.goal.0 (unfold_load (module_tree bank m) (term_trees bank args) (form_tree bank body.0))
      → p.free ≡ s.free → p.bounded.items ≡ s.bounded.items → IsLeaving (p ∷ []) step → (ops : Operators) (free : List Resource)
      → Holds (map (module_tree bank) modules) bank free s
      → IsStep ops (map (module_tree bank) modules) UseLine (sequent_in bank free s) new free free step
  load_steps new p step keeps shows same_free same_bounded leaving ops free h =
      let ms = map (module_tree bank) modules in
      let ts = term_trees bank args in
      let g = form_tree bank body.0 in
      opened_steps bank new s p keeps same_free same_bounded (unfold_load (module_tree bank m) ts g) shows UseLine step free ops ms h leaving
      (sound-unfold_load ms (module_tree bank m) ts g counted parts.args_closed parts.args_headed clauses_sound parts.inner)
      (ap (made (beside ops ms) UseLine (free_in bank (take s.free free)) (bounded_in bank s.bounded.items)) tree
      ∙ ap (λ o. made_by o (λ l. record { free = free_in bank (take s.free free); bounded = bounded_in bank s.bounded.items; goal = unfold_load l ts g })) got)

-- ---- goals of another form

not_use : (b : Setting) (bank : Nodes) (c d : List Labelled) (v : FormNode) → ((m : ℕ) (ts : Bor (List At)) (f : FormAt) → v ≡ UseView m ts f → ⊥)
    → made b UseLine c d (form_of bank v) ≡ Refuses 1
not_use b bank c d (UseView m ts f) n = absurd (n m ts f refl)
not_use b bank c d TopView n = refl
not_use b bank c d OneView n = refl
not_use b bank c d (AtomView a) n = refl
not_use b bank c d (WithView f g) n = refl
not_use b bank c d (TensorView f g) n = refl
not_use b bank c d (PlusView f g) n = refl
not_use b bank c d (BangView f) n = refl
not_use b bank c d (LolliView f g) n = refl
not_use b bank c d (ImpView f g) n = refl
not_use b bank c d (ForallView f) n = refl
not_use b bank c d (ExistsView f) n = refl
not_use b bank c d (IsView t u) n = refl
not_use b bank c d (LessView t u) n = refl
not_use b bank c d (MostView t u) n = refl

pub use_refused : (bank : Nodes) (s : Sequent) (view : FormNode) → IsFormView bank s.goal.0 view
    → ((m : ℕ) (ts : Bor (List At)) (f : FormAt) → view ≡ UseView m ts f → ⊥)
    → StepsOver UseLine bank s bank (Refused 1)
use_refused bank s view seen n = λ ops modules free h. record {
  made = sym (ap (made (beside ops modules) UseLine (free_in bank (take s.free free)) (bounded_in bank s.bounded.items)) seen.tree
      ∙ not_use (beside ops modules) bank (free_in bank (take s.free free)) (bounded_in bank s.bounded.items) view n);
  left = tt;
  free = h.unbounded;
  adds = none_added free;
}
