-- A derivation whose names have other numbers has its first fault at the same node, for the same reason.
use Rattle.std.proofs.Common.{◌≡◌, ◌<◌, ◌-◌, ℕ, zero, suc, refl, ap, sym, ◌∙◌, Bool, true, false, List, [], ◌∷◌, ◌++◌, map, length, reverse, arith, inl, inr}
use Rattle.std.specs.Prelude.{◌&&◌, ◌||◌, not, nat_eq, nat_lt, Option, Some, None, option_map, if◌then◌else◌, slice_get, slice_index_or}
use Rattle.std.specs.Prelude.{filter, ℤ, int_lt, int_le}
use Rattle.std.specs.List.{list_all, list_any}
use Rattle.std.proofs.lemmas.List.{map-append, length-map, reverse-append, get_or_past}
use Rattle.std.proofs.lemmas.Bool.Decides.{nat_tests}
use Rattle.ll_bank.specs.declared.Head.{Head}
use Rattle.ll_bank.specs.declared.Head.TheVariants.{Name, Eigen, Bound}
use Rattle.ll_bank.specs.Term.{Term, Var, Int, Con, Ap, head_eq, sub, Env, place, close, has_eigen}
use Rattle.ll_bank.specs.Form.{Form, Top, One, Atom, With, Tensor, Plus, Bang, Lolli, Imp, Forall, Exists, Use, Num, Relation, Is, Less, Most, sub_form}
use Rattle.ll_bank.specs.Form.{close_form, instantiate, form_has_eigen}
use Rattle.ll_laws.specs.declared.Kind.{Kind}
use Rattle.ll_laws.specs.declared.Kind.TheVariants.{Linear, Unbounded}
use Rattle.ll_laws.specs.Leaf.{Premise, Needs, NeedsFree, Leaf, add_premise, ways, leaf_from, leaf}
use Rattle.ll_laws.specs.Module.{ClauseTree, ModuleTree, Setting, load, load_all, forall_all, unfold_load}
use Rattle.ll_laws.specs.Number.{Operators, operator_of, combined, value_of, is_number, compared, holds}
use Rattle.ll_laws.specs.Shows.{Tree, OneNode, EraseNode, TensorNode, WithNode, LeftNode, RightNode, BangNode, LolliNode, ImpNode, ForallNode, ExistsNode}
use Rattle.ll_laws.specs.Shows.{UseNode, ClauseNode, NumNode, Parts, NoParts, BoundedPart, UnboundedPart, Labelled, clauses, has, has_label, part, rest}
use Rattle.ll_laws.specs.Shows.{all_in, Found, Missing, Took, behind, take_label, pick_of, pick, one_of, splits}
use Rattle.ll_laws.specs.Fault.{Checked, Fits, Fault, then_check, unless, is_empty, term_eq, parts_fit, parts_deal, Judged, Wrong, Right, judge_leaf}
use Rattle.ll_laws.specs.Fault.{judge_clause, on_judged, on_module, fault, fault_parts}
use Rattle.std.proofs.lemmas.Bool.{cases_lt}
use Rattle.ll_list_laws.proofs.CallerLemmas.{and_true_both as both, eq-moved}
use Rattle.ll_laws.specs.Line.{DerivationLines}
use Rattle.ll_laws.specs.Number.{operators_of, operator_spelled}
use Rattle.ll_laws.specs.Problem.{ProblemTree, setting_of}
use Rattle.ll_laws.specs.Valid.{Scope, each_term, names_below, AreClauses, AreModules, module_scope, IsValid}
use Rattle.ll_laws.specs.Verdict.{same_kind, labelled, root_free, root_bounded, instantiated_goal, first_fault}
use Rattle.ll_prooftext.specs.Twins.{Numbers, moved_head, moved, moved_derivation, moved_tree, moved_parts}

module _ (r : Numbers) where
  -- ---- formulas

  abbrev pub moved_form : Form → Form
  moved_form Top = Top
  moved_form One = One
  moved_form (Atom a) = Atom (moved r a)
  moved_form (With f g) = With (moved_form f) (moved_form g)
  moved_form (Tensor f g) = Tensor (moved_form f) (moved_form g)
  moved_form (Plus f g) = Plus (moved_form f) (moved_form g)
  moved_form (Bang f) = Bang (moved_form f)
  moved_form (Lolli f g) = Lolli (moved_form f) (moved_form g)
  moved_form (Imp f g) = Imp (moved_form f) (moved_form g)
  moved_form (Forall f) = Forall (moved_form f)
  moved_form (Exists f) = Exists (moved_form f)
  moved_form (Use m ts f) = Use m (map (moved r) ts) (moved_form f)
  moved_form (Num q t u) = Num q (moved r t) (moved r u)

  abbrev moved_place : Option Term → Option Term
  moved_place None = None
  moved_place (Some t) = Some (moved r t)

  abbrev env : Env → Env
  env e = map moved_place e

  -- ---- closing and substituting

  place-moved : (e : Env) (k n : ℕ) → moved r (place e k n) ≡ place (env e) k n
  place-moved [] k n = refl
  place-moved (None ∷ e) zero n = refl
  place-moved (None ∷ e) (suc k) n = place-moved e k (suc n)
  place-moved (Some t ∷ e) zero n = refl
  place-moved (Some t ∷ e) (suc k) n = place-moved e k n

  close-moved : (e : Env) (t : Term) → moved r (close e t) ≡ close (env e) (moved r t)
  close-moved e (Var x) = refl
  close-moved e (Int z) = refl
  close-moved e (Con (Name n)) = refl
  close-moved e (Con (Eigen n)) = refl
  close-moved e (Con (Bound k)) = place-moved e k 0
  close-moved e (Ap f a) = ap (λ z. Ap z (moved r (close e a))) (close-moved e f) ∙ ap (λ z. Ap (close (env e) (moved r f)) z) (close-moved e a)

  all-closed : (e : Env) (ts : List Term) → map (moved r) (map (close e) ts) ≡ map (close (env e)) (map (moved r) ts)
  all-closed e [] = refl
  all-closed e (t ∷ ts) =
      ap (λ z. z ∷ map (moved r) (map (close e) ts)) (close-moved e t) ∙ ap (λ z. close (env e) (moved r t) ∷ z) (all-closed e ts)

  pair : {A B C : Type 0} (f : A → B → C) (a b : A) (c d : B) → a ≡ b → c ≡ d → f a c ≡ f b d
  pair f a b c d p q = ap (λ z. f z c) p ∙ ap (f b) q

  form-closed : (e : Env) (f : Form) → moved_form (close_form e f) ≡ close_form (env e) (moved_form f)
  form-closed e Top = refl
  form-closed e One = refl
  form-closed e (Atom a) = ap Atom (close-moved e a)
  form-closed e (With f g) = pair With (moved_form (close_form e f)) _ _ _ (form-closed e f) (form-closed e g)
  form-closed e (Tensor f g) = pair Tensor (moved_form (close_form e f)) _ _ _ (form-closed e f) (form-closed e g)
  form-closed e (Plus f g) = pair Plus (moved_form (close_form e f)) _ _ _ (form-closed e f) (form-closed e g)
  form-closed e (Bang f) = ap Bang (form-closed e f)
  form-closed e (Lolli f g) = pair Lolli (moved_form (close_form e f)) _ _ _ (form-closed e f) (form-closed e g)
  form-closed e (Imp f g) = pair Imp (moved_form (close_form e f)) _ _ _ (form-closed e f) (form-closed e g)
  form-closed e (Forall f) = ap Forall (form-closed (None ∷ e) f)
  form-closed e (Exists f) = ap Exists (form-closed (None ∷ e) f)
  form-closed e (Use m ts f) = pair (Use m) (map (moved r) (map (close e) ts)) _ _ _ (all-closed e ts) (form-closed e f)
  form-closed e (Num q t u) = pair (Num q) (moved r (close e t)) _ _ _ (close-moved e t) (close-moved e u)

  opened : (f : Form) (t : Term) → moved_form (instantiate f t) ≡ instantiate (moved_form f) (moved r t)
  opened f t = form-closed (Some t ∷ []) f

  module _ (s u : ℕ → Term) (e : (x : ℕ) → moved r (s x) ≡ u x) where
    sub-moved : (t : Term) → moved r (sub s t) ≡ sub u (moved r t)
    sub-moved (Var x) = e x
    sub-moved (Int z) = refl
    sub-moved (Con h) = refl
    sub-moved (Ap f a) = pair Ap (moved r (sub s f)) _ _ _ (sub-moved f) (sub-moved a)

    all-subs : (ts : List Term) → map (moved r) (map (sub s) ts) ≡ map (sub u) (map (moved r) ts)
    all-subs [] = refl
    all-subs (t ∷ ts) = ap (λ z. z ∷ map (moved r) (map (sub s) ts)) (sub-moved t) ∙ ap (λ z. sub u (moved r t) ∷ z) (all-subs ts)

    pub form-sub : (f : Form) → moved_form (sub_form s f) ≡ sub_form u (moved_form f)
    form-sub Top = refl
    form-sub One = refl
    form-sub (Atom a) = ap Atom (sub-moved a)
    form-sub (With f g) = pair With (moved_form (sub_form s f)) _ _ _ (form-sub f) (form-sub g)
    form-sub (Tensor f g) = pair Tensor (moved_form (sub_form s f)) _ _ _ (form-sub f) (form-sub g)
    form-sub (Plus f g) = pair Plus (moved_form (sub_form s f)) _ _ _ (form-sub f) (form-sub g)
    form-sub (Bang f) = ap Bang (form-sub f)
    form-sub (Lolli f g) = pair Lolli (moved_form (sub_form s f)) _ _ _ (form-sub f) (form-sub g)
    form-sub (Imp f g) = pair Imp (moved_form (sub_form s f)) _ _ _ (form-sub f) (form-sub g)
    form-sub (Forall f) = ap Forall (form-sub f)
    form-sub (Exists f) = ap Exists (form-sub f)
    form-sub (Use m ts f) = pair (Use m) (map (moved r) (map (sub s) ts)) _ _ _ (all-subs ts) (form-sub f)
    form-sub (Num q t v) = pair (Num q) (moved r (sub s t)) _ _ _ (sub-moved t) (sub-moved v)

  pub at-moved : (ts : List Term) (x : ℕ) → moved r (slice_index_or ts x (Var x)) ≡ slice_index_or (map (moved r) ts) x (Var x)
  at-moved ts x = step ts x (Var x) refl
    where
      step : (ts : List Term) (k : ℕ) (d : Term) → moved r d ≡ d → moved r (slice_index_or ts k d) ≡ slice_index_or (map (moved r) ts) k d
      step [] k d e = e
      step (t ∷ ts) zero d e = refl
      step (t ∷ ts) (suc k) d e = step ts k d e

  -- ---- loads

  abbrev pub moved_clause : ClauseTree → ClauseTree
  moved_clause c = record { kind = c.kind; form = moved_form c.form }

  abbrev pub moved_module : ModuleTree → ModuleTree
  moved_module m = record { name = m.name; params = m.params; locals = m.locals; clauses = map moved_clause m.clauses }

  load-moved : (k : Kind) (c g : Form) → moved_form (load k c g) ≡ load k (moved_form c) (moved_form g)
  load-moved Linear c g = refl
  load-moved Unbounded c g = refl

  all-loaded : (e : Env) (cs : List ClauseTree) (g : Form) → moved_form (load_all e cs g) ≡ load_all (env e) (map moved_clause cs) (moved_form g)
  all-loaded e [] g = refl
  all-loaded e (c ∷ cs) g =
      load-moved c.kind (close_form e c.form) (load_all e cs g)
      ∙ pair (load c.kind) (moved_form (close_form e c.form)) _ _ _ (form-closed e c.form) (all-loaded e cs g)

  forall-moved : (n : ℕ) (g : Form) → moved_form (forall_all n g) ≡ forall_all n (moved_form g)
  forall-moved zero g = refl
  forall-moved (suc n) g = ap Forall (forall-moved n g)

  turned : (ts : List Term) → env (map (λ t. Some t) (reverse ts)) ≡ map (λ t. Some t) (reverse (map (moved r) ts))
  turned ts = each (reverse ts) ∙ ap (map (λ t. Some t)) (sym (turn ts))
    where
      each : (ts : List Term) → map moved_place (map (λ t. Some t) ts) ≡ map (λ t. Some t) (map (moved r) ts)
      each [] = refl
      each (t ∷ ts) = ap (λ z. Some (moved r t) ∷ z) (each ts)

      turn : (ts : List Term) → reverse (map (moved r) ts) ≡ map (moved r) (reverse ts)
      turn [] = refl
      turn (x ∷ xs) =
          reverse-append (moved r x ∷ []) (map (moved r) xs) ∙ (ap (λ z. z ++ moved r x ∷ []) (turn xs)
          ∙ (sym (map-append (moved r) (reverse xs) (x ∷ [])) ∙ ap (map (moved r)) (sym (reverse-append (x ∷ []) xs))))

  unfolded : (m : ModuleTree) (ts : List Term) (g : Form) → moved_form (unfold_load m ts g) ≡ unfold_load (moved_module m) (map (moved r) ts) (moved_form g)
  unfolded m ts g =
      forall-moved m.locals (load_all (map (λ t. Some t) (reverse ts)) m.clauses g)
      ∙ ap (forall_all m.locals) (all-loaded (map (λ t. Some t) (reverse ts)) m.clauses g
      ∙ ap (λ e. load_all e (map moved_clause m.clauses) (moved_form g)) (turned ts))

  -- ---- leaves

  abbrev moved_premise : Premise → Premise
  moved_premise (Needs g) = Needs (moved_form g)
  moved_premise (NeedsFree g) = NeedsFree (moved_form g)

  abbrev moved_leaf : Leaf → Leaf
  moved_leaf l = record { premises = map moved_premise l.premises; head = moved r l.head }

  ways-moved : (f : Form) → ways (moved_form f) ≡ ways f
  ways-moved Top = refl
  ways-moved One = refl
  ways-moved (Atom a) = refl
  ways-moved (With f g) = pair (λ x y. x ++ y) (ways (moved_form f)) _ _ _ (ways-moved f) (ways-moved g)
  ways-moved (Tensor f g) = refl
  ways-moved (Plus f g) = refl
  ways-moved (Bang f) = refl
  ways-moved (Lolli f g) = ways-moved g
  ways-moved (Imp f g) = ways-moved g
  ways-moved (Forall f) = ap (map (λ n. suc n)) (ways-moved f)
  ways-moved (Exists f) = refl
  ways-moved (Use m ts f) = refl
  ways-moved (Num q t u) = refl

  premise-added : (p : Premise) (o : Option Leaf)
      → option_map moved_leaf (option_map (add_premise p) o) ≡ option_map (add_premise (moved_premise p)) (option_map moved_leaf o)
  premise-added p None = refl
  premise-added p (Some l) =
      ap (λ ps. let x : Leaf = record { premises = ps; head = moved r l.head } in Some x) (map-append moved_premise l.premises (p ∷ []))

  leaf-moved : (e : Env) (f : Form) (k : ℕ) (ts : List Term)
      → option_map moved_leaf (leaf_from e f k ts) ≡ leaf_from (env e) (moved_form f) k (map (moved r) ts)
  leaf-moved e Top k ts = refl
  leaf-moved e One k ts = refl
  leaf-moved e (Atom a) zero [] = ap (λ t. let x : Leaf = record { premises = []; head = t } in Some x) (close-moved e a)
  leaf-moved e (Atom a) zero (t ∷ ts) = refl
  leaf-moved e (Atom a) (suc k) ts = refl
  leaf-moved e (With f g) k ts =
      step (nat_lt k (length (ways f))) (leaf-moved e f k ts) (leaf-moved e g (k - length (ways f)) ts)
      ∙ ap (λ w. if nat_lt k (length w) then leaf_from (env e) (moved_form f) k (map (moved r) ts)
      else leaf_from (env e) (moved_form g) (k - length w) (map (moved r) ts)) (sym (ways-moved f))
    where
      step : (b : Bool) → option_map moved_leaf (leaf_from e f k ts) ≡ leaf_from (env e) (moved_form f) k (map (moved r) ts)
          → option_map moved_leaf (leaf_from e g (k - length (ways f)) ts) ≡ leaf_from (env e) (moved_form g) (k - length (ways f)) (map (moved r) ts)
          → option_map moved_leaf (if b then leaf_from e f k ts else leaf_from e g (k - length (ways f)) ts)
          ≡ (if b then leaf_from (env e) (moved_form f) k (map (moved r) ts) else leaf_from (env e) (moved_form g) (k - length (ways f)) (map (moved r) ts))
      step true p q = p
      step false p q = q
  leaf-moved e (Tensor f g) k ts = refl
  leaf-moved e (Plus f g) k ts = refl
  leaf-moved e (Bang f) k ts = refl
  leaf-moved e (Lolli g f) k ts =
      premise-added (Needs (close_form e g)) (leaf_from e f k ts)
      ∙ pair (λ h o. option_map (add_premise (Needs h)) o) (moved_form (close_form e g)) _ _ _ (form-closed e g) (leaf-moved e f k ts)
  leaf-moved e (Imp g f) k ts =
      premise-added (NeedsFree (close_form e g)) (leaf_from e f k ts)
      ∙ pair (λ h o. option_map (add_premise (NeedsFree h)) o) (moved_form (close_form e g)) _ _ _ (form-closed e g) (leaf-moved e f k ts)
  leaf-moved e (Forall f) k [] = refl
  leaf-moved e (Forall f) k (t ∷ ts) = leaf-moved (Some t ∷ e) f k ts
  leaf-moved e (Exists f) k ts = refl
  leaf-moved e (Use m us f) k ts = refl
  leaf-moved e (Num q t u) k ts = refl

  -- ---- eigenvariables

  eigen-moved : (c : ℕ) (t : Term) → has_eigen c (moved r t) ≡ has_eigen c t
  eigen-moved c (Var x) = refl
  eigen-moved c (Int z) = refl
  eigen-moved c (Con (Name n)) = refl
  eigen-moved c (Con (Eigen n)) = refl
  eigen-moved c (Con (Bound n)) = refl
  eigen-moved c (Ap f a) = pair (λ x y. x || y) (has_eigen c (moved r f)) _ _ _ (eigen-moved c f) (eigen-moved c a)

  any-eigen : (c : ℕ) (ts : List Term) → list_any (has_eigen c) (map (moved r) ts) ≡ list_any (has_eigen c) ts
  any-eigen c [] = refl
  any-eigen c (t ∷ ts) = pair (λ x y. x || y) (has_eigen c (moved r t)) _ _ _ (eigen-moved c t) (any-eigen c ts)

  form-eigen : (c : ℕ) (f : Form) → form_has_eigen c (moved_form f) ≡ form_has_eigen c f
  form-eigen c Top = refl
  form-eigen c One = refl
  form-eigen c (Atom a) = eigen-moved c a
  form-eigen c (With f g) = pair (λ x y. x || y) (form_has_eigen c (moved_form f)) _ _ _ (form-eigen c f) (form-eigen c g)
  form-eigen c (Tensor f g) = pair (λ x y. x || y) (form_has_eigen c (moved_form f)) _ _ _ (form-eigen c f) (form-eigen c g)
  form-eigen c (Plus f g) = pair (λ x y. x || y) (form_has_eigen c (moved_form f)) _ _ _ (form-eigen c f) (form-eigen c g)
  form-eigen c (Bang f) = form-eigen c f
  form-eigen c (Lolli f g) = pair (λ x y. x || y) (form_has_eigen c (moved_form f)) _ _ _ (form-eigen c f) (form-eigen c g)
  form-eigen c (Imp f g) = pair (λ x y. x || y) (form_has_eigen c (moved_form f)) _ _ _ (form-eigen c f) (form-eigen c g)
  form-eigen c (Forall f) = form-eigen c f
  form-eigen c (Exists f) = form-eigen c f
  form-eigen c (Use m ts f) = pair (λ x y. x || y) (list_any (has_eigen c) (map (moved r) ts)) _ _ _ (any-eigen c ts) (form-eigen c f)
  form-eigen c (Num q t u) = pair (λ x y. x || y) (has_eigen c (moved r t)) _ _ _ (eigen-moved c t) (eigen-moved c u)

  forms-eigen : (c : ℕ) (fs : List Form) → list_any (form_has_eigen c) (map moved_form fs) ≡ list_any (form_has_eigen c) fs
  forms-eigen c [] = refl
  forms-eigen c (f ∷ fs) = pair (λ x y. x || y) (form_has_eigen c (moved_form f)) _ _ _ (form-eigen c f) (forms-eigen c fs)

  -- ---- labelled clauses

  abbrev moved_labelled : Labelled → Labelled
  moved_labelled l = record { label = l.label; clause = moved_form l.clause }

  abbrev pub moved_all : List Labelled → List Labelled
  moved_all d = map moved_labelled d

  clauses-moved : (d : List Labelled) → clauses (moved_all d) ≡ map moved_form (clauses d)
  clauses-moved [] = refl
  clauses-moved (l ∷ d) = ap (λ z. moved_form l.clause ∷ z) (clauses-moved d)

  label-moved : (d : List Labelled) (n : ℕ) → has_label (moved_all d) n ≡ has_label d n
  label-moved [] n = refl
  label-moved (l ∷ d) n = ap (λ z. nat_eq n l.label || z) (label-moved d n)

  filter-moved : (test : ℕ → Bool) (d : List Labelled) → filter (λ l. test l.label) (moved_all d) ≡ moved_all (filter (λ l. test l.label) d)
  filter-moved test [] = refl
  filter-moved test (l ∷ d) = step (test l.label) (filter-moved test d)
    where
      step : (b : Bool) → filter (λ l. test l.label) (moved_all d) ≡ moved_all (filter (λ l. test l.label) d)
          → (if b then moved_labelled l ∷ filter (λ l. test l.label) (moved_all d) else filter (λ l. test l.label) (moved_all d))
          ≡ moved_all (if b then l ∷ filter (λ l. test l.label) d else filter (λ l. test l.label) d)
      step true ih = ap (λ z. moved_labelled l ∷ z) ih
      step false ih = ih

  part-moved : (s : List ℕ) (d : List Labelled) → part s (moved_all d) ≡ moved_all (part s d)
  part-moved s d = filter-moved (has s) d

  rest-moved : (s : List ℕ) (d : List Labelled) → rest s (moved_all d) ≡ moved_all (rest s d)
  rest-moved s d = filter-moved (λ n. not (has s n)) d

  in-moved : (s : List ℕ) (d : List Labelled) → all_in s (moved_all d) ≡ all_in s d
  in-moved [] d = refl
  in-moved (n ∷ s) d = pair (λ x y. x && y) (has_label (moved_all d) n) _ _ _ (label-moved d n) (in-moved s d)

  once-moved : (s t : List ℕ) (d : List Labelled)
      → list_all (λ l. one_of (has s l.label) (has t l.label)) (moved_all d) ≡ list_all (λ l. one_of (has s l.label) (has t l.label)) d
  once-moved s t [] = refl
  once-moved s t (l ∷ d) = ap (λ z. one_of (has s l.label) (has t l.label) && z) (once-moved s t d)

  splits-moved : (s t : List ℕ) (d : List Labelled) → splits s t (moved_all d) ≡ splits s t d
  splits-moved s t d = let a = in-moved s d in let b = in-moved t d in let c = once-moved s t d in rw (a, b, c) refl

  empty-moved : (d : List Labelled) → is_empty (moved_all d) ≡ is_empty d
  empty-moved [] = refl
  empty-moved (l ∷ d) = refl

  abbrev moved_found : Found → Found
  moved_found Missing = Missing
  moved_found (Took f e) = Took (moved_form f) (moved_all e)

  behind-moved : (l : Labelled) (q : Found) → behind (moved_labelled l) (moved_found q) ≡ moved_found (behind l q)
  behind-moved l Missing = refl
  behind-moved l (Took f e) = refl

  take-moved : (n : ℕ) (d : List Labelled) → take_label n (moved_all d) ≡ moved_found (take_label n d)
  take-moved n [] = refl
  take-moved n (l ∷ d) = step (nat_eq n l.label) (take-moved n d)
    where
      step : (b : Bool) → take_label n (moved_all d) ≡ moved_found (take_label n d)
          → (if b then Took (moved_form l.clause) (moved_all d) else behind (moved_labelled l) (take_label n (moved_all d)))
          ≡ moved_found (if b then Took l.clause d else behind l (take_label n d))
      step true ih = refl
      step false ih = ap (behind (moved_labelled l)) ih ∙ behind-moved l (take_label n d)

  pick-moved : (n : ℕ) (c d : List Labelled) → pick n (moved_all c) (moved_all d) ≡ moved_found (pick n c d)
  pick-moved n c d =
      pair (λ x y. pick_of (moved_all d) x y) (take_label n (moved_all c)) _ _ _ (take-moved n c) (take-moved n d) ∙ step (take_label n c) (take_label n d)
    where
      step : (p q : Found) → pick_of (moved_all d) (moved_found p) (moved_found q) ≡ moved_found (pick_of d p q)
      step (Took f e) q = refl
      step Missing q = refl

  -- ---- judging, where no two names get one number and operators stay what they are

  module _ (one : (m n : ℕ) → r m ≡ r n → m ≡ n) (ops : Operators) (same : (n : ℕ) → ops (r n) ≡ ops n) where
    name-apart : (m n : ℕ) → nat_eq (r m) (r n) ≡ nat_eq m n
    name-apart m n = eq-moved r m n (one m n)

    head-apart : (h k : Head) → head_eq (moved_head r h) (moved_head r k) ≡ head_eq h k
    head-apart (Name m) (Name n) = name-apart m n
    head-apart (Name m) (Eigen n) = refl
    head-apart (Name m) (Bound n) = refl
    head-apart (Eigen m) (Name n) = refl
    head-apart (Eigen m) (Eigen n) = refl
    head-apart (Eigen m) (Bound n) = refl
    head-apart (Bound m) (Name n) = refl
    head-apart (Bound m) (Eigen n) = refl
    head-apart (Bound m) (Bound n) = refl

    term-apart : (t u : Term) → term_eq (moved r t) (moved r u) ≡ term_eq t u
    term-apart (Var x) (Var y) = refl
    term-apart (Var x) (Int y) = refl
    term-apart (Var x) (Con y) = refl
    term-apart (Var x) (Ap g b) = refl
    term-apart (Int x) (Var y) = refl
    term-apart (Int x) (Int y) = refl
    term-apart (Int x) (Con y) = refl
    term-apart (Int x) (Ap g b) = refl
    term-apart (Con h) (Var y) = refl
    term-apart (Con h) (Int y) = refl
    term-apart (Con h) (Con k) = head-apart h k
    term-apart (Con h) (Ap g b) = refl
    term-apart (Ap f a) (Var y) = refl
    term-apart (Ap f a) (Int y) = refl
    term-apart (Ap f a) (Con k) = refl
    term-apart (Ap f a) (Ap g b) = pair (λ x y. x && y) (term_eq (moved r f) (moved r g)) _ _ _ (term-apart f g) (term-apart a b)

    operator-moved : (t : Term) → operator_of ops (moved r t) ≡ operator_of ops t
    operator-moved (Var x) = refl
    operator-moved (Int z) = refl
    operator-moved (Con (Name n)) = same n
    operator-moved (Con (Eigen n)) = refl
    operator-moved (Con (Bound n)) = refl
    operator-moved (Ap f a) = refl

    value-moved : (t : Term) → value_of ops (moved r t) ≡ value_of ops t
    value-moved (Var x) = refl
    value-moved (Int z) = refl
    value-moved (Con h) = refl
    value-moved (Ap (Var x) b) = refl
    value-moved (Ap (Int x) b) = refl
    value-moved (Ap (Con x) b) = refl
    value-moved (Ap (Ap h x) y) =
        ap (λ o. combined o (value_of ops (moved r x)) (value_of ops (moved r y))) (operator-moved h)
        ∙ pair (combined (operator_of ops h)) (value_of ops (moved r x)) _ _ _ (value-moved x) (value-moved y)

    number-moved : (t : Term) (o : Option ℤ) → is_number (moved r t) o ≡ is_number t o
    number-moved (Int z) None = refl
    number-moved (Int z) (Some y) = refl
    number-moved (Var x) o = refl
    number-moved (Con h) o = refl
    number-moved (Ap f a) o = refl

    holds-moved : (q : Relation) (t u : Term) → holds ops q (moved r t) (moved r u) ≡ holds ops q t u
    holds-moved Is t u = number-moved t (value_of ops (moved r u)) ∙ ap (is_number t) (value-moved u)
    holds-moved Less t u = pair (compared int_lt) (value_of ops (moved r t)) _ _ _ (value-moved t) (value-moved u)
    holds-moved Most t u = pair (compared int_le) (value_of ops (moved r t)) _ _ _ (value-moved t) (value-moved u)

    -- ---- clause nodes

    fit-moved : (ps : Parts) (gs : List Premise) → parts_fit (moved_parts r ps) (map moved_premise gs) ≡ parts_fit ps gs
    fit-moved NoParts [] = refl
    fit-moved NoParts (g ∷ gs) = refl
    fit-moved (BoundedPart s x ps) [] = refl
    fit-moved (BoundedPart s x ps) (Needs g ∷ gs) = fit-moved ps gs
    fit-moved (BoundedPart s x ps) (NeedsFree g ∷ gs) = refl
    fit-moved (UnboundedPart x ps) [] = refl
    fit-moved (UnboundedPart x ps) (Needs g ∷ gs) = refl
    fit-moved (UnboundedPart x ps) (NeedsFree g ∷ gs) = fit-moved ps gs

    deal-moved : (ps : Parts) (d : List Labelled) → parts_deal (moved_parts r ps) (moved_all d) ≡ parts_deal ps d
    deal-moved NoParts d = empty-moved d
    deal-moved (BoundedPart s x ps) d =
        pair (λ x y. x && y) (all_in s (moved_all d)) _ _ _ (in-moved s d) (ap (parts_deal (moved_parts r ps)) (rest-moved s d) ∙ deal-moved ps (rest s d))
    deal-moved (UnboundedPart x ps) d = deal-moved ps d

    abbrev moved_judged : Judged → Judged
    moved_judged (Wrong k) = Wrong k
    moved_judged (Right gs e) = Right (map moved_premise gs) (moved_all e)

    judged-leaf : (a : Term) (ps : Parts) (e : List Labelled) (o : Option Leaf)
        → judge_leaf (moved r a) (moved_parts r ps) (moved_all e) (option_map moved_leaf o) ≡ moved_judged (judge_leaf a ps e o)
    judged-leaf a ps e None = refl
    judged-leaf a ps e (Some l) =
        let x = term-apart l.head a in let y = fit-moved ps l.premises in let z = deal-moved ps e in
        ap (λ b. if b then (if parts_fit (moved_parts r ps) (map moved_premise l.premises)
        then (if parts_deal (moved_parts r ps) (moved_all e) then Right (map moved_premise l.premises) (moved_all e) else Wrong 3) else Wrong 8) else Wrong 7) x
        ∙ (ap (λ b. if term_eq l.head a
        then (if b then (if parts_deal (moved_parts r ps) (moved_all e) then Right (map moved_premise l.premises) (moved_all e) else Wrong 3) else Wrong 8)
        else Wrong 7) y
        ∙ (ap (λ b. if term_eq l.head a
        then (if parts_fit ps l.premises then (if b then Right (map moved_premise l.premises) (moved_all e) else Wrong 3) else Wrong 8)
        else Wrong 7) z
        ∙ step (term_eq l.head a) (parts_fit ps l.premises) (parts_deal ps e)))
      where
        step : (b c d : Bool)
            → (if b then (if c then (if d then Right (map moved_premise l.premises) (moved_all e) else Wrong 3) else Wrong 8) else Wrong 7)
            ≡ moved_judged (if b then (if c then (if d then Right l.premises e else Wrong 3) else Wrong 8) else Wrong 7)
        step true true true = refl
        step true true false = refl
        step true false d = refl
        step false c d = refl

    judged-clause : (a : Term) (k : ℕ) (ts : List Term) (ps : Parts) (q : Found)
        → judge_clause (moved r a) k (map (moved r) ts) (moved_parts r ps) (moved_found q) ≡ moved_judged (judge_clause a k ts ps q)
    judged-clause a k ts ps Missing = refl
    judged-clause a k ts ps (Took f e) =
        ap (λ w. if nat_lt k (length w) then judge_leaf (moved r a) (moved_parts r ps) (moved_all e) (leaf (moved_form f) k (map (moved r) ts)) else Wrong 5)
        (ways-moved f) ∙ step (nat_lt k (length (ways f)))
      where
        step : (b : Bool)
            → (if b then judge_leaf (moved r a) (moved_parts r ps) (moved_all e) (leaf (moved_form f) k (map (moved r) ts)) else Wrong 5)
            ≡ moved_judged (if b then judge_leaf a ps e (leaf f k ts) else Wrong 5)
        step true = ap (judge_leaf (moved r a) (moved_parts r ps) (moved_all e)) (sym (leaf-moved [] f k ts)) ∙ judged-leaf a ps e (leaf f k ts)
        step false = refl

    -- ---- trees

    module _ (modules : List ModuleTree) (stay : map moved_module modules ≡ modules) where
      abbrev beside : Setting
      beside = record { modules = modules; operators = ops }

      module-found : (ms : List ModuleTree) (k : ℕ) → slice_get (map moved_module ms) k ≡ option_map moved_module (slice_get ms k)
      module-found [] k = refl
      module-found (m ∷ ms) zero = refl
      module-found (m ∷ ms) (suc k) = module-found ms k

      module-stays : (k : ℕ) → slice_get modules k ≡ option_map moved_module (slice_get modules k)
      module-stays k = ap (λ z. slice_get z k) (sym stay) ∙ module-found modules k

      unless-same : (b c : Bool) (k n : ℕ) (x y : Checked) → b ≡ c → x ≡ y → unless b k n x ≡ unless c k n y
      unless-same b c k n x y p q = ap (λ z. unless z k n x) p ∙ ap (unless c k n) q

      then-same : (x y : Checked) (f g : ℕ → Checked) → x ≡ y → ((m : ℕ) → f m ≡ g m) → then_check x f ≡ then_check y g
      then-same x y f g p q = ap (λ z. then_check z f) p ∙ step y
        where
          step : (y : Checked) → then_check y f ≡ then_check y g
          step (Fits k) = q k
          step (Fault k n) = refl

      pushed : (d : List Labelled) (l : Labelled) → moved_all d ++ moved_labelled l ∷ [] ≡ moved_all (d ++ l ∷ [])
      pushed d l = sym (map-append moved_labelled d (l ∷ []))

      new-moved : (e : ℕ) (c d : List Labelled) (g : Form)
          → not (list_any (form_has_eigen e) (moved_form g ∷ (clauses (moved_all c) ++ clauses (moved_all d))))
          ≡ not (list_any (form_has_eigen e) (g ∷ (clauses c ++ clauses d)))
      new-moved e c d g =
          let a = pair (λ x y. x ++ y) (clauses (moved_all c)) _ _ _ (clauses-moved c) (clauses-moved d) in
          let b = sym (map-append moved_form (clauses c) (clauses d)) in
          ap (λ z. not (form_has_eigen e (moved_form g) || list_any (form_has_eigen e) z)) (a ∙ b)
          ∙ ap not (pair (λ x y. x || y) (form_has_eigen e (moved_form g)) _ _ _ (form-eigen e g) (forms-eigen e (clauses c ++ clauses d)))

      on-module : (o : Option ModuleTree) (k : ℕ) (f g : ModuleTree → Checked) → ((l : ModuleTree) → f (moved_module l) ≡ g l)
          → on_module (option_map moved_module o) k f ≡ on_module o k g
      on-module None k f g e = refl
      on-module (Some l) k f g e = e l

      on-judged : (j : Judged) (k : ℕ) (f g : List Premise → List Labelled → Checked)
          → ((gs : List Premise) (e : List Labelled) → f (map moved_premise gs) (moved_all e) ≡ g gs e)
          → on_judged (moved_judged j) k f ≡ on_judged j k g
      on-judged (Wrong n) k f g e = refl
      on-judged (Right gs d) k f g e = e gs d

      mutual
        pub fault-moved : (x : Tree) (k : ℕ) (c d : List Labelled) (g : Form)
            → fault beside k (moved_tree r x) (moved_all c) (moved_all d) (moved_form g) ≡ fault beside k x c d g
        fault-moved OneNode k c d One = unless-same (is_empty (moved_all d)) (is_empty d) k 2 (Fits (suc k)) (Fits (suc k)) (empty-moved d) refl
        fault-moved EraseNode k c d Top = refl
        fault-moved (TensorNode s t x y) k c d (Tensor g h) =
            unless-same (splits s t (moved_all d)) (splits s t d) k 3 _ _ (splits-moved s t d)
            (then-same (fault beside (suc k) (moved_tree r x) (moved_all c) (part s (moved_all d)) (moved_form g)) (fault beside (suc k) x c (part s d) g)
            (λ m. fault beside m (moved_tree r y) (moved_all c) (part t (moved_all d)) (moved_form h)) (λ m. fault beside m y c (part t d) h)
            (ap (λ z. fault beside (suc k) (moved_tree r x) (moved_all c) z (moved_form g)) (part-moved s d) ∙ fault-moved x (suc k) c (part s d) g)
            (λ m. ap (λ z. fault beside m (moved_tree r y) (moved_all c) z (moved_form h)) (part-moved t d) ∙ fault-moved y m c (part t d) h))
        fault-moved (WithNode x y) k c d (With g h) =
            then-same (fault beside (suc k) (moved_tree r x) (moved_all c) (moved_all d) (moved_form g)) (fault beside (suc k) x c d g)
            (λ m. fault beside m (moved_tree r y) (moved_all c) (moved_all d) (moved_form h)) (λ m. fault beside m y c d h) (fault-moved x (suc k) c d g)
            (λ m. fault-moved y m c d h)
        fault-moved (LeftNode x) k c d (Plus g h) = fault-moved x (suc k) c d g
        fault-moved (RightNode x) k c d (Plus g h) = fault-moved x (suc k) c d h
        fault-moved (BangNode x) k c d (Bang g) =
            unless-same (is_empty (moved_all d)) (is_empty d) k 2 _ _ (empty-moved d) (fault-moved x (suc k) c d g)
        fault-moved (LolliNode n x) k c d (Lolli f g) =
            let l : Labelled = record { label = n; clause = f } in
            unless-same (not (has_label (moved_all c) n || has_label (moved_all d) n)) (not (has_label c n || has_label d n)) k 9 _ _
            (ap not (pair (λ x y. x || y) (has_label (moved_all c) n) _ _ _ (label-moved c n) (label-moved d n)))
            (ap (λ z. fault beside (suc k) (moved_tree r x) (moved_all c) z (moved_form g)) (pushed d l) ∙ fault-moved x (suc k) c (d ++ l ∷ []) g)
        fault-moved (ImpNode n x) k c d (Imp f g) =
            unless-same (not (has_label (moved_all c) n || has_label (moved_all d) n)) (not (has_label c n || has_label d n)) k 9 _ _
            (ap not (pair (λ x y. x || y) (has_label (moved_all c) n) _ _ _ (label-moved c n) (label-moved d n)))
            (fault-moved x (suc k) (record { label = n; clause = f } ∷ c) d g)
        fault-moved (ForallNode e x) k c d (Forall g) =
            unless-same _ (not (list_any (form_has_eigen e) (g ∷ (clauses c ++ clauses d)))) k 10 _ _ (new-moved e c d g)
            (ap (fault beside (suc k) (moved_tree r x) (moved_all c) (moved_all d)) (sym (opened g (Con (Eigen e))))
            ∙ fault-moved x (suc k) c d (instantiate g (Con (Eigen e))))
        fault-moved (ExistsNode t x) k c d (Exists g) =
            ap (fault beside (suc k) (moved_tree r x) (moved_all c) (moved_all d)) (sym (opened g t)) ∙ fault-moved x (suc k) c d (instantiate g t)
        fault-moved (UseNode x) k c d (Use m ts g) =
            ap (λ o. on_module o k (λ l. fault beside (suc k) (moved_tree r x) (moved_all c) (moved_all d) (unfold_load l (map (moved r) ts) (moved_form g))))
            (module-stays m)
            ∙ on-module (slice_get modules m) k
            (λ l. fault beside (suc k) (moved_tree r x) (moved_all c) (moved_all d) (unfold_load l (map (moved r) ts) (moved_form g)))
            (λ l. fault beside (suc k) x c d (unfold_load l ts g))
            (λ l. ap (fault beside (suc k) (moved_tree r x) (moved_all c) (moved_all d)) (sym (unfolded l ts g))
            ∙ fault-moved x (suc k) c d (unfold_load l ts g))
        fault-moved NumNode k c d (Num q t u) =
            unless-same (is_empty (moved_all d)) (is_empty d) k 2 _ _ (empty-moved d)
            (unless-same (holds ops q (moved r t) (moved r u)) (holds ops q t u) k 12 (Fits (suc k)) (Fits (suc k)) (holds-moved q t u) refl)
        fault-moved (ClauseNode n j ts ps) k c d (Atom a) =
            let go : List Premise → List Labelled → Checked = λ gs e. fault_parts beside (suc k) (moved_parts r ps) (moved_all c) e gs in
            ap (λ q. on_judged (judge_clause (moved r a) j (map (moved r) ts) (moved_parts r ps) q) k go) (pick-moved n c d)
            ∙ (ap (λ q. on_judged q k go) (judged-clause a j ts ps (pick n c d))
            ∙ on-judged (judge_clause a j ts ps (pick n c d)) k go (λ gs e. fault_parts beside (suc k) ps c e gs) (λ gs e. parts-moved ps (suc k) c e gs))
        fault-moved _ k c d _ = refl

        pub parts-moved : (ps : Parts) (k : ℕ) (c d : List Labelled) (gs : List Premise)
            → fault_parts beside k (moved_parts r ps) (moved_all c) (moved_all d) (map moved_premise gs) ≡ fault_parts beside k ps c d gs
        parts-moved (BoundedPart s x ps) k c d (Needs g ∷ gs) =
            then-same (fault beside k (moved_tree r x) (moved_all c) (part s (moved_all d)) (moved_form g)) (fault beside k x c (part s d) g)
            (λ m. fault_parts beside m (moved_parts r ps) (moved_all c) (rest s (moved_all d)) (map moved_premise gs))
            (λ m. fault_parts beside m ps c (rest s d) gs)
            (ap (λ z. fault beside k (moved_tree r x) (moved_all c) z (moved_form g)) (part-moved s d) ∙ fault-moved x k c (part s d) g)
            (λ m. ap (λ z. fault_parts beside m (moved_parts r ps) (moved_all c) z (map moved_premise gs)) (rest-moved s d) ∙ parts-moved ps m c (rest s d) gs)
        parts-moved (UnboundedPart x ps) k c d (NeedsFree g ∷ gs) =
            then-same (fault beside k (moved_tree r x) (moved_all c) [] (moved_form (Bang g))) (fault beside k x c [] (Bang g))
            (λ m. fault_parts beside m (moved_parts r ps) (moved_all c) (moved_all d) (map moved_premise gs)) (λ m. fault_parts beside m ps c d gs)
            (fault-moved x k c [] (Bang g)) (λ m. parts-moved ps m c d gs)
        parts-moved NoParts k c d gs = refl
        parts-moved (BoundedPart s x ps) k c d [] = refl
        parts-moved (BoundedPart s x ps) k c d (NeedsFree g ∷ gs) = refl
        parts-moved (UnboundedPart x ps) k c d [] = refl
        parts-moved (UnboundedPart x ps) k c d (Needs g ∷ gs) = refl

-- ---- what a problem has stays as it is

module _ (r : Numbers) (one : (m n : ℕ) → r m ≡ r n → m ≡ n) (p : ProblemTree) (valid : IsValid p) (stay : (n : ℕ) → n < length p.names → r n ≡ n) where
  abbrev many : ℕ
  many = length p.names

  term-stays : (t : Term) → names_below many t ≡ true → moved r t ≡ t
  term-stays (Var x) h = refl
  term-stays (Int z) h = refl
  term-stays (Con (Name n)) h = ap (λ k. Con (Name k)) (stay n (grind (arith, nat_tests, h)))
  term-stays (Con (Eigen n)) h = refl
  term-stays (Con (Bound n)) h = refl
  term-stays (Ap f a) h =
      let k = both (names_below many f) (names_below many a) h in ap (λ z. Ap z (moved r a)) (term-stays f k.0) ∙ ap (λ z. Ap f z) (term-stays a k.1)

  terms-stay : (ts : List Term) → list_all (names_below many) ts ≡ true → map (moved r) ts ≡ ts
  terms-stay [] h = refl
  terms-stay (t ∷ ts) h =
      let k = both (names_below many t) (list_all (names_below many) ts) h in
      ap (λ z. z ∷ map (moved r) ts) (term-stays t k.0) ∙ ap (λ z. t ∷ z) (terms-stay ts k.1)

  abbrev AreNamed : ℕ → Form → Type 0
  AreNamed n f = each_term (λ n. names_below many) n f ≡ true

  two-stay : (make : Form → Form → Form) (f g h k : Form) → f ≡ h → g ≡ k → make f g ≡ make h k
  two-stay make f g h k a b = ap (λ z. make z g) a ∙ ap (make h) b

  form-stays : (n : ℕ) (f : Form) → AreNamed n f → moved_form r f ≡ f
  form-stays n Top h = refl
  form-stays n One h = refl
  form-stays n (Atom a) h = ap Atom (term-stays a h)
  form-stays n (With f g) h = let k = both _ _ h in two-stay With (moved_form r f) (moved_form r g) f g (form-stays n f k.0) (form-stays n g k.1)
  form-stays n (Tensor f g) h = let k = both _ _ h in two-stay Tensor (moved_form r f) (moved_form r g) f g (form-stays n f k.0) (form-stays n g k.1)
  form-stays n (Plus f g) h = let k = both _ _ h in two-stay Plus (moved_form r f) (moved_form r g) f g (form-stays n f k.0) (form-stays n g k.1)
  form-stays n (Bang f) h = ap Bang (form-stays n f h)
  form-stays n (Lolli f g) h = let k = both _ _ h in two-stay Lolli (moved_form r f) (moved_form r g) f g (form-stays n f k.0) (form-stays n g k.1)
  form-stays n (Imp f g) h = let k = both _ _ h in two-stay Imp (moved_form r f) (moved_form r g) f g (form-stays n f k.0) (form-stays n g k.1)
  form-stays n (Forall f) h = ap Forall (form-stays (suc n) f h)
  form-stays n (Exists f) h = ap Exists (form-stays (suc n) f h)
  form-stays n (Use m ts f) h =
      let k = both _ _ h in ap (λ z. Use m z (moved_form r f)) (terms-stay ts k.0) ∙ ap (Use m ts) (form-stays n f k.1)
  form-stays n (Num q t u) h = let k = both _ _ h in ap (λ z. Num q z (moved r u)) (term-stays t k.0) ∙ ap (Num q t) (term-stays u k.1)

  clauses-stay : (scope : Scope) (cs : List ClauseTree) → AreClauses many p.modules scope cs → map (moved_clause r) cs ≡ cs
  clauses-stay scope [] h = refl
  clauses-stay scope (c ∷ cs) h =
      ap (λ f. let x : ClauseTree = record { kind = c.kind; form = f } in x ∷ map (moved_clause r) cs) (form-stays 0 c.form h.1.named)
      ∙ ap (λ z. c ∷ z) (clauses-stay scope cs h.2)

  modules-stay : (ms : List ModuleTree) → AreModules many p.modules ms → map (moved_module r) ms ≡ ms
  modules-stay [] h = refl
  modules-stay (m ∷ ms) h =
      ap (λ cs. let x : ModuleTree = record { name = m.name; params = m.params; locals = m.locals; clauses = cs } in x ∷ map (moved_module r) ms)
      (clauses-stay (module_scope m) m.clauses h.0)
      ∙ ap (λ z. m ∷ z) (modules-stay ms h.2)

  labels-moved : (k : Kind) (n : ℕ) (cs : List ClauseTree) → moved_all r (labelled k n cs) ≡ labelled k n (map (moved_clause r) cs)
  labels-moved k n [] = refl
  labels-moved k n (c ∷ cs) = step (same_kind k c.kind) (labels-moved k (suc n) cs)
    where
      step : (b : Bool) → moved_all r (labelled k (suc n) cs) ≡ labelled k (suc n) (map (moved_clause r) cs)
          → moved_all r (if b then record { label = n; clause = c.form } ∷ labelled k (suc n) cs else labelled k (suc n) cs)
          ≡ (if b then record { label = n; clause = moved_form r c.form } ∷ labelled k (suc n) (map (moved_clause r) cs)
          else labelled k (suc n) (map (moved_clause r) cs))
      step true e = ap (λ z. record { label = n; clause = moved_form r c.form } ∷ z) e
      step false e = e

  roots-stay : (k : Kind) → labelled k 0 p.clauses ≡ moved_all r (labelled k 0 p.clauses)
  roots-stay k = sym (labels-moved k 0 p.clauses ∙ ap (labelled k 0) (clauses-stay [] p.clauses valid.clauses))

  goal-moved : (ts : List Term) → instantiated_goal p (map (moved r) ts) ≡ moved_form r (instantiated_goal p ts)
  goal-moved ts =
      sym (form-sub r (λ x. slice_index_or ts x (Var x)) (λ x. slice_index_or (map (moved r) ts) x (Var x)) (at-moved r ts) p.goal
      ∙ ap (sub_form (λ x. slice_index_or (map (moved r) ts) x (Var x))) (form-stays 0 p.goal valid.goal_limits.named))

  operators-stay : (n : ℕ) → operators_of p.names (r n) ≡ operators_of p.names n
  operators-stay n = elim (cases_lt n many) [
    | inl l ↦ ap (operators_of p.names) (stay n l)
    | inr l ↦ elim (cases_lt (r n) many) [
      | inl k ↦ absurd (let e = one (r n) n (stay (r n) k) in omega (arith, e, k, l))
      | inr k ↦ (ap operator_spelled (get_or_past p.names (r n) [] k) ∙ sym (ap operator_spelled (get_or_past p.names n [] l)))
    ]
  ]

  -- a derivation has its first fault where it has it with other numbers, and for the same reason
  pub first-moved : (d : DerivationLines) (x : Tree) → first_fault p (moved_derivation r d) (moved_tree r x) ≡ first_fault p d x
  first-moved d x =
      let at : List Labelled → List Labelled → Form → Checked = λ c e g. fault (setting_of p) 1 (moved_tree r x) c e g in
      let pick : ℕ → Checked → Checked = λ n z. if nat_eq n (length p.asked) then z else Fault 0 11 in
      ap (λ n. pick n (at (root_free p) (root_bounded p) (instantiated_goal p (map (moved r) d.asked)))) (length-map d.asked (moved r))
      ∙ ap (pick (length d.asked)) (ap (λ c. at c (root_bounded p) (instantiated_goal p (map (moved r) d.asked))) (roots-stay Unbounded)
      ∙ (ap (λ e. at (moved_all r (root_free p)) e (instantiated_goal p (map (moved r) d.asked))) (roots-stay Linear)
      ∙ (ap (at (moved_all r (root_free p)) (moved_all r (root_bounded p))) (goal-moved d.asked)
      ∙ fault-moved r one (operators_of p.names) operators-stay p.modules (modules-stay p.modules valid.modules) x 1 (root_free p) (root_bounded p)
      (instantiated_goal p d.asked))))
