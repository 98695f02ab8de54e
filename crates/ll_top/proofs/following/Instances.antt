-- Derivability stays where closed terms are put for variables: the eigenvariables of the derivation give way to new ones.
use Rattle.std.proofs.Common.{Contains, ◌≡◌, ◌≤◌, ◌<◌, ℤ, inl, inr, ℕ, zero, suc, ◌+◌, refl, ap, sym, subst, ◌∙◌, Bool, true, false, List, [], ◌∷◌, ◌++◌}
use Rattle.std.proofs.Common.{map, length, reverse, arith}
use Rattle.std.specs.Prelude.{◌&&◌, ◌||◌, Option, Some, None, option_map, ◌-◌, if◌then◌else◌, nat_lt, nat_eq, int_lt, int_le, slice_get}
use Rattle.std.specs.List.{list_any, list_all}
use Rattle.std.proofs.lemmas.Bool.{ltb-true, ne_eqb, eqb-false, and_from as and_intro}
use Rattle.std.proofs.lemmas.List.{map-append}
use Rattle.std.proofs.lemmas.List.Folds.{list_any-append}
use Rattle.ll_list_laws.proofs.CallerLemmas.{map_map, and_true_left as and_left, and_true_right as and_right, map_same, eq-refl, lt_zero as none_below}
use Rattle.ll_list_laws.proofs.CallerLemmas.{or_false_left as or_off_left, or_false_right as or_off_right}
use Rattle.ll_bank.specs.declared.Head.TheVariants.{Name, Eigen, Bound}
use Rattle.ll_bank.specs.Term.{Term, Var, Int, Con, Ap, sub, Env, place, close, is_closed, is_spine, has_eigen, eigens_below}
use Rattle.ll_bank.specs.Form.{Form, Top, One, Atom, With, Tensor, Plus, Bang, Lolli, Imp, Forall, Exists, Use, sub_form, close_form, instantiate, Num}
use Rattle.ll_bank.specs.Form.{form_has_eigen, Relation, Is, Less, Most}
use Rattle.ll_laws.specs.declared.Kind.{Kind}
use Rattle.ll_laws.specs.declared.Kind.TheVariants.{Linear, Unbounded}
use Rattle.ll_laws.specs.Leaf.{Premise, Needs, NeedsFree, Leaf, add_premise, ways, leaf_from}
use Rattle.ll_laws.specs.Module.{Setting, ClauseTree, ModuleTree, load, load_all, forall_all, unfold_load}
use Rattle.ll_laws.specs.Number.{Operator, Operators, operator_of, operated, exactly, combined, value_of, is_number, compared, holds}
use Rattle.ll_laws.specs.Unify.{vars_below}
use Rattle.ll_laws.specs.Valid.{Scope, each_term, AreClauses, AreModules, module_scope}
use Rattle.ll_laws.specs.Verdict.{same_kind}
use Rattle.ll_top.specs.textbook.Follows.{of_kind}
use Rattle.ll_laws.specs.Derive.{AreClosed, Dealt, dealt_none, dealt_left, dealt_right, Derivable, by_one, by_top, by_tensor, by_with, by_left, by_right}
use Rattle.ll_laws.specs.Derive.{by_bang, by_lolli, by_imp, by_forall, by_exists, by_use, by_free, by_linear, Premises, no_premise, a_premise, a_free_premise}
use Rattle.ll_laws.specs.Derive.{by_num}
use Rattle.ll_laws.proofs.CallerLemmas.{IsClosing, close_closed, Among, among, index_of, map_onto, combined_of}

-- each variable replaced by a term, and each eigenvariable by another
abbrev pub put : (ℕ → Term) → (ℕ → ℕ) → Term → Term
put f r (Var x) = f x
put f r (Int z) = Int z
put f r (Con (Eigen c)) = Con (Eigen (r c))
put f r (Con (Name n)) = Con (Name n)
put f r (Con (Bound k)) = Con (Bound k)
put f r (Ap t u) = Ap (put f r t) (put f r u)

abbrev pub put_form : (ℕ → Term) → (ℕ → ℕ) → Form → Form
put_form f r Top = Top
put_form f r One = One
put_form f r (Atom a) = Atom (put f r a)
put_form f r (With g h) = With (put_form f r g) (put_form f r h)
put_form f r (Tensor g h) = Tensor (put_form f r g) (put_form f r h)
put_form f r (Plus g h) = Plus (put_form f r g) (put_form f r h)
put_form f r (Bang g) = Bang (put_form f r g)
put_form f r (Lolli g h) = Lolli (put_form f r g) (put_form f r h)
put_form f r (Imp g h) = Imp (put_form f r g) (put_form f r h)
put_form f r (Forall g) = Forall (put_form f r g)
put_form f r (Exists g) = Exists (put_form f r g)
put_form f r (Use m ts g) = Use m (map (put f r) ts) (put_form f r g)
put_form f r (Num o t u) = Num o (put f r t) (put f r u)

abbrev put_env : (ℕ → Term) → (ℕ → ℕ) → Env → Env
put_env f r e = map (option_map (put f r)) e

abbrev put_premise : (ℕ → Term) → (ℕ → ℕ) → Premise → Premise
put_premise f r (Needs g) = Needs (put_form f r g)
put_premise f r (NeedsFree g) = NeedsFree (put_form f r g)

abbrev put_leaf : (ℕ → Term) → (ℕ → ℕ) → Leaf → Leaf
put_leaf f r l = record { premises = map (put_premise f r) l.premises; head = put f r l.head }

-- ---- closing, leaves and numbers

module _ (f : ℕ → Term) (cl : IsClosing f) (r : ℕ → ℕ) where
  put_place : (e : Env) (k n : ℕ) → put f r (place e k n) ≡ place (put_env f r e) k n
  put_place [] k n = refl
  put_place (None ∷ e) zero n = refl
  put_place (None ∷ e) (suc k) n = put_place e k (suc n)
  put_place (Some t ∷ e) zero n = refl
  put_place (Some t ∷ e) (suc k) n = put_place e k n

  put_close : (e : Env) (t : Term) → put f r (close e t) ≡ close (put_env f r e) (put f r t)
  put_close e (Var x) = sym (close_closed (put_env f r e) (f x) (cl x))
  put_close e (Int z) = refl
  put_close e (Con (Name n)) = refl
  put_close e (Con (Eigen n)) = refl
  put_close e (Con (Bound k)) = put_place e k 0
  put_close e (Ap t u) = let e1 = put_close e t in let e2 = put_close e u in cc

  put_close_form : (e : Env) (g : Form) → put_form f r (close_form e g) ≡ close_form (put_env f r e) (put_form f r g)
  put_close_form e Top = refl
  put_close_form e One = refl
  put_close_form e (Atom a) = ap Atom (put_close e a)
  put_close_form e (With g h) = let e1 = put_close_form e g in let e2 = put_close_form e h in cc
  put_close_form e (Tensor g h) = let e1 = put_close_form e g in let e2 = put_close_form e h in cc
  put_close_form e (Plus g h) = let e1 = put_close_form e g in let e2 = put_close_form e h in cc
  put_close_form e (Bang g) = ap Bang (put_close_form e g)
  put_close_form e (Lolli g h) = let e1 = put_close_form e g in let e2 = put_close_form e h in cc
  put_close_form e (Imp g h) = let e1 = put_close_form e g in let e2 = put_close_form e h in cc
  put_close_form e (Forall g) = ap Forall (put_close_form (None ∷ e) g)
  put_close_form e (Exists g) = ap Exists (put_close_form (None ∷ e) g)
  put_close_form e (Use m ts g) =
      let e1 = put_close_form e g in
      let e2 = map_map (put f r) (close e) ts ∙ (map_same _ _ (put_close e) ts ∙ sym (map_map (close (put_env f r e)) (put f r) ts)) in cc
  put_close_form e (Num o t u) = let e1 = put_close e t in let e2 = put_close e u in cc

  put_instantiate : (g : Form) (t : Term) → put_form f r (instantiate g t) ≡ instantiate (put_form f r g) (put f r t)
  put_instantiate g t = put_close_form (Some t ∷ []) g

  ways-put : (g : Form) → ways (put_form f r g) ≡ ways g
  ways-put (Atom a) = refl
  ways-put (With g h) = let e1 = ways-put g in let e2 = ways-put h in cc
  ways-put (Lolli g h) = ways-put h
  ways-put (Imp g h) = ways-put h
  ways-put (Forall g) = ap (map (λ n. suc n)) (ways-put g)
  ways-put Top = refl
  ways-put One = refl
  ways-put (Tensor g h) = refl
  ways-put (Plus g h) = refl
  ways-put (Bang g) = refl
  ways-put (Exists g) = refl
  ways-put (Use m ts g) = refl
  ways-put (Num o t u) = refl

  add_put : (p : Premise) (o : Option Leaf)
      → option_map (add_premise (put_premise f r p)) (option_map (put_leaf f r) o) ≡ option_map (put_leaf f r) (option_map (add_premise p) o)
  add_put p None = refl
  add_put p (Some l) =
      let h : List Premise → Option Leaf = λ ps. Some (record { premises = ps; head = put f r l.head }) in
      ap h (sym (map-append (put_premise f r) l.premises (p ∷ [])))

  either : (b : Bool) (x y u v : Option Leaf) → u ≡ option_map (put_leaf f r) x → v ≡ option_map (put_leaf f r) y
      → (if b then u else v) ≡ option_map (put_leaf f r) (if b then x else y)
  either true x y u v e h = e
  either false x y u v e h = h

  leaf-put : (e : Env) (g : Form) (k : ℕ) (ts : List Term)
      → leaf_from (put_env f r e) (put_form f r g) k (map (put f r) ts) ≡ option_map (put_leaf f r) (leaf_from e g k ts)
  leaf-put e (Atom a) zero [] = let h : Term → Option Leaf = λ h. Some (record { premises = []; head = h }) in ap h (sym (put_close e a))
  leaf-put e (Atom a) zero (t ∷ ts) = refl
  leaf-put e (Atom a) (suc k) [] = refl
  leaf-put e (Atom a) (suc k) (t ∷ ts) = refl
  leaf-put e (With g h) k ts =
      rw (ways-put g) (either (nat_lt k (length (ways g))) (leaf_from e g k ts) (leaf_from e h (k - length (ways g)) ts) _ _ (leaf-put e g k ts)
      (leaf-put e h (k - length (ways g)) ts))
  leaf-put e (Lolli g h) k ts =
      let i = leaf-put e h k ts in let j = put_close_form e g in
      rw (i, ← j) (add_put (Needs (close_form e g)) (leaf_from e h k ts))
  leaf-put e (Imp g h) k ts =
      let i = leaf-put e h k ts in let j = put_close_form e g in
      rw (i, ← j) (add_put (NeedsFree (close_form e g)) (leaf_from e h k ts))
  leaf-put e (Forall g) k [] = refl
  leaf-put e (Forall g) k (t ∷ ts) = leaf-put (Some t ∷ e) g k ts
  leaf-put e _ k ts = refl

  spine-put : (t : Term) → is_spine t ≡ true → is_spine (put f r t) ≡ true
  spine-put (Var x) h = cc
  spine-put (Int z) h = cc
  spine-put (Con (Name n)) h = refl
  spine-put (Con (Eigen n)) h = refl
  spine-put (Con (Bound n)) h = refl
  spine-put (Ap t u) h = spine-put t h

  closed-put : (t : Term) → is_closed t ≡ true → is_closed (put f r t) ≡ true
  closed-put (Var x) h = cl x
  closed-put (Int z) h = refl
  closed-put (Con (Name n)) h = refl
  closed-put (Con (Eigen n)) h = refl
  closed-put (Con (Bound n)) h = cc
  closed-put (Ap t u) h =
      let i = and_left (is_spine t && is_closed t) (is_closed u) h in
      and_intro _ _ (and_intro _ _ (spine-put t (and_left (is_spine t) (is_closed t) i)) (closed-put t (and_right (is_spine t) (is_closed t) i)))
      (closed-put u (and_right (is_spine t && is_closed t) (is_closed u) h))

  all_closed-put : (ts : List Term) → AreClosed ts → AreClosed (map (put f r) ts)
  all_closed-put [] h = tt
  all_closed-put (t ∷ ts) h = (closed-put t (h.0), all_closed-put ts (h.1))

  -- ---- whole numbers: a term that has a value holds neither variables nor eigenvariables

  operator-kept : (ops : Operators) (t : Term) (o : Operator) → operator_of ops t ≡ Some o → put f r t ≡ t
  operator-kept ops (Var x) o h = cc
  operator-kept ops (Int z) o h = cc
  operator-kept ops (Con (Name n)) o h = refl
  operator-kept ops (Con (Eigen n)) o h = cc
  operator-kept ops (Con (Bound n)) o h = cc
  operator-kept ops (Ap t u) o h = cc

  value-kept : (ops : Operators) (t : Term) (z : ℤ) → value_of ops t ≡ Some z → put f r t ≡ t
  value-kept ops (Var x) z h = cc
  value-kept ops (Int y) z h = refl
  value-kept ops (Con k) z h = cc
  value-kept ops (Ap (Var x) u) z h = cc
  value-kept ops (Ap (Int y) u) z h = cc
  value-kept ops (Ap (Con k) u) z h = cc
  value-kept ops (Ap (Ap k t) u) z h =
      let c = combined_of (operator_of ops k) (value_of ops t) (value_of ops u) z h in
      let p = operator-kept ops k c.operator c.is in
      let q = value-kept ops t c.left c.left_is in
      let s = value-kept ops u c.right c.right_is in cc

  compared-kept : (ops : Operators) (test : ℤ → ℤ → Bool) (t u : Term) → compared test (value_of ops t) (value_of ops u) ≡ true
      → (put f r t ≡ t) × (put f r u ≡ u)
  compared-kept ops test t u h = step (value_of ops t) refl (value_of ops u) refl h
    where
      step : (a : Option ℤ) → value_of ops t ≡ a → (b : Option ℤ) → value_of ops u ≡ b → compared test a b ≡ true → (put f r t ≡ t) × (put f r u ≡ u)
      step None p b q i = cc
      step (Some x) p None q i = cc
      step (Some x) p (Some y) q i = (value-kept ops t x p, value-kept ops u y q)

  number-kept : (ops : Operators) (t u : Term) → is_number t (value_of ops u) ≡ true → (put f r t ≡ t) × (put f r u ≡ u)
  number-kept ops (Var x) u h = cc
  number-kept ops (Con k) u h = cc
  number-kept ops (Ap t s) u h = cc
  number-kept ops (Int y) u h = (refl, step (value_of ops u) refl h)
    where
      step : (o : Option ℤ) → value_of ops u ≡ o → is_number (Int y) o ≡ true → put f r u ≡ u
      step None e i = cc
      step (Some z) e i = value-kept ops u z e

  holding-kept : (ops : Operators) (o : Relation) (t u : Term) → holds ops o t u ≡ true → (put f r t ≡ t) × (put f r u ≡ u)
  holding-kept ops Is t u h = number-kept ops t u h
  holding-kept ops Less t u h = compared-kept ops int_lt t u h
  holding-kept ops Most t u h = compared-kept ops int_le t u h

  holds_put : (ops : Operators) (o : Relation) (t u : Term) → holds ops o t u ≡ true → holds ops o (put f r t) (put f r u) ≡ true
  holds_put ops o t u h =
      let k = holding-kept ops o t u h in ap (λ z. holds ops o z (put f r u)) (k.0) ∙ (ap (holds ops o t) (k.1) ∙ h)

-- ---- what has neither variables nor eigenvariables stays

module _ (f : ℕ → Term) (r : ℕ → ℕ) where
  put-fixed : (t : Term) → vars_below 0 t ≡ true → eigens_below 0 t ≡ true → put f r t ≡ t
  put-fixed (Var x) v e = none_below x v
  put-fixed (Int z) v e = refl
  put-fixed (Con (Name n)) v e = refl
  put-fixed (Con (Eigen n)) v e = none_below n e
  put-fixed (Con (Bound n)) v e = refl
  put-fixed (Ap t u) v e =
      let a = put-fixed t (and_left (vars_below 0 t) (vars_below 0 u) v) (and_left (eigens_below 0 t) (eigens_below 0 u) e) in
      let b = put-fixed u (and_right (vars_below 0 t) (vars_below 0 u) v) (and_right (eigens_below 0 t) (eigens_below 0 u) e) in cc

  all-fixed : (ts : List Term) → list_all (vars_below 0) ts ≡ true → list_all (eigens_below 0) ts ≡ true → map (put f r) ts ≡ ts
  all-fixed [] v e = refl
  all-fixed (t ∷ ts) v e =
      let a = put-fixed t (and_left (vars_below 0 t) (list_all (vars_below 0) ts) v) (and_left (eigens_below 0 t) (list_all (eigens_below 0) ts) e) in
      let b = all-fixed ts (and_right (vars_below 0 t) (list_all (vars_below 0) ts) v) (and_right (eigens_below 0 t) (list_all (eigens_below 0) ts) e) in cc

  abbrev Varless : ℕ → Form → Bool
  Varless n g = each_term (λ n. vars_below 0) n g

  abbrev Eigenless : ℕ → Form → Bool
  Eigenless n g = each_term (λ n. eigens_below 0) n g

  pub form-fixed : (n : ℕ) (g : Form) → Varless n g ≡ true → Eigenless n g ≡ true → put_form f r g ≡ g
  form-fixed n Top v e = refl
  form-fixed n One v e = refl
  form-fixed n (Atom a) v e = ap Atom (put-fixed a v e)
  form-fixed n (With g h) v e =
      let a = form-fixed n g (and_left (Varless n g) (Varless n h) v) (and_left (Eigenless n g) (Eigenless n h) e) in
      let b = form-fixed n h (and_right (Varless n g) (Varless n h) v) (and_right (Eigenless n g) (Eigenless n h) e) in cc
  form-fixed n (Tensor g h) v e =
      let a = form-fixed n g (and_left (Varless n g) (Varless n h) v) (and_left (Eigenless n g) (Eigenless n h) e) in
      let b = form-fixed n h (and_right (Varless n g) (Varless n h) v) (and_right (Eigenless n g) (Eigenless n h) e) in cc
  form-fixed n (Plus g h) v e =
      let a = form-fixed n g (and_left (Varless n g) (Varless n h) v) (and_left (Eigenless n g) (Eigenless n h) e) in
      let b = form-fixed n h (and_right (Varless n g) (Varless n h) v) (and_right (Eigenless n g) (Eigenless n h) e) in cc
  form-fixed n (Bang g) v e = ap Bang (form-fixed n g v e)
  form-fixed n (Lolli g h) v e =
      let a = form-fixed n g (and_left (Varless n g) (Varless n h) v) (and_left (Eigenless n g) (Eigenless n h) e) in
      let b = form-fixed n h (and_right (Varless n g) (Varless n h) v) (and_right (Eigenless n g) (Eigenless n h) e) in cc
  form-fixed n (Imp g h) v e =
      let a = form-fixed n g (and_left (Varless n g) (Varless n h) v) (and_left (Eigenless n g) (Eigenless n h) e) in
      let b = form-fixed n h (and_right (Varless n g) (Varless n h) v) (and_right (Eigenless n g) (Eigenless n h) e) in cc
  form-fixed n (Forall g) v e = ap Forall (form-fixed (suc n) g v e)
  form-fixed n (Exists g) v e = ap Exists (form-fixed (suc n) g v e)
  form-fixed n (Use m ts g) v e =
      let a = all-fixed ts (and_left (list_all (vars_below 0) ts) (Varless n g) v) (and_left (list_all (eigens_below 0) ts) (Eigenless n g) e) in
      let b = form-fixed n g (and_right (list_all (vars_below 0) ts) (Varless n g) v) (and_right (list_all (eigens_below 0) ts) (Eigenless n g) e) in cc
  form-fixed n (Num o t u) v e =
      let a = put-fixed t (and_left (vars_below 0 t) (vars_below 0 u) v) (and_left (eigens_below 0 t) (eigens_below 0 u) e) in
      let b = put-fixed u (and_right (vars_below 0 t) (vars_below 0 u) v) (and_right (eigens_below 0 t) (eigens_below 0 u) e) in cc

-- ---- new eigenvariables

-- eigenvariable c becomes j, and the others what they become
abbrev turned : (ℕ → ℕ) → ℕ → ℕ → ℕ → ℕ
turned r c j x = if nat_eq x c then j else r x

module _ (f : ℕ → Term) (r : ℕ → ℕ) (c j : ℕ) where
  put-new : (t : Term) → has_eigen c t ≡ false → put f (turned r c j) t ≡ put f r t
  put-new (Var x) h = refl
  put-new (Int z) h = refl
  put-new (Con (Name n)) h = refl
  put-new (Con (Bound n)) h = refl
  put-new (Con (Eigen k)) h =
      ap (λ b. Con (Eigen (if b then j else r k))) (ne_eqb k c (λ e. let n : c ≡ k → ⊥ = eqb-false c k h in n (sym e)))
  put-new (Ap t u) h =
      let a = put-new t (or_off_left (has_eigen c t) (has_eigen c u) h) in
      let b = put-new u (or_off_right (has_eigen c t) (has_eigen c u) h) in cc

  all-new : (ts : List Term) → list_any (has_eigen c) ts ≡ false → map (put f (turned r c j)) ts ≡ map (put f r) ts
  all-new [] h = refl
  all-new (t ∷ ts) h =
      let p = put-new t (or_off_left (has_eigen c t) (list_any (has_eigen c) ts) h) in
      let q = all-new ts (or_off_right (has_eigen c t) (list_any (has_eigen c) ts) h) in cc

  form-new : (g : Form) → form_has_eigen c g ≡ false → put_form f (turned r c j) g ≡ put_form f r g
  form-new Top h = refl
  form-new One h = refl
  form-new (Atom a) h = ap Atom (put-new a h)
  form-new (With g k) h =
      let p = form-new g (or_off_left (form_has_eigen c g) (form_has_eigen c k) h) in
      let q = form-new k (or_off_right (form_has_eigen c g) (form_has_eigen c k) h) in cc
  form-new (Tensor g k) h =
      let p = form-new g (or_off_left (form_has_eigen c g) (form_has_eigen c k) h) in
      let q = form-new k (or_off_right (form_has_eigen c g) (form_has_eigen c k) h) in cc
  form-new (Plus g k) h =
      let p = form-new g (or_off_left (form_has_eigen c g) (form_has_eigen c k) h) in
      let q = form-new k (or_off_right (form_has_eigen c g) (form_has_eigen c k) h) in cc
  form-new (Bang g) h = ap Bang (form-new g h)
  form-new (Lolli g k) h =
      let p = form-new g (or_off_left (form_has_eigen c g) (form_has_eigen c k) h) in
      let q = form-new k (or_off_right (form_has_eigen c g) (form_has_eigen c k) h) in cc
  form-new (Imp g k) h =
      let p = form-new g (or_off_left (form_has_eigen c g) (form_has_eigen c k) h) in
      let q = form-new k (or_off_right (form_has_eigen c g) (form_has_eigen c k) h) in cc
  form-new (Forall g) h = ap Forall (form-new g h)
  form-new (Exists g) h = ap Exists (form-new g h)
  form-new (Use m ts g) h =
      let p = all-new ts (or_off_left (list_any (has_eigen c) ts) (form_has_eigen c g) h) in
      let q = form-new g (or_off_right (list_any (has_eigen c) ts) (form_has_eigen c g) h) in cc
  form-new (Num o t u) h =
      let p = put-new t (or_off_left (has_eigen c t) (has_eigen c u) h) in
      let q = put-new u (or_off_right (has_eigen c t) (has_eigen c u) h) in cc

  forms-new : (gs : List Form) → list_any (form_has_eigen c) gs ≡ false → map (put_form f (turned r c j)) gs ≡ map (put_form f r) gs
  forms-new [] h = refl
  forms-new (g ∷ gs) h =
      let p = form-new g (or_off_left (form_has_eigen c g) (list_any (form_has_eigen c) gs) h) in
      let q = forms-new gs (or_off_right (form_has_eigen c g) (list_any (form_has_eigen c) gs) h) in cc

-- a number that no eigenvariable of the term reaches
abbrev term_top : Term → ℕ
term_top (Con (Eigen c)) = suc c
term_top (Ap t u) = term_top t + term_top u
term_top _ = 0

abbrev terms_top : List Term → ℕ
terms_top [] = 0
terms_top (t ∷ ts) = term_top t + terms_top ts

abbrev form_top : Form → ℕ
form_top (Atom a) = term_top a
form_top (With g h) = form_top g + form_top h
form_top (Tensor g h) = form_top g + form_top h
form_top (Plus g h) = form_top g + form_top h
form_top (Bang g) = form_top g
form_top (Lolli g h) = form_top g + form_top h
form_top (Imp g h) = form_top g + form_top h
form_top (Forall g) = form_top g
form_top (Exists g) = form_top g
form_top (Use m ts g) = terms_top ts + form_top g
form_top (Num o t u) = term_top t + term_top u
form_top _ = 0

abbrev forms_top : List Form → ℕ
forms_top [] = 0
forms_top (g ∷ gs) = form_top g + forms_top gs

neither : {a b : Bool} → a ≡ false → b ≡ false → a || b ≡ false
neither {b = b} p q = ap (λ z. z || b) p ∙ q

term_above : (c : ℕ) (t : Term) → term_top t ≤ c → has_eigen c t ≡ false
term_above c (Var x) h = refl
term_above c (Int z) h = refl
term_above c (Con (Name n)) h = refl
term_above c (Con (Bound n)) h = refl
term_above c (Con (Eigen k)) h = ne_eqb c k (λ e. omega (arith, e, h))
term_above c (Ap t u) h = neither (term_above c t (omega (arith, h))) (term_above c u (omega (arith, h)))

terms_above : (c : ℕ) (ts : List Term) → terms_top ts ≤ c → list_any (has_eigen c) ts ≡ false
terms_above c [] h = refl
terms_above c (t ∷ ts) h = neither (term_above c t (omega (arith, h))) (terms_above c ts (omega (arith, h)))

form_above : (c : ℕ) (g : Form) → form_top g ≤ c → form_has_eigen c g ≡ false
form_above c Top h = refl
form_above c One h = refl
form_above c (Atom a) h = term_above c a h
form_above c (With g k) h = neither (form_above c g (omega (arith, h))) (form_above c k (omega (arith, h)))
form_above c (Tensor g k) h = neither (form_above c g (omega (arith, h))) (form_above c k (omega (arith, h)))
form_above c (Plus g k) h = neither (form_above c g (omega (arith, h))) (form_above c k (omega (arith, h)))
form_above c (Bang g) h = form_above c g h
form_above c (Lolli g k) h = neither (form_above c g (omega (arith, h))) (form_above c k (omega (arith, h)))
form_above c (Imp g k) h = neither (form_above c g (omega (arith, h))) (form_above c k (omega (arith, h)))
form_above c (Forall g) h = form_above c g h
form_above c (Exists g) h = form_above c g h
form_above c (Use m ts g) h = neither (terms_above c ts (omega (arith, h))) (form_above c g (omega (arith, h)))
form_above c (Num o t u) h = neither (term_above c t (omega (arith, h))) (term_above c u (omega (arith, h)))

forms_above : (c : ℕ) (gs : List Form) → forms_top gs ≤ c → list_any (form_has_eigen c) gs ≡ false
forms_above c [] h = refl
forms_above c (g ∷ gs) h = neither (form_above c g (omega (arith, h))) (forms_above c gs (omega (arith, h)))

-- ---- loads

-- the clauses of each module have neither variables nor eigenvariables
abbrev StayPut : List ClauseTree → Type 0
StayPut [] = Unit {0}
StayPut (c ∷ cs) = ((f : ℕ → Term) (r : ℕ → ℕ) → put_form f r c.form ≡ c.form) × StayPut cs

abbrev pub ModulesStay : List ModuleTree → Type 0
ModulesStay [] = Unit {0}
ModulesStay (m ∷ ms) = StayPut m.clauses × ModulesStay ms

pub clauses_stay : (names : ℕ) (modules : List ModuleTree) (scope : Scope) (cs : List ClauseTree) → AreClauses names modules scope cs → StayPut cs
clauses_stay names modules scope [] h = tt
clauses_stay names modules scope (c ∷ cs) h =
    (λ f r. form-fixed f r 0 c.form (h.0).variables (h.0).eigens, clauses_stay names modules scope cs (h.2))

pub modules_stay : (names : ℕ) (modules ms : List ModuleTree) → AreModules names modules ms → ModulesStay ms
modules_stay names modules [] h = tt
modules_stay names modules (m ∷ ms) h = (clauses_stay names modules (module_scope m) m.clauses (h.0), modules_stay names modules ms (h.2))

module_stays : (ms : List ModuleTree) (k : ℕ) (m : ModuleTree) → ModulesStay ms → slice_get ms k ≡ Some m → StayPut m.clauses
module_stays [] k m h e = cc
module_stays (l ∷ ms) zero m h e = let p : l ≡ m = cc in subst (λ z. StayPut z.clauses) p (h.0)
module_stays (l ∷ ms) (suc k) m h e = module_stays ms k m (h.1) e

module _ (f : ℕ → Term) (cl : IsClosing f) (r : ℕ → ℕ) where
  load_put : (k : Kind) (g h : Form) → put_form f r (load k g h) ≡ load k (put_form f r g) (put_form f r h)
  load_put Linear g h = refl
  load_put Unbounded g h = refl

  load_all_put : (e : Env) (cs : List ClauseTree) (g : Form) → StayPut cs → put_form f r (load_all e cs g) ≡ load_all (put_env f r e) cs (put_form f r g)
  load_all_put e [] g s = refl
  load_all_put e (c ∷ cs) g s =
      load_put c.kind (close_form e c.form) (load_all e cs g)
      ∙ (ap (λ z. load c.kind z (put_form f r (load_all e cs g)))
      (put_close_form f cl r e c.form ∙ ap (close_form (put_env f r e)) (s.0 f r))
      ∙ ap (load c.kind (close_form (put_env f r e) c.form)) (load_all_put e cs g (s.1)))

  forall_all_put : (n : ℕ) (g : Form) → put_form f r (forall_all n g) ≡ forall_all n (put_form f r g)
  forall_all_put zero g = refl
  forall_all_put (suc n) g = ap Forall (forall_all_put n g)

  unfold_put : (m : ModuleTree) (ts : List Term) (g : Form) → StayPut m.clauses
      → put_form f r (unfold_load m ts g) ≡ unfold_load m (map (put f r) ts) (put_form f r g)
  unfold_put m ts g s =
      forall_all_put m.locals (load_all (map (λ t. Some t) (reverse ts)) m.clauses g)
      ∙ ap (forall_all m.locals) (load_all_put (map (λ t. Some t) (reverse ts)) m.clauses g s
      ∙ ap (λ e. load_all e m.clauses (put_form f r g)) env_put)
    where
      env_put : put_env f r (map (λ t. Some t) (reverse ts)) ≡ map (λ t. Some t) (reverse (map (put f r) ts))
      env_put =
          map_map (option_map (put f r)) (λ t. Some t) (reverse ts)
          ∙ (sym (map_map (λ t. Some t) (put f r) (reverse ts)) ∙ ap (map (λ t. Some t)) (map_onto (put f r) ts []))

-- ---- derivations

dealt_map : {A B : Type 0} (f : A → B) {xs ys zs : List A} → Dealt xs ys zs → Dealt (map f xs) (map f ys) (map f zs)
dealt_map f dealt_none = dealt_none
dealt_map f (dealt_left h) = dealt_left (dealt_map f h)
dealt_map f (dealt_right h) = dealt_right (dealt_map f h)

among_map : {A B : Type 0} (f : A → B) (x : A) (xs : List A) → Among x xs → Among (f x) (map f xs)
among_map f x [] m = absurd m
among_map f x (y ∷ ys) (inl e) = inl (ap f e)
among_map f x (y ∷ ys) (inr m) = inr (among_map f x ys m)

module _ (beside : Setting) (stay : ModulesStay beside.modules) (f : ℕ → Term) (cl : IsClosing f) where
  mutual
    pub put_derivation : (r : ℕ → ℕ) {m : ℕ} {c d : List Form} {g : Form} → Derivable beside m c d g
        → Derivable beside m (map (put_form f r) c) (map (put_form f r) d) (put_form f r g)
    put_derivation r by_one = by_one
    put_derivation r by_top = by_top
    put_derivation r (by_tensor s x y) = by_tensor (dealt_map (put_form f r) s) (put_derivation r x) (put_derivation r y)
    put_derivation r (by_with x y) = by_with (put_derivation r x) (put_derivation r y)
    put_derivation r (by_left x) = by_left (put_derivation r x)
    put_derivation r (by_right x) = by_right (put_derivation r x)
    put_derivation r (by_bang x) = by_bang (put_derivation r x)
    put_derivation r (by_lolli {m = m} {c = c} {d = d} {r = q} {g = g} x) =
        by_lolli (subst (λ e. Derivable beside m (map (put_form f r) c) e (put_form f r g)) (map-append (put_form f r) d (q ∷ [])) (put_derivation r x))
    put_derivation r (by_imp x) = by_imp (put_derivation r x)
    put_derivation r (by_forall {m = m} {c = c} {d = d} {g = g} k n x) =
        let fs : List Form = put_form f r g ∷ (map (put_form f r) c ++ map (put_form f r) d) in
        let j : ℕ = forms_top fs in
        let t : ℕ → ℕ = turned r k j in
        let own : t k ≡ j = ap (λ b. if b then j else r k) (eq-refl k) in
        let rest : list_any (form_has_eigen k) (c ++ d) ≡ false = or_off_right (form_has_eigen k g) (list_any (form_has_eigen k) (c ++ d)) n in
        let each : list_any (form_has_eigen k) c || list_any (form_has_eigen k) d ≡ false = sym (list_any-append (form_has_eigen k) c d) ∙ rest in
        let p : map (put_form f t) c ≡ map (put_form f r) c = forms-new f r k j c (or_off_left _ _ each) in
        let q : map (put_form f t) d ≡ map (put_form f r) d = forms-new f r k j d (or_off_right (list_any (form_has_eigen k) c) _ each) in
        let i : put_form f t (instantiate g (Con (Eigen k))) ≡ instantiate (put_form f r g) (Con (Eigen j)) =
        put_instantiate f cl t g (Con (Eigen k))
        ∙ (ap (λ z. instantiate z (Con (Eigen (t k)))) (form-new f r k j g (or_off_left (form_has_eigen k g) _ n))
        ∙ ap (λ z. instantiate (put_form f r g) (Con (Eigen z))) own) in
        by_forall j (forms_above j fs (omega arith))
        (subst (λ z. Derivable beside m (map (put_form f r) c) (map (put_form f r) d) z) i
        (subst (λ e. Derivable beside m (map (put_form f r) c) e (put_form f t (instantiate g (Con (Eigen k))))) q
        (subst (λ e. Derivable beside m e (map (put_form f t) d) (put_form f t (instantiate g (Con (Eigen k))))) p (put_derivation t x))))
    put_derivation r (by_exists {m = m} {c = c} {d = d} {g = g} t h x) =
        by_exists (put f r t) (closed-put f cl r t h)
        (subst (Derivable beside m (map (put_form f r) c) (map (put_form f r) d)) (put_instantiate f cl r g t) (put_derivation r x))
    put_derivation r (by_use {m = m} {k = k} {c = c} {d = d} {g = g} {ts = ts} l h x) =
        by_use l h
        (subst (Derivable beside m (map (put_form f r) c) (map (put_form f r) d)) (unfold_put f cl r l ts g (module_stays beside.modules k l stay h))
        (put_derivation r x))
    put_derivation r (by_num {r = o} {t = t} {u = u} h) = by_num (holds_put f cl r beside.operators o t u h)
    put_derivation r (by_free {c = c} q k ts ps i a lf x) =
        by_free (put_form f r q) k (map (put f r) ts) (map (put_premise f r) ps)
        (index_of (put_form f r q) (map (put_form f r) c) (among_map (put_form f r) q c (among c q i))) (all_closed-put f cl r ts a)
        (leaf-put f cl r [] q k ts ∙ ap (option_map (put_leaf f r)) lf) (put_premises r x)
    put_derivation r (by_linear q k ts ps s a lf x) =
        by_linear (put_form f r q) k (map (put f r) ts) (map (put_premise f r) ps) (dealt_map (put_form f r) s) (all_closed-put f cl r ts a)
        (leaf-put f cl r [] q k ts ∙ ap (option_map (put_leaf f r)) lf) (put_premises r x)

    put_premises : (r : ℕ → ℕ) {m : ℕ} {c d : List Form} {ps : List Premise} → Premises beside m c d ps
        → Premises beside m (map (put_form f r) c) (map (put_form f r) d) (map (put_premise f r) ps)
    put_premises r no_premise = no_premise
    put_premises r (a_premise s x y) = a_premise (dealt_map (put_form f r) s) (put_derivation r x) (put_premises r y)
    put_premises r (a_free_premise x y) = a_free_premise (put_derivation r x) (put_premises r y)

-- ---- clauses, and goals with terms for their variables

pub kind_stays : (f : ℕ → Term) (r : ℕ → ℕ) (k : Kind) (cs : List ClauseTree) → StayPut cs → map (put_form f r) (of_kind k cs) ≡ of_kind k cs
kind_stays f r k [] s = refl
kind_stays f r k (c ∷ cs) s = step (same_kind k c.kind) (s.0 f r) (kind_stays f r k cs (s.1))
  where
    step : (b : Bool) → put_form f r c.form ≡ c.form → map (put_form f r) (of_kind k cs) ≡ of_kind k cs
        → map (put_form f r) (if b then c.form ∷ of_kind k cs else of_kind k cs) ≡ (if b then c.form ∷ of_kind k cs else of_kind k cs)
    step true p q = cc
    step false p q = q

put-plain : (f : ℕ → Term) (t : Term) → put f (λ c. c) t ≡ sub f t
put-plain f (Var x) = refl
put-plain f (Int z) = refl
put-plain f (Con (Name n)) = refl
put-plain f (Con (Eigen n)) = refl
put-plain f (Con (Bound n)) = refl
put-plain f (Ap t u) = let p = put-plain f t in let q = put-plain f u in cc

-- on variables below n, putting terms into g's is h
module _ (f g h : ℕ → Term) (n : ℕ) (same : (x : ℕ) → x < n → sub f (g x) ≡ h x) where
  abbrev Within : ℕ → Form → Bool
  Within k q = each_term (λ k. vars_below n) k q

  put-sub : (t : Term) → vars_below n t ≡ true → put f (λ c. c) (sub g t) ≡ sub h t
  put-sub (Var x) v = put-plain f (g x) ∙ same x (ltb-true x n v)
  put-sub (Int z) v = refl
  put-sub (Con (Name k)) v = refl
  put-sub (Con (Eigen k)) v = refl
  put-sub (Con (Bound k)) v = refl
  put-sub (Ap t u) v =
      let p = put-sub t (and_left (vars_below n t) (vars_below n u) v) in
      let q = put-sub u (and_right (vars_below n t) (vars_below n u) v) in cc

  all-put-sub : (ts : List Term) → list_all (vars_below n) ts ≡ true → map (put f (λ c. c)) (map (sub g) ts) ≡ map (sub h) ts
  all-put-sub [] v = refl
  all-put-sub (t ∷ ts) v =
      let p = put-sub t (and_left (vars_below n t) (list_all (vars_below n) ts) v) in
      let q = all-put-sub ts (and_right (vars_below n t) (list_all (vars_below n) ts) v) in cc

  pub form-put-sub : (k : ℕ) (q : Form) → Within k q ≡ true → put_form f (λ c. c) (sub_form g q) ≡ sub_form h q
  form-put-sub k Top v = refl
  form-put-sub k One v = refl
  form-put-sub k (Atom a) v = ap Atom (put-sub a v)
  form-put-sub k (With q r) v =
      let a = form-put-sub k q (and_left (Within k q) (Within k r) v) in let b = form-put-sub k r (and_right (Within k q) (Within k r) v) in cc
  form-put-sub k (Tensor q r) v =
      let a = form-put-sub k q (and_left (Within k q) (Within k r) v) in let b = form-put-sub k r (and_right (Within k q) (Within k r) v) in cc
  form-put-sub k (Plus q r) v =
      let a = form-put-sub k q (and_left (Within k q) (Within k r) v) in let b = form-put-sub k r (and_right (Within k q) (Within k r) v) in cc
  form-put-sub k (Bang q) v = ap Bang (form-put-sub k q v)
  form-put-sub k (Lolli q r) v =
      let a = form-put-sub k q (and_left (Within k q) (Within k r) v) in let b = form-put-sub k r (and_right (Within k q) (Within k r) v) in cc
  form-put-sub k (Imp q r) v =
      let a = form-put-sub k q (and_left (Within k q) (Within k r) v) in let b = form-put-sub k r (and_right (Within k q) (Within k r) v) in cc
  form-put-sub k (Forall q) v = ap Forall (form-put-sub (suc k) q v)
  form-put-sub k (Exists q) v = ap Exists (form-put-sub (suc k) q v)
  form-put-sub k (Use m ts q) v =
      let a = all-put-sub ts (and_left (list_all (vars_below n) ts) (Within k q) v) in
      let b = form-put-sub k q (and_right (list_all (vars_below n) ts) (Within k q) v) in cc
  form-put-sub k (Num o t u) v =
      let a = put-sub t (and_left (vars_below n t) (vars_below n u) v) in let b = put-sub u (and_right (vars_below n t) (vars_below n u) v) in cc
