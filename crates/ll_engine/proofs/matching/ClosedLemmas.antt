-- Terms whose free bound places stand for variables: their heads, and the outermost signs of their arguments.
use Rattle.std.proofs.Common.{◌≡◌, ℕ, zero, suc, ◌+◌, ◌-◌, ◌<◌, ◌≤◌, true, false, List, [], ◌∷◌, length, map, refl, ap, sym, ◌∙◌, arith, All}
use Rattle.std.proofs.Common.{slice_index_or}
use Rattle.std.specs.Prelude.{◌&&◌, Some, None}
use Rattle.std.proofs.lemmas.Bool.{ltb-true}
use Rattle.std.proofs.lemmas.List.{length-map}
use Rattle.std.proofs.lemmas.List.Elements.{All-head}
use Rattle.ll_list_laws.proofs.CallerLemmas.{and_true_left as and_left, and_true_right as and_right}
use Rattle.ll_bank.specs.declared.At.{At}
use Rattle.ll_bank.specs.declared.Head.{Head}
use Rattle.ll_bank.specs.declared.Head.TheVariants.{Name, Eigen, Bound}
use Rattle.ll_bank.specs.declared.environment.Environment.{Environment}
use Rattle.ll_bank.specs.Environments.{values_before, values_in}
use Rattle.ll_bank.specs.Term.{Term, Var, Int, Con, Ap, Env, sub, app, apply, head_of, arity, is_spine, place, close, applies_heads, not_bound}
use Rattle.ll_bank.specs.Nodes.{Nodes, term_tree, term_trees}
use Rattle.ll_bank.proofs.CallerLemmas.{close-apply, sub-apply, heads_args, is_spine-apply, head_of-app, arity-app}
use Rattle.ll_unify.specs.Bindings.{Table, IsTable, IsPlaceOf, found, count, cell}
use Rattle.ll_unify.proofs.CallerLemmas.{found-bound, place-below}
use Rattle.ll_bind.specs.Built.{begins_fixed}
use Rattle.ll_laws.specs.Unify.{vars_below}
use Rattle.ll_laws.specs.Valid.{places_below}
use Rattle.ll_index.specs.declared.laws.First.TheVariants.{Open}
use Rattle.ll_index.specs.First.{name_sign, sign_of, first_of}
use Rattle.ll_engine.proofs.matching.SignLemmas.{first_of_app, below_first, below-apply, spine_sign}

-- ---- terms that begin with a fixed sign

-- the sign of a head with arguments
spine-sign_of : (t : Term) → is_spine t ≡ true → sign_of t ≡ name_sign (head_of t) (arity t)
spine-sign_of (Var x) e = cc
spine-sign_of (Int z) e = cc
spine-sign_of (Con h) e = refl
spine-sign_of (Ap f a) e = refl

-- a term that begins with a fixed sign has a head
pub no_sign : (t : Term) → begins_fixed t ≡ true → head_of t ≡ None → ⊥
no_sign (Var x) e n = cc
no_sign (Int z) e n = cc
no_sign (Con h) e n = cc
no_sign (Ap f a) e n = no_sign f e n

-- arguments leave the sign in front
pub begins-apply : (t : Term) (ts : List Term) → begins_fixed (apply t ts) ≡ begins_fixed t
begins-apply t [] = refl
begins-apply t (u ∷ us) = begins-apply (Ap t u) us

module _ (env : Env) where
  -- closing leaves the head and the number of arguments
  pub close-head : (t : Term) → begins_fixed t ≡ true → head_of (close env t) ≡ head_of t
  close-head (Var x) e = cc
  close-head (Int z) e = cc
  close-head (Con (Name n)) e = refl
  close-head (Con (Eigen n)) e = refl
  close-head (Con (Bound k)) e = cc
  close-head (Ap f a) e = close-head f e

  pub close-arity : (t : Term) → begins_fixed t ≡ true → arity (close env t) ≡ arity t
  close-arity (Var x) e = cc
  close-arity (Int z) e = cc
  close-arity (Con (Name n)) e = refl
  close-arity (Con (Eigen n)) e = refl
  close-arity (Con (Bound k)) e = cc
  close-arity (Ap f a) e = ap suc (close-arity f e)

  close-fixed : (h : Head) → not_bound h ≡ true → close env (Con h) ≡ Con h
  close-fixed (Name n) e = refl
  close-fixed (Eigen n) e = refl
  close-fixed (Bound k) e = cc

  -- a closed application is its sign at its closed arguments
  pub close_app : (nodes : Nodes) (t : Term) (h : Head) (args : List At) → t ≡ app h (term_trees nodes args) → not_bound h ≡ true
      → close env t ≡ app h (map (close env) (term_trees nodes args))
  close_app nodes t h args e fixed =
      ap (close env) e ∙ (close-apply env (Con h) (term_trees nodes args) ∙ ap (λ f. apply f (map (close env) (term_trees nodes args))) (close-fixed h fixed))

-- the sign of an application is the one that its term begins with
pub fixed_sign : (nodes : Nodes) (t : Term) (h : Head) (args : List At) → t ≡ app h (term_trees nodes args) → begins_fixed t ≡ true → not_bound h ≡ true
fixed_sign nodes t h args e b = sym (begins-apply (Con h) (term_trees nodes args)) ∙ (ap begins_fixed (sym e) ∙ b)

-- ---- bound places that stand for variables

-- what has arguments begins with a head
heads_below : (f : Term) (ts : List Term) → applies_heads (apply f ts) ≡ true → applies_heads f ≡ true
heads_below f [] e = e
heads_below f (t ∷ ts) e =
    and_right (is_spine f) (applies_heads f)
    (and_left (is_spine f && applies_heads f) (applies_heads t) (heads_below (Ap f t) ts e))

module _ (s : ℕ → Term) where
  bound_open : (k : ℕ) (ts : List Term) → sign_of (sub s (app (Bound k) ts)) ≡ Open
  bound_open k ts =
      spine_sign s (app (Bound k) ts) (is_spine-apply (Con (Bound k)) ts refl)
      ∙ (spine-sign_of (app (Bound k) ts) (is_spine-apply (Con (Bound k)) ts refl)
      ∙ ap (λ h. name_sign h (arity (app (Bound k) ts))) (head_of-app (Bound k) ts))

  -- with arguments it has the sign that it has without
  sign_alone : (end count k n : ℕ) (ts : List Term) → applies_heads (apply (place (values_before end count) k n) ts) ≡ true
      → sign_of (sub s (apply (place (values_before end count) k n) ts)) ≡ sign_of (sub s (place (values_before end count) k n))
  sign_alone end zero k n ts e = bound_open (n + k) ts ∙ sym (bound_open (n + k) [])
  sign_alone end (suc count) zero n [] e = refl
  sign_alone end (suc count) zero n (t ∷ ts) e = let h : false ≡ true = heads_below (Ap (Var (end - 1)) t) ts e in cc
  sign_alone end (suc count) (suc k) n ts e = sign_alone (end - 1) count k n ts e

  -- past the environment it stands for itself
  pub sign_past : (end count k n : ℕ) → count ≤ k → sign_of (sub s (place (values_before end count) k n)) ≡ Open
  sign_past end zero k n l = bound_open (n + k) []
  sign_past end (suc count) zero n l = absurd (omega arith)
  sign_past end (suc count) (suc k) n l = sign_past (end - 1) count k n (omega arith)

-- so no term begins with a fixed sign but one that does as it stands
not_fixed : (end count k n : ℕ) (P : Type 0) → is_spine (place (values_before end count) k n) ≡ true
    → places_below 0 (place (values_before end count) k n) ≡ true → P
not_fixed end zero k n P e b = absurd (let l = ltb-true (n + k) 0 b in omega (arith, l))
not_fixed end (suc count) zero n P e b = cc
not_fixed end (suc count) (suc k) n P e b = not_fixed (end - 1) count k n P e b

pub begins_closed : (e : Environment) (t : Term) → is_spine (close (values_in e) t) ≡ true → places_below 0 (close (values_in e) t) ≡ true
    → begins_fixed t ≡ true
begins_closed e (Var x) s b = cc
begins_closed e (Int z) s b = cc
begins_closed e (Con (Name n)) s b = refl
begins_closed e (Con (Eigen n)) s b = refl
begins_closed e (Con (Bound k)) s b = not_fixed e.end e.count k 0 _ s b
begins_closed e (Ap f a) s b =
    begins_closed e f s (and_left (places_below 0 (close (values_in e) f)) (places_below 0 (close (values_in e) a)) b)

-- ---- signs of closed terms

module _ (s : ℕ → Term) (env : Env) (nodes : Nodes) (t : Term) (h : Head) where
  -- one that begins with a fixed sign
  pub closed_sign : (args : List At) → t ≡ app h (term_trees nodes args) → not_bound h ≡ true
      → sign_of (sub s (close env t)) ≡ name_sign (Some h) (length args)
  closed_sign args is fixed =
      let closed : List Term = map (close env) (term_trees nodes args) in
      let many : length closed ≡ length args =
      length-map (term_trees nodes args) (close env) ∙ length-map args (λ (a : At). term_tree nodes a.0) in
      let spine : is_spine (app h closed) ≡ true = is_spine-apply (Con h) closed refl in
      ap (λ u. sign_of (sub s u)) (close_app env nodes t h args is fixed)
      ∙ (spine_sign s (app h closed) spine
      ∙ (spine-sign_of (app h closed) spine
      ∙ (ap (λ g. name_sign g (arity (app h closed))) (head_of-app h closed) ∙ ap (name_sign (Some h)) (arity-app h closed ∙ many))))

  -- one without arguments has no first one
  pub closed_none : (args : List At) → t ≡ app h (term_trees nodes args) → not_bound h ≡ true → length args ≡ 0 → first_of (sub s (close env t)) ≡ Open
  closed_none [] is fixed none = ap (λ u. first_of (sub s u)) (close_app env nodes t h [] is fixed)
  closed_none (a ∷ args) is fixed none = absurd (omega (arith, none))

  -- the first argument of another
  pub closed_first : (args : List At) (d : At) → t ≡ app h (term_trees nodes args) → not_bound h ≡ true → 0 < length args
      → sign_of (sub s (close env (term_tree nodes (slice_index_or args 0 d).0))) ≡ first_of (sub s (close env t))
  closed_first [] d is fixed some = absurd (omega arith)
  closed_first (a ∷ args) d is fixed some =
      sym (ap (λ u. first_of (sub s u)) (close_app env nodes t h (a ∷ args) is fixed)
      ∙ first_of_app s h (close env (term_tree nodes a.0)) (map (close env) (term_trees nodes args)))

  -- its variables are among those of the term
  pub closed_below : (n : ℕ) (args : List At) (d : At) → t ≡ app h (term_trees nodes args) → not_bound h ≡ true → 0 < length args
      → vars_below n (sub s (close env t)) ≡ true → vars_below n (sub s (close env (term_tree nodes (slice_index_or args 0 d).0))) ≡ true
  closed_below n [] d is fixed some b = absurd (omega arith)
  closed_below n (a ∷ args) d is fixed some b =
      below_first s n h (close env (term_tree nodes a.0)) (map (close env) (term_trees nodes args))
      (ap (λ u. vars_below n (sub s u)) (sym (close_app env nodes t h (a ∷ args) is fixed)) ∙ b)

  -- and in it nothing but a head has arguments
  pub closed_heads : (args : List At) (d : At) → t ≡ app h (term_trees nodes args) → not_bound h ≡ true → 0 < length args
      → applies_heads (close env t) ≡ true → applies_heads (close env (term_tree nodes (slice_index_or args 0 d).0)) ≡ true
  closed_heads [] d is fixed some b = absurd (omega arith)
  closed_heads (a ∷ args) d is fixed some b =
      All-head (λ u. applies_heads u ≡ true) (close env (term_tree nodes a.0)) (map (close env) (term_trees nodes args))
      (heads_args (Con h) (map (close env) (term_trees nodes (a ∷ args)))
      (ap (λ u. applies_heads u) (sym (close_app env nodes t h (a ∷ args) is fixed)) ∙ b))

pub first_inside : (args : List At) (d : At) (n m : ℕ) → All (λ (a : At). a.0 < n) args → n < m → 0 < length args → (slice_index_or args 0 d).0 < m
first_inside [] d n m all l some = absurd (omega arith)
first_inside (a ∷ args) d n m all l some = let k = All-head (λ (b : At). b.0 < n) a args all in omega arith

-- one that begins with a bound place
module _ (s : ℕ → Term) (e : Environment) (nodes : Nodes) (t : Term) (k : ℕ) (args : List At) (is : t ≡ app (Bound k) (term_trees nodes args)) where
  abbrev values : List Term
  values = map (close (values_in e)) (term_trees nodes args)

  opened : close (values_in e) t ≡ apply (place (values_in e) k 0) values
  opened = ap (close (values_in e)) is ∙ close-apply (values_in e) (Con (Bound k)) (term_trees nodes args)

  pub bound_sign : applies_heads (close (values_in e) t) ≡ true → sign_of (sub s (place (values_in e) k 0)) ≡ sign_of (sub s (close (values_in e) t))
  bound_sign heads =
      sym (ap (λ u. sign_of (sub s u)) opened ∙ sign_alone s e.end e.count k 0 values (ap (λ u. applies_heads u) (sym opened) ∙ heads))

  pub bound_below : (n : ℕ) → vars_below n (sub s (close (values_in e) t)) ≡ true → vars_below n (sub s (place (values_in e) k 0)) ≡ true
  bound_below n b =
      below-apply n (sub s (place (values_in e) k 0)) (map (sub s) values)
      (ap (vars_below n) (sym (ap (sub s) opened ∙ sub-apply s (place (values_in e) k 0) values)) ∙ b)

-- what a variable is bound to is a place whose variables have cells
pub value_place : (nodes : Nodes) (t : Table) (x : ℕ) (to : At) → IsTable nodes t → vars_below (count t) (found nodes t x) ≡ true
    → cell t x ≡ Some to → IsPlaceOf nodes t to.0
value_place nodes t x to tb b c = place-below nodes t to.0 tb (tb.places x to c) (ap (vars_below (count t)) (sym (found-bound nodes t x to tb c)) ∙ b)
