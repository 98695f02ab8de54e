-- The outermost signs of terms that are read under bindings.
use Rattle.std.proofs.Common.{◌≡◌, ℕ, suc, ◌<◌, true, List, [], ◌∷◌, length, map, slice_index_or, refl, ap, sym, ◌∙◌, arith, All}
use Rattle.std.specs.Prelude.{Option, Some, None, option_map, unwrap_or, ℤ}
use Rattle.std.proofs.lemmas.List.Elements.{All-head}
use Rattle.ll_list_laws.proofs.CallerLemmas.{and_true_left as and_left, and_true_right as and_right}
use Rattle.ll_bank.specs.declared.At.{At}
use Rattle.ll_bank.specs.declared.Head.{Head}
use Rattle.ll_bank.specs.Term.{Term, Var, Int, Con, Ap, sub, app, apply, head_of, is_spine, same_head}
use Rattle.ll_bank.specs.Nodes.{Nodes, HasTerm, term_tree, term_trees}
use Rattle.ll_bank.proofs.CallerLemmas.{is_spine-apply, spine_of_head, sub-app}
use Rattle.ll_unify.specs.Bindings.{Table, IsTable, IsPlaceOf, IsFree, AreSame, found, count}
use Rattle.ll_unify.proofs.CallerLemmas.{found-free, found-bound, place-below}
use Rattle.ll_laws.specs.Unify.{vars_below}
use Rattle.ll_index.specs.declared.laws.First.TheVariants.{Open, Int as IntSign}
use Rattle.ll_index.specs.First.{name_sign, sign_of, sign_if_some, first_argument, first_of}
use Rattle.ll_index.proofs.CallerLemmas.{sign_of-read}
use Rattle.ll_engine.specs.declared.heads.Predicate.{Predicate}
use Rattle.ll_engine.specs.Leaves.{has_predicate}
use Rattle.ll_engine.proofs.machine.Standing.{spine-head, spine-arity}

-- ---- what is read

-- what stands for variables leaves the sign of a head with arguments
pub spine_sign : (s : ℕ → Term) (u : Term) → is_spine u ≡ true → sign_of (sub s u) ≡ sign_of u
spine_sign s (Var x) e = cc
spine_sign s (Int z) e = refl
spine_sign s (Con h) e = refl
spine_sign s (Ap f a) e = (λ i. name_sign (spine-head s f e i) (suc (spine-arity s f e i)))

-- where a walk ends what is read is the same
module _ (nodes : Nodes) (t : Table) (tb : IsTable nodes t) (at end : At) (same : AreSame nodes t (term_tree nodes end.0) (term_tree nodes at.0)) where
  read_end : sub (found nodes t) (term_tree nodes at.0) ≡ sub (found nodes t) (term_tree nodes end.0)
  read_end = sym (same (found nodes t) (λ x to e. found-bound nodes t x to tb e))

  pub sign_app : (h : Head) (args : List At) → term_tree nodes end.0 ≡ app h (term_trees nodes args)
      → sign_of (sub (found nodes t) (term_tree nodes at.0)) ≡ name_sign (Some h) (length args)
  sign_app h args e =
      ap sign_of read_end
      ∙ (spine_sign (found nodes t) (term_tree nodes end.0) (ap is_spine e ∙ is_spine-apply (Con h) (term_trees nodes args) refl)
      ∙ sign_of-read nodes (term_tree nodes end.0) h args e)

  pub sign_var : (x : ℕ) → term_tree nodes end.0 ≡ Var x → IsFree t (term_tree nodes end.0) → sign_of (sub (found nodes t) (term_tree nodes at.0)) ≡ Open
  sign_var x e free = ap sign_of (read_end ∙ (ap (sub (found nodes t)) e ∙ found-free nodes t x (free x e)))

  pub sign_int : (z : ℤ) → term_tree nodes end.0 ≡ Int z → sign_of (sub (found nodes t) (term_tree nodes at.0)) ≡ IntSign z
  sign_int z e = ap sign_of (read_end ∙ ap (sub (found nodes t)) e)

-- ---- first arguments

module _ (s : ℕ → Term) where
  first-sub : (t : Term) → is_spine t ≡ true → first_argument (sub s t) ≡ option_map (sub s) (first_argument t)
  first-sub (Var x) e = cc
  first-sub (Int z) e = cc
  first-sub (Con h) e = refl
  first-sub (Ap f a) e = ap (λ o. Some (unwrap_or o (sub s a))) (first-sub f e) ∙ go (first_argument f)
    where
      go : (o : Option Term) → Some (unwrap_or (option_map (sub s) o) (sub s a)) ≡ option_map (sub s) (Some (unwrap_or o a))
      go None = refl
      go (Some x) = refl

  first-apply : (f a : Term) (ts : List Term) → first_argument (apply (Ap f a) ts) ≡ first_argument (Ap f a)
  first-apply f a [] = refl
  first-apply f a (t ∷ ts) = first-apply (Ap f a) t ts

  -- no argument
  pub first_none : (nodes : Nodes) (t : Term) (h : Head) (args : List At) → t ≡ app h (term_trees nodes args) → args ≡ [] → first_of (sub s t) ≡ Open
  first_none nodes t h args e n = ap (λ u. first_of (sub s u)) (e ∙ ap (λ as'. app h (term_trees nodes as')) n)

  -- the first of several
  pub first_of_app : (h : Head) (t : Term) (ts : List Term) → first_of (sub s (app h (t ∷ ts))) ≡ sign_of (sub s t)
  first_of_app h t ts = ap sign_if_some (first-sub (app h (t ∷ ts)) (is_spine-apply (Con h) (t ∷ ts) refl) ∙ ap (option_map (sub s)) (first-apply (Con h) t ts))

  pub first_some : (nodes : Nodes) (t : Term) (h : Head) (a : At) (args : List At) → t ≡ app h (term_trees nodes (a ∷ args))
      → first_of (sub s t) ≡ sign_of (sub s (term_tree nodes a.0))
  first_some nodes t h a args e = ap (λ u. first_of (sub s u)) e ∙ first_of_app h (term_tree nodes a.0) (term_trees nodes args)

-- an argument has no variables but those of the term
pub below-apply : (n : ℕ) (f : Term) (ts : List Term) → vars_below n (apply f ts) ≡ true → vars_below n f ≡ true
below-apply n f [] e = e
below-apply n f (t ∷ ts) e = and_left (vars_below n f) (vars_below n t) (below-apply n (Ap f t) ts e)

pub below_first : (s : ℕ → Term) (n : ℕ) (h : Head) (t : Term) (ts : List Term) → vars_below n (sub s (app h (t ∷ ts))) ≡ true
    → vars_below n (sub s t) ≡ true
below_first s n h t ts e =
    and_right (vars_below n (Con h)) (vars_below n (sub s t))
    (below-apply n (Ap (Con h) (sub s t)) (map (sub s) ts) (ap (vars_below n) (sym (sub-app s h (t ∷ ts))) ∙ e))

pub first_place : (nodes : Nodes) (t : Table) (u : Term) (h : Head) (a : At) (args : List At) → IsTable nodes t → u ≡ app h (term_trees nodes (a ∷ args))
    → HasTerm nodes a.0
    → vars_below (count t) (sub (found nodes t) u) ≡ true → IsPlaceOf nodes t a.0
first_place nodes t u h a args tb e inside below =
    place-below nodes t a.0 tb inside
    (below_first (found nodes t) (count t) h (term_tree nodes a.0) (term_trees nodes args) (ap (λ v. vars_below (count t) (sub (found nodes t) v)) (sym e)
    ∙ below))

-- ---- heads

-- what has a predicate has a head
pub spine_of_predicate : (p : Predicate) (t : Term) → has_predicate p t ≡ true → is_spine t ≡ true
spine_of_predicate p (Var x) e = cc
spine_of_predicate p (Int z) e = cc
spine_of_predicate p (Con k) e = refl
spine_of_predicate p (Ap f a) e = go (head_of f) refl (and_left (same_head (Some p.head) (head_of f)) _ e)
  where
    go : (o : Option Head) → head_of f ≡ o → same_head (Some p.head) o ≡ true → is_spine f ≡ true
    go None q w = cc
    go (Some h) q w = spine_of_head f h q

-- the first of several arguments, as a place of a list
pub first_at_place : (nodes : Nodes) (t : Table) (u : Term) (h : Head) (args : List At) (d : At) (n : ℕ) → IsTable nodes t → u ≡ app h (term_trees nodes args)
    → All (λ (a : At). a.0 < n) args
    → n < length nodes.terms → 0 < length args → vars_below (count t) (sub (found nodes t) u) ≡ true → IsPlaceOf nodes t (slice_index_or args 0 d).0
first_at_place nodes t u h [] d n tb e all inside some below = absurd (omega arith)
first_at_place nodes t u h (a ∷ args) d n tb e all inside some below =
    first_place nodes t u h a args tb e (let l = All-head (λ (b : At). b.0 < n) a args all in omega arith) below

pub first_at : (s : ℕ → Term) (nodes : Nodes) (u : Term) (h : Head) (args : List At) (d : At) → u ≡ app h (term_trees nodes args) → 0 < length args
    → sign_of (sub s (term_tree nodes (slice_index_or args 0 d).0)) ≡ first_of (sub s u)
first_at s nodes u h [] d e some = absurd (omega arith)
first_at s nodes u h (a ∷ args) d e some = sym (first_some s nodes u h a args e)
