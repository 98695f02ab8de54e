-- Terms that get arguments: their heads and their number of arguments, and what a substitution makes of them.
use Rattle.std.proofs.Common.{◌≡◌, ℕ, ◌+◌, true, List, [], ◌∷◌, ◌++◌, length, map, refl, arith, Some}
use Rattle.ll_bank.specs.declared.Head.{Head}
use Rattle.ll_bank.specs.Term.{Term, Var, Int, Con, Ap, apply, app, sub, head_of, arity, is_spine}

pub head_of-apply : (f : Term) (ts : List Term) → head_of (apply f ts) ≡ head_of f
head_of-apply f [] = refl
head_of-apply f (t ∷ ts) = head_of-apply (Ap f t) ts

pub head_of-app : (h : Head) (ts : List Term) → head_of (app h ts) ≡ Some h
head_of-app h ts = head_of-apply (Con h) ts

pub arity-apply : (f : Term) (ts : List Term) → arity (apply f ts) ≡ arity f + length ts
arity-apply f [] = omega arith
arity-apply f (t ∷ ts) = let e = arity-apply (Ap f t) ts in omega arith

pub arity-app : (h : Head) (ts : List Term) → arity (app h ts) ≡ length ts
arity-app h ts = let e = arity-apply (Con h) ts in omega arith

pub sub-apply : (s : ℕ → Term) (f : Term) (ts : List Term) → sub s (apply f ts) ≡ apply (sub s f) (map (sub s) ts)
sub-apply s f [] = refl
sub-apply s f (t ∷ ts) = sub-apply s (Ap f t) ts

pub sub-app : (s : ℕ → Term) (h : Head) (ts : List Term) → sub s (app h ts) ≡ app h (map (sub s) ts)
sub-app s h ts = sub-apply s (Con h) ts

pub apply-push : (f : Term) (ts : List Term) (t : Term) → apply f (ts ++ t ∷ []) ≡ Ap (apply f ts) t
apply-push f [] t = refl
apply-push f (u ∷ ts) t = apply-push (Ap f u) ts t

pub is_spine-apply : (f : Term) (ts : List Term) → is_spine f ≡ true → is_spine (apply f ts) ≡ true
is_spine-apply f [] h = h
is_spine-apply f (t ∷ ts) h = is_spine-apply (Ap f t) ts h

-- a term with a head begins with it
pub spine_of_head : (t : Term) (h : Head) → head_of t ≡ Some h → is_spine t ≡ true
spine_of_head (Var x) h e = cc
spine_of_head (Int z) h e = cc
spine_of_head (Con k) h e = refl
spine_of_head (Ap f a) h e = spine_of_head f h e
