-- The keys of heads that are read from a bank.
use Rattle.std.proofs.Common.{◌≡◌, suc, ◌+◌, Bool, true, false, List, [], ◌∷◌, length, refl, ap, ◌∙◌, arith}
use Rattle.std.specs.Prelude.{Some, if◌then◌else◌}
use Rattle.std.proofs.lemmas.List.{length-map}
use Rattle.ll_bank.specs.declared.At.{At}
use Rattle.ll_bank.specs.declared.Head.{Head}
use Rattle.ll_bank.specs.Term.{Term, Con, Ap, apply, app, head_of, arity}
use Rattle.ll_bank.specs.Nodes.{Nodes, term_tree, term_trees}
use Rattle.ll_bank.proofs.CallerLemmas.{head_of-app, arity-app}
use Rattle.ll_index.specs.declared.laws.First.TheVariants.{Open}
use Rattle.ll_index.specs.First.{name_sign, sign_of, first_of}
use Rattle.ll_index.specs.Keys.{named_key, key_of, sign_of_first}

-- more arguments leave the first one
first_of-apply : (f a : Term) (ts : List Term) → first_of (apply (Ap f a) ts) ≡ first_of (Ap f a)
first_of-apply f a [] = refl
first_of-apply f a (t ∷ ts) = first_of-apply (Ap f a) t ts

first_of-app : (h : Head) (ts : List Term) → first_of (app h ts) ≡ sign_of_first true ts
first_of-app h [] = refl
first_of-app h (t ∷ ts) = first_of-apply (Con h) t ts

first_by : (by_sign : Bool) (ts : List Term) (h : Head) → (if by_sign then first_of (app h ts) else Open) ≡ sign_of_first by_sign ts
first_by true ts h = first_of-app h ts
first_by false [] h = refl
first_by false (t ∷ ts) h = refl

-- the key of an application that is read
pub key_of-app : (nodes : Nodes) (t : Term) (h : Head) (args : List At) (by_sign : Bool) → t ≡ app h (term_trees nodes args)
    → key_of by_sign t ≡ named_key (Some h) (length args) (sign_of_first by_sign (term_trees nodes args))
key_of-app nodes t h args by_sign e =
    let ts = term_trees nodes args in
    ap (key_of by_sign) e
    ∙ (ap (λ o. named_key o (arity (app h ts)) (if by_sign then first_of (app h ts) else Open)) (head_of-app h ts)
    ∙ (ap (λ k. named_key (Some h) k (if by_sign then first_of (app h ts) else Open)) (arity-app h ts ∙ length-map args (λ (a : At). term_tree nodes a.0))
    ∙ ap (named_key (Some h) (length args)) (first_by by_sign ts h)))

sign_of-apply : (f a : Term) (ts : List Term) → sign_of (apply (Ap f a) ts) ≡ name_sign (head_of f) (suc (arity f + length ts))
sign_of-apply f a [] = let e : suc (arity f) ≡ suc (arity f + 0) = omega arith in ap (name_sign (head_of f)) e
sign_of-apply f a (t ∷ ts) = sign_of-apply (Ap f a) t ts ∙ ap (name_sign (head_of f))
    (let e : suc (suc (arity f) + length ts) ≡ suc (arity f + suc (length ts)) = omega arith in e)

sign_of-app : (h : Head) (ts : List Term) → sign_of (app h ts) ≡ name_sign (Some h) (length ts)
sign_of-app h [] = refl
sign_of-app h (t ∷ ts) = sign_of-apply (Con h) t ts ∙ ap (name_sign (Some h)) (let e : suc (0 + length ts) ≡ suc (length ts) = omega arith in e)

-- the sign of an application that is read
pub sign_of-read : (nodes : Nodes) (t : Term) (h : Head) (args : List At) → t ≡ app h (term_trees nodes args) → sign_of t ≡ name_sign (Some h) (length args)
sign_of-read nodes t h args e =
    ap sign_of e ∙ (sign_of-app h (term_trees nodes args) ∙ ap (name_sign (Some h)) (length-map args (λ (a : At). term_tree nodes a.0)))
