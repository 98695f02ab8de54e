-- What patterns look like, and what closing does to them.
use Rattle.std.proofs.Common.{◌≡◌, ◌≤◌, ◌<◌, ℕ, true, false, List, [], ◌∷◌, ◌++◌, length, map, All, refl, ap, sym, subst, ◌∙◌, arith}
use Rattle.std.specs.Prelude.{Some, Result, Ok, Err, OnOk, is_ok, if◌then◌else◌}
use Rattle.std.proofs.lemmas.Bool.{ltb-true}
use Rattle.std.proofs.lemmas.List.Elements.{All-nil, All-cons, All-head, All-tail}
use Rattle.ll_bank.specs.declared.At.{At}
use Rattle.ll_bank.specs.declared.Head.{Head}
use Rattle.ll_bank.specs.declared.Head.TheVariants.{Name, Eigen, Bound}
use Rattle.ll_bank.specs.Term.{Term, Var, Int, Con, Ap, Env, sub, app, apply, close, applies_heads, not_bound}
use Rattle.ll_bank.specs.Nodes.{Nodes, AllInTerms, term_tree, term_trees}
use Rattle.ll_bank.proofs.CallerLemmas.{apply-push, close_empty, head_of-app, heads_args, sub-apply}
use Rattle.ll_unify.specs.Bindings.{Table, HasCells, IsPlaceOf, AreSame}
use Rattle.ll_unify.specs.Spines.{args_in}
use Rattle.ll_unify.proofs.CallerLemmas.{args_in-app}
use Rattle.ll_bind.specs.declared.build.Shape.{Shape}
use Rattle.ll_bind.specs.declared.build.Shape.TheVariants.{Kept, Bare, Flat, Deep}
use Rattle.ll_bind.specs.Built.{AreBuilt, IsShape, IsBareShape, AreShapes, begins_fixed, is_bare}
use Rattle.ll_bind.proofs.Heads.{close_fixed}
use Rattle.ll_bind.proofs.Building.{shows-itself, closed-cells, built-same}

-- ---- terms without arguments

-- one that is no bound place stays as it is
kept-bare : (env : Env) (u : Term) → is_bare 0 u ≡ true → close env u ≡ u
kept-bare env (Var x) b = refl
kept-bare env (Int z) b = refl
kept-bare env (Con (Name n)) b = refl
kept-bare env (Con (Eigen n)) b = refl
kept-bare env (Con (Bound k)) b = absurd (let l = ltb-true k 0 b in omega (arith, l))
kept-bare env (Ap f a) b = let f : false ≡ true = b in cc

-- and is none of so many
more-bare : (count : ℕ) (u : Term) → is_bare 0 u ≡ true → is_bare count u ≡ true
more-bare count (Var x) b = refl
more-bare count (Int z) b = refl
more-bare count (Con (Name n)) b = refl
more-bare count (Con (Eigen n)) b = refl
more-bare count (Con (Bound k)) b = absurd (let l = ltb-true k 0 b in omega (arith, l))
more-bare count (Ap f a) b = let f : false ≡ true = b in cc

kept-all : (env : Env) (us : List Term) → All (λ u. is_bare 0 u ≡ true) us → map (close env) us ≡ us
kept-all env [] h = refl
kept-all env (u ∷ us) h = λ i. kept-bare env u (All-head (λ v. is_bare 0 v ≡ true) u us h) i
    ∷ kept-all env us (All-tail (λ v. is_bare 0 v ≡ true) u us h) i

-- ---- shapes

-- the shape of a term without arguments
pub shape-bare : (count : ℕ) (u : Term) (r : Shape) → IsBareShape count u r → IsShape count u r
shape-bare count u Kept h = λ env. kept-bare env u h
shape-bare count u Bare h = h
shape-bare count u Flat h = absurd h
shape-bare count u Deep h = tt

-- the shape of a head with few arguments
pub shape-args : (count : ℕ) (h : Head) (us : List Term) (r : Shape) → not_bound h ≡ true → length us ≤ 8 → AreShapes count us r → IsShape count (app h us) r
shape-args count h us Kept f l s = λ env. close_fixed env h us f ∙ ap (app h) (kept-all env us s)
shape-args count h us Bare f l s = absurd s
shape-args count h us Flat f l s = record {
  fixed = λ k e. let q : Some h ≡ Some k = sym (head_of-app h us) ∙ e in let p : h ≡ k = cc in subst (λ (j : Head). not_bound j ≡ true) p f;
  few = subst (λ (vs : List Term). length vs ≤ 8) (sym (args_in-app h us)) l;
  bare = subst (All (λ a. is_bare count a ≡ true)) (sym (args_in-app h us)) s;
}
shape-args count h us Deep f l s = tt

-- ---- arguments of a term that begins with a sign

-- an empty list has these places behind it, where there is memory for them
pub trees-put : {T E : Type 0} (r : Result T E) (nodes : Nodes) (now old ats : List At) (us : List Term) → old ≡ []
    → now ≡ (if is_ok r then old ++ ats else old) → us ≡ term_trees nodes ats → OnOk r (term_trees nodes now ≡ us)
trees-put (Ok x) nodes now old ats us n e h = ap (term_trees nodes) (e ∙ ap (λ z. z ++ ats) n) ∙ sym h
trees-put (Err x) nodes now old ats us n e h = tt

begins-apply : (f : Term) (ts : List Term) → begins_fixed (apply f ts) ≡ begins_fixed f
begins-apply f [] = refl
begins-apply f (t ∷ ts) = begins-apply (Ap f t) ts

-- the sign is no bound place
pub begins-sign : (u : Term) (h : Head) (ts : List Term) → u ≡ app h ts → begins_fixed u ≡ true → not_bound h ≡ true
begins-sign u h ts e b = sym (ap begins_fixed e ∙ begins-apply (Con h) ts) ∙ b

-- the term is the sign at its arguments
pub begins-app : (u : Term) → begins_fixed u ≡ true → (h : Head) × (not_bound h ≡ true) × (u ≡ app h (args_in u))
begins-app (Var x) b = let f : false ≡ true = b in cc
begins-app (Int z) b = let f : false ≡ true = b in cc
begins-app (Con h) b = (h, b, refl)
begins-app (Ap f a) b = let r = begins-app f b in (r.0, r.1, ap (λ g. Ap g a) r.2 ∙ sym (apply-push (Con r.0) (args_in f) a))

-- their variables have cells once they are closed
pub args-cells : (nodes : Nodes) (t : Table) (env : Env) (u : Term) → begins_fixed u ≡ true → HasCells nodes t (close env u)
    → All (λ a. HasCells nodes t (close env a)) (args_in u)
args-cells nodes t env u b c =
    let r = begins-app u b in closed-cells nodes t env r.0 (args_in u) r.1 (subst (λ v. HasCells nodes t (close env v)) r.2 c)

-- and nothing but a head has arguments in them
pub args-heads : (env : Env) (u : Term) → begins_fixed u ≡ true → applies_heads (close env u) ≡ true
    → All (λ a. applies_heads (close env a) ≡ true) (args_in u)
args-heads env u b c =
    let r = begins-app u b in
    each (args_in u) (heads_args (Con r.0) (map (close env) (args_in u))
    (ap applies_heads (sym (close_fixed env r.0 (args_in u) r.1)) ∙ (ap (λ v. applies_heads (close env v)) (sym r.2) ∙ c)))
  where
    each : (vs : List Term) → All (λ v. applies_heads v ≡ true) (map (close env) vs) → All (λ v. applies_heads (close env v) ≡ true) vs
    each [] k = All-nil (λ v. applies_heads (close env v) ≡ true)
    each (v ∷ vs) k = All-cons (λ w. applies_heads (close env w) ≡ true) v vs (All-head (λ w. applies_heads w ≡ true) (close env v) (map (close env) vs) k)
        (each vs (All-tail (λ w. applies_heads w ≡ true) (close env v) (map (close env) vs) k))

-- with no values each place stands for what it shows
pub built-none : (nodes : Nodes) (t : Table) (env : Env) → length env ≡ 0 → (ats : List At) → AllInTerms nodes ats
    → All (λ u. HasCells nodes t (close env u)) (term_trees nodes ats) → AreBuilt nodes t env (term_trees nodes ats) ats
built-none nodes t env n [] h c = tt
built-none nodes t env n (a ∷ ats) h c = (
  shows-itself nodes t a.0 (close env (term_tree nodes a.0)) (All-head (λ (b : At). b.0 < length nodes.terms) a ats h)
      (sym (close_empty env (term_tree nodes a.0) n))
      (All-head (λ u. HasCells nodes t (close env u)) (term_tree nodes a.0) (term_trees nodes ats) c),
  built-none nodes t env n ats (All-tail (λ (b : At). b.0 < length nodes.terms) a ats h)
      (All-tail (λ u. HasCells nodes t (close env u)) (term_tree nodes a.0) (term_trees nodes ats) c),
)

-- ---- places that stand for the arguments of a term

-- each is a place of a term whose variables have cells
pub built-places : (nodes : Nodes) (t : Table) (env : Env) (us : List Term) (ats : List At) → AreBuilt nodes t env us ats
    → All (λ (a : At). IsPlaceOf nodes t a.0) ats
built-places nodes t env [] [] h = All-nil (λ (a : At). IsPlaceOf nodes t a.0)
built-places nodes t env [] (a ∷ ats) h = absurd h
built-places nodes t env (u ∷ us) [] h = absurd h
built-places nodes t env (u ∷ us) (a ∷ ats) h = All-cons (λ (b : At). IsPlaceOf nodes t b.0) a ats h.0.place (built-places nodes t env us ats h.1)

-- a sign at places that stand for its arguments is the same as it is at the arguments, closed
pub built-app : (nodes : Nodes) (t : Table) (env : Env) (h : Head) (us : List Term) (ats : List At) → not_bound h ≡ true → AreBuilt nodes t env us ats
    → AreSame nodes t (app h (term_trees nodes ats)) (close env (app h us))
built-app nodes t env h us ats f b s o =
    sub-apply s (Con h) (term_trees nodes ats)
    ∙ (ap (apply (Con h)) (built-same nodes t env s o us ats b)
    ∙ (sym (sub-apply s (Con h) (map (close env) us)) ∙ ap (sub s) (sym (close_fixed env h us f))))
