-- The arguments of a term, and its weight.
use Rattle.std.proofs.Common.{◌≡◌, ℕ, suc, ◌+◌, ◌<◌, ◌≤◌, true, List, [], ◌∷◌, ◌++◌, length, get_or, refl, ap, sym, subst, ◌∙◌, arith, append_assoc}
use Rattle.std.proofs.Common.{length-append, All, ◌⊎◌, inl, inr}
use Rattle.std.specs.Prelude.{Some, ◌&&◌, sum_by}
use Rattle.std.proofs.Math.ListN.{get_or-append}
use Rattle.std.proofs.Math.Seq.{get_or-append_seam}
use Rattle.std.proofs.lemmas.List.{append-nil, length-map, get_or-map}
use Rattle.std.proofs.lemmas.Bool.{cases_lt}
use Rattle.std.proofs.lemmas.List.Sums.{sum_by-drop_more, sum_by_push}
use Rattle.ll_list_laws.proofs.CallerLemmas.{and_true_left as and_left}
use Rattle.ll_bank.specs.declared.Head.{Head}
use Rattle.ll_bank.specs.declared.At.{At}
use Rattle.ll_bank.specs.Term.{Term, Var, Int, Con, Ap, apply, app, sub, is_spine, applies_heads, head_of}
use Rattle.ll_bank.specs.Nodes.{Nodes, term_tree, term_trees}
use Rattle.ll_bank.proofs.CallerLemmas.{applies_heads-term_tree, is_spine-apply}
use Rattle.ll_unify.specs.Spines.{args_in, arg, weight, rest_weight, ShowsArgument, AreArguments}

args_in-apply : (f : Term) (ts : List Term) → args_in (apply f ts) ≡ args_in f ++ ts
args_in-apply f [] = sym (append-nil (args_in f))
args_in-apply f (t ∷ ts) = args_in-apply (Ap f t) ts ∙ append_assoc (args_in f) (t ∷ []) ts

-- the arguments of a head with arguments
pub args_in-app : (h : Head) (ts : List Term) → args_in (app h ts) ≡ ts
args_in-app h ts = args_in-apply (Con h) ts

-- a term is built up from its head and arguments
pub build_up : (P : Term → Type 0) → ((f a : Term) → P f → P a → P (Ap f a)) → (u : Term) → is_spine u ≡ true → ((h : Head) → head_of u ≡ Some h → P (Con h))
    → ((k : ℕ) → k < length (args_in u) → P (arg u k)) → P u
build_up P c (Var x) s hs each = cc
build_up P c (Int z) s hs each = cc
build_up P c (Con h) s hs each = hs h refl
build_up P c (Ap f a) s hs each =
    let e = length-append (args_in f) (a ∷ []) in
    c f a (build_up P c f s hs (λ k l. subst P (get_or-append (args_in f) (a ∷ []) (Var 0) k l) (each k (omega arith))))
    (subst P (get_or-append_seam (args_in f) a [] (Var 0)) (each (length (args_in f)) (omega arith)))

cases_at : (k n : ℕ) → k < suc n → (k < n) ⊎ (k ≡ n)
cases_at k n l = elim (cases_lt k n) [ inl b ↦ inl b | inr b ↦ inr (omega arith) ]

-- what is below one more is below, or it is the number itself
pub below-suc : (k n : ℕ) → k < n + 1 → (k < n) ⊎ (k ≡ n)
below-suc k n b = elim (cases_lt k n) [ inl c ↦ inl c | inr c ↦ inr (omega arith) ]

-- what holds of a term and goes down to its parts holds of its arguments
pub take_down : (P : Term → Type 0) → ((f a : Term) → P (Ap f a) → P f × P a) → (u : Term) → P u → (k : ℕ) → k < length (args_in u) → P (arg u k)
take_down P d (Var x) p k l = absurd (omega arith)
take_down P d (Int z) p k l = absurd (omega arith)
take_down P d (Con h) p k l = absurd (omega arith)
take_down P d (Ap f a) p k l = elim (cases_at k (length (args_in f)) (let e = length-append (args_in f) (a ∷ []) in omega arith)) [
  | inl b ↦ subst P (sym (get_or-append (args_in f) (a ∷ []) (Var 0) k b)) (take_down P d f (d f a p).0 k b)
  | inr e ↦ subst (λ j. P (get_or (args_in f ++ a ∷ []) j (Var 0))) (sym e) (subst P (sym (get_or-append_seam (args_in f) a [] (Var 0))) (d f a p).1)
]

pub weight-two : (u : Term) → 2 ≤ weight u
weight-two (Var x) = omega arith
weight-two (Int z) = omega arith
weight-two (Con h) = omega arith
weight-two (Ap f a) = let e = weight-two f in let g = weight-two a in omega arith

-- one argument less
pub rest_weight-more : (s : ℕ → Term) (u : Term) (k : ℕ) → k < length (args_in u) → rest_weight s u k ≡ weight (sub s (arg u k)) + rest_weight s u (k + 1)
rest_weight-more s u k l = sum_by-drop_more (λ a. weight (sub s a)) (args_in u) k (Var 0) l

weight-spine : (s : ℕ → Term) (u : Term) → is_spine u ≡ true → weight (sub s u) ≡ 2 + sum_by (λ a. weight (sub s a)) (args_in u)
weight-spine s (Var x) h = cc
weight-spine s (Int z) h = cc
weight-spine s (Con k) h = refl
weight-spine s (Ap f a) h =
    let e = weight-spine s f h in let g = sum_by_push (λ b. weight (sub s b)) (args_in f) a in omega arith

-- a term weighs more than all its arguments
pub weight-args : (s : ℕ → Term) (u : Term) → applies_heads u ≡ true → 1 + rest_weight s u 0 < weight (sub s u)
weight-args s (Var x) h = let e = weight-two (s x) in omega arith
weight-args s (Int z) h = omega arith
weight-args s (Con k) h = omega arith
weight-args s (Ap f a) h =
    let p = weight-spine s (Ap f a) (and_left (is_spine f) (applies_heads f) (and_left (is_spine f && applies_heads f) (applies_heads a) h)) in omega arith

pub weight-place : (nodes : Nodes) (s : ℕ → Term) (at : ℕ) → 1 + rest_weight s (term_tree nodes at) 0 < weight (sub s (term_tree nodes at))
weight-place nodes s at = weight-args s (term_tree nodes at) (applies_heads-term_tree nodes at)

-- an argument that is seen at a place
pub seen_argument : (nodes : Nodes) (at : ℕ) (h : Head) (args : List At) (k : ℕ) (to : At) → term_tree nodes at ≡ app h (term_trees nodes args)
    → All (λ (a : At). a.0 < at) args → k < length args → get_or args k (record { 0 = 0 }) ≡ to
    → ShowsArgument nodes at k to.0
seen_argument nodes at h args k to e below l g =
    let a : args_in (term_tree nodes at) ≡ term_trees nodes args = ap args_in e ∙ args_in-app h (term_trees nodes args) in
    let n : length (term_trees nodes args) ≡ length args = length-map args (λ (b : At). term_tree nodes b.0) in
    record {
      among = let q = ap length a in omega arith;
      is = ap (λ ts. get_or ts k (Var 0)) a ∙ (get_or-map (λ (b : At). term_tree nodes b.0) args k (record { 0 = 0 }) (Var 0) l
          ∙ ap (λ (b : At). term_tree nodes b.0) g);
      below = subst (λ (b : At). b.0 < at) g (below k (record { 0 = 0 }) l);
    }

-- all arguments that are seen at a place
pub all_arguments : (nodes : Nodes) (at : ℕ) (h : Head) (args : List At) → term_tree nodes at ≡ app h (term_trees nodes args) → All (λ (a : At). a.0 < at) args
    → AreArguments nodes at args
all_arguments nodes at h args e below = record {
  count = ap length (ap args_in e ∙ args_in-app h (term_trees nodes args)) ∙ length-map args (λ (b : At). term_tree nodes b.0);
  each = λ k l. seen_argument nodes at h args k (get_or args k (record { 0 = 0 })) e below l refl;
}

-- past the last argument
pub no_argument : (nodes : Nodes) (at : ℕ) (h : Head) (args : List At) (k : ℕ) → term_tree nodes at ≡ app h (term_trees nodes args) → length args ≤ k
    → length (args_in (term_tree nodes at)) ≤ k
no_argument nodes at h args k e l =
    let q = ap length (ap args_in e ∙ args_in-app h (term_trees nodes args)) in
    let n : length (term_trees nodes args) ≡ length args = length-map args (λ (b : At). term_tree nodes b.0) in omega arith

pub is_spine-app : (h : Head) (ts : List Term) → is_spine (app h ts) ≡ true
is_spine-app h ts = is_spine-apply (Con h) ts refl

-- a head with arguments is no variable
pub app-var : (h : Head) (ts : List Term) (x : ℕ) → app h ts ≡ Var x → ⊥
app-var h ts x e = let q : is_spine (Var x) ≡ true = subst (λ t. is_spine t ≡ true) e (is_spine-app h ts) in cc
