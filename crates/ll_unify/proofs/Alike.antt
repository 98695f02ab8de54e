-- Where lists first differ, and what solves them.
use Rattle.std.proofs.Common.{◌≡◌, ℕ, zero, suc, Bool, true, false, List, [], ◌∷◌, ◌++◌, length, map, refl, ap, sym, subst, ◌∙◌, arith, nat_eq, length-append}
use Rattle.std.specs.Prelude.{◌&&◌, Option, Some, None, if◌then◌else◌}
use Rattle.std.proofs.lemmas.Bool.{eqb-true, eq-eqb, ne_eqb}
use Rattle.std.proofs.Math.Dec.{eqb-suc-suc}
use Rattle.std.proofs.lemmas.Bool.Decides.{Decides-int_eq}
use Rattle.std.proofs.lemmas.List.{map-append, length-map}
use Rattle.ll_list_laws.proofs.CallerLemmas.{map_map, map_same, and_true_left as and_left, and_true_right as and_right}
use Rattle.ll_bank.specs.declared.Head.{Head}
use Rattle.ll_bank.specs.Term.{Term, Var, Int, Con, Ap, sub, is_spine, head_of, arity, head_eq, same_head, same_predicate}
use Rattle.ll_bank.specs.Nodes.{Nodes, term_tree}
use Rattle.ll_laws.specs.Unify.{Diff, Same, Clash, Meet, and_then, when, diff, diff_lists, bound_to, Binding, resolve, solve}
use Rattle.ll_laws.proofs.CallerLemmas.{sub_comp, head_eq-refl}
use Rattle.ll_unify.specs.Bindings.{Table, Obeys}
use Rattle.ll_unify.specs.Spines.{args_in}
use Rattle.ll_unify.specs.Pairs.{Alike}

-- ---- differences

pub diff-refl : (u : Term) → diff u u ≡ Same
diff-refl (Var x) = ap (λ b. if b then Same else Meet x (Var x)) (eq-eqb x x refl)
diff-refl (Int z) = ap when ((Decides-int_eq z z).1 refl)
diff-refl (Con h) = ap when (head_eq-refl h)
diff-refl (Ap f a) = let p = diff-refl f in let q = diff-refl a in (λ i. and_then (p i) (q i))

pub diff-same : (u v : Term) → u ≡ v → diff u v ≡ Same
diff-same u v e = subst (λ w. diff u w ≡ Same) e (diff-refl u)

and_then-assoc : (a b c : Diff) → and_then (and_then a b) c ≡ and_then a (and_then b c)
and_then-assoc Same b c = refl
and_then-assoc Clash b c = refl
and_then-assoc (Meet x t) b c = refl

pub diff-append : (ts us cs ds : List Term) → length ts ≡ length us → diff_lists (ts ++ cs) (us ++ ds) ≡ and_then (diff_lists ts us) (diff_lists cs ds)
diff-append [] [] cs ds e = refl
diff-append [] (b ∷ us) cs ds e = absurd (omega arith)
diff-append (a ∷ ts) [] cs ds e = absurd (omega arith)
diff-append (a ∷ ts) (b ∷ us) cs ds e =
    ap (and_then (diff a b)) (diff-append ts us cs ds (omega arith)) ∙ sym (and_then-assoc (diff a b) (diff_lists ts us) (diff_lists cs ds))

-- ---- spines

shape-part : (f g : Term) (a b : Term) → same_predicate (Ap f a) (Ap g b) ≡ same_predicate f g
shape-part f g a b = rw eqb-suc-suc

shape-head : (u v : Term) → same_predicate u v ≡ true → same_head (head_of u) (head_of v) ≡ true
shape-head u v h = and_left (same_head (head_of u) (head_of v)) (nat_eq (arity u) (arity v)) h

pub arity-length : (u : Term) → arity u ≡ length (args_in u)
arity-length (Var x) = refl
arity-length (Int z) = refl
arity-length (Con h) = refl
arity-length (Ap f a) = let e = arity-length f in let q = length-append (args_in f) (a ∷ []) in omega arith

pub shape-length : (u v : Term) → same_predicate u v ≡ true → length (args_in u) ≡ length (args_in v)
shape-length u v h =
    sym (arity-length u) ∙ (eqb-true (arity u) (arity v) (and_right (same_head (head_of u) (head_of v)) (nat_eq (arity u) (arity v)) h) ∙ arity-length v)

-- terms of one head and as many arguments differ where their arguments do
pub diff-spine : (s : ℕ → Term) (u v : Term) → same_predicate u v ≡ true
    → diff (sub s u) (sub s v) ≡ diff_lists (map (sub s) (args_in u)) (map (sub s) (args_in v))
diff-spine s (Con h) (Con k) e = ap when (and_left (head_eq h k) true e)
diff-spine s (Ap f a) (Ap g b) e =
    let e2 : same_predicate f g ≡ true = sym (shape-part f g a b) ∙ e in
    let p = diff-spine s f g e2 in
    let n : length (map (sub s) (args_in f)) ≡ length (map (sub s) (args_in g)) =
    length-map (args_in f) (sub s) ∙ (shape-length f g e2 ∙ sym (length-map (args_in g) (sub s))) in
    ap (λ d. and_then d (diff (sub s a) (sub s b))) p
    ∙ (ap (and_then (diff_lists (map (sub s) (args_in f)) (map (sub s) (args_in g)))) (sym (one (diff (sub s a) (sub s b))))
    ∙ (sym (diff-append (map (sub s) (args_in f)) (map (sub s) (args_in g)) (sub s a ∷ []) (sub s b ∷ []) n)
    ∙ (λ i. diff_lists (sym (map-append (sub s) (args_in f) (a ∷ [])) i) (sym (map-append (sub s) (args_in g) (b ∷ [])) i))))
  where
    one : (d : Diff) → and_then d Same ≡ d
    one Same = refl
    one Clash = refl
    one (Meet x t) = refl
diff-spine s (Con h) (Ap g b) e = let q = and_right (same_head (Some h) (head_of g)) (nat_eq 0 (suc (arity g))) e in
    let z : nat_eq 0 (suc (arity g)) ≡ false = ne_eqb 0 (suc (arity g)) (λ w. absurd (omega arith)) in cc
diff-spine s (Ap f a) (Con k) e = let q = and_right (same_head (head_of f) (Some k)) (nat_eq (suc (arity f)) 0) e in
    let z : nat_eq (suc (arity f)) 0 ≡ false = ne_eqb (suc (arity f)) 0 (λ w. absurd (omega arith)) in cc
diff-spine s (Var x) v e = let q = shape-head (Var x) v e in cc
diff-spine s (Int z) v e = let q = shape-head (Int z) v e in cc
diff-spine s (Con h) (Var x) e = let q = shape-head (Con h) (Var x) e in cc
diff-spine s (Con h) (Int z) e = let q = shape-head (Con h) (Int z) e in cc
diff-spine s (Ap f a) (Var x) e = let q = no_head (head_of f) (shape-head (Ap f a) (Var x) e) in absurd q
  where
    no_head : (o : Option Head) → same_head o None ≡ true → ⊥
    no_head None h = cc
    no_head (Some k) h = cc
diff-spine s (Ap f a) (Int z) e = let q = no_head (head_of f) (shape-head (Ap f a) (Int z) e) in absurd q
  where
    no_head : (o : Option Head) → same_head o None ≡ true → ⊥
    no_head None h = cc
    no_head (Some k) h = cc

-- terms of different heads, or with more arguments, clash
pub diff-clash : (s : ℕ → Term) (u v : Term) → is_spine u ≡ true → is_spine v ≡ true → same_predicate u v ≡ false → diff (sub s u) (sub s v) ≡ Clash
diff-clash s (Con h) (Con k) p q e = ap when (head_false (head_eq h k) e)
  where
    head_false : (b : Bool) → b && nat_eq 0 0 ≡ false → b ≡ false
    head_false true w = let z : nat_eq 0 0 ≡ true = eq-eqb 0 0 refl in cc
    head_false false w = refl
diff-clash s (Con h) (Ap g b) p q e = refl
diff-clash s (Ap f a) (Con k) p q e = refl
diff-clash s (Ap f a) (Ap g b) p q e = ap (λ d. and_then d (diff (sub s a) (sub s b))) (diff-clash s f g p q (sym (shape-part f g a b) ∙ e))
diff-clash s (Var x) v p q e = cc
diff-clash s (Int z) v p q e = cc
diff-clash s u (Var x) p q e = cc
diff-clash s u (Int z) p q e = cc

-- ---- solving

-- a substitution after one that goes along with the bindings does so too
pub obeys-after : (nodes : Nodes) (t : Table) (g s : ℕ → Term) → Obeys nodes t s → Obeys nodes t (λ x. sub g (s x))
obeys-after nodes t g s o x at e = ap (sub g) (o x at e) ∙ sub_comp g s (term_tree nodes at.0)

pub map-after : (g s : ℕ → Term) (ts : List Term) → map (sub g) (map (sub s) ts) ≡ map (sub (λ x. sub g (s x))) ts
map-after g s ts = map_map (sub g) (sub s) ts ∙ map_same _ _ (sub_comp g s) ts

-- lists that first differ in the same way are solved in the same way
pub alike-solve : (nodes : Nodes) (t : Table) (ls rs ls2 rs2 : List Term) → Alike nodes t ls rs ls2 rs2 → (n : ℕ) (levels : List ℕ) (s : ℕ → Term)
    → Obeys nodes t s
    → solve n (map (sub s) ls) (map (sub s) rs) levels ≡ solve n (map (sub s) ls2) (map (sub s) rs2) levels
alike-solve nodes t ls rs ls2 rs2 a zero levels s o = ap (λ d. resolve d levels (λ b. None)) (a s o)
alike-solve nodes t ls rs ls2 rs2 a (suc n) levels s o =
    go (λ levels2 s2 o2. alike-solve nodes t ls rs ls2 rs2 a n levels2 s2 o2)
  where
    step : ((levels2 : List ℕ) (s2 : ℕ → Term) → Obeys nodes t s2
        → solve n (map (sub s2) ls) (map (sub s2) rs) levels2 ≡ solve n (map (sub s2) ls2) (map (sub s2) rs2) levels2)
        → (b : Binding) → solve n (map (sub (bound_to b.var b.value)) (map (sub s) ls)) (map (sub (bound_to b.var b.value)) (map (sub s) rs)) b.levels
        ≡ solve n (map (sub (bound_to b.var b.value)) (map (sub s) ls2)) (map (sub (bound_to b.var b.value)) (map (sub s) rs2)) b.levels
    step ih b =
        (λ i. solve n (map-after (bound_to b.var b.value) s ls i) (map-after (bound_to b.var b.value) s rs i) b.levels)
        ∙ (ih b.levels (λ x. sub (bound_to b.var b.value) (s x)) (obeys-after nodes t (bound_to b.var b.value) s o)
        ∙ (λ i. solve n (sym (map-after (bound_to b.var b.value) s ls2) i) (sym (map-after (bound_to b.var b.value) s rs2) i) b.levels))

    go : ((levels2 : List ℕ) (s2 : ℕ → Term) → Obeys nodes t s2
        → solve n (map (sub s2) ls) (map (sub s2) rs) levels2 ≡ solve n (map (sub s2) ls2) (map (sub s2) rs2) levels2)
        → solve (suc n) (map (sub s) ls) (map (sub s) rs) levels ≡ solve (suc n) (map (sub s) ls2) (map (sub s) rs2) levels
    go ih = λ i. resolve (a s o i) levels (λ b. step ih b i)

-- equal terms in front play no part
pub solve-drop : (n : ℕ) (u : Term) (ls rs : List Term) (levels : List ℕ) → solve n (u ∷ ls) (u ∷ rs) levels ≡ solve n ls rs levels
solve-drop zero u ls rs levels = ap (λ d. resolve (and_then d (diff_lists ls rs)) levels (λ b. None)) (diff-refl u)
solve-drop (suc n) u ls rs levels =
    λ i. resolve (and_then (diff-refl u i) (diff_lists ls rs)) levels
    (λ b. solve-drop n (sub (bound_to b.var b.value) u) (map (sub (bound_to b.var b.value)) ls) (map (sub (bound_to b.var b.value)) rs) b.levels i)
