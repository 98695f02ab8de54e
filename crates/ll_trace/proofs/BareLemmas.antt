-- Formulas without terms: what substitution and closing leave of them.
use Rattle.std.proofs.Common.{◌≡◌, ℕ, zero, suc, ◌-◌, refl, ap, sym, subst, ◌∙◌, Bool, true, false, List, [], ◌∷◌, ◌++◌, map, length, Option, Some, None}
use Rattle.std.specs.Prelude.{if◌then◌else◌, nat_lt, option_map}
use Rattle.ll_bank.specs.Term.{Term, Env}
use Rattle.ll_bank.specs.Form.{Form, Top, One, Atom, With, Tensor, Plus, Bang, Lolli, Imp, Forall, Exists, Use, sub_form, close_form, Num}
use Rattle.ll_laws.specs.declared.Kind.{Kind}
use Rattle.ll_laws.specs.declared.Kind.TheVariants.{Linear, Unbounded}
use Rattle.ll_laws.specs.Leaf.{Premise, Needs, NeedsFree, premise_goal, Leaf, ways, leaf_from, add_premise}
use Rattle.ll_laws.specs.Module.{ClauseTree, ModuleTree, load, load_all, forall_all, unfold_load}
use Rattle.ll_laws.specs.Line.{part_line}
use Rattle.ll_trace.specs.Bare.{bare, bare_premise, and_premise, premises_at, bare_load_all, bare_load}

pub bare-sub : (s : ℕ → Term) (f : Form) → bare (sub_form s f) ≡ bare f
bare-sub s Top = refl
bare-sub s One = refl
bare-sub s (Atom a) = refl
bare-sub s (With f g) = λ i. With (bare-sub s f i) (bare-sub s g i)
bare-sub s (Tensor f g) = λ i. Tensor (bare-sub s f i) (bare-sub s g i)
bare-sub s (Plus f g) = λ i. Plus (bare-sub s f i) (bare-sub s g i)
bare-sub s (Bang f) = ap Bang (bare-sub s f)
bare-sub s (Lolli f g) = λ i. Lolli (bare-sub s f i) (bare-sub s g i)
bare-sub s (Imp f g) = λ i. Imp (bare-sub s f i) (bare-sub s g i)
bare-sub s (Forall f) = ap Forall (bare-sub s f)
bare-sub s (Exists f) = ap Exists (bare-sub s f)
bare-sub s (Use m ts f) = ap (Use m []) (bare-sub s f)
bare-sub s (Num r t u) = refl

pub bare-close : (e : Env) (f : Form) → bare (close_form e f) ≡ bare f
bare-close e Top = refl
bare-close e One = refl
bare-close e (Atom a) = refl
bare-close e (With f g) = λ i. With (bare-close e f i) (bare-close e g i)
bare-close e (Tensor f g) = λ i. Tensor (bare-close e f i) (bare-close e g i)
bare-close e (Plus f g) = λ i. Plus (bare-close e f i) (bare-close e g i)
bare-close e (Bang f) = ap Bang (bare-close e f)
bare-close e (Lolli f g) = λ i. Lolli (bare-close e f i) (bare-close e g i)
bare-close e (Imp f g) = λ i. Imp (bare-close e f i) (bare-close e g i)
bare-close e (Forall f) = ap Forall (bare-close (None ∷ e) f)
bare-close e (Exists f) = ap Exists (bare-close (None ∷ e) f)
bare-close e (Use m ts f) = ap (Use m []) (bare-close e f)
bare-close e (Num r t u) = refl

pub ways-bare : (r : Form) → ways (bare r) ≡ ways r
ways-bare Top = refl
ways-bare One = refl
ways-bare (Atom a) = refl
ways-bare (With q r) = λ i. ways-bare q i ++ ways-bare r i
ways-bare (Tensor q r) = refl
ways-bare (Plus q r) = refl
ways-bare (Bang r) = refl
ways-bare (Lolli q r) = ways-bare r
ways-bare (Imp q r) = ways-bare r
ways-bare (Forall r) = ap (map (λ n. suc n)) (ways-bare r)
ways-bare (Exists r) = refl
ways-bare (Use m ts r) = refl
ways-bare (Num r t u) = refl

-- ---- loads

bare-forall_all : (n : ℕ) (g : Form) → bare (forall_all n g) ≡ forall_all n (bare g)
bare-forall_all zero g = refl
bare-forall_all (suc n) g = ap Forall (bare-forall_all n g)

bare-load : (k : Kind) (r g : Form) → bare (load k r g) ≡ load k (bare r) (bare g)
bare-load Linear r g = refl
bare-load Unbounded r g = refl

bare-load_all : (e : Env) (cs : List ClauseTree) (g : Form) → bare (load_all e cs g) ≡ bare_load_all cs (bare g)
bare-load_all e [] g = refl
bare-load_all e (c ∷ cs) g = bare-load c.kind (close_form e c.form) (load_all e cs g) ∙ (λ i. load c.kind (bare-close e c.form i) (bare-load_all e cs g i))

pub bare-unfold_load : (m : ModuleTree) (ts : List Term) (g : Form) → bare (unfold_load m ts g) ≡ bare_load m (bare g)
bare-unfold_load m ts g = bare-forall_all m.locals (load_all _ m.clauses g) ∙ ap (forall_all m.locals) (bare-load_all _ m.clauses g)

-- ---- leaves

-- the premises of a leaf, if there is one, are those of the clause without terms
abbrev pub HasPremises : Option Leaf → Option (List Premise) → Type 0
HasPremises None o = Unit {0}
HasPremises (Some l) o = o ≡ Some (map bare_premise l.premises)

bare_push : (ps : List Premise) (p : Premise) → map bare_premise (ps ++ p ∷ []) ≡ map bare_premise ps ++ bare_premise p ∷ []
bare_push [] p = refl
bare_push (q ∷ ps) p = ap (λ qs. bare_premise q ∷ qs) (bare_push ps p)

one_more : (p q : Premise) (l : Option Leaf) (o : Option (List Premise)) → bare_premise p ≡ q → HasPremises l o
    → HasPremises (option_map (add_premise p) l) (option_map (and_premise q) o)
one_more p q None o e h = tt
one_more p q (Some l) o e h = ap (option_map (and_premise q)) h
    ∙ ap (λ r. let o : Option (List Premise) = Some (map bare_premise l.premises ++ r ∷ []) in o) (sym e) ∙ ap (λ ps. Some ps) (sym (bare_push l.premises p))

either : (b : Bool) (l m : Option Leaf) (o q : Option (List Premise)) → HasPremises l o → HasPremises m q
    → HasPremises (if b then l else m) (if b then o else q)
either true l m o q h g = h
either false l m o q h g = g

pub leaf-bare : (e : Env) (r : Form) (k : ℕ) (ts : List Term) → HasPremises (leaf_from e r k ts) (premises_at (bare r) k)
leaf-bare e (Atom a) zero [] = refl
leaf-bare e (Atom a) zero (t ∷ ts) = tt
leaf-bare e (Atom a) (suc k) [] = tt
leaf-bare e (Atom a) (suc k) (t ∷ ts) = tt
leaf-bare e (With q r) k ts =
    let X : List ℕ → Type 0 = λ ws. HasPremises (if nat_lt k (length (ways q)) then leaf_from e q k ts else leaf_from e r (k - length (ways q)) ts)
    (if nat_lt k (length ws) then premises_at (bare q) k else premises_at (bare r) (k - length ws)) in
    subst X (sym (ways-bare q))
    (either (nat_lt k (length (ways q))) (leaf_from e q k ts) (leaf_from e r (k - length (ways q)) ts) (premises_at (bare q) k)
    (premises_at (bare r) (k - length (ways q))) (leaf-bare e q k ts)
    (leaf-bare e r (k - length (ways q)) ts))
leaf-bare e (Lolli g r) k ts = one_more (Needs (close_form e g)) (Needs (bare g)) (leaf_from e r k ts) (premises_at (bare r) k) (ap Needs (bare-close e g))
    (leaf-bare e r k ts)
leaf-bare e (Imp g r) k ts = one_more (NeedsFree (close_form e g)) (NeedsFree (bare g)) (leaf_from e r k ts) (premises_at (bare r) k)
    (ap NeedsFree (bare-close e g)) (leaf-bare e r k ts)
leaf-bare e (Forall r) k [] = tt
leaf-bare e (Forall r) k (t ∷ ts) = leaf-bare (Some t ∷ e) r k ts
leaf-bare e Top k ts = tt
leaf-bare e One k ts = tt
leaf-bare e (Tensor q r) k ts = tt
leaf-bare e (Plus q r) k ts = tt
leaf-bare e (Bang r) k ts = tt
leaf-bare e (Exists r) k ts = tt
leaf-bare e (Use m us r) k ts = tt
leaf-bare e (Num r t u) k ts = tt

-- the goals by which premises are proved, and what a clause node says of them
pub goals-bare : (ps : List Premise) → map premise_goal (map bare_premise ps) ≡ map (λ p. bare (premise_goal p)) ps
goals-bare [] = refl
goals-bare (Needs g ∷ ps) = ap (λ gs. bare g ∷ gs) (goals-bare ps)
goals-bare (NeedsFree g ∷ ps) = ap (λ gs. Bang (bare g) ∷ gs) (goals-bare ps)

pub parts-bare : (ps : List Premise) → map part_line (map bare_premise ps) ≡ map part_line ps
parts-bare [] = refl
parts-bare (Needs g ∷ ps) = ap (λ qs. part_line (Needs g) ∷ qs) (parts-bare ps)
parts-bare (NeedsFree g ∷ ps) = ap (λ qs. part_line (NeedsFree g) ∷ qs) (parts-bare ps)
